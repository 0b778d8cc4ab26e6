use Rattle.std.proofs.Common.{refl}
use Rattle.mps_refusal_examples.specs.Caches.{CachesAnswer}

pub caches_answer : CachesAnswer
caches_answer = record { cache = refl; cache_where_full = refl; calloc = refl; cfree = refl; cflush = refl }
