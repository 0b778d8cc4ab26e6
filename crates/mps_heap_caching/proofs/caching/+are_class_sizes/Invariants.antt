use Rattle.std.proofs.Common.{length}
use Rattle.mps_heap_caching.proofs.caching.+are_class_sizes.Given as goal

abbrev pub decreases-are_class_sizes : goal.decreases-are_class_sizes
decreases-are_class_sizes l = length l.classes.now
