-- Blocks that a collection moves aren't weak.
use Rattle.std.proofs.Common.{◌≡◌, true, false, refl}
use Rattle.std.proofs.lemmas.Bool.{false≢true}
use Rattle.mps_base.specs.PoolKind.{traits_of}
use Rattle.mps_base.specs.declared.names.Kind.{Kind}
use Rattle.mps_base.specs.declared.names.Kind.TheVariants.{Amc, Amcz, Ams, Awl, Lo}

pub moving_is_not_weak : (kind : Kind) → (traits_of kind).moves ≡ true → (traits_of kind).weak ≡ false
moving_is_not_weak Amc moves = refl
moving_is_not_weak Amcz moves = refl
moving_is_not_weak Ams moves = refl
moving_is_not_weak Awl moves = absurd (false≢true moves)
moving_is_not_weak Lo moves = refl
