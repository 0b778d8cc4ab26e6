-- Fixes examine no registration and reclaim no segment.
use Rattle.std.proofs.Common.{◌≡◌, refl, List}
use Rattle.mps_base.specs.Address.{Id}
use Rattle.mps_base.specs.declared.moves.Move.{Move}
use Rattle.mps_abstract.specs.Collecting.{Collecting}
use Rattle.mps_abstract.specs.Fixing.{Fixes, fixes_no_more, keeps, passes}

-- a collector is as far as it was
pub record IsAsFar (x y : Collecting) : Type 0 where
  pub next : y.next ≡ x.next
  pub band : y.band ≡ x.band
  pub cursor : y.cursor ≡ x.cursor

pub as_far : {x y : Collecting} {ids : List Id} {ms : List Move} → Fixes x ids ms y → IsAsFar x y
as_far fixes_no_more = record { next = refl; band = refl; cursor = refl }
as_far (passes black rest) = as_far rest
as_far (keeps white keep rest) = let far = as_far rest in record { next = far.next; band = far.band; cursor = far.cursor }
