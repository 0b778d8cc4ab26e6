-- With room for the moves that a heap says that it needs there is room for those of a collection of what it has.
use Rattle.std.proofs.Common.{ℕ, ◌<◌, ◌≤◌, arith}
use Rattle.mps_format.specs.Layout.{Layout}
use Rattle.mps_heap_spec.specs.State.{HeapState}
use Rattle.mps_refinement.specs.MovesNeeded.{moves_needed}
use Rattle.mps_refinement.specs.StandsForSome.{StandsForSome}
use Rattle.mps_refinement.proofs.Collect.LiveIsFew.{most_now}
use Rattle.mps_refinement.proofs.Units.Outcomes.{needed_now}
use Rattle.mps_refinement.proofs.Worlds.Staying.{one_world}

module _ {F : Type 0} (layout : F → Layout) (h : HeapState F) (some : StandsForSome layout h) (spare : ℕ) where
  pub has_room : moves_needed h.segs ≤ spare → most_now h.segs ≤ spare
  has_room fits = let one = one_world layout h some in let needed = needed_now layout h one.0 one.1 in omega (arith, needed, fits)

  pub has_more_room : moves_needed h.segs < spare → most_now h.segs < spare
  has_more_room fits = let one = one_world layout h some in let needed = needed_now layout h one.0 one.1 in omega (arith, needed, fits)
