-- The moves of a reclaim, against those of the model.
use Rattle.std.specs.Prelude.{◌≡◌, ◌++◌}
use Rattle.mps_base.specs.Segment.{Segment}
use Rattle.mps_base.specs.Trail.{Moves}
use Rattle.mps_seg.specs.Segs.{SegsState}
use Rattle.mps_amc.specs.Reclaiming.{lost_of, moves_freed_in}
use Rattle.mps_model.specs.World.{World}
use Rattle.mps_model.specs.Effect.{world_after_moves}
use Rattle.mps_model.specs.Units.{frees_at}
use Rattle.mps_trace_laws.specs.Reclaim.Freed.{addresses_of, addresses_without}

-- the moves appended are the model's Frees of the blocks of a segment that are lost, and these lead to the addresses without theirs
pub record AreFreesOf (w : World) (g : SegsState) (t : Segment) (moves : Moves) : Type 0 where
  pub appended : (moves_freed_in g t moves).moves ≡ moves.moves ++ frees_at (addresses_of (lost_of g t))
  pub addresses : (world_after_moves w (frees_at (addresses_of (lost_of g t)))).addresses
      ≡ addresses_without (addresses_of (lost_of g t)) w.addresses
