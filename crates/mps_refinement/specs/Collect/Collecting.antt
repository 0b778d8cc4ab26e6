-- What is shown of the call `collect` of a heap: it can be done in the room that is asked for, and it is right.
use Rattle.std.specs.Prelude.{◌*◌, ◌≤◌}
use Rattle.mps_base.specs.Trail.{Moves}
use Rattle.mps_buffer.specs.Points.{WereMadeBefore}
use Rattle.mps_format.specs.Layout.{Layout}
use Rattle.mps_model.specs.declared.call.Call.TheVariants as call
use Rattle.mps_model.specs.declared.reply.Reply.TheVariants as reply
use Rattle.mps_model.specs.Answer.{Replied}
use Rattle.mps_model.specs.World.{World}
use Rattle.mps_heap_spec.specs.Collecting.{IsCollected}
use Rattle.mps_heap_spec.specs.Following.{Follows}
use Rattle.mps_heap_spec.specs.State.{HeapState}
use Rattle.mps_heap_spec.specs.Units.{HasDoneUnits, IsWhole, units_to_end}
use Rattle.mps_refinement.specs.MovesNeeded.{moves_needed}
use Rattle.mps_refinement.specs.RightMoving.{IsRightMoving, KeepsRoom}
use Rattle.mps_refinement.specs.StandsFor.{StandsFor}

-- a heap may collect everything: it represents a world, and there is room for the moves of two collections, the one that runs and the
-- one that follows
pub record MayCollect {F : Type 0} (layout : F → Layout) (h : HeapState F) (m : Moves) : Type 0 where
  pub world : World
  pub stands : StandsFor layout h world
  pub whole : IsWhole h
  pub room : 2 * moves_needed h.segs ≤ m.spare

-- what a call `collect` is, by a heap that is this one then, with a trail that is this one
pub record IsRightCollect {F : Type 0} (layout : F → Layout) (h : HeapState F) (m : Moves) (h' : HeapState F) (m' : Moves) : Type 0 where
  pub right : IsRightMoving layout h call.Collect m.moves m'.moves (Replied reply.Ok) h'
  pub room : KeepsRoom m m'

-- if no reservation remembers a flip that is still to come, the units to the end of what runs and then a full collection, the moves of each
-- of which are followed, are right in each world that the heap represented, and the trail keeps its room
abbrev pub ACollectIsRight : (F : Type 0) → Type 0
ACollectIsRight F =
    (layout : F → Layout) (h : HeapState F) (m : Moves) (between : HeapState F) (m_between : Moves) (h' : HeapState F) (m' : Moves)
    → MayCollect layout h m → WereMadeBefore h.points.flips h.points
    → Follows layout m (HasDoneUnits layout h m (units_to_end h)) between m_between → IsWhole between
    → Follows layout m_between (IsCollected layout between m_between) h' m' → IsRightCollect layout h m h' m'
