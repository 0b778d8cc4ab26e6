-- What is shown of the abstract collector, each law a statement.
use Rattle.std.specs.Prelude.{◌≡◌, ◌<◌, ◌≤◌, ◌+◌, ℕ, false, IsTrue, None, List}
use Rattle.mps_base.specs.Address.{Id}
use Rattle.mps_base.specs.declared.moves.Move.{Move}
use Rattle.mps_model.specs.Graph.{contains, targets, ids_of_client}
use Rattle.mps_model.specs.Reachable.{IsReachableWith}
use Rattle.mps_model.specs.World.{is_live, is_live_and}
use Rattle.mps_base.specs.Segment.{Segment, is_in_segment}
use Rattle.mps_model.specs.Effect.{world_after_moves}
use Rattle.mps_model.specs.LegalMove.{AreLegalMoves, ids_kept}
use Rattle.mps_model.specs.Units.{IsUnitPiece, AreUnits, AreUnitsToEnd, IsBarrier}
use Rattle.mps_abstract.specs.Colours.{AllReferredLive}
use Rattle.mps_abstract.specs.Collecting.{Collecting, Running, IsDrainedIn, is_white_in, units_left}
use Rattle.mps_abstract.specs.Units.{IsUnit, IsLastUnit, GoesOn, Ends, asked, BarrierDone}

-- once nothing but weak objects is grey, whatever is reachable from the client and from all that the collection is known to
-- keep, but for one object, is live and isn't white
abbrev pub ReachableIsKept : Type 0
ReachableIsKept =
    (x : Collecting) → Running x → IsDrainedIn x → (except id : Id) → IsReachableWith x.world.graph (ids_kept x.world x.running except) id
    → IsTrue (is_live x.world id) × (is_white_in x id ≡ false)

-- what is shown of a unit after which the collection goes on
pub record IsUnitDone (x : Collecting) (ms : List Move) (y : Collecting) : Type 0 where
  pub running : Running y
  pub leads : world_after_moves x.world ms ≡ y.world
  pub legal : AreLegalMoves x.world None ms
  pub is_piece : IsUnitPiece x.world ms
  pub fewer : units_left y < units_left x

-- and of the last one
pub record IsLastUnitDone (x : Collecting) (ms : List Move) : Type 0 where
  pub legal : AreLegalMoves x.world None ms
  pub is_piece : IsUnitPiece x.world ms
  pub ended : (world_after_moves x.world ms).collection ≡ None
  -- what the client holds, and what live objects refer to, is live
  pub held_live : (id : Id) → IsTrue (contains (ids_of_client (world_after_moves x.world ms).graph) id)
      → IsTrue (is_live (world_after_moves x.world ms) id)
  pub referred_live : AllReferredLive (world_after_moves x.world ms).graph (is_live (world_after_moves x.world ms))

abbrev pub AUnitKeepsRunning : Type 0
AUnitKeepsRunning =
    ((x y : Collecting) (ms : List Move) → Running x → IsUnit x ms y → IsUnitDone x ms y)
    × ((x : Collecting) (ms : List Move) → Running x → IsLastUnit x ms → IsLastUnitDone x ms)

-- what is shown of n units after which the collection goes on
pub record AreUnitsDone (x : Collecting) (count : ℕ) (ms : List Move) (y : Collecting) : Type 0 where
  pub running : Running y
  pub leads : world_after_moves x.world ms ≡ y.world
  pub legal : AreLegalMoves x.world None ms
  pub are_units : AreUnits x.world count ms
  pub fewer : count + units_left y ≤ units_left x
  pub some_left : 0 < units_left y
  -- also if a call asks for these units
  pub asked_running : Running (asked y count)

-- and of n units in which it ends
pub record AreLastUnitsDone (x : Collecting) (count : ℕ) (ms : List Move) : Type 0 where
  pub legal : AreLegalMoves x.world None ms
  pub are_units : (asked : ℕ) → count ≤ asked → AreUnits x.world asked ms
  pub are_to_end : AreUnitsToEnd x.world ms
  pub ended : (world_after_moves x.world ms).collection ≡ None
  pub at_most : count ≤ units_left x
  pub held_live : (id : Id) → IsTrue (contains (ids_of_client (world_after_moves x.world ms).graph) id)
      → IsTrue (is_live (world_after_moves x.world ms) id)
  pub referred_live : AllReferredLive (world_after_moves x.world ms).graph (is_live (world_after_moves x.world ms))

abbrev pub UnitsRunOut : Type 0
UnitsRunOut =
    ((x y : Collecting) (count : ℕ) (ms : List Move) → Running x → GoesOn x count ms y → AreUnitsDone x count ms y)
    × ((x : Collecting) (count : ℕ) (ms : List Move) → Running x → Ends x count ms → AreLastUnitsDone x count ms)

-- what is shown of a read barrier in a segment
pub record IsBarrierDone (s : Segment) (x : Collecting) (ms : List Move) (y : Collecting) : Type 0 where
  pub running : Running y
  pub leads : world_after_moves x.world ms ≡ y.world
  pub legal : AreLegalMoves x.world None ms
  pub is_barrier : IsBarrier x.world s ms
  pub no_more : units_left y ≤ units_left x
  -- what the objects in the segment refer to that aren't white isn't white
  pub readable : (id target : Id) → IsTrue (is_live_and (is_in_segment s) y.world id) → is_white_in y id ≡ false
      → IsTrue (contains (targets y.world.graph id) target) → is_white_in y target ≡ false

abbrev pub ABarrierKeepsRunning : Type 0
ABarrierKeepsRunning =
    (s : Segment) (x y : Collecting) (ms : List Move) → Running x → BarrierDone s x ms y → IsBarrierDone s x ms y
