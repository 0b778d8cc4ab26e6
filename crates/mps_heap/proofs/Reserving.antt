-- What a heap needs to reserve a block, and what it then guarantees.
use Rattle.std.proofs.Common.{◌≡◌, ◌<◌, ℕ, true, arith, refl}
use Rattle.std.proofs.lemmas.Bool.{ltb-true}
use Rattle.mps_base.specs.Trail.{Moves}
use Rattle.mps_base.specs.declared.names.Name.{Name}
use Rattle.mps_format.specs.Layout.{Layout}
use Rattle.mps_model.specs.World.{World}
use Rattle.mps_model.specs.declared.call.Call.TheVariants as call
use Rattle.mps_heap_spec.specs.Checked.{Checked}
use Rattle.mps_heap_spec.specs.Collecting.{can_collect, most_flips}
use Rattle.mps_heap_spec.specs.Points.{WereMadeBefore}
use Rattle.mps_heap_spec.specs.Polling.{CanPoll, HasReserved}
use Rattle.mps_heap_spec.specs.State.{HeapState}
use Rattle.mps_heap_spec.specs.Units.{IsWhole}
use Rattle.mps_refinement.specs.Answering.{answer_to, says_ok}
use Rattle.mps_refinement.specs.MovesNeeded.{moves_needed}
use Rattle.mps_refinement.specs.RightMoving.{IsRightMoving, KeepsRoom}
use Rattle.mps_refinement.specs.StandsFor.{StandsFor}
use Rattle.mps_refinement.specs.StandsForSome.{StandsForSome}
use Rattle.mps_refinement.specs.UnitsLeft.{ReservesWithin}
use Rattle.mps_refinement.proofs.Collect.LiveIsFew.{most_now}
use Rattle.mps_refinement.proofs.Left.Reserves.{reserves_within}
use Rattle.mps_refinement.proofs.Units.Outcomes.{right_in_each}
use Rattle.mps_refinement.proofs.Units.PolledReserves.{a_reserve_is_right, can_poll}
use Rattle.mps_refinement.proofs.Worlds.Staying.{one_world}
use Rattle.mps_heap.proofs.Rooms.{has_more_room}

module _ {F : Type 0} (layout : F → Layout) (h : HeapState F) (some : StandsForSome layout h) (whole : IsWhole h) (m : Moves)
    (fits : moves_needed h.segs < m.spare) where
  room : most_now h.segs < m.spare
  room = has_more_room layout h some m.spare fits

  one : (w : World) × StandsFor layout h w
  one = one_world layout h some

  pub some_room : 0 < m.spare
  some_room = omega (arith, room)

  module _ (made : WereMadeBefore h.points.flips h.points) where
    -- a poll can be done
    pub can_poll_here : can_collect h ≡ true → CanPoll layout h m
    can_poll_here few = can_poll layout h whole m room one.0 one.1 made (ltb-true h.points.flips most_flips few)

    -- and what comes of the call is right
    pub reserved_rightly : (name : Name) (head : ℕ) (result : Checked (Unit {0})) (after : HeapState F) (trail_after : Moves)
        → HasReserved layout h m name head result after trail_after
        → IsRightMoving layout h (call.Reserve name head) m.moves trail_after.moves (answer_to says_ok result) after × KeepsRoom m
        trail_after
    reserved_rightly name head result after trail_after reserved = (
      right_in_each layout h (call.Reserve name head) refl m.moves trail_after.moves (answer_to says_ok result) after one
          (λ w st. (a_reserve_is_right layout h whole m room w st made name head result after trail_after reserved).0),
      (a_reserve_is_right layout h whole m room one.0 one.1 made name head result after trail_after reserved).1,
    )

    -- as many units are left as may be
    pub reserved_within : (name : Name) (head : ℕ) (result : Checked (Unit {0})) (after : HeapState F) (trail_after : Moves)
        → HasReserved layout h m name head result after trail_after → ReservesWithin h.running h after
    reserved_within = reserves_within layout h whole m room one.0 one.1 made
