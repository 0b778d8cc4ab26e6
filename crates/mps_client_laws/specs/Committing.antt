-- What a `commit` gives: a new object with the head and cells of the reservation, or none if a flip ended it.
use Rattle.std.specs.Prelude.{◌≡◌, ℕ, Bool, true, false, IsTrue, Some, None, [], ◌∷◌, ◌++◌, length, Ok, refl}
use Rattle.mps_base.specs.declared.names.Name.{Name}
use Rattle.mps_base.specs.declared.names.Rank.TheVariants as rank
use Rattle.mps_base.specs.declared.names.Slot.{Slot}
use Rattle.mps_model.specs.Layout.{Layout}
use Rattle.mps_model.specs.declared.call.Call.TheVariants as call
use Rattle.mps_model.specs.declared.reply.Reply.TheVariants as reply
use Rattle.mps_model.specs.Answer.{Replied, is_accepted}
use Rattle.mps_model.specs.Step.{Step, History}
use Rattle.mps_model.specs.Graph.{Automatic, HeadCell, NumberCell, Point, Reservation, PointThing, object_at, with_last}
use Rattle.mps_model.specs.World.{World}
use Rattle.mps_model.specs.Checked.{Numbered, point_named}
use Rattle.mps_model.specs.Allocating.{committed_object}
use Rattle.mps_model.specs.History.{IsLegalHistoryOf, world_after}
use Rattle.mps_laws.specs.Held.{letter, slot_of_t, target_of_slot}
use Rattle.mps_laws.specs.Replay.{reached}
use Rattle.mps_client_laws.specs.Objects.{stepping, two_objects}

-- a commit made one object of a point's reservation, and the slot refers to it
pub record IsMade (before after : World) (point : Name) (target : Slot) : Type 0 where
  pub of : Numbered Point
  pub reserved : Reservation
  pub named : point_named before point ≡ Ok of
  pub had : of.value.reservation ≡ Some reserved
  -- the new object has the head and the cells of the reservation, in the pool of the point; its id is that of no object before
  pub object : object_at after.graph (length before.graph.objects) ≡ Some (committed_object of.value reserved)
  pub refers : target_of_slot after target ≡ Some (length before.graph.objects)

-- an accepted `commit` makes a new object with just the cells of the reservation
abbrev pub CommitMakesTheObject : Type 0
CommitMakesTheObject =
    (formats : ℕ → Layout) (steps later : History) (s : Step) (point : Name) (target : Slot)
    → IsLegalHistoryOf formats (steps ++ s ∷ later) → s.call ≡ call.Commit point target → IsTrue (is_accepted s.answer)
    → IsMade (reached formats steps) (world_after (reached formats steps) s) point target

-- a `commit` that answers `flipped` makes none
abbrev pub FlippedMakesNone : Type 0
FlippedMakesNone =
    (formats : ℕ → Layout) (steps later : History) (s : Step) (point : Name) (target : Slot)
    → IsLegalHistoryOf formats (steps ++ s ∷ later) → s.call ≡ call.Commit point target → s.answer ≡ Replied reply.Flipped
    → (world_after (reached formats steps) s).graph.objects ≡ (reached formats steps).graph.objects

-- ---- vectors

-- the point x has a reservation of two cells, which a flip ended or not
abbrev reserving : (is_doomed : Bool) → World
reserving is_doomed = record two_objects {
  graph = record two_objects.graph {
    points = Some (record {
      pool = 0;
      rank = rank.Exact;
      reservation = Some (record { head = 9; cells = HeadCell ∷ NumberCell 4 ∷ []; is_doomed = is_doomed });
    }) ∷ [];
    names = with_last two_objects.graph.names (record { name = letter 120; thing = PointThing 0 });
  };
}

abbrev committed : (is_doomed : Bool) → World
committed is_doomed = world_after (reserving is_doomed) (stepping (call.Commit (letter 120) (slot_of_t 1)) [])

pub the_new_object :
    object_at (committed false).graph 3 ≡ Some (record { pool = 0; body = Automatic 9 (HeadCell ∷ NumberCell 4 ∷ []) false })
the_new_object = refl

pub the_slot_of_the_new_object : target_of_slot (committed false) (slot_of_t 1) ≡ Some 3
the_slot_of_the_new_object = refl

pub none_after_a_flip : object_at (committed true).graph 3 ≡ None
none_after_a_flip = refl
