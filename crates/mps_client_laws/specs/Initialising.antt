-- What an accepted `init` leaves of a reservation: one cell is as it says, and the others are as before.
use Rattle.std.specs.Prelude.{◌≡◌, ℕ, false, IsTrue, Some, None, [], ◌∷◌, ◌++◌, slice_set, refl}
use Rattle.mps_base.specs.declared.names.Name.{Name}
use Rattle.mps_base.specs.declared.names.Rank.TheVariants as rank
use Rattle.mps_base.specs.declared.names.Slot.{Slot}
use Rattle.mps_model.specs.Layout.{Layout}
use Rattle.mps_model.specs.declared.call.Call.TheVariants as call
use Rattle.mps_model.specs.Answer.{is_accepted}
use Rattle.mps_model.specs.Step.{Step, History}
use Rattle.mps_model.specs.Graph.{HeadCell, NumberCell, PointThing, ReferenceCell, Reservation, with_last, with_target_cell}
use Rattle.mps_model.specs.World.{World}
use Rattle.mps_model.specs.History.{IsLegalHistoryOf, world_after}
use Rattle.mps_laws.specs.Held.{letter, slot_of_t, target_of_slot}
use Rattle.mps_laws.specs.Replay.{reached}
use Rattle.mps_client_laws.specs.Objects.{stepping, two_objects}
use Rattle.mps_client_laws.specs.Reservations.{reservation_of}

-- An `init` with a number writes it into its cell of the reservation, if no flip ended that.
abbrev pub InitWritesTheNumber : Type 0
InitWritesTheNumber =
    (formats : ℕ → Layout) (steps later : History) (s : Step) (point : Name) (cell value : ℕ) (reserved : Reservation)
    → IsLegalHistoryOf formats (steps ++ s ∷ later) → s.call ≡ call.InitNumber point cell value → IsTrue (is_accepted s.answer)
    → reservation_of (reached formats steps) point ≡ Some reserved → reserved.is_doomed ≡ false
    → reservation_of (world_after (reached formats steps) s) point
    ≡ Some (record reserved { cells = slice_set reserved.cells cell (NumberCell value) })

-- One with a slot makes its cell refer to the slot's object, or to null as the slot does. The cell keeps its tag.
abbrev pub InitWritesTheReference : Type 0
InitWritesTheReference =
    (formats : ℕ → Layout) (steps later : History) (s : Step) (point : Name) (cell : ℕ) (source : Slot) (reserved : Reservation)
    → IsLegalHistoryOf formats (steps ++ s ∷ later) → s.call ≡ call.InitReference point cell source → IsTrue (is_accepted s.answer)
    → reservation_of (reached formats steps) point ≡ Some reserved → reserved.is_doomed ≡ false
    → reservation_of (world_after (reached formats steps) s) point
    ≡ Some (record reserved { cells = with_target_cell reserved.cells cell (target_of_slot (reached formats steps) source) })

-- ---- vectors

-- the point x has a reservation of a head, a number and a reference
abbrev reserving : World
reserving = record two_objects {
  graph = record two_objects.graph {
    points = Some (record {
      pool = 0;
      rank = rank.Exact;
      reservation = Some (record { head = 9; cells = HeadCell ∷ NumberCell 4 ∷ ReferenceCell None 3 ∷ []; is_doomed = false });
    }) ∷ [];
    names = with_last two_objects.graph.names (record { name = letter 120; thing = PointThing 0 });
  };
}

pub the_number_is_written : reservation_of (world_after reserving (stepping (call.InitNumber (letter 120) 1 7) [])) (letter 120)
    ≡ Some (record { head = 9; cells = HeadCell ∷ NumberCell 7 ∷ ReferenceCell None 3 ∷ []; is_doomed = false })
the_number_is_written = refl

pub the_reference_is_written : reservation_of (world_after reserving (stepping (call.InitReference (letter 120) 2 (slot_of_t 0)) []))
    (letter 120)
    ≡ Some (record { head = 9; cells = HeadCell ∷ NumberCell 4 ∷ ReferenceCell (Some 0) 3 ∷ []; is_doomed = false })
the_reference_is_written = refl

pub no_number_is_written_over_a_reference :
    reservation_of (world_after reserving (stepping (call.InitNumber (letter 120) 2 7) [])) (letter 120)
    ≡ Some (record { head = 9; cells = HeadCell ∷ NumberCell 4 ∷ ReferenceCell None 3 ∷ []; is_doomed = false })
no_number_is_written_over_a_reference = refl
