-- A value goes with its key: a weak object and its dependent are a table of keys and values, by the numbers of their cells.
use Rattle.std.specs.Prelude.{◌≡◌, ℕ, Bool, true, false, IsTrue, Option, Some, None, List, refl}
use Rattle.mps_base.specs.declared.moves.Move.{Move}
use Rattle.mps_model.specs.Layout.{Layout}
use Rattle.mps_model.specs.Step.{History}
use Rattle.mps_model.specs.Graph.{Cell, Graph, NumberCell, ReferenceCell, dependent_in}
use Rattle.mps_model.specs.Effect.{world_after_move, world_after_moves}
use Rattle.mps_model.specs.History.{IsLegalHistoryOf}
use Rattle.mps_laws.specs.Replay.{reached}
use Rattle.mps_client_laws.specs.Objects.{cell_at}

-- whether the value is null or no reference, if the key is null
abbrev pub goes_with : (key value : Option Cell) → Bool
goes_with (Some (ReferenceCell None tag)) (Some (ReferenceCell (Some id) other)) = false
goes_with _ _ = true

-- the same of a cell of a holder and that of its dependent
abbrev pub value_goes_with : Graph → (holder dependent cell : ℕ) → Bool
value_goes_with g holder dependent cell = goes_with (cell_at g holder cell) (cell_at g dependent cell)

-- In each world that a legal history reaches, and after any moves from there: if a value was null with its key, it is so after one move
-- more.
abbrev pub ValuesGoWithTheirKeys : Type 0
ValuesGoWithTheirKeys =
    (formats : ℕ → Layout) (steps : History) (before : List Move) (m : Move) (holder dependent cell : ℕ) → IsLegalHistoryOf formats steps
    → dependent_in (world_after_moves (reached formats steps) before).graph.dependents holder ≡ Some dependent
    → IsTrue (value_goes_with (world_after_moves (reached formats steps) before).graph holder dependent cell)
    → IsTrue (value_goes_with (world_after_move (world_after_moves (reached formats steps) before) m).graph holder dependent cell)

-- ---- vectors

pub a_null_key_has_a_null_value : goes_with (Some (ReferenceCell None 0)) (Some (ReferenceCell None 3)) ≡ true
a_null_key_has_a_null_value = refl

pub a_value_without_its_key : goes_with (Some (ReferenceCell None 0)) (Some (ReferenceCell (Some 5) 0)) ≡ false
a_value_without_its_key = refl

pub a_number_needs_no_key : goes_with (Some (ReferenceCell None 0)) (Some (NumberCell 5)) ≡ true
a_number_needs_no_key = refl
