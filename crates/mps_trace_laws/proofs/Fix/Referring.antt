-- What the cells of an object refer to.
use Rattle.std.proofs.Common.{◌≡◌, ℕ, true, List, Some}
use Rattle.std.proofs.lemmas.Bool.{false≢true}
use Rattle.std.specs.Prelude.{map, slice_get}
use Rattle.mps_model.specs.Graph.{Cell, ReferenceCell, Body, Automatic, Manual, contains, targets_of_body, targets_of_cells, target_of_cell, is_automatic_body}
use Rattle.mps_abstract.proofs.Calls.ClientLists.{among_entries, map-slice_get}
use Rattle.mps_trace_laws.specs.Image.Memory.{all_cells}

cells_refer : (cells : List Cell) (i t tag : ℕ) → slice_get cells i ≡ Some (ReferenceCell (Some t) tag)
    → contains (targets_of_cells cells) t ≡ true
cells_refer cells i t tag e =
    among_entries (map target_of_cell cells) i t (map-slice_get target_of_cell cells i (ReferenceCell (Some t) tag) e)

-- the target of a reference is one of the targets of its object
pub body_refers : (b : Body) (i t tag : ℕ) → slice_get (all_cells b) i ≡ Some (ReferenceCell (Some t) tag) → is_automatic_body b ≡ true
    → contains (targets_of_body b) t ≡ true
body_refers (Automatic head cells is_weak) i t tag e automatic = cells_refer cells i t tag e
body_refers (Manual words) i t tag e automatic = absurd (false≢true automatic)
