-- Cells of a new block: what they refer to.
use Rattle.std.proofs.Common.{◌≡◌, ℕ, zero, suc, ◌+◌, ◌-◌, Bool, true, false, refl, ◌∷◌, None}
use Rattle.std.specs.Prelude.{if◌then◌else◌}
use Rattle.mps_model.specs.Graph.{NumberCell, ReferenceCell, contains, targets_of_cells, new_cells, new_cells_from}
use Rattle.mps_model.specs.World.{World}

-- a new block refers to nothing
module _ (w : World) (format head t : ℕ) where
  none_from : (k count : ℕ) → contains (targets_of_cells (new_cells_from (w.formats format) head k count)) t ≡ false
  none_from k zero = refl
  none_from k (suc count) = of_test ((w.formats format).is_reference head k) (none_from (k + 1) count)
    where
      of_test : (b : Bool) → contains (targets_of_cells (new_cells_from (w.formats format) head (k + 1) count)) t ≡ false
          → contains (targets_of_cells ((if b then ReferenceCell None 0 else NumberCell 0) ∷ new_cells_from (w.formats format) head
          (k + 1) count)) t
          ≡ false
      of_test true rest = rest
      of_test false rest = rest

  pub no_targets_yet : contains (targets_of_cells (new_cells (w.formats format) head)) t ≡ false
  no_targets_yet = none_from 1 ((w.formats format).size head - 1)
