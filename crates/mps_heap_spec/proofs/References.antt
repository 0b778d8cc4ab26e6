-- Whether a block has references, by the first of them.
use Rattle.std.proofs.Common.{ℕ, zero, suc, ◌≡◌, ◌<◌, ◌≤◌, ◌+◌, ◌-◌, ◌||◌, Bool, true, false, cond, None, List, refl, sym, subst, inl, inr, arith}
use Rattle.std.specs.Bool.{IsTrue}
use Rattle.std.proofs.lemmas.Bool.{cases_lt}
use Rattle.std.specs.List.{list_any}
use Rattle.mps_format.specs.Layout.{Layout, IsLawful}
use Rattle.mps_format.specs.References.{IsFirstReference, HasNoReference}
use Rattle.mps_model.specs.Graph.{Cell, ReferenceCell, NumberCell, is_reference_cell, new_cells_from, has_references}

-- whether a row of cells has a reference, where the first of them may be one
abbrev has_one : Bool → List Cell → Bool
has_one is cells = is_reference_cell (cond is (ReferenceCell None 0) (NumberCell 0)) || list_any is_reference_cell cells

later_has : (is : Bool) (cells : List Cell) → list_any is_reference_cell cells ≡ true → has_one is cells ≡ true
later_has true cells has = refl
later_has false cells has = has

module _ (f : Layout) (head : ℕ) where
  none_from : (k count : ℕ) → HasNoReference f head k → list_any is_reference_cell (new_cells_from f head k count) ≡ false
  none_from k zero none = refl
  none_from k (suc count) none =
      let P : Bool → Type 0 = λ is. has_one is (new_cells_from f head (k + 1) count) ≡ false in
      subst P (sym (none k (omega arith))) (none_from (k + 1) count (λ j from. none j (omega arith)))

  some_from : (k count j : ℕ) → k ≤ j → j < k + count → f.is_reference head j ≡ true
      → list_any is_reference_cell (new_cells_from f head k count) ≡ true
  some_from k zero j from below is = absurd (omega arith)
  some_from k (suc count) j from below is =
      let rest = new_cells_from f head (k + 1) count in
      elim (cases_lt k j) [
        | inl later ↦ later_has (f.is_reference head k) rest (some_from (k + 1) count j (omega arith) (omega arith) is)
        | inr here ↦
            let same : j ≡ k = omega arith in
            let Q : ℕ → Type 0 = λ n. f.is_reference head n ≡ true in
            let P : Bool → Type 0 = λ is. has_one is rest ≡ true in
            subst P (sym (subst Q same is)) refl
      ]

  pub has_none : HasNoReference f head 0 → false ≡ has_references f head
  has_none none = sym (none_from 1 (f.size head - 1) (λ j from. none j (omega arith)))

  pub has_some : (k : ℕ) → IsLawful f → IsTrue (f.is_valid head) → IsFirstReference f head 0 k → true ≡ has_references f head
  has_some k lawful valid first =
      let within = lawful.references head k valid first.reference in
      sym (some_from 1 (f.size head - 1) k (omega (arith, within.0)) (omega (arith, within.0, within.1)) first.reference)
