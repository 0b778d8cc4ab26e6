-- Which references of a block lead to no old address.
use Rattle.std.proofs.Common.{ℕ, ◌+◌, ◌<◌, ◌≤◌, ◌≡◌, false, Option, None, List, length, get_or, take, drop, sym, ap, ◌∙◌, inl, inr, arith}
use Rattle.std.specs.Prelude.{slice_index}
use Rattle.std.proofs.lemmas.Bool.{false≢true, cases_lt}
use Rattle.std.proofs.lemmas.List.{get_or-take, get_or-drop}
use Rattle.mps_base.specs.Address.{Address, Word}
use Rattle.mps_format.specs.Layout.{Layout}
use Rattle.mps_seg.specs.Segs.{SegsState}
use Rattle.mps_xform.specs.Passing.{LeadsToNone}

-- a word of those that are borrowed from one on
pub borrowed_word : (words loan : List ℕ) (at cell : ℕ) → loan ≡ take (length loan) (drop at words) → cell < length loan
    → get_or loan cell 0 ≡ get_or words (at + cell) 0
borrowed_word words loan at cell part few =
    ap (λ (ws : List ℕ). get_or ws cell 0) part ∙ get_or-take (length loan) (drop at words) cell 0 few ∙ get_or-drop at words cell 0

module _ (f : Layout) (to : Address → Option Address) (s : SegsState) (at : Word) (head from : ℕ)
    (before : LeadsToNone f to s at head from)
  where
    -- the next reference leads to no old address
    pub one_more_to_none : (cell : ℕ) → ((k : ℕ) → from ≤ k → k < cell → f.is_reference head k ≡ false)
        → to (f.target (slice_index s.words (at + cell))) ≡ None → LeadsToNone f to s at head (cell + 1)
    one_more_to_none cell numbers here k below reference =
        elim (cases_lt k from) [
          | inl earlier ↦ before k earlier reference
          | inr past ↦
              elim (cases_lt k cell) [
                | inl between ↦ absurd (false≢true (sym (numbers k past between) ∙ reference))
                | inr last ↦
                    let same : k ≡ cell = omega (arith, below, last) in
                    ap (λ (n : ℕ). to (f.target (slice_index s.words (at + n)))) same ∙ here
              ]
        ]

    -- no reference is left
    pub all_to_none : (cells : ℕ) → ((k : ℕ) → from ≤ k → f.is_reference head k ≡ false) → LeadsToNone f to s at head cells
    all_to_none cells numbers k below reference =
        elim (cases_lt k from) [
          | inl earlier ↦ before k earlier reference
          | inr past ↦ absurd (false≢true (sym (numbers k past) ∙ reference))
        ]
