-- The references of a block lead to their replacements, one after the other.
use Rattle.std.proofs.Common.{ℕ, suc, ◌+◌, ◌-◌, ◌<◌, ◌≤◌, ◌≡◌, false, IsTrue, Option, sym, ap, ◌∙◌, inl, inr, arith}
use Rattle.std.proofs.lemmas.Bool.{cases_Bool}
use Rattle.std.specs.Prelude.{slice_index}
use Rattle.std.specs.Option.{option_map_or}
use Rattle.mps_base.specs.Address.{Address, Word}
use Rattle.mps_format.specs.Layout.{Layout}
use Rattle.mps_seg.specs.Segs.{SegsState}
use Rattle.mps_xform.specs.Applying.{replacement, after_replace, after_apply_below, is_reference_word}
use Rattle.mps_xform.specs.Passing.{IsBlockOf, LeadsToNone}
use Rattle.mps_xform.proofs.Applied.{passed_to, words_above, none_of_numbers, of_reference}

module _ (f : Layout) (to : Address → Option Address) (s : SegsState) (pool : ℕ) (at : Word) (head : ℕ) (block : IsBlockOf f s pool at head)
  where
    reference_is : (cell : ℕ) → cell < f.size head → is_reference_word f s (at + cell) ≡ f.is_reference head cell
    reference_is cell within =
        let word : ℕ = at + cell in
        let back : word - at ≡ cell = omega arith in
        ap (λ (o : Option ℕ). option_map_or (λ from. f.is_reference (slice_index s.words from) (word - from)) o false)
        (block.over word (omega arith) (omega (arith, within)))
        ∙ ap (λ (h : ℕ). f.is_reference h (word - at)) block.has_head
        ∙ ap (λ (k : ℕ). f.is_reference head k) back

    -- cells that are numbers are passed over
    pub numbers_passed : (from cell : ℕ) → from ≤ cell → cell ≤ f.size head
        → ((k : ℕ) → from ≤ k → k < cell → f.is_reference head k ≡ false)
        → after_apply_below f to s pool (at + cell) ≡ after_apply_below f to s pool (at + from)
    numbers_passed from cell above within numbers =
        passed_to f to s pool (at + from) (at + cell) (omega (arith, above)) (λ i over below.
        let k : ℕ = i - at in
        let is : at + k ≡ i = omega (arith, over) in
        let low : from ≤ k = omega (arith, over, is) in
        let high : k < cell = omega (arith, below, is) in
        none_of_numbers f to s pool i
        (ap (λ (w : ℕ). is_reference_word f s w) (sym is) ∙ reference_is k (omega (arith, high, within)) ∙ numbers k low high))

    -- a cell that is a reference leads to its replacement
    pub reference_done : (cell : ℕ) (t t' : SegsState) → cell < f.size head → IsTrue (f.is_reference head cell)
        → t ≡ after_apply_below f to s pool (at + cell)
        → t' ≡ after_replace f (at + cell) (slice_index t.words (at + cell)) (to (f.target (slice_index t.words (at + cell)))) t
        → t' ≡ after_apply_below f to s pool (at + (cell + 1))
    reference_done cell t t' within reference so_far is =
        let word : ℕ = at + cell in
        let same : slice_index t.words word ≡ slice_index s.words word =
        ap (λ (u : SegsState). slice_index u.words word) so_far ∙ words_above f to s pool word word (omega arith) in
        let leads =
        of_reference f to s pool word (block.in_pool word (omega arith) (omega (arith, within)))
        (reference_is cell within ∙ reference)
        in
        is
        ∙ ap (λ (v : ℕ). after_replace f word v (to (f.target v)) t) same
        ∙ ap (λ (o : Option Address). after_replace f word (slice_index s.words word) o t) (sym leads)
        ∙ ap (λ (u : SegsState). after_replace f word (slice_index s.words word) (replacement f to s pool word) u) so_far
        ∙ ap (λ (n : ℕ). after_apply_below f to s pool n) (let e : suc word ≡ at + (cell + 1) = omega arith in e)

    -- a block whose references lead to no old address stays as it is
    pub block_passed : (t : SegsState) → t ≡ after_apply_below f to s pool at → LeadsToNone f to t at head (f.size head)
        → t ≡ after_apply_below f to s pool (at + f.size head)
    block_passed t so_far none =
        so_far
        ∙ sym (passed_to f to s pool at (at + f.size head) (omega arith) (λ i over below.
        let k : ℕ = i - at in
        let is : at + k ≡ i = omega (arith, over) in
        let within : k < f.size head = omega (arith, below, is) in
        ap (λ (w : ℕ). replacement f to s pool w) (sym is)
        ∙ elim (cases_Bool (f.is_reference head k)) [
          | inl reference ↦
              of_reference f to s pool (at + k) (block.in_pool (at + k) (omega arith) (omega (arith, within)))
              (reference_is k within ∙ reference)
              ∙ ap (λ (v : ℕ). to (f.target v))
              (sym (ap (λ (u : SegsState). slice_index u.words (at + k)) so_far ∙ words_above f to s pool at (at + k) (omega arith)))
              ∙ none k within reference
          | inr number ↦ none_of_numbers f to s pool (at + k) (reference_is k within ∙ number)
        ]))
