-- The grey words of a segment: the lowest one, and that there is none.
use Rattle.std.proofs.Common.{◌≡◌, ◌∙◌, ℕ, zero, suc, ◌+◌, ◌-◌, ◌<◌, ◌≤◌, Bool, true, false, refl, sym, ap, List, Option, Some, None, inl, inr, arith}
use Rattle.std.proofs.lemmas.Bool.{cases_Bool, cond-true, cond-false, and_from, and_parts, le-leb, lt-ltb, leb-true, ltb-true}
use Rattle.std.proofs.lemmas.Option.{none-some, same_Some}
use Rattle.std.specs.Prelude.{option_map, nat_le, nat_lt}
use Rattle.mps_base.specs.Address.{Address, Word, word_of, address_of_word, address_of_grain, grain_of}
use Rattle.mps_base.specs.Segment.{Segment, end_of_segment, is_in_segment}
use Rattle.mps_base.specs.declared.address.Addr.{Addr}
use Rattle.mps_seg.specs.BitsTable.{bit, lowest_from, next_set_below}
use Rattle.mps_seg.specs.Collecting.{lowest_grey_in}
use Rattle.mps_seg.specs.Marks.{grey_of}
use Rattle.mps_seg.specs.Segs.{SegsState, at_word}

-- ---- the lowest index that passes a test

pub record IsFound (p : ℕ → Bool) (from n i : ℕ) : Type 0 where
  pub above : from ≤ i
  pub below : i < from + n
  pub passes : p i ≡ true

lowest_some : (p : ℕ → Bool) (from n i : ℕ) → lowest_from p from n ≡ Some i → IsFound p from n i
unfolding lowest_from
lowest_some p from zero i e = absurd (none-some i e)
lowest_some p from (suc n) i e =
    elim (cases_Bool (p from)) [
      | inl passes ↦
          let same : from ≡ i = same_Some from i (sym (cond-true (p from) (Some from) (lowest_from p (suc from) n) passes) ∙ e) in
          record { above = omega (arith, same); below = omega (arith, same); passes = ap p (sym same) ∙ passes }
      | inr fails ↦
          let rest = lowest_some p (suc from) n i (sym (cond-false (p from) (Some from) (lowest_from p (suc from) n) fails) ∙ e) in
          record { above = omega (arith, rest.above); below = omega (arith, rest.below); passes = rest.passes }
    ]

lowest_none : (p : ℕ → Bool) (from n : ℕ) → lowest_from p from n ≡ None → (i : ℕ) → from ≤ i → i < from + n → p i ≡ false
unfolding lowest_from
lowest_none p from zero e i above below = absurd (omega (arith, above, below))
lowest_none p from (suc n) e i above below =
    elim (cases_Bool (p from)) [
      | inl passes ↦ absurd (none-some from (sym e ∙ cond-true (p from) (Some from) (lowest_from p (suc from) n) passes))
      | inr fails ↦
          let rest = sym (cond-false (p from) (Some from) (lowest_from p (suc from) n) fails) ∙ e in
          elim (Rattle.std.proofs.lemmas.Bool.cases_eq i from) [
            | inl same ↦ ap p same ∙ fails
            | inr other ↦ lowest_none p (suc from) n rest i (omega (arith, above, other)) (omega (arith, below))
          ]
    ]

-- ---- words of a segment

-- a word lies in a segment
abbrev pub IsWordIn : Segment → Word → Type 0
IsWordIn t n = (word_of t.base ≤ n) × (n < word_of (end_of_segment t))

-- a block in a segment begins at a word of it, and the other way round
module _ (t : Segment) (aligned : address_of_grain (grain_of t.base) ≡ t.base) where
  pub word_in : (at : Address) → is_in_segment t at ≡ true → IsWordIn t (word_of at)
  word_in at is =
      let inside = and_parts (nat_le t.base at) (nat_lt at (end_of_segment t)) is in
      let low = leb-true t.base at inside.0 in
      let high = ltb-true at (end_of_segment t) inside.1 in
      (omega (arith, low, aligned), omega (arith, high, aligned))

  pub block_in : (n : Word) → IsWordIn t n → is_in_segment t (address_of_word n) ≡ true
  block_in n is =
      let low = is.0 in
      let high = is.1 in
      and_from (nat_le t.base (address_of_word n)) (nat_lt (address_of_word n) (end_of_segment t))
      (le-leb t.base (address_of_word n) (omega (arith, low, aligned)))
      (lt-ltb (address_of_word n) (end_of_segment t) (omega (arith, high, aligned)))

-- ---- grey words

-- an address is that of a grey block in a segment
pub record IsGreyWord (s : SegsState) (t : Segment) (at : Addr) : Type 0 where
  pub word : Word
  pub inside : IsWordIn t word
  pub is : at ≡ at_word word
  pub grey : bit (grey_of t.rank s.marks) word ≡ true

module _ (s : SegsState) (t : Segment) where
  abbrev bits : List Bool
  bits = grey_of t.rank s.marks

  abbrev low : Word
  low = word_of t.base

  abbrev high : Word
  high = word_of (end_of_segment t)

  pub lowest_is : (at : Addr) → lowest_grey_in s t ≡ Some at → IsGreyWord s t at
  unfolding next_set_below
  lowest_is at e = go (next_set_below bits low high) refl e
    where
      go : (o : Option Word) → next_set_below bits low high ≡ o → option_map at_word o ≡ Some at → IsGreyWord s t at
      go None found is = absurd (none-some at is)
      go (Some n) found is =
          let it = lowest_some (bit bits) low (high - low) n found in
          let above = it.above in
          let below = it.below in
          record {
            word = n;
            inside = (above, omega (arith, above, below));
            is = sym (same_Some (at_word n) at is);
            grey = it.passes;
          }

  pub none_is : lowest_grey_in s t ≡ None → (n : Word) → IsWordIn t n → bit bits n ≡ false
  unfolding next_set_below
  none_is e n inside = go (next_set_below bits low high) refl e
    where
      go : (o : Option Word) → next_set_below bits low high ≡ o → option_map at_word o ≡ None → bit bits n ≡ false
      go None found is = let high_n = inside.1 in lowest_none (bit bits) low (high - low) found n inside.0 (omega (arith, high_n))
      go (Some k) found is = absurd (none-some (at_word k) (sym is))
