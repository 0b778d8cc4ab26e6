-- The bits of two tables, of which one or both are written.
use Rattle.std.proofs.Common.{ℕ, ◌-◌, ◌<◌, ◌≤◌, ◌≡◌, ◌≢◌, ◌||◌, Bool, true, false, Option, Some, None, List, length, map, set, sym, ap, ◌∙◌, inl, inr, arith, length-set}
use Rattle.std.specs.List.{range_with_len}
use Rattle.std.specs.Option.{option_or, unwrap_or}
use Rattle.std.proofs.lemmas.Bool.{cases_eq, both_ways, false_from_ne_true, or_left, or_right, or_from}
use Rattle.std.proofs.lemmas.List.FromFn.{length-map-range_with_len, get_or-map-range_with_len}
use Rattle.mps_bits.specs.Table.{bit, next_set_below}
use Rattle.mps_bits.proofs.Searches.{found, missing, lowest_cases, lowest_from_is, lowest_from_none}
use Rattle.mps_extents.specs.declared.extents.Extents.TheInside.{Inside}
use Rattle.mps_extents.specs.Inside.{either, AreApart}
use Rattle.mps_extents.proofs.WrittenBits.{bit_is, bit-set_same, bit-set_other, same_bits}

pub length-either : (xs ys : List Bool) → length (either xs ys) ≡ length xs
unfolding either
length-either xs ys = length-map-range_with_len (λ i. bit xs i || bit ys i) 0 (length xs)

pub bit-either : (xs ys : List Bool) (i : ℕ) → i < length xs → bit (either xs ys) i ≡ (bit xs i || bit ys i)
unfolding either
bit-either xs ys i within =
    bit_is (map (λ i. bit xs i || bit ys i) (range_with_len 0 (length xs))) i
    ∙ get_or-map-range_with_len (λ i. bit xs i || bit ys i) 0 (length xs) i i false within (omega arith)

-- one index is written in one of the tables or in both
pub either_written : (xs xs' ys ys' : List Bool) (i : ℕ) (value : Bool) → i < length xs → length xs' ≡ length xs
    → ((j : ℕ) → j ≢ i → bit xs' j ≡ bit xs j) → ((j : ℕ) → j ≢ i → bit ys' j ≡ bit ys j) → (bit xs' i || bit ys' i) ≡ value
    → either xs' ys' ≡ set (either xs ys) i value
either_written xs xs' ys ys' i value within size others others' here_is =
    same_bits (either xs' ys') (set (either xs ys) i value)
    (length-either xs' ys' ∙ size ∙ sym (length-set (either xs ys) i value ∙ length-either xs ys)) (λ k h.
    let short : k < length xs = omega (arith, h, length-either xs' ys', size) in
    bit-either xs' ys' k (omega (arith, short, size))
    ∙ elim (cases_eq k i) [
      | inl here ↦
          ap (λ (j : ℕ). bit xs' j || bit ys' j) here ∙ here_is
          ∙ sym (ap (λ (j : ℕ). bit (set (either xs ys) i value) j) here ∙ bit-set_same (either xs ys) i value
          (omega (arith, within, length-either xs ys)))
      | inr other ↦
          ap (λ (b : Bool). b || bit ys' k) (others k other) ∙ ap (λ (b : Bool). bit xs k || b) (others' k other)
          ∙ sym (bit-either xs ys k short) ∙ sym (bit-set_other (either xs ys) i k value other)
    ])

-- a bit moves from the first table to the second
pub either_moved : (xs ys : List Bool) (i : ℕ) → i < length xs → i < length ys → bit (either xs ys) i ≡ true
    → either (set xs i false) (set ys i true) ≡ either xs ys
either_moved xs ys i within within' some =
    same_bits (either (set xs i false) (set ys i true)) (either xs ys)
    (length-either (set xs i false) (set ys i true) ∙ length-set xs i false ∙ sym (length-either xs ys)) (λ k h.
    let size = length-set xs i false in
    let short : k < length xs = omega (arith, h, length-either (set xs i false) (set ys i true), size) in
    bit-either (set xs i false) (set ys i true) k (omega (arith, short, size))
    ∙ elim (cases_eq k i) [
      | inl here ↦
          ap (λ (j : ℕ). bit (set xs i false) j || bit (set ys i true) j) here
          ∙ or_right (bit (set xs i false) i) (bit (set ys i true) i) (bit-set_same ys i true within')
          ∙ sym (ap (λ (j : ℕ). bit (either xs ys) j) here ∙ some)
      | inr other ↦
          ap (λ (b : Bool). b || bit (set ys i true) k) (bit-set_other xs i k false other)
          ∙ ap (λ (b : Bool). bit xs k || b) (bit-set_other ys i k true other) ∙ sym (bit-either xs ys k short)
    ])

-- ---- the lowest bit of both

pub search_ends : (bits : List Bool) (low high : ℕ) → unwrap_or (next_set_below bits low high) high ≤ high
unfolding next_set_below
search_ends bits low high =
    elim (lowest_cases (bit bits) low (high - low)) [
      | missing is_none none ↦ omega (arith, ap (λ (o : Option ℕ). unwrap_or o high) is_none)
      | found at is_some is ↦ omega (arith, ap (λ (o : Option ℕ). unwrap_or o high) is_some, is.above, is.below)
    ]

-- the first table is searched up to the lowest bit of the second
either_lowest : (xs ys : List Bool) (low high : ℕ) → high ≤ length xs
    → option_or (next_set_below xs low (unwrap_or (next_set_below ys low high) high)) (next_set_below ys low high)
    ≡ next_set_below (either xs ys) low high
unfolding next_set_below
either_lowest xs ys low high within =
    elim (lowest_cases (bit ys) low (high - low)) [
      | missing is_none none ↦
          ap (λ (o : Option ℕ). option_or (next_set_below xs low (unwrap_or o high)) o) is_none
          ∙ elim (lowest_cases (bit xs) low (high - low)) [
            | missing is_none' none' ↦
                ap (λ (o : Option ℕ). option_or o None) is_none'
                ∙ sym (lowest_from_none (bit (either xs ys)) low (high - low) (λ i above below.
                bit-either xs ys i (omega arith) ∙ or_from (bit xs i) (bit ys i) (none' i above below) (none i above below)))
            | found index is_some is ↦
                ap (λ (o : Option ℕ). option_or o None) is_some
                ∙ sym (lowest_from_is (bit (either xs ys)) low (high - low) index (record {
                  above = is.above;
                  below = is.below;
                  passes = bit-either xs ys index (omega (arith, is.below, is.above)) ∙ or_left (bit xs index) (bit ys index) is.passes;
                  lower = λ i above below. bit-either xs ys i (omega (arith, is.below, below, above)) ∙ or_from (bit xs i) (bit ys i)
                      (is.lower i above below)
                      (none i above (omega (arith, is.below, below)));
                }))
          ]
      | found at is_some is ↦
          ap (λ (o : Option ℕ). option_or (next_set_below xs low (unwrap_or o high)) o) is_some
          ∙ elim (lowest_cases (bit xs) low (at - low)) [
            | missing is_none none ↦
                ap (λ (o : Option ℕ). option_or o (Some at)) is_none
                ∙ sym (lowest_from_is (bit (either xs ys)) low (high - low) at (record {
                  above = is.above;
                  below = is.below;
                  passes = bit-either xs ys at (omega (arith, is.below, is.above)) ∙ or_right (bit xs at) (bit ys at) is.passes;
                  lower = λ i above below. bit-either xs ys i (omega (arith, is.below, below, above)) ∙ or_from (bit xs i) (bit ys i)
                      (none i above (omega (arith, below, above)))
                      (is.lower i above below);
                }))
            | found index is_some' is' ↦
                let before : index < at = omega (arith, is'.above, is'.below) in
                ap (λ (o : Option ℕ). option_or o (Some at)) is_some'
                ∙ sym (lowest_from_is (bit (either xs ys)) low (high - low) index (record {
                  above = is'.above;
                  below = omega (arith, before, is.below);
                  passes = bit-either xs ys index (omega (arith, before, is.below, is.above))
                      ∙ or_left (bit xs index) (bit ys index) is'.passes;
                  lower = λ i above below. bit-either xs ys i (omega (arith, before, is.below, below, above))
                      ∙ or_from (bit xs i) (bit ys i) (is'.lower i above below) (is.lower i above (omega (arith, before, below)));
                }))
          ]
    ]

pub lowest_of_both : (xs ys : List Bool) (low high to : ℕ) (x y r : Option ℕ) → high ≤ length xs → y ≡ next_set_below ys low high
    → to ≡ unwrap_or y high → x ≡ next_set_below xs low to → r ≡ option_or x y → r ≡ next_set_below (either xs ys) low high
lowest_of_both xs ys low high to x y r within y_is to_is x_is is =
    is ∙ ap (λ (o : Option ℕ). option_or o y) x_is ∙ ap (λ (n : ℕ). option_or (next_set_below xs low n) y) to_is
    ∙ ap (λ (o : Option ℕ). option_or (next_set_below xs low (unwrap_or o high)) o) y_is
    ∙ either_lowest xs ys low high within

-- ---- no reservation begins where a block does

pub apart_opened : (opens blocks : List Bool) (at : ℕ) → AreApart opens blocks → bit blocks at ≡ false → AreApart (set opens at true) blocks
apart_opened opens blocks at apart none = record {
  same_size = length-set opens at true ∙ apart.same_size;
  no_block = λ word is. elim (cases_eq word at) [
    | inl here ↦ ap (λ (j : ℕ). bit blocks j) here ∙ none
    | inr other ↦ apart.no_block word (sym (bit-set_other opens at word true other) ∙ is)
  ];
}

pub apart_committed : (opens blocks : List Bool) (at : ℕ) → AreApart opens blocks → bit opens at ≡ false → AreApart opens
    (set blocks at true)
apart_committed opens blocks at apart none = record {
  same_size = apart.same_size ∙ sym (length-set blocks at true);
  no_block = λ word is. elim (cases_eq word at) [
    | inl here ↦ absurd (both_ways (bit opens at) none (ap (λ (j : ℕ). bit opens j) (sym here) ∙ is))
    | inr other ↦ bit-set_other blocks at word true other ∙ apart.no_block word is
  ];
}

pub apart_closed : (opens blocks : List Bool) (at : ℕ) → AreApart opens blocks → at < length opens → AreApart (set opens at false) blocks
apart_closed opens blocks at apart within = record {
  same_size = length-set opens at false ∙ apart.same_size;
  no_block = λ word is. elim (cases_eq word at) [
    | inl here ↦ absurd (both_ways (bit (set opens at false) at) (bit-set_same opens at false within)
        (ap (λ (j : ℕ). bit (set opens at false) j) (sym here) ∙ is))
    | inr other ↦ apart.no_block word (sym (bit-set_other opens at word false other) ∙ is)
  ];
}

pub apart_dropped : (opens blocks : List Bool) (at : ℕ) → AreApart opens blocks → at < length blocks → AreApart opens (set blocks at false)
apart_dropped opens blocks at apart within = record {
  same_size = apart.same_size ∙ sym (length-set blocks at false);
  no_block = λ word is. elim (cases_eq word at) [
    | inl here ↦ ap (λ (j : ℕ). bit (set blocks at false) j) here ∙ bit-set_same blocks at false within
    | inr other ↦ bit-set_other blocks at word false other ∙ apart.no_block word is
  ];
}

-- where a block begins no reservation does
pub not_open : (opens blocks : List Bool) (at : ℕ) → AreApart opens blocks → bit blocks at ≡ true → bit opens at ≡ false
not_open opens blocks at apart block =
    false_from_ne_true (bit opens at) (λ is. both_ways (bit blocks at) (apart.no_block at is) block)

-- where extents begin
abbrev pub begins_of : Inside → List Bool
begins_of t = either t.opens t.blocks
