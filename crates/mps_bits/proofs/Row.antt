-- A row of bits, and a chunk of it: the bits that one word holds from an index on.
use Rattle.std.proofs.Common.{ℕ, zero, suc, ◌+◌, ◌-◌, ◌/◌, ◌%◌, ◌^◌, ◌<◌, ◌≤◌, ◌≡◌, ◌⊎◌, List, length, get_or, set, replicate, Option, Some, None, MatchOption, min, sym, refl, ap, ◌∙◌, inl, inr, arith, get_or-set_same, get_or-set_other}
use Rattle.std.specs.Int.{bit_at}
use Rattle.std.specs.Int.RustNames.{count_ones}
use Rattle.std.proofs.lemmas.Bool.{cases_lt, cases_eq}
use Rattle.std.proofs.lemmas.Nat.Bits.{bit_at-lt, bit_at-zero, bit_at-suc, bit_at_lowest}
use Rattle.std.proofs.lemmas.List.{length-replicate, get_or-replicate, get_or_past}
use Rattle.std.proofs.lemmas.Nat.{ones_le_self}
use Rattle.std.proofs.Math.Nat.{pow-suc}
use lib.Count.{ones_step}
use Rattle.mps_bits.specs.Row.{bit_in, sum_over, IsClear, IsLowestSet}

pub bit_in_word : (words : List ℕ) (at i : ℕ) → at % 64 + i < 64 → bit_in words (at + i) ≡ bit_at (get_or words (at / 64) 0) (at % 64 + i)
unfolding bit_in
bit_in_word words at i within =
    let row : (at + i) / 64 ≡ at / 64 = omega arith in
    let column : (at + i) % 64 ≡ at % 64 + i = omega arith in
    ap (λ (k : ℕ). bit_at (get_or words k 0) ((at + i) % 64)) row ∙ ap (λ (k : ℕ). bit_at (get_or words (at / 64) 0) k) column

pub bit_in-lt : (words : List ℕ) (i : ℕ) → bit_in words i < 2
unfolding bit_in
bit_in-lt words i = bit_at-lt (get_or words (i / 64) 0) (i % 64)

-- the `width` bits from `at` on are the lowest bits of `bits`, which has no other
pub record IsChunk (words : List ℕ) (at width bits : ℕ) : Type 0 where
  pub inside : (i : ℕ) → i < width → bit_at bits i ≡ bit_in words (at + i)
  pub above : (i : ℕ) → width ≤ i → bit_at bits i ≡ 0

pub clear_join : (words : List ℕ) (a b c : ℕ) → IsClear words a b → IsClear words b c → IsClear words a c
clear_join words a b c low high i from to =
    elim (cases_lt i b) [ inl h ↦ low i from h | inr h ↦ high i h to ]

-- what a search from the bit `b` on up to `to` finds is found by one from `a` on, if the bits between are clear
pub search_on : (words : List ℕ) (a b to c : ℕ) (found : Option ℕ) → a ≤ b → c ≡ min b to → IsClear words a c
    → MatchOption found (IsClear words b to) (λ p. IsLowestSet words b to p)
    → MatchOption found (IsClear words a to) (λ p. IsLowestSet words a to p)
search_on words a b to c None order end low none =
    λ i from below. elim (cases_lt i b) [ inl h ↦ low i from (omega (arith, end, h, below)) | inr h ↦ none i h below ]
search_on words a b to c (Some p) order end low is = record {
  above = omega (arith, order, is.above);
  below = is.below;
  set = is.set;
  lower = λ i from below. elim (cases_lt i b) [
    | inl h ↦ low i from (omega (arith, end, h, below, is.below))
    | inr h ↦ is.lower i h below
  ];
}

pub clear_of_zero : (words : List ℕ) (at width bits : ℕ) → IsChunk words at width bits → bits ≡ 0 → IsClear words at (at + width)
clear_of_zero words at width bits chunk none i from to =
    let same : at + (i - at) ≡ i = omega arith in
    ap (λ (j : ℕ). bit_in words j) (sym same) ∙ sym (chunk.inside (i - at) (omega arith))
    ∙ ap (λ (x : ℕ). bit_at x (i - at)) none ∙ bit_at-zero (i - at)

pub index_below_width : (words : List ℕ) (at width bits p : ℕ) → IsChunk words at width bits → bit_at bits p ≡ 1 → p < width
index_below_width words at width bits p chunk is =
    elim (cases_lt p width) [ inl h ↦ h | inr h ↦ absurd (omega (arith, is, chunk.above p h)) ]

pub set_at : (words : List ℕ) (at width bits p : ℕ) → IsChunk words at width bits → bit_at bits p ≡ 1 → bit_in words (at + p) ≡ 1
set_at words at width bits p chunk is = sym (chunk.inside p (index_below_width words at width bits p chunk is)) ∙ is

pub clear_below : (words : List ℕ) (at width bits p : ℕ) → IsChunk words at width bits → p ≤ width
    → ((i : ℕ) → i < p → bit_at bits i ≡ 0) → IsClear words at (at + p)
clear_below words at width bits p chunk within none i from to =
    let same : at + (i - at) ≡ i = omega arith in
    ap (λ (j : ℕ). bit_in words j) (sym same) ∙ sym (chunk.inside (i - at) (omega arith)) ∙ none (i - at) (omega arith)

pub clear_above : (words : List ℕ) (at width bits p : ℕ) → IsChunk words at width bits → ((i : ℕ) → p < i → bit_at bits i ≡ 0)
    → IsClear words (at + p + 1) (at + width)
clear_above words at width bits p chunk none i from to =
    let same : at + (i - at) ≡ i = omega arith in
    ap (λ (j : ℕ). bit_in words j) (sym same) ∙ sym (chunk.inside (i - at) (omega arith)) ∙ none (i - at) (omega arith)

-- ---- a write of one word

pub bit_in_write_inside : (words : List ℕ) (at width word i : ℕ) → at % 64 + width ≤ 64 → at / 64 < length words → at ≤ i
    → i < at + width → bit_in (set words (at / 64) word) i ≡ bit_at word (at % 64 + (i - at))
bit_in_write_inside words at width word i within in_row from to =
    let same : at + (i - at) ≡ i = omega arith in
    ap (λ (j : ℕ). bit_in (set words (at / 64) word) j) (sym same)
    ∙ bit_in_word (set words (at / 64) word) at (i - at) (omega arith)
    ∙ ap (λ (x : ℕ). bit_at x (at % 64 + (i - at))) (get_or-set_same words (at / 64) word 0 in_row)

-- the other bits stay where the other bits of the word stay
pub bit_in_write_outside : (words : List ℕ) (at width word i : ℕ) → at % 64 + width ≤ 64 → at / 64 < length words
    → ((j : ℕ) → j < 64 → (j < at % 64) ⊎ (at % 64 + width ≤ j) → bit_at word j ≡ bit_at (get_or words (at / 64) 0) j)
    → (i < at) ⊎ (at + width ≤ i) → bit_in (set words (at / 64) word) i ≡ bit_in words i
unfolding bit_in
bit_in_write_outside words at width word i within in_row kept out =
    elim (cases_eq (i / 64) (at / 64)) [
      | inl same ↦
          let column : (i % 64 < at % 64) ⊎ (at % 64 + width ≤ i % 64) =
          elim out [ inl below ↦ inl (omega arith) | inr above ↦ inr (omega arith) ]
          in
          ap (λ (k : ℕ). bit_at (get_or (set words (at / 64) word) k 0) (i % 64)) same
          ∙ ap (λ (x : ℕ). bit_at x (i % 64)) (get_or-set_same words (at / 64) word 0 in_row)
          ∙ kept (i % 64) (omega arith) column
          ∙ ap (λ (k : ℕ). bit_at (get_or words k 0) (i % 64)) (sym same)
      | inr other ↦ ap (λ (x : ℕ). bit_at x (i % 64)) (get_or-set_other words (at / 64) (i / 64) word 0 other)
    ]

-- ---- sums over indexes

pub sum_over-none : (f : ℕ → ℕ) (from : ℕ) → sum_over f from 0 ≡ 0
unfolding sum_over
sum_over-none f from = refl

pub sum_over-add : (f : ℕ → ℕ) (from m n : ℕ) → sum_over f from (m + n) ≡ sum_over f from m + sum_over f (from + m) n
unfolding sum_over
sum_over-add f from zero n =
    let same : from + 0 ≡ from = omega arith in
    let length_up_to_end : 0 + n ≡ n = omega arith in
    ap (λ (k : ℕ). sum_over f from k) length_up_to_end ∙ ap (λ (k : ℕ). sum_over f k n) (sym same) ∙ omega arith
sum_over-add f from (suc m) n =
    let count : suc m + n ≡ suc (m + n) = omega arith in
    let index : suc from + m ≡ from + suc m = omega arith in
    let rest = sum_over-add f (suc from) m n in
    let moved = ap (λ (k : ℕ). sum_over f k n) index in
    ap (λ (k : ℕ). sum_over f from k) count ∙ omega (arith, rest, moved)

pub sum_over_same : (f g : ℕ → ℕ) (a b n : ℕ) → ((i : ℕ) → i < n → f (a + i) ≡ g (b + i)) → sum_over f a n ≡ sum_over g b n
unfolding sum_over
sum_over_same f g a b zero same = refl
sum_over_same f g a b (suc n) same =
    let first : f a ≡ g b =
    let left : a + 0 ≡ a = omega arith in
    let right : b + 0 ≡ b = omega arith in
    ap f (sym left) ∙ same 0 (omega arith) ∙ ap g right
    in
    let rest = sum_over_same f g (suc a) (suc b) n (λ i h.
    let left : suc a + i ≡ a + suc i = omega arith in
    let right : suc b + i ≡ b + suc i = omega arith in
    ap f left ∙ same (suc i) (omega arith) ∙ ap g (sym right))
    in
    omega (arith, first, rest)

pub sum_over_le : (f : ℕ → ℕ) (from n : ℕ) → ((i : ℕ) → f i < 2) → sum_over f from n ≤ n
unfolding sum_over
sum_over_le f from zero small = omega arith
sum_over_le f from (suc n) small = omega (arith, small from, sum_over_le f (suc from) n small)

pub sum_over_zero : (f : ℕ → ℕ) (from n : ℕ) → ((i : ℕ) → i < n → f (from + i) ≡ 0) → sum_over f from n ≡ 0
unfolding sum_over
sum_over_zero f from zero none = refl
sum_over_zero f from (suc n) none =
    let first : f from ≡ 0 = let same : from + 0 ≡ from = omega arith in ap f (sym same) ∙ none 0 (omega arith) in
    let rest =
    sum_over_zero f (suc from) n (λ i h. let same : suc from + i ≡ from + suc i = omega arith in ap f same ∙ none (suc i) (omega arith))
    in
    omega (arith, first, rest)

-- the number of ones of a number is the sum of its bits
pub sum_over-ones : (k n : ℕ) → n < 2 ^ k → sum_over (bit_at n) 0 k ≡ count_ones n
unfolding sum_over
sum_over-ones zero n small =
    let none : n ≡ 0 = omega (arith, small) in
    omega (arith, ones_le_self n)
sum_over-ones (suc k) n small =
    let half : n / 2 < 2 ^ k = omega (arith, small, pow-suc 2 k) in
    let rest = sum_over_same (bit_at n) (bit_at (n / 2)) 1 0 k (λ i h.
    let here : 1 + i ≡ suc i = omega arith in
    let there : 0 + i ≡ i = omega arith in
    ap (bit_at n) here ∙ bit_at-suc n i ∙ ap (bit_at (n / 2)) (sym there))
    in
    omega (arith, bit_at_lowest n, rest, sum_over-ones k (n / 2) half, ones_step n)

pub chunk_ones : (words : List ℕ) (at width bits : ℕ) → IsChunk words at width bits → width ≤ 64 → bits < 2 ^ 64
    → count_ones bits ≡ sum_over (bit_in words) at width
chunk_ones words at width bits chunk within fits =
    let whole : width + (64 - width) ≡ 64 = omega arith in
    let split = sum_over-add (bit_at bits) 0 width (64 - width) in
    let all = ap (λ (k : ℕ). sum_over (bit_at bits) 0 k) whole in
    let start : 0 + width ≡ width = omega arith in
    let high = ap (λ (k : ℕ). sum_over (bit_at bits) k (64 - width)) start
    ∙ sum_over_zero (bit_at bits) width (64 - width) (λ i h. chunk.above (width + i) (omega arith))
    in
    let low =
    sum_over_same (bit_at bits) (bit_in words) 0 at width
    (λ i h. let same : 0 + i ≡ i = omega arith in ap (bit_at bits) same ∙ chunk.inside i h)
    in
    omega (arith, sum_over-ones 64 bits fits, split, all, high, low)

-- a sum up to `at`, and over the chunk from there on
pub sum_over_upto : (words : List ℕ) (from at width : ℕ) → from ≤ at
    → sum_over (bit_in words) from (at + width - from) ≡ sum_over (bit_in words) from (at - from) + sum_over (bit_in words) at width
sum_over_upto words from at width after =
    let count : at + width - from ≡ at - from + width = omega arith in
    let index : from + (at - from) ≡ at = omega arith in
    ap (λ (k : ℕ). sum_over (bit_in words) from k) count ∙ sum_over-add (bit_in words) from (at - from) width
    ∙ ap (λ (k : ℕ). sum_over (bit_in words) from (at - from) + sum_over (bit_in words) k width) index

pub bit_in-zeros : (n i : ℕ) → bit_in (replicate n 0) i ≡ 0
unfolding bit_in
bit_in-zeros n i = ap (λ (w : ℕ). bit_at w (i % 64)) (zero_word n i) ∙ bit_at-zero (i % 64)
  where
    zero_word : (n i : ℕ) → get_or {A = ℕ} (replicate n 0) (i / 64) 0 ≡ 0
    zero_word n i =
        elim (cases_lt (i / 64) n) [
          | inl within ↦ get_or-replicate n (i / 64) 0 0 within
          | inr past ↦ get_or_past (replicate n 0) (i / 64) 0 (omega (arith, length-replicate {A = ℕ} n 0))
        ]
