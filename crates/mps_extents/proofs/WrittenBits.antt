-- The bits of a table that was written.
use Rattle.std.proofs.Common.{ℕ, ◌<◌, ◌≤◌, ◌≡◌, ◌≢◌, ◌⊎◌, ◌&&◌, Bool, true, false, not, List, length, map, get_or, set, refl, sym, ap, ◌∙◌, inl, inr, arith, length-set, get_or-set_same, get_or-set_other}
use Rattle.std.specs.List.{range_with_len}
use Rattle.std.proofs.lemmas.Bool.{cases_lt, cases_eq, both_ways, and_parts}
use Rattle.std.proofs.lemmas.List.{same_lists, get_or_past, get_or_default}
use Rattle.std.proofs.lemmas.List.FromFn.{length-map-range_with_len, get_or-map-range_with_len}
use Rattle.mps_bits.specs.Table.{bit, with_range}
use Rattle.mps_bits.proofs.Ranges.{with_range_inside, with_range_outside}
use Rattle.mps_extents.specs.Inside.{minus}

pub bit_is : (bits : List Bool) (i : ℕ) → bit bits i ≡ get_or bits i false
unfolding bit
bit_is bits i = refl

pub bit-set_same : (bits : List Bool) (i : ℕ) (value : Bool) → i < length bits → bit (set bits i value) i ≡ value
unfolding bit
bit-set_same bits i value within = get_or-set_same bits i value false within

pub bit-set_other : (bits : List Bool) (i j : ℕ) (value : Bool) → j ≢ i → bit (set bits i value) j ≡ bit bits j
unfolding bit
bit-set_other bits i j value other = get_or-set_other bits i j value false other

pub bit_past : (bits : List Bool) (i : ℕ) → length bits ≤ i → bit bits i ≡ false
unfolding bit
bit_past bits i past = get_or_past bits i false past

pub bit_within : (bits : List Bool) (i : ℕ) → bit bits i ≡ true → i < length bits
bit_within bits i is =
    elim (cases_lt i (length bits)) [ inl within ↦ within | inr past ↦ absurd (both_ways (bit bits i) (bit_past bits i past) is) ]

pub bit-with_range_inside : (bits : List Bool) (from to i : ℕ) (value : Bool) → from ≤ to → to ≤ length bits → from ≤ i → i < to
    → bit (with_range bits from to value) i ≡ value
unfolding bit
bit-with_range_inside bits from to i value ordered within above below =
    with_range_inside bits from to value i false ordered within above below

pub bit-with_range_outside : (bits : List Bool) (from to i : ℕ) (value : Bool) → from ≤ to → to ≤ length bits → (i < from) ⊎ (to ≤ i)
    → bit (with_range bits from to value) i ≡ bit bits i
unfolding bit
bit-with_range_outside bits from to i value ordered within out = with_range_outside bits from to value i false ordered within out

-- tables of one length with the same bits are one
pub same_bits : (xs ys : List Bool) → length xs ≡ length ys → ((i : ℕ) → i < length xs → bit xs i ≡ bit ys i) → xs ≡ ys
unfolding bit
same_bits xs ys size same =
    same_lists xs ys size (λ k d h. get_or_default xs k d false h ∙ same k h ∙ get_or_default ys k false d (omega (arith, size)))

pub length-minus : (xs ys : List Bool) → length (minus xs ys) ≡ length xs
unfolding minus
length-minus xs ys = length-map-range_with_len (λ i. bit xs i && not (bit ys i)) 0 (length xs)

pub bit-minus : (xs ys : List Bool) (i : ℕ) → i < length xs → bit (minus xs ys) i ≡ (bit xs i && not (bit ys i))
unfolding minus
bit-minus xs ys i within =
    bit_is (map (λ i. bit xs i && not (bit ys i)) (range_with_len 0 (length xs))) i
    ∙ get_or-map-range_with_len (λ i. bit xs i && not (bit ys i)) 0 (length xs) i i false within (omega arith)

pub minus_is_begin : (xs ys : List Bool) (i : ℕ) → bit (minus xs ys) i ≡ true → bit xs i ≡ true
minus_is_begin xs ys i is =
    let within : i < length xs = omega (arith, bit_within (minus xs ys) i is, length-minus xs ys) in
    (and_parts (bit xs i) (not (bit ys i)) (sym (bit-minus xs ys i within) ∙ is)).0

-- the first table has one bit more
pub minus-set_first : (xs ys : List Bool) (i : ℕ) → i < length xs → bit ys i ≡ false → minus (set xs i true) ys ≡ set (minus xs ys) i true
minus-set_first xs ys i within none =
    same_bits (minus (set xs i true) ys) (set (minus xs ys) i true)
    (length-minus (set xs i true) ys ∙ length-set xs i true ∙ sym (length-set (minus xs ys) i true ∙ length-minus xs ys))
    (λ k h.
    let short : k < length xs = omega (arith, h, length-minus (set xs i true) ys, length-set xs i true) in
    bit-minus (set xs i true) ys k (omega (arith, short, length-set xs i true))
    ∙ elim (cases_eq k i) [
      | inl here ↦
          ap (λ (j : ℕ). bit (set xs i true) j && not (bit ys j)) here
          ∙ ap (λ (b : Bool). b && not (bit ys i)) (bit-set_same xs i true within) ∙ ap (λ (b : Bool). not b) none
          ∙ sym (ap (λ (j : ℕ). bit (set (minus xs ys) i true) j) here ∙ bit-set_same (minus xs ys) i true
          (omega (arith, within, length-minus xs ys)))
      | inr other ↦
          ap (λ (b : Bool). b && not (bit ys k)) (bit-set_other xs i k true other) ∙ sym (bit-minus xs ys k short)
          ∙ sym (bit-set_other (minus xs ys) i k true other)
    ])

-- one bit fewer is left, where it is cleared in the first table or set in the second
pub minus_less : (xs xs' ys ys' : List Bool) (i : ℕ) → i < length xs → length xs' ≡ length xs → ((j : ℕ) → j ≢ i → bit xs' j ≡ bit xs j)
    → ((j : ℕ) → j ≢ i → bit ys' j ≡ bit ys j)
    → (bit xs' i && not (bit ys' i)) ≡ false → minus xs' ys' ≡ set (minus xs ys) i false
minus_less xs xs' ys ys' i within size others others' none =
    same_bits (minus xs' ys') (set (minus xs ys) i false)
    (length-minus xs' ys' ∙ size ∙ sym (length-set (minus xs ys) i false ∙ length-minus xs ys)) (λ k h.
    let short : k < length xs = omega (arith, h, length-minus xs' ys', size) in
    bit-minus xs' ys' k (omega (arith, short, size))
    ∙ elim (cases_eq k i) [
      | inl here ↦
          ap (λ (j : ℕ). bit xs' j && not (bit ys' j)) here ∙ none
          ∙ sym (ap (λ (j : ℕ). bit (set (minus xs ys) i false) j) here ∙ bit-set_same (minus xs ys) i false
          (omega (arith, within, length-minus xs ys)))
      | inr other ↦
          ap (λ (b : Bool). b && not (bit ys' k)) (others k other) ∙ ap (λ (b : Bool). bit xs k && not b) (others' k other)
          ∙ sym (bit-minus xs ys k short) ∙ sym (bit-set_other (minus xs ys) i k false other)
    ])

-- the same bits are left, where the bit was set in the second table too
pub minus_same : (xs xs' ys ys' : List Bool) (i : ℕ) → length xs' ≡ length xs → ((j : ℕ) → j ≢ i → bit xs' j ≡ bit xs j)
    → ((j : ℕ) → j ≢ i → bit ys' j ≡ bit ys j)
    → (bit xs' i && not (bit ys' i)) ≡ (bit xs i && not (bit ys i)) → minus xs' ys' ≡ minus xs ys
minus_same xs xs' ys ys' i size others others' here_same =
    same_bits (minus xs' ys') (minus xs ys) (length-minus xs' ys' ∙ size ∙ sym (length-minus xs ys)) (λ k h.
    let short : k < length xs = omega (arith, h, length-minus xs' ys', size) in
    bit-minus xs' ys' k (omega (arith, short, size))
    ∙ elim (cases_eq k i) [
      | inl here ↦ ap (λ (j : ℕ). bit xs' j && not (bit ys' j)) here ∙ here_same ∙ ap (λ (j : ℕ). bit xs j && not (bit ys j)) (sym here)
      | inr other ↦ ap (λ (b : Bool). b && not (bit ys' k)) (others k other) ∙ ap (λ (b : Bool). bit xs k && not b) (others' k other)
    ]
    ∙ sym (bit-minus xs ys k short))
