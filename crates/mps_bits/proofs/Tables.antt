-- The table of a row of words: its bits, and the answers of the searches.
use Rattle.std.proofs.Common.{ℕ, ◌+◌, ◌-◌, ◌<◌, ◌≤◌, ◌≡◌, ◌≢◌, ◌⊎◌, Bool, true, false, cond, eqb, List, length, get_or, set, replicate, Option, Some, None, MatchOption, sym, ap, ◌∙◌, inl, inr, arith, length-set, get_or-set_same, get_or-set_other}
use Rattle.std.proofs.lemmas.Bool.{cases_lt, cases_eq, eq-eqb, ne_eqb, eqb-false, false_from_ne_true}
use Rattle.std.specs.List.{count_by}
use Rattle.std.proofs.lemmas.List.{same_lists, length-replicate, get_or-replicate, take_all}
use Rattle.std.proofs.lemmas.List.FromFn.{length-map-range_with_len, get_or-map-range_with_len}
use Rattle.mps_bits.specs.Row.{bit_in, sum_over, IsClear, IsLowestSet, IsHighestSet, IsLowestRun}
use Rattle.mps_bits.specs.Table.{table_of, bit, with_range, next_set, next_set_below, previous_set, is_clear_run, lowest_clear_run, count_set}
use Rattle.mps_bits.proofs.Searches.{lowest_from_is, lowest_from_none, highest_below_is, highest_below_none}
use Rattle.mps_bits.proofs.Ranges.{length-with_range, with_range_inside, with_range_outside, clear_run_from, clear_run_at, count_slice}
use Rattle.mps_bits.proofs.Row.{bit_in-lt, sum_over_same}

pub length-table_of : (words : List ℕ) (len : ℕ) → length (table_of words len) ≡ len
unfolding table_of
length-table_of words len = length-map-range_with_len (λ i. eqb (bit_in words i) 1) 0 len

pub get_or-table_of : (words : List ℕ) (len i : ℕ) (d : Bool) → i < len → get_or (table_of words len) i d ≡ eqb (bit_in words i) 1
unfolding table_of
get_or-table_of words len i d within = get_or-map-range_with_len (λ i. eqb (bit_in words i) 1) 0 len i i d within (omega arith)

pub bit-table_of : (words : List ℕ) (len i : ℕ) → i < len → bit (table_of words len) i ≡ eqb (bit_in words i) 1
unfolding bit
bit-table_of words len i within = get_or-table_of words len i false within

set_bit : (words : List ℕ) (len i : ℕ) → i < len → bit_in words i ≡ 1 → bit (table_of words len) i ≡ true
set_bit words len i within is = bit-table_of words len i within ∙ eq-eqb (bit_in words i) 1 is

clear_bit : (words : List ℕ) (len i : ℕ) → i < len → bit_in words i ≡ 0 → bit (table_of words len) i ≡ false
clear_bit words len i within is = bit-table_of words len i within ∙ ne_eqb (bit_in words i) 1 (λ e. omega arith)

-- the test of a bit that was written
bit_written : (word : ℕ) (value : Bool) → word ≡ cond value 1 0 → eqb word 1 ≡ value
bit_written word true is = eq-eqb word 1 is
bit_written word false is = ne_eqb word 1 (λ e. omega (arith, is))

pub table_new : (words : List ℕ) (len : ℕ) → ((i : ℕ) → i < len → bit_in words i ≡ 0) → table_of words len ≡ replicate len false
table_new words len clear =
    same_lists (table_of words len) (replicate len false) (length-table_of words len ∙ sym (length-replicate len false)) (λ k d h.
    let within : k < len = omega (arith, h, length-table_of words len) in
    get_or-table_of words len k d within ∙ ne_eqb (bit_in words k) 1 (λ e. omega (arith, clear k within))
    ∙ sym (get_or-replicate len k false d within))

pub table_set : (old new : List ℕ) (len at : ℕ) (value : Bool) → at < len → bit_in new at ≡ cond value 1 0
    → ((i : ℕ) → i ≢ at → bit_in new i ≡ bit_in old i)
    → table_of new len ≡ set (table_of old len) at value
table_set old new len at value within same other =
    let size : length (table_of new len) ≡ length (set (table_of old len) at value) =
    length-table_of new len ∙ sym (length-table_of old len) ∙ sym (length-set (table_of old len) at value)
    in
    same_lists (table_of new len) (set (table_of old len) at value) size (λ k d h.
    let short : k < len = omega (arith, h, length-table_of new len) in
    get_or-table_of new len k d short
    ∙ elim (cases_eq k at) [
      | inl here ↦
          let index : at < length (table_of old len) = omega (arith, within, length-table_of old len) in
          ap (λ (i : ℕ). eqb (bit_in new i) 1) here ∙ bit_written (bit_in new at) value same
          ∙ sym (ap (λ (i : ℕ). get_or (set (table_of old len) at value) i d) here ∙ get_or-set_same (table_of old len) at value d index)
      | inr there ↦
          ap (λ (x : ℕ). eqb x 1) (other k there) ∙ sym (get_or-table_of old len k d short)
          ∙ sym (get_or-set_other (table_of old len) at k value d there)
    ])

pub table_range : (old new : List ℕ) (len from to : ℕ) (value : Bool) → from ≤ to → to ≤ len
    → ((i : ℕ) → from ≤ i → i < to → bit_in new i ≡ cond value 1 0)
    → ((i : ℕ) → (i < from) ⊎ (to ≤ i) → bit_in new i ≡ bit_in old i) → table_of new len ≡ with_range (table_of old len) from to value
table_range old new len from to value ordered within inside outside =
    let room : to ≤ length (table_of old len) = omega (arith, within, length-table_of old len) in
    let size : length (table_of new len) ≡ length (with_range (table_of old len) from to value) =
    length-table_of new len ∙ sym (length-table_of old len) ∙ sym (length-with_range (table_of old len) from to value ordered room)
    in
    let kept = λ (k : ℕ) (d : Bool) (short : k < len) (out : (k < from) ⊎ (to ≤ k)).
    let here : eqb (bit_in new k) 1 ≡ get_or (with_range (table_of old len) from to value) k d =
    ap (λ (x : ℕ). eqb x 1) (outside k out) ∙ sym (get_or-table_of old len k d short)
    ∙ sym (with_range_outside (table_of old len) from to value k d ordered room out)
    in here
    in
    same_lists (table_of new len) (with_range (table_of old len) from to value) size (λ k d h.
    let short : k < len = omega (arith, h, length-table_of new len) in
    get_or-table_of new len k d short
    ∙ elim (cases_lt k from) [
      | inl below ↦ kept k d short (inl below)
      | inr above ↦ elim (cases_lt k to) [
        | inl under ↦ bit_written (bit_in new k) value (inside k above under)
            ∙ sym (with_range_inside (table_of old len) from to value k d ordered room above under)
        | inr past ↦ kept k d short (inr past)
      ]
    ])

-- a range of which the last bit alone is set
pub table_ended : (old new : List ℕ) (len from to : ℕ) → from < to → to ≤ len → bit_in new (to - 1) ≡ 1
    → ((i : ℕ) → from ≤ i → i < to - 1 → bit_in new i ≡ 0)
    → ((i : ℕ) → (i < from) ⊎ (to ≤ i) → bit_in new i ≡ bit_in old i)
    → table_of new len ≡ set (with_range (table_of old len) from to false) (to - 1) true
table_ended old new len from to some within last others outside =
    let ordered : from ≤ to = omega arith in
    let room : to ≤ length (table_of old len) = omega (arith, within, length-table_of old len) in
    let cleared = with_range (table_of old len) from to false in
    let ranged : length cleared ≡ len = length-with_range (table_of old len) from to false ordered room ∙ length-table_of old len in
    let size : length (table_of new len) ≡ length (set cleared (to - 1) true) =
    length-table_of new len ∙ sym ranged ∙ sym (length-set cleared (to - 1) true)
    in
    let kept = λ (k : ℕ) (d : Bool) (short : k < len) (out : (k < from) ⊎ (to ≤ k)) (other : k ≢ to - 1).
    let here : eqb (bit_in new k) 1 ≡ get_or (set cleared (to - 1) true) k d =
    ap (λ (x : ℕ). eqb x 1) (outside k out) ∙ sym (get_or-table_of old len k d short)
    ∙ sym (with_range_outside (table_of old len) from to false k d ordered room out)
    ∙ sym (get_or-set_other cleared (to - 1) k true d other)
    in here
    in
    same_lists (table_of new len) (set cleared (to - 1) true) size (λ k d h.
    let short : k < len = omega (arith, h, length-table_of new len) in
    get_or-table_of new len k d short
    ∙ elim (cases_eq k (to - 1)) [
      | inl here ↦
          ap (λ (i : ℕ). eqb (bit_in new i) 1) here ∙ bit_written (bit_in new (to - 1)) true last
          ∙ sym (ap (λ (i : ℕ). get_or (set cleared (to - 1) true) i d) here
          ∙ get_or-set_same cleared (to - 1) true d (omega (arith, ranged)))
      | inr there ↦ elim (cases_lt k from) [
        | inl below ↦ kept k d short (inl below) there
        | inr above ↦ elim (cases_lt k to) [
          | inl under ↦
              bit_written (bit_in new k) false (others k above (omega (arith, there)))
              ∙ sym (with_range_inside (table_of old len) from to false k d ordered room above under)
              ∙ sym (get_or-set_other cleared (to - 1) k true d there)
          | inr past ↦ kept k d short (inr past) there
        ]
      ]
    ])

-- ---- searches

pub next_set_is : (words : List ℕ) (len from : ℕ) (r : Option ℕ)
    → MatchOption r (IsClear words from len) (λ p. IsLowestSet words from len p) → r ≡ next_set (table_of words len) from
unfolding next_set
next_set_is words len from None clear =
    sym (lowest_from_none (bit (table_of words len)) from (length (table_of words len) - from) (λ i above below.
    let within : i < len = omega (arith, below, length-table_of words len) in
    clear_bit words len i within (clear i above within)))
next_set_is words len from (Some p) is =
    sym (lowest_from_is (bit (table_of words len)) from (length (table_of words len) - from) p (record {
      above = is.above;
      below = omega (arith, is.above, is.below, length-table_of words len);
      passes = set_bit words len p is.below is.set;
      lower = λ i above below. clear_bit words len i (omega (arith, below, is.below)) (is.lower i above below);
    }))

pub next_set_below_is : (words : List ℕ) (len from to : ℕ) (r : Option ℕ) → to ≤ len
    → MatchOption r (IsClear words from to) (λ p. IsLowestSet words from to p) → r ≡ next_set_below (table_of words len) from to
unfolding next_set_below
next_set_below_is words len from to None within clear =
    sym (lowest_from_none (bit (table_of words len)) from (to - from) (λ i above below.
    let inside : i < to = omega arith in
    clear_bit words len i (omega arith) (clear i above inside)))
next_set_below_is words len from to (Some p) within is =
    sym (lowest_from_is (bit (table_of words len)) from (to - from) p (record {
      above = is.above;
      below = omega (arith, is.above, is.below);
      passes = set_bit words len p (omega (arith, is.below)) is.set;
      lower = λ i above below. clear_bit words len i (omega (arith, below, is.below)) (is.lower i above below);
    }))

pub previous_set_is : (words : List ℕ) (len at : ℕ) (r : Option ℕ) → at < len
    → MatchOption r (IsClear words 0 (at + 1)) (λ p. IsHighestSet words (at + 1) p) → r ≡ previous_set (table_of words len) at
unfolding previous_set
previous_set_is words len at None within clear =
    sym (highest_below_none (bit (table_of words len)) (at + 1)
    (λ i below. clear_bit words len i (omega arith) (clear i (omega arith) below)))
previous_set_is words len at (Some p) within is =
    sym (highest_below_is (bit (table_of words len)) (at + 1) p (record {
      below = is.below;
      passes = set_bit words len p (omega (arith, is.below)) is.set;
      higher = λ i above below. clear_bit words len i (omega arith) (is.higher i (omega arith) below);
    }))

-- a clear run of the row is one of the table
run_is_clear : (words : List ℕ) (len p n : ℕ) → p + n ≤ len → IsClear words p (p + n) → is_clear_run (table_of words len) p n ≡ true
run_is_clear words len p n within clear =
    clear_run_from (table_of words len) p n (λ i above below. clear_bit words len i (omega arith) (clear i above below))

run_was_clear : (words : List ℕ) (len p n : ℕ) → p + n ≤ len → is_clear_run (table_of words len) p n ≡ true → IsClear words p (p + n)
run_was_clear words len p n within all i above below =
    let tested : eqb (bit_in words i) 1 ≡ false =
    sym (bit-table_of words len i (omega arith)) ∙ clear_run_at (table_of words len) p n all i above below
    in
    omega (arith, eqb-false (bit_in words i) 1 tested, bit_in-lt words i)

no_run : (words : List ℕ) (len p n : ℕ) → p + n ≤ len → ¬ IsClear words p (p + n) → is_clear_run (table_of words len) p n ≡ false
no_run words len p n within none =
    false_from_ne_true (is_clear_run (table_of words len) p n) (λ all. none (run_was_clear words len p n within all))

pub lowest_clear_run_is : (words : List ℕ) (len from to n : ℕ) (r : Option ℕ) → to ≤ len
    → MatchOption r ((p : ℕ) → from ≤ p → p + n ≤ to → ¬ IsClear words p (p + n)) (λ p. IsLowestRun words from to n p)
    → r ≡ lowest_clear_run (table_of words len) from to n
unfolding lowest_clear_run
lowest_clear_run_is words len from to n None within none =
    sym (lowest_from_none (λ p. is_clear_run (table_of words len) p n) from (to + 1 - (from + n)) (λ p above below.
    let inside : p + n ≤ to = omega arith in
    no_run words len p n (omega arith) (none p above inside)))
lowest_clear_run_is words len from to n (Some p) within is =
    sym (lowest_from_is (λ p. is_clear_run (table_of words len) p n) from (to + 1 - (from + n)) p (record {
      above = is.above;
      below = omega (arith, is.above, is.below);
      passes = run_is_clear words len p n (omega (arith, is.below)) is.clear;
      lower = λ q above below. no_run words len q n (omega (arith, is.below)) (is.lower q above below);
    }))

pub count_set_is : (words : List ℕ) (len from to : ℕ) → from ≤ to → to ≤ len
    → sum_over (bit_in words) from (to - from) ≡ count_set (table_of words len) from to
unfolding count_set
count_set_is words len from to ordered within =
    let counted = count_slice (table_of words len) from (to - from) (omega (arith, length-table_of words len)) in
    let same = sum_over_same (λ i. cond (get_or (table_of words len) i false) 1 0) (bit_in words) from from (to - from) (λ i h.
    ap (λ (b : Bool). cond b 1 0) (get_or-table_of words len (from + i) false (omega arith)) ∙ one_or_none words (from + i))
    in
    sym (counted ∙ same)
  where
    one_or_none : (words : List ℕ) (i : ℕ) → cond (eqb (bit_in words i) 1) 1 0 ≡ bit_in words i
    one_or_none words i =
        elim (cases_eq (bit_in words i) 1) [
          | inl one ↦ ap (λ (b : Bool). cond b 1 0) (eq-eqb (bit_in words i) 1 one) ∙ sym one
          | inr other ↦
              let none : bit_in words i ≡ 0 = omega (arith, bit_in-lt words i) in
              ap (λ (b : Bool). cond b 1 0) (ne_eqb (bit_in words i) 1 other) ∙ sym none
        ]

-- how many bits the table of some words has
pub length_of_table : (words : List ℕ) (len : ℕ) (bits : List Bool) → table_of words len ≡ bits → length bits ≡ len
length_of_table words len bits is = ap length (sym is) ∙ length-table_of words len

-- the bit of a table that is seen of some words
pub bit_of_table : (words : List ℕ) (len : ℕ) (bits : List Bool) (i : ℕ) → table_of words len ≡ bits → i < len
    → eqb (bit_in words i) 1 ≡ bit bits i
bit_of_table words len bits i is within = sym (bit-table_of words len i within) ∙ ap (λ (t : List Bool). bit t i) is

-- how many bits of a table are set
pub count_of_table : (words : List ℕ) (len : ℕ) → count_by (λ b. b) (table_of words len) ≡ sum_over (bit_in words) 0 len
unfolding count_set
count_of_table words len =
    let size = length-table_of words len in
    let whole : len - 0 ≡ len = omega arith in
    let all = take_all (len - 0) (table_of words len) (omega (arith, size)) in
    sym (ap (λ (k : ℕ). sum_over (bit_in words) 0 k) (sym whole) ∙ count_set_is words len 0 len (omega arith) (omega arith)
    ∙ ap (λ (bs : List Bool). count_by (λ b. b) bs) all)
