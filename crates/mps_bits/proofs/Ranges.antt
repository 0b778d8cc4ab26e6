-- A table with one value in a range, bit by bit.
use Rattle.std.proofs.Common.{ℕ, zero, suc, ◌+◌, ◌-◌, ◌<◌, ◌≤◌, ◌≡◌, ◌⊎◌, Bool, true, false, not, List, [], ◌∷◌, ◌++◌, length, cond, get_or, take, drop, set, replicate, min, refl, ap, ◌∙◌, inl, inr, arith, length-append, length-drop, drop-cons}
use Rattle.std.specs.List.{slice_range, list_all, count_by}
use Rattle.std.proofs.lemmas.Bool.{cases_lt, cases_Bool, both_ways, and_from, not_from_true, not_from_false}
use Rattle.std.proofs.lemmas.List.Folds.{list_all_at}
use Rattle.std.proofs.lemmas.List.{length-take, get_or_past, length-take-le, length-replicate, get_or_append_left, get_or-append_right, get_or-take, get_or-drop, get_or-replicate}
use Rattle.std.proofs.lemmas.List.Sums.{sum_by-cons}
use Rattle.mps_bits.specs.Row.{sum_over}
use Rattle.mps_bits.specs.Table.{bit, with_range, is_clear_run}

length_up_to_end : (bits : List Bool) (from to : ℕ) (value : Bool) → from ≤ to → to ≤ length bits
    → length (take from bits ++ replicate (to - from) value) ≡ to
length_up_to_end bits from to value ordered within =
    omega (
      arith,
      length-append (take from bits) (replicate (to - from) value),
      length-take-le from bits
          (omega arith),
      length-replicate (to - from) value,
    )

pub length-with_range : (bits : List Bool) (from to : ℕ) (value : Bool) → from ≤ to → to ≤ length bits
    → length (with_range bits from to value) ≡ length bits
unfolding with_range
length-with_range bits from to value ordered within =
    omega (
      arith,
      length-append (take from bits ++ replicate (to - from) value) (drop to bits),
      length_up_to_end bits from to value
          ordered within,
      length-drop to bits,
    )

pub with_range_inside : (bits : List Bool) (from to : ℕ) (value : Bool) (i : ℕ) (d : Bool) → from ≤ to → to ≤ length bits → from ≤ i
    → i < to → get_or (with_range bits from to value) i d ≡ value
unfolding with_range
with_range_inside bits from to value i d ordered within above below =
    get_or_append_left (take from bits ++ replicate (to - from) value) (drop to bits) d i
    (omega (arith, length_up_to_end bits from to value ordered within))
    ∙ get_or-append_right (take from bits) (replicate (to - from) value) from i d (length-take-le from bits (omega arith)) above
    ∙ get_or-replicate (to - from) (i - from) value d (omega arith)

pub with_range_outside : (bits : List Bool) (from to : ℕ) (value : Bool) (i : ℕ) (d : Bool) → from ≤ to → to ≤ length bits
    → (i < from) ⊎ (to ≤ i) → get_or (with_range bits from to value) i d ≡ get_or bits i d
unfolding with_range
with_range_outside bits from to value i d ordered within (inl below) =
    let short : i < length (take from bits) = omega (arith, length-take-le from bits (omega arith)) in
    get_or_append_left (take from bits ++ replicate (to - from) value) (drop to bits) d i
    (omega (arith, length_up_to_end bits from to value ordered within))
    ∙ get_or_append_left (take from bits) (replicate (to - from) value) d i short
    ∙ get_or-take from bits i d below
with_range_outside bits from to value i d ordered within (inr above) =
    let same : to + (i - to) ≡ i = omega arith in
    get_or-append_right (take from bits ++ replicate (to - from) value) (drop to bits) to i d
    (length_up_to_end bits from to value ordered within) above
    ∙ get_or-drop to bits (i - to) d ∙ ap (λ (k : ℕ). get_or bits k d) same

-- ---- clear runs

each_clear : (bits : List Bool) → ((i : ℕ) → i < length bits → get_or bits i false ≡ false) → list_all not bits ≡ true
each_clear [] clear = refl
each_clear (b ∷ bits) clear =
    and_from (not b) (list_all not bits) (not_from_false b (clear 0 (omega arith)))
    (each_clear bits (λ i h. clear (suc i) (omega arith)))

at_slice : (bits : List Bool) (from n i : ℕ) → i < n → get_or (slice_range bits from (from + n)) i false ≡ get_or bits (from + i) false
at_slice bits from n i within =
    get_or-take (from + n - from) (drop from bits) i false (omega arith) ∙ get_or-drop from bits i false

length_of_slice : (bits : List Bool) (from n : ℕ) → length (slice_range bits from (from + n)) ≡ min n (length bits - from)
length_of_slice bits from n =
    let count : from + n - from ≡ n = omega arith in
    length-take (from + n - from) (drop from bits) ∙ ap (λ (k : ℕ). min k (length (drop from bits))) count
    ∙ ap (λ (k : ℕ). min n k) (length-drop from bits)

pub clear_run_from : (bits : List Bool) (from n : ℕ) → ((i : ℕ) → from ≤ i → i < from + n → bit bits i ≡ false)
    → is_clear_run bits from n ≡ true
unfolding is_clear_run bit
clear_run_from bits from n clear =
    each_clear (slice_range bits from (from + n)) (λ i h.
    let within : i < n = omega (arith, h, length_of_slice bits from n) in
    at_slice bits from n i within ∙ clear (from + i) (omega arith) (omega arith))

pub clear_run_at : (bits : List Bool) (from n : ℕ) → is_clear_run bits from n ≡ true → (i : ℕ) → from ≤ i → i < from + n
    → bit bits i ≡ false
unfolding is_clear_run bit
clear_run_at bits from n all i above below =
    let same : from + (i - from) ≡ i = omega arith in
    elim (cases_lt i (length bits)) [
      | inl inside ↦
          elim (cases_Bool (get_or bits i false)) [
            | inl set ↦
                let index : i - from < length (slice_range bits from (from + n)) = omega (arith, length_of_slice bits from n) in
                let here : get_or (slice_range bits from (from + n)) (i - from) false ≡ true =
                at_slice bits from n (i - from) (omega arith) ∙ ap (λ (k : ℕ). get_or bits k false) same ∙ set
                in
                absurd (both_ways (list_all not (slice_range bits from (from + n)))
                (list_all_at not (slice_range bits from (from + n)) (i - from) false index
                (not_from_true (get_or (slice_range bits from (from + n)) (i - from) false) here)) all)
            | inr clear ↦ clear
          ]
      | inr past ↦ get_or_past bits i false past
    ]

-- ---- counts

pub count_slice : (bits : List Bool) (from n : ℕ) → from + n ≤ length bits
    → count_by (λ b. b) (take n (drop from bits)) ≡ sum_over (λ i. cond (get_or bits i false) 1 0) from n
unfolding sum_over
count_slice bits from zero within = refl
count_slice bits from (suc n) within =
    let rest = count_slice bits (suc from) n (omega arith) in
    let first : drop from bits ≡ get_or bits from false ∷ drop (suc from) bits = drop-cons bits from false (omega arith) in
    ap (λ (bs : List Bool). count_by (λ b. b) (take (suc n) bs)) first
    ∙ sum_by-cons (λ b. cond b 1 0) (get_or bits from false) (take n (drop (suc from) bits))
    ∙ ap (λ (k : ℕ). cond (get_or bits from false) 1 0 + k) rest
