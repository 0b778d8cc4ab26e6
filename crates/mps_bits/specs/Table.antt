-- A table of bits as a list of booleans.
use Rattle.std.specs.Prelude.{◌≡◌, refl, ℕ, zero, suc, ◌+◌, ◌-◌, Bool, true, false, not, List, [], ◌∷◌, ◌++◌, Option, Some, None, length, take, drop, replicate, map, count_by, slice_range, slice_index_or, ◌==◌, if◌then◌else◌}
use Rattle.std.specs.List.{range_with_len, list_all}
use Rattle.mps_bits.specs.Row.{bit_in}

-- the first `len` bits of words in a row
unfoldable pub table_of : List ℕ → ℕ → List Bool
table_of words len = map (λ i. bit_in words i == 1) (range_with_len 0 len)

-- the bit at an index; past the end it is clear
unfoldable pub bit : List Bool → ℕ → Bool
bit bits at = slice_index_or bits at false

-- the table with one value at the indexes from `from` up to `to`
unfoldable pub with_range : List Bool → ℕ → ℕ → Bool → List Bool
with_range bits from to value = take from bits ++ replicate (to - from) value ++ drop to bits

-- the lowest of the `n` indexes from `from` on that passes a test
unfoldable pub lowest_from : (ℕ → Bool) → ℕ → ℕ → Option ℕ
lowest_from p from zero = None
lowest_from p from (suc n) = if p from then Some from else lowest_from p (suc from) n

-- the highest of the `n` lowest indexes that passes a test
unfoldable pub highest_below : (ℕ → Bool) → ℕ → Option ℕ
highest_below p zero = None
highest_below p (suc n) = if p n then Some n else highest_below p n

-- the lowest set bit at or above an index
unfoldable pub next_set : List Bool → ℕ → Option ℕ
next_set bits from = lowest_from (bit bits) from (length bits - from)

-- the lowest set bit from `from` up to `to`
unfoldable pub next_set_below : List Bool → ℕ → ℕ → Option ℕ
next_set_below bits from to = lowest_from (bit bits) from (to - from)

-- the highest set bit at or below an index
unfoldable pub previous_set : List Bool → ℕ → Option ℕ
previous_set bits at = highest_below (bit bits) (at + 1)

-- the `n` bits from an index on are clear
unfoldable pub is_clear_run : List Bool → ℕ → ℕ → Bool
is_clear_run bits from n = list_all not (slice_range bits from (from + n))

-- the lowest run of `n` clear bits from `from` up to `to`
unfoldable pub lowest_clear_run : List Bool → ℕ → ℕ → ℕ → Option ℕ
lowest_clear_run bits from to n = lowest_from (λ p. is_clear_run bits p n) from (to + 1 - (from + n))

-- how many bits are set from `from` up to `to`
unfoldable pub count_set : List Bool → ℕ → ℕ → ℕ
count_set bits from to = count_by (λ b. b) (slice_range bits from to)

-- ---- examples

-- clear, set, clear, clear, set
sample : List Bool
sample = false ∷ true ∷ false ∷ false ∷ true ∷ []

two_words : table_of (2 ∷ 1 ∷ []) 66 ≡ false ∷ true ∷ replicate 62 false ++ true ∷ false ∷ []
unfolding table_of bit_in
two_words = refl

written_inside : with_range sample 1 3 true ≡ false ∷ true ∷ true ∷ false ∷ true ∷ []
unfolding with_range sample
written_inside = refl

next_is_itself : next_set sample 1 ≡ Some 1
unfolding next_set lowest_from bit sample
next_is_itself = refl

next_is_last : next_set sample 2 ≡ Some 4
unfolding next_set lowest_from bit sample
next_is_last = refl

next_is_none : next_set sample 5 ≡ None
unfolding next_set lowest_from bit sample
next_is_none = refl

next_is_past_the_bound : next_set_below sample 2 4 ≡ None
unfolding next_set_below lowest_from bit sample
next_is_past_the_bound = refl

previous_is_itself : previous_set sample 4 ≡ Some 4
unfolding previous_set highest_below bit sample
previous_is_itself = refl

previous_is_first : previous_set sample 3 ≡ Some 1
unfolding previous_set highest_below bit sample
previous_is_first = refl

previous_is_none : previous_set sample 0 ≡ None
unfolding previous_set highest_below bit sample
previous_is_none = refl

run_fits : lowest_clear_run sample 0 4 2 ≡ Some 2
unfolding lowest_clear_run lowest_from is_clear_run sample
run_fits = refl

run_ends_at_the_bound : lowest_clear_run sample 1 3 2 ≡ None
unfolding lowest_clear_run lowest_from is_clear_run sample
run_ends_at_the_bound = refl

count_of_two : count_set sample 1 5 ≡ 2
unfolding count_set sample
count_of_two = refl
