-- Runs of indexes. One begins where a test passes, and goes on up to the next index, or to that one, where another test passes.
use Rattle.std.specs.Prelude.{ℕ, zero, suc, ◌+◌, ◌<◌, ◌≡◌, ◌==◌, ◌||◌, ◌&&◌, Bool, true, false, not, List, refl}
use Rattle.std.specs.Int.{bit_at}
use Rattle.mps_bits.specs.Row.{bit_in}
use Rattle.mps_bits.specs.Table.{bit}

-- whether a run goes on after the `n` lowest indexes, where it is known whether one does before them
unfoldable pub goes_on : Bool → (begins ends : ℕ → Bool) → ℕ → Bool
goes_on first begins ends zero = first
goes_on first begins ends (suc n) = (begins n || goes_on first begins ends n) && not (ends n)

-- whether an index lies in a run
abbrev pub in_run : Bool → (begins ends : ℕ → Bool) → ℕ → Bool
in_run first begins ends n = begins n || goes_on first begins ends n

-- no run begins where another goes on, at the `n` lowest indexes
abbrev pub AreRunsApart : Bool → (begins ends : ℕ → Bool) → ℕ → Type 0
AreRunsApart first begins ends n = (i : ℕ) → i < n → begins i ≡ true → goes_on first begins ends i ≡ false

-- whether a bit of a number is set
abbrev pub is_one : ℕ → ℕ → Bool
is_one word i = bit_at word i == 1

-- whether a bit of a row is set, from an index on
abbrev pub is_one_in : List ℕ → ℕ → ℕ → Bool
is_one_in words from i = bit_in words (from + i) == 1

-- whether a bit of one row is set and not in another
abbrev pub is_one_unless : (words others : List ℕ) → ℕ → ℕ → Bool
is_one_unless words others from i = (bit_in words (from + i) == 1) && not (bit_in others (from + i) == 1)

-- the same of tables
abbrev pub is_set_from : List Bool → ℕ → ℕ → Bool
is_set_from bits from i = bit bits (from + i)

abbrev pub is_set_unless : (bits others : List Bool) → ℕ → ℕ → Bool
is_set_unless bits others from i = bit bits (from + i) && not (bit others (from + i))

-- ---- examples: a run of the indexes 1 to 3, and one of the index 4

begins_there : ℕ → Bool
begins_there n = (n == 1) || (n == 4)

ends_there : ℕ → Bool
ends_there n = (n == 3) || (n == 4)

none_before : in_run false begins_there ends_there 0 ≡ false
unfolding goes_on begins_there ends_there
none_before = refl

inside_the_first : in_run false begins_there ends_there 2 ≡ true
unfolding goes_on begins_there ends_there
inside_the_first = refl

its_last : in_run false begins_there ends_there 3 ≡ true
unfolding goes_on begins_there ends_there
its_last = refl

none_after : in_run false begins_there ends_there 5 ≡ false
unfolding goes_on begins_there ends_there
none_after = refl
