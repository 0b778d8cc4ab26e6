-- How many transforms there are, by a list of which there are, and whether one is free.
use Rattle.std.proofs.Common.{◌≡◌, ◌∙◌, ◌≢◌, ℕ, zero, suc, ◌+◌, ◌-◌, ◌<◌, Bool, true, false, List, [], ◌∷◌, length, Some, None, is_some, refl, arith}
use Rattle.std.proofs.lemmas.Bool.{false≢true}
use Rattle.std.proofs.lemmas.List.{get_or-set_same, get_or-set_other}
use Rattle.std.proofs.lemmas.List.Quantifiers.{position-Some}
use Rattle.std.proofs.lemmas.List.Sums.{count_by-le-length, sum_by-cons, sum_by-set, sum_by_push}
use Rattle.std.specs.Prelude.{◌&&◌, if◌then◌else◌, nat_le, nat_lt, not, slice_index_or, slice_set}
use Rattle.std.specs.List.{position, position_or_len}
use Rattle.mps_model.specs.Graph.{with_last}
use Rattle.mps_refinement.specs.Transforms.{live_count}

abbrev one_if : Bool → ℕ
one_if b = if b then 1 else 0

-- ---- whether one is free

fewer : (live : List Bool) → position_or_len not live < length live → live_count live < length live
fewer [] low = absurd (omega (arith, low))
fewer (true ∷ live) low =
    let less = fewer live (omega (arith, low)) in let e = sum_by-cons one_if true live in omega (arith, less, e)
fewer (false ∷ live) low =
    let most = count_by-le-length (λ (b : Bool). b) live in let e = sum_by-cons one_if false live in omega (arith, most, e)

free : (live : List Bool) → live_count live < length live → position_or_len not live < length live
free [] low = absurd (omega (arith, low))
free (true ∷ live) low =
    let e = sum_by-cons one_if true live in let less = free live (omega (arith, low, e)) in omega (arith, less)
free (false ∷ live) low = omega arith

some_if : (b : Bool) (n : ℕ) → is_some (if b then Some n else None) ≡ b
some_if true n = refl
some_if false n = refl

-- one is free exactly if fewer than all are there
pub one_free : (live : List Bool) → is_some (position not live) ≡ nat_lt (live_count live) (length live)
one_free live =
    some_if (nat_lt (position_or_len not live) (length live)) (position_or_len not live)
    ∙ same_test (position_or_len not live) (live_count live) (length live) (fewer live) (free live)
  where
    same_test : (a b n : ℕ) → (a < n → b < n) → (b < n → a < n) → nat_lt a n ≡ nat_lt b n
    same_test a b n there back = grind arith

-- one more name and one more transform fit exactly if there are fewer than 16
pub full_at_sixteen : (n : ℕ) → not (nat_lt 0 (16 - n) && nat_lt n 16) ≡ nat_le 16 n
full_at_sixteen n = grind arith

-- ---- one that is free, or there

pub free_is : (live : List Bool) (key : ℕ) → position not live ≡ Some key
    → (key < length live) × (slice_index_or live key false ≡ false)
free_is live key is =
    let p = position-Some not live key false is in (p.0, not_true (slice_index_or live key false) p.1)
  where
    not_true : (b : Bool) → not b ≡ true → b ≡ false
    not_true true e = absurd (false≢true e)
    not_true false e = refl

pub live_within : (live : List Bool) (key : ℕ) → slice_index_or live key false ≡ true → key < length live
live_within [] key there = absurd (false≢true there)
live_within (b ∷ live) zero there = omega arith
live_within (b ∷ live) (suc key) there = let low = live_within live key there in omega (arith, low)

-- ---- another is written

pub count_set : (live : List Bool) (key : ℕ) (b : Bool) → key < length live
    → live_count (slice_set live key b) + one_if (slice_index_or live key false) ≡ live_count live + one_if b
count_set live key b low = sum_by-set one_if live key b false low

pub count_last : (live : List Bool) → live_count (with_last live true) ≡ live_count live + 1
count_last live = sum_by_push one_if live true

pub set_here : (live : List Bool) (key : ℕ) (b : Bool) → key < length live → slice_index_or (slice_set live key b) key false ≡ b
set_here live key b low = get_or-set_same live key b false low

pub set_other : (live : List Bool) (key other : ℕ) (b : Bool) → other ≢ key
    → slice_index_or (slice_set live key b) other false ≡ slice_index_or live other false
set_other live key other b apart = get_or-set_other live key other b false apart
