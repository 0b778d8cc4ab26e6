-- How many grains the generations of the pools hold.
use Rattle.std.specs.Prelude.{ℕ, ◌≡◌, ◌+◌, ◌-◌, ◌*◌, ◌==◌, ◌&&◌, nat_lt, if◌then◌else◌, Bool, true, List, [], ◌∷◌, length, filter, sum_by, replicate, slice_index, slice_set, refl}
use Rattle.std.proofs.Common.{arith}
use Rattle.mps_base.specs.Segment.{Segment, with_segment, without_segment}
use Rattle.mps_base.specs.declared.names.Rank.TheVariants.{Exact, Weak}
use Rattle.mps_gen.specs.State.{max_pools, max_generations}

-- whether a segment is of a generation of a pool
abbrev pub is_of : (pool generation : ℕ) → Segment → Bool
is_of pool generation s = s.pool == pool && s.generation == generation

-- how many grains a generation of a pool holds
abbrev pub grains_held_by : (pool generation : ℕ) → List Segment → ℕ
grains_held_by pool generation ss = sum_by (λ s. s.grains) (filter (is_of pool generation) ss)

-- ---- the table of these numbers: eight for each of 64 pools

abbrev pub counts_in_all : ℕ
counts_in_all = max_generations * max_pools

-- whether the table has a number for a generation of a pool
abbrev pub is_counted : (pool generation : ℕ) → Bool
is_counted pool generation = nat_lt pool max_pools && nat_lt generation max_generations

-- where it stands
abbrev pub index_for : (pool generation : ℕ) → ℕ
index_for pool generation = max_generations * pool + generation

-- a generation of a pool holds more grains
abbrev pub counting_on : (pool generation grains : ℕ) → List ℕ → List ℕ
counting_on pool generation grains counts =
    if is_counted pool generation
    then slice_set counts (index_for pool generation) (slice_index counts (index_for pool generation) + grains) else counts

-- it holds fewer
abbrev pub counting_off : (pool generation grains : ℕ) → List ℕ → List ℕ
counting_off pool generation grains counts =
    if is_counted pool generation
    then slice_set counts (index_for pool generation) (slice_index counts (index_for pool generation) - grains) else counts

-- the table has what each generation of each pool holds
pub record IsCounted (counts : List ℕ) (segments : List Segment) : Type 0 where
  pub size : length counts ≡ counts_in_all
  pub each : (pool generation : ℕ) → is_counted pool generation ≡ true
      → slice_index counts (index_for pool generation) ≡ grains_held_by pool generation segments

-- ---- vectors: two segments of a generation of pool 1, one of another generation of it, and one of another pool

abbrev example : List Segment
example =
    record { base = 0x1000; grains = 2; pool = 1; generation = 0; rank = Exact }
    ∷ record { base = 0x3000; grains = 5; pool = 1; generation = 3; rank = Exact }
    ∷ record { base = 0x8000; grains = 1; pool = 1; generation = 0; rank = Weak }
    ∷ record { base = 0x9000; grains = 4; pool = 2; generation = 0; rank = Exact } ∷ []

pub segments_of_both_ranks_count : grains_held_by 1 0 example ≡ 3
segments_of_both_ranks_count = refl

pub another_generation_has_its_own : grains_held_by 1 3 example ≡ 5
another_generation_has_its_own = refl

pub a_pool_without_segments_holds_nothing : grains_held_by 0 0 example ≡ 0
a_pool_without_segments_holds_nothing = refl

abbrev one_more : Segment
one_more = record { base = 0x7000; grains = 1; pool = 2; generation = 0; rank = Exact }

pub a_segment_more : grains_held_by 2 0 (with_segment one_more example) ≡ 5
a_segment_more = refl

pub a_segment_fewer : grains_held_by 1 0 (without_segment example 0x1000) ≡ 1
a_segment_fewer = refl

pub the_next_pool_follows_the_oldest_generation : index_for 1 0 ≡ index_for 0 7 + 1
the_next_pool_follows_the_oldest_generation = refl

pub the_last_of_the_table : index_for 63 7 + 1 ≡ counts_in_all
the_last_of_the_table = refl

pub a_pool_past_the_table : counting_on 64 0 5 (1 ∷ []) ≡ 1 ∷ []
a_pool_past_the_table = refl

-- an empty table of grains that are held
pub grains_that_are_not_counted : IsCounted (replicate counts_in_all 0) example → ⊥
grains_that_are_not_counted counted =
    let e : 0 ≡ 3 = counted.each 1 0 refl in
    omega (arith, e)
