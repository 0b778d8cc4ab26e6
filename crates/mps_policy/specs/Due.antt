-- What the generations of each chain hold, and which generation is due.
use Rattle.std.specs.Prelude.{ℕ, ◌≡◌, zero, suc, ◌+◌, ◌==◌, ◌&&◌, Bool, Option, Some, None, List, [], ◌∷◌, length, filter, sum_by, refl}
use Rattle.mps_base.specs.Generation.{Load, Due, due_generation}
use Rattle.mps_base.specs.Segment.{Segment}
use Rattle.mps_base.specs.declared.names.Rank.TheVariants.{Exact}
use Rattle.mps_gen.specs.State.{ChainsState, is_on_chain}

-- whether a segment is of a generation of a chain
abbrev pub is_of_generation : ChainsState → (chain generation : ℕ) → Segment → Bool
is_of_generation c chain generation s = is_on_chain c chain s.pool && s.generation == generation

-- the grains that a generation of a chain holds
abbrev pub held_by_generation : ChainsState → List Segment → (chain generation : ℕ) → ℕ
held_by_generation c ss chain generation = sum_by (λ s. s.grains) (filter (is_of_generation c chain generation) ss)

-- the grains that n generations hold, from this one on
abbrev pub held_by_generations : ChainsState → List Segment → (chain generation count : ℕ) → List ℕ
held_by_generations c ss chain generation zero = []
held_by_generations c ss chain generation (suc count) =
    held_by_generation c ss chain generation ∷ held_by_generations c ss chain (generation + 1) count

-- what chains hold, from this number on
abbrev pub loads_from : ChainsState → List Segment → (chain : ℕ) → List (List ℕ) → List Load
loads_from c ss chain [] = []
loads_from c ss chain (capacities ∷ more) =
    record { capacities = capacities; held = held_by_generations c ss chain 0 (length capacities) } ∷ loads_from c ss (chain + 1) more

-- the generation that is due: of the first chain with one that holds more than its capacity, the greatest such one
abbrev pub due_now : ChainsState → List Segment → Option Due
due_now c ss = due_generation (loads_from c ss 0 c.chains)

-- ---- vectors: a chain of two generations, on which are pools 0 and 2, and a pool on none

abbrev two_generations : ChainsState
two_generations = record { chains = (3 ∷ 8 ∷ []) ∷ []; of_pool = Some 0 ∷ None ∷ Some 0 ∷ [] }

abbrev segment : (base grains pool generation : ℕ) → Segment
segment base grains pool generation = record { base = base; grains = grains; pool = pool; generation = generation; rank = Exact }

abbrev held : List Segment
held = segment 0x1000 2 0 0 ∷ segment 0x3000 9 1 0 ∷ segment 0xc000 1 2 0 ∷ segment 0xd000 4 2 1 ∷ []

pub the_pools_of_a_chain_count_together : held_by_generation two_generations held 0 0 ≡ 3
the_pools_of_a_chain_count_together = refl

pub a_full_generation_is_not_due : due_now two_generations held ≡ None
a_full_generation_is_not_due = refl

pub one_grain_more_is_due : due_now two_generations (segment 0x11000 1 0 0 ∷ held) ≡ Some (record { chain = 0; generation = 0 })
one_grain_more_is_due = refl

pub a_pool_on_no_chain_makes_none_due : due_now two_generations (segment 0x11000 90 1 0 ∷ held) ≡ None
a_pool_on_no_chain_makes_none_due = refl

pub the_greatest_one_over : due_now two_generations (segment 0x11000 5 0 1 ∷ segment 0x12000 1 0 0 ∷ held)
    ≡ Some (record { chain = 0; generation = 1 })
the_greatest_one_over = refl
