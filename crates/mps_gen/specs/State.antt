-- What a caller sees of the chains, and the results of their calls.
use Rattle.std.specs.Prelude.{ℕ, ◌≡◌, ◌==◌, Bool, true, false, Option, Some, None, List, [], ◌∷◌, length, slice_get, refl}
use Rattle.std.specs.Option.{option_map, option_map_or, option_and_then}
use Rattle.mps_base.specs.Generation.{Load, Due, due_generation, target_generation}

-- the most chains, the most generations of one, and the most pools
abbrev pub max_chains : ℕ
max_chains = 16

abbrev pub max_generations : ℕ
max_generations = 8

abbrev pub max_pools : ℕ
max_pools = 64

-- The capacities of the generations of each chain, in grains, and the chain of each pool, if it is on one. Both stand in the
-- order of making, so that a chain and a pool are known by their numbers.
pub record ChainsState : Type 0 where
  pub chains : List (List ℕ)
  pub of_pool : List (Option ℕ)

abbrev pub no_chains : ChainsState
no_chains = record { chains = []; of_pool = [] }

-- the chain of a pool, if it is on one
abbrev pub chain_of : ChainsState → (pool : ℕ) → Option ℕ
chain_of c pool = option_and_then (λ chain. chain) (slice_get c.of_pool pool)

-- whether a pool is on a chain
abbrev pub is_on_chain : ChainsState → (chain pool : ℕ) → Bool
is_on_chain c chain pool = option_map_or (λ on. on == chain) (chain_of c pool) false

-- how many generations the chain of a pool has, if it is on one
abbrev pub generations_of : ChainsState → (pool : ℕ) → Option ℕ
generations_of c pool = option_map length (option_and_then (slice_get c.chains) (chain_of c pool))

-- what the chains hold, if `held` has the grains of each generation of each chain
abbrev pub loads : (chains held : List (List ℕ)) → List Load
loads [] held = []
loads (capacities ∷ cs) [] = []
loads (capacities ∷ cs) (grains ∷ hs) = record { capacities = capacities; held = grains } ∷ loads cs hs

-- the generation that is due, if the generations of the chains hold these grains
abbrev pub due_in : ChainsState → (held : List (List ℕ)) → Option Due
due_in c held = due_generation (loads c.chains held)

-- a chain of two generations and one of one, a pool on the first and a pool on none
abbrev example : ChainsState
example = record { chains = (4 ∷ 8 ∷ []) ∷ (2 ∷ []) ∷ []; of_pool = Some 0 ∷ None ∷ [] }

pub survivors_go_to_the_second : target_generation (generations_of example 0) 0 ≡ 1
survivors_go_to_the_second = refl

pub without_a_chain_they_stay : target_generation (generations_of example 1) 3 ≡ 0
without_a_chain_they_stay = refl

pub a_pool_is_on_its_chain : is_on_chain example 0 0 ≡ true
a_pool_is_on_its_chain = refl

pub and_on_no_other : is_on_chain example 1 0 ≡ false
and_on_no_other = refl

pub a_pool_on_no_chain_is_on_none : is_on_chain example 0 1 ≡ false
a_pool_on_no_chain_is_on_none = refl

pub a_pool_that_is_not_made_is_on_none : is_on_chain example 0 2 ≡ false
a_pool_that_is_not_made_is_on_none = refl

pub none_is_over : due_in example ((4 ∷ 8 ∷ []) ∷ (2 ∷ 9 ∷ []) ∷ []) ≡ None
none_is_over = refl

pub the_first_chain_is_first : due_in example ((5 ∷ 0 ∷ []) ∷ (3 ∷ []) ∷ []) ≡ Some (record { chain = 0; generation = 0 })
the_first_chain_is_first = refl
