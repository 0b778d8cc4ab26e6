-- What a caller sees of a heap's pools.
use Rattle.std.specs.Prelude.{ℕ, ◌≡◌, Option, Some, None, List, [], ◌∷◌, ◌++◌, length, map, get_or, refl}
use Rattle.mps_base.specs.declared.names.Kind.TheVariants.{Amc}
use Rattle.mps_seg.specs.Buffer.{empty_buffer}
use Rattle.mps_amc.specs.Amc.{AmcState, tail_of}
use Rattle.mps_amc.specs.Amc as amc
use Rattle.mps_format.specs.Pools.{policy_of_pool, size_of_pool}
use Rattle.mps_gen.specs.State.{ChainsState, chain_of, no_chains}
use Rattle.mps_trace.specs.Trace.{TraceState}
use Rattle.mps_format.specs.declared.pool.Pool.{Pool}
use Rattle.mps_format.specs.declared.pool.Pool.TheVariants as pool

-- the chains with one pool more, on one of them or on none
abbrev pub with_pool_on : ChainsState → (chain : Option ℕ) → ChainsState
with_pool_on c chain = record c { of_pool = c.of_pool ++ chain ∷ [] }

-- the chains with one more, whose generations have these capacities
abbrev pub with_chain : ChainsState → (capacities : List ℕ) → ChainsState
with_chain c capacities = record c { chains = c.chains ++ capacities ∷ [] }

-- how many tails a pool on a chain has: one for each generation of the chain, and one if it is on none
abbrev pub tails_on : ChainsState → (chain : Option ℕ) → ℕ
tails_on c None = 1
tails_on c (Some chain) = length (get_or c.chains chain [])

-- the pools by their numbers, the size of each one's blocks, 0 if it has blocks of any sizes or is automatic, the chains with the pools
-- that are on them, and the tails to which a collection moves blocks
pub record PoolsState (F : Type 0) : Type 0 where
  pub pools : List (Pool F)
  pub sizes : List ℕ
  pub chains : ChainsState
  pub tails : AmcState

module _ {F : Type 0} where
  abbrev pub none_made : PoolsState F
  none_made = record { pools = []; sizes = []; chains = no_chains; tails = amc.no_pools }

  -- one pool more, after all others and on a chain or on none, with its empty tails
  abbrev pub with_one_more : PoolsState F → Pool F → (chain : Option ℕ) → PoolsState F
  with_one_more s p chain = record {
    pools = s.pools ++ p ∷ [];
    sizes = s.sizes ++ size_of_pool p ∷ [];
    chains = with_pool_on s.chains chain;
    tails = amc.with_pool s.tails (tails_on s.chains chain);
  }

  -- what a collector knows of pools with these chains and tails: their policies, beside both
  abbrev pub trace_of : List (Pool F) → ChainsState → AmcState → TraceState F
  trace_of pools chains tails = record { formats = map policy_of_pool pools; amc = tails; chains = chains }

-- ---- vectors

pub a_new_pool_is_on_its_chain : chain_of (with_pool_on (record { chains = (4 ∷ []) ∷ []; of_pool = None ∷ [] }) (Some 0)) 1 ≡ Some 0
a_new_pool_is_on_its_chain = refl

pub a_pool_has_its_size : (with_one_more {F = ℕ} none_made (pool.OneSize 4) None).sizes ≡ 4 ∷ []
a_pool_has_its_size = refl

pub pools_stand_in_their_order : (with_one_more {F = ℕ} (with_one_more none_made pool.AnySize None) (pool.OneSize 4) None).pools
    ≡ pool.AnySize ∷ pool.OneSize 4 ∷ []
pools_stand_in_their_order = refl

pub a_pool_has_an_empty_tail : tail_of (with_one_more {F = ℕ} none_made pool.AnySize None).tails 0 0 ≡ empty_buffer
a_pool_has_an_empty_tail = refl

pub a_manual_pool_has_no_policy : (trace_of {F = ℕ} (pool.AnySize ∷ []) no_chains amc.no_pools).formats ≡ None ∷ []
a_manual_pool_has_no_policy = refl

pub a_pool_is_on_no_chain : (with_one_more {F = ℕ} none_made pool.AnySize None).chains.of_pool ≡ None ∷ []
a_pool_is_on_no_chain = refl

-- a chain of three generations
abbrev a_chain_made : PoolsState ℕ
a_chain_made = record none_made { chains = with_chain no_chains (4 ∷ 8 ∷ 16 ∷ []) }

pub a_tail_for_each_generation : (with_one_more a_chain_made (pool.Automatic Amc 1) (Some 0)).tails.tails
    ≡ (empty_buffer ∷ empty_buffer ∷ empty_buffer ∷ []) ∷ []
a_tail_for_each_generation = refl

pub a_pool_beside_the_chain_has_one_tail : (with_one_more a_chain_made (pool.Automatic Amc 1) None).tails.tails
    ≡ (empty_buffer ∷ []) ∷ []
a_pool_beside_the_chain_has_one_tail = refl
