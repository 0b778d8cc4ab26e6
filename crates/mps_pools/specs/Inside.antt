-- What is true of pools and of what the collector knows of them.
use Rattle.std.specs.Prelude.{ℕ, ◌≡◌, ◌<◌, List, [], ◌∷◌, length, map, refl}
use Rattle.mps_base.specs.Generation.{target_generation}
use Rattle.mps_amc.specs.Amc.{AmcState, HasTail}
use Rattle.mps_gen.specs.State.{generations_of}
use Rattle.mps_seg.specs.Buffer.{empty_buffer}
use Rattle.mps_trace.specs.Trace.{TraceState}
use Rattle.mps_format.specs.Pools.{policy_of_pool}
use Rattle.mps_format.specs.declared.pool.Pool.{Pool}

-- how many generations have a tail, by pool
abbrev pub rows_of : AmcState → List ℕ
rows_of amc = map length amc.tails

-- the collector has the policy of each pool, whether it is on a chain, and its tails, one for each generation to which its blocks move
pub record IsSoundTrace {F : Type 0} (pools : List (Pool F)) (t : TraceState F) : Type 0 where
  pub formats : t.formats ≡ map policy_of_pool pools
  pub chains : length t.chains.of_pool ≡ length pools
  pub rows : length t.amc.tails ≡ length pools
  pub tails : (number generation : ℕ) → number < length pools
      → HasTail t.amc number (target_generation (generations_of t.chains number) generation)

-- what the collector knows is sound, and these are how many generations its chains have
pub record AreSoundPools {F : Type 0} (pools : List (Pool F)) (generations : List ℕ) (t : TraceState F) : Type 0 where
  pub trace : IsSoundTrace pools t
  pub counted : generations ≡ map length t.chains.chains

pub two_pools_of_one_generation : rows_of (record { tails = (empty_buffer ∷ []) ∷ (empty_buffer ∷ []) ∷ [] }) ≡ 1 ∷ 1 ∷ []
two_pools_of_one_generation = refl
