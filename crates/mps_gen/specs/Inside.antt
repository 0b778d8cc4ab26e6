-- What is true of all chains.
use Rattle.std.specs.Prelude.{ℕ, ◌<◌, ◌≤◌, List, Option, length, Contains, Some}
use Rattle.std.specs.List.{All}
use Rattle.mps_gen.specs.State.{max_generations}

-- a chain has a generation, and at most eight
pub record IsChain (capacities : List ℕ) : Type 0 where
  pub nonempty : 0 < length capacities
  pub at_most : length capacities ≤ max_generations

-- each chain is one, and each pool is on a chain that there is
pub record IsSoundChains (chains : List (List ℕ)) (of_pool : List (Option ℕ)) : Type 0 where
  pub each : All IsChain chains
  pub known : (chain : ℕ) → Contains of_pool (Some chain) → chain < length chains
