-- What stands beside the blocks, over a change of a world.
use Rattle.std.proofs.Common.{◌≡◌, ◌∙◌, Option, List, map}
use Rattle.mps_base.specs.Address.{Address, Id}
use Rattle.mps_model.specs.Graph.{Cache}
use Rattle.mps_neighbours.specs.Beside.{BesideState}
use Rattle.mps_neighbours.specs.Transforms.{TransformsState}
use Rattle.mps_snc.specs.State.{Pools}
use Rattle.mps_refinement.specs.Beside.{IsBeside, kept_cache}
use Rattle.mps_refinement.specs.Dependents.{kept_pair}

module _ (b : BesideState) (addresses : List (Option Address)) (caches : List Cache) (pairs : List (Id × Id))
    (is : IsBeside b addresses caches pairs) where
  -- where the caches and the pairs have the same addresses
  pub beside_still : (others : List (Option Address)) (caches_then : List Cache) (pairs_then : List (Id × Id))
      → map (kept_cache addresses) caches ≡ map (kept_cache others) caches_then
      → map (kept_pair addresses) pairs ≡ map (kept_pair others) pairs_then → IsBeside b others caches_then pairs_then
  beside_still others caches_then pairs_then same alike =
      record { dependents = is.dependents ∙ alike; caches = is.caches ∙ same }

  -- it says nothing of the pools of frames
  pub beside_framed : (frames : Pools) → IsBeside (record b { frames = frames }) addresses caches pairs
  beside_framed frames = record { dependents = is.dependents; caches = is.caches }

-- other transforms say nothing of what else is beside the blocks
pub beside_others : (b : BesideState) (addresses : List (Option Address)) (kept : List Cache) (pairs : List (Id × Id))
    (transforms : TransformsState) → IsBeside b addresses kept pairs → IsBeside (record b { transforms = transforms }) addresses kept pairs
beside_others b addresses kept pairs transforms is = record { dependents = is.dependents; caches = is.caches }
