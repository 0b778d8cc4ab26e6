-- What stands beside the blocks of a heap.
use Rattle.std.specs.Prelude.{◌≡◌, List, [], length, refl}
use Rattle.mps_dep.specs.declared.dependents.Pair.{Pair}
use Rattle.mps_sac.specs.State.{CacheState}
use Rattle.mps_snc.specs.State as snc
use Rattle.mps_xform.specs.State.{TransformsState, no_transforms}

-- the dependents of objects, the transforms, the caches, and what each pool of frames has, by its number
pub record BesideState : Type 0 where
  pub dependents : List Pair
  pub transforms : TransformsState
  pub caches : List CacheState
  pub frames : snc.Pools

abbrev pub nothing_beside : BesideState
nothing_beside = record { dependents = []; transforms = no_transforms; caches = []; frames = snc.no_pools }

pub sixty_four_pools_have_no_frames : length nothing_beside.frames ≡ 64
sixty_four_pools_have_no_frames = refl
