-- What stands beside the blocks of a heap, and what of a world it represents.
use Rattle.std.specs.Prelude.{◌≡◌, ℕ, Option, Some, None, List, [], ◌∷◌, map, refl, slice_index}
use Rattle.std.proofs.Common.{ap, arith}
use Rattle.mps_base.specs.Address.{Address, Id}
use Rattle.mps_model.specs.Graph.{Cache, CacheClass}
use Rattle.mps_neighbours.specs.Beside.{BesideState, nothing_beside}
use Rattle.mps_neighbours.specs.Caches.{CacheState, ClassState}
use Rattle.mps_refinement.specs.Dependents.{AreDependents}
use Rattle.mps_trace_laws.specs.Units.Finals.{address_of_id}

-- what is kept of a class, if objects have these addresses: the addresses of its blocks stand in their order
abbrev pub kept_class : (addresses : List (Option Address)) → CacheClass → ClassState
kept_class addresses k = record { words = k.words; limit = k.limit; blocks = map (address_of_id addresses) k.cached }

-- what is kept of a cache
abbrev pub kept_cache : (addresses : List (Option Address)) → Cache → CacheState
kept_cache addresses q = record { pool = q.pool; classes = map (kept_class addresses) q.classes }

-- the pairs of dependents and the caches are the world's
pub record IsBeside (beside : BesideState) (addresses : List (Option Address)) (kept : List Cache) (pairs : List (Id × Id)) : Type 0 where
  pub dependents : AreDependents addresses beside.dependents pairs
  pub caches : beside.caches ≡ map (kept_cache addresses) kept

-- before any call
pub nothing_is_beside : IsBeside nothing_beside [] [] []
nothing_is_beside = record { dependents = refl; caches = refl }

-- ---- vectors: blocks 0 and 2 are at 0x1000 and 0x2000, and block 2 was cached first

abbrev two_blocks : List (Option Address)
two_blocks = Some 0x1000 ∷ None ∷ Some 0x2000 ∷ []

abbrev one_class : CacheClass
one_class = record { words = 4; limit = 8; cached = 2 ∷ 0 ∷ [] }

pub blocks_in_their_order : kept_class two_blocks one_class ≡ record { words = 4; limit = 8; blocks = 0x2000 ∷ 0x1000 ∷ [] }
blocks_in_their_order = refl

pub blocks_in_the_order_of_ids : kept_class two_blocks one_class ≡ record { words = 4; limit = 8; blocks = 0x1000 ∷ 0x2000 ∷ [] } → ⊥
blocks_in_the_order_of_ids e =
    let first : ◌≡◌ {A = ℕ} 0x2000 0x1000 = ap (λ (c : ClassState). slice_index c.blocks 0) e in omega (arith, first)
