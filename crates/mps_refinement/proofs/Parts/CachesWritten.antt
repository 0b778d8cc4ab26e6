-- The parts of a heap stand for those of a world after caches were written in both.
use Rattle.std.proofs.Common.{◌≡◌, ◌≤◌, refl, List, length, map}
use Rattle.mps_format.specs.Layout.{Layout}
use Rattle.mps_model.specs.Checked.{with_graph}
use Rattle.mps_model.specs.Graph.{Cache}
use Rattle.mps_model.specs.World.{World}
use Rattle.mps_neighbours.specs.Caches.{CacheState}
use Rattle.mps_heap_spec.specs.State.{HeapState}
use Rattle.mps_refinement.specs.Beside.{kept_cache}
use Rattle.mps_refinement.specs.StandsFor.{AreParts, Past}
use Rattle.mps_refinement.proofs.Parts.Named.{named_alike}
use Rattle.mps_refinement.proofs.Parts.PartsByKind.{parts_of_kinds, arena_of, finals_of, image_of, points_of, pools_of, roots_of}

-- a heap with these caches
abbrev pub heap_with_caches : {F : Type 0} → HeapState F → List CacheState → HeapState F
heap_with_caches h caches = record h { beside = record h.beside { caches = caches } }

-- a world with these
abbrev pub world_with_caches : World → List Cache → World
world_with_caches w caches = with_graph w (record w.graph { caches = caches })

pub caches_written : {F : Type 0} (layout : F → Layout) (past : Past) (h : HeapState F) (w : World) → AreParts layout past h w
    → (ours : List CacheState) (caches : List Cache) → ours ≡ map (kept_cache w.addresses) caches
    → length h.beside.caches ≤ length ours → AreParts layout past (heap_with_caches h ours) (world_with_caches w caches)
caches_written layout past h w parts ours caches are no_fewer =
    parts_of_kinds (arena_of parts) (image_of parts) (roots_of parts) (points_of parts) (finals_of parts) parts.dependencies
    (pools_of parts)
    (named_alike h (heap_with_caches h ours) past w.graph.names w.graph.labels parts.names (λ name. refl) refl (record {
      pools = λ n low. low;
      caches = no_fewer;
      tables = λ key some. some;
      areas = λ key some. some;
      blocks = λ n low. low;
      points = λ key some. some;
      dependencies = λ n low. low;
      chains = λ n low. low;
      transforms = refl;
    })) (
      parts.flips,
      parts.point_flips,
      parts.state,
      record {
        dependents = parts.beside.dependents;
        caches = are;
      },
      parts.transforms,
      parts.framed,
    )
