-- The parts of a heap represent those of a world after pairs of dependents were written in both.
use Rattle.std.proofs.Common.{refl, List, arith}
use Rattle.mps_base.specs.Address.{Id}
use Rattle.mps_dep.specs.declared.dependents.Pair.{Pair}
use Rattle.mps_format.specs.Layout.{Layout}
use Rattle.mps_model.specs.Checked.{with_graph}
use Rattle.mps_model.specs.Dependents.{graph_with_dependents}
use Rattle.mps_model.specs.World.{World}
use Rattle.mps_heap_spec.specs.Following.{with_dependents}
use Rattle.mps_heap_spec.specs.State.{HeapState}
use Rattle.mps_refinement.specs.Dependents.{AreDependents}
use Rattle.mps_refinement.specs.StandsFor.{AreParts, Past}
use Rattle.mps_refinement.proofs.Parts.Named.{named_alike}
use Rattle.mps_refinement.proofs.Parts.PartsByKind.{parts_of_kinds, arena_of, finals_of, image_of, points_of, pools_of, roots_of}

pub pairs_written : {F : Type 0} (layout : F → Layout) (past : Past) (h : HeapState F) (w : World) → AreParts layout past h w
    → (ours : List Pair) (pairs : List (Id × Id)) → AreDependents w.addresses ours pairs
    → AreParts layout past (with_dependents h ours) (with_graph w (graph_with_dependents w.graph pairs))
pairs_written layout past h w parts ours pairs are =
    parts_of_kinds (arena_of parts) (image_of parts) (roots_of parts) (points_of parts) (finals_of parts) parts.dependencies
    (pools_of parts)
    (named_alike h (with_dependents h ours) past w.graph.names w.graph.labels parts.names (λ name. refl) refl (record {
      pools = λ n low. low;
      caches = omega arith;
      tables = λ key some. some;
      areas = λ key some. some;
      blocks = λ n low. low;
      points = λ key some. some;
      dependencies = λ n low. low;
      chains = λ n low. low;
      transforms = refl;
    })) (
      parts.flips,
      parts.point_flips,
      parts.state,
      record { dependents = are; caches = parts.beside.caches },
      parts.transforms,
      parts.framed,
    )
