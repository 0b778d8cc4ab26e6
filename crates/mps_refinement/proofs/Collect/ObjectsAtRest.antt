-- The objects of a heap at rest: what is registered is live and automatic, none that a collection moves is weak, and none has a dependent.
use Rattle.std.proofs.Common.{None, ◌≡◌, ◌∙◌, ℕ, true, false, refl, sym, ap, [], Option, Some, length}
use Rattle.std.proofs.lemmas.Bool.{and_parts, false≢true}
use Rattle.std.specs.Prelude.{IsTrue, slice_get}
use Rattle.std.specs.Option.{option_map_or}
use Rattle.mps_base.specs.Address.{Id}
use Rattle.mps_format.specs.Layout.{Layout}
use Rattle.mps_model.specs.Graph.{Object, is_automatic, object_at}
use Rattle.mps_model.specs.World.{World, is_live, object_is}
use Rattle.mps_model.specs.WellFormed.{IsWellFormed, is_live_automatic}
use Rattle.mps_trace_laws.proofs.Image.Laws.{well_formed_is_shaped}
use Rattle.mps_trace_laws.proofs.Image.Shaped.{all_at}
use Rattle.mps_trace_laws.specs.Begin.Before.{AreObjectsAtRest}
use Rattle.mps_trace_laws.specs.Units.Finals.{AreDue}
use Rattle.mps_heap_spec.specs.State.{HeapState}
use Rattle.mps_refinement.specs.StandsFor.{AreParts, Past, Time}
use Rattle.mps_refinement.proofs.Lookups.BlockRuns.{targets_live}
use Rattle.mps_refinement.proofs.Parts.Registered.{live_at}
use Rattle.mps_refinement.proofs.Worlds.Known.{IsKnown}
use Rattle.mps_refinement.proofs.Worlds.RestingActs.{resting_sound}
use Rattle.mps_refinement.proofs.Collect.CollectIsRight.{may_begin}
use Rattle.mps_refinement.proofs.Collect.StrongMoving.{strong_moving}

-- ---- registrations

automatic_at : (w : World) (id : Id) → object_is is_automatic w id ≡ true
    → (o : Object) × (slice_get w.graph.objects id ≡ Some o) × IsTrue (is_automatic o)
automatic_at w id is = of_object (object_at w.graph id) refl
  where
    of_object : (x : Option Object) → object_at w.graph id ≡ x
        → (o : Object) × (slice_get w.graph.objects id ≡ Some o) × IsTrue (is_automatic o)
    of_object None e = absurd (false≢true (sym (ap (λ (x : Option Object). option_map_or is_automatic x false) e) ∙ is))
    of_object (Some o) e = (o, e, sym (ap (λ (x : Option Object). option_map_or is_automatic x false) e) ∙ is)

-- in a well-formed world each registration is due: its object is live and automatic
pub registered_are_due : (w : World) → IsWellFormed w → AreDue w.addresses w.graph.objects w.graph.registered 0 (length w.graph.registered)
registered_are_due w formed = record {
  lived = λ position id at_least below there. live_at w id (right position id there);
  automatic = λ position id there.
      automatic_at w id (and_parts (is_live w id) (object_is is_automatic w id) (right position id there)).1;
}
  where
    right : (position : ℕ) (id : Id) → slice_get w.graph.registered position ≡ Some id → is_live_automatic w id ≡ true
    right position id there = all_at (is_live_automatic w) w.graph.registered position id formed.registered there

-- ---- all of them

module _ {F : Type 0} (layout : F → Layout) (past : Past) (h : HeapState F) (w : World) (parts : AreParts layout past h w)
    (t : Time) (known : IsKnown t w) (none : w.collection ≡ None) (alone : w.graph.dependents ≡ [])
  where
    pub objects_at_rest : AreObjectsAtRest w
    objects_at_rest = record {
      rest = may_begin layout past h w parts t known none;
      due = registered_are_due w known.formed;
      strong_moving = strong_moving w known.graph;
      none_dependent = alone;
      shaped = well_formed_is_shaped w parts.lawful known.formed;
      targets_live = targets_live w none (resting_sound w none known.live);
    }
