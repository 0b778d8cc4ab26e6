-- What the parts of a heap are while no collection runs: its image is that of an arena at rest, and registrations have the addresses of
-- their objects.
use Rattle.std.proofs.Common.{◌≡◌, ℕ, false, refl, [], map, subst, Option, Some, None}
use Rattle.mps_extents.specs.Table.{bit}
use Rattle.mps_seg.specs.Collecting.{bit_of}
use Rattle.mps_format.specs.Layout.{Layout}
use Rattle.mps_model.specs.World.{World}
use Rattle.mps_heap_spec.specs.State.{HeapState}
use Rattle.mps_seg.specs.Segs.{SegsState}
use Rattle.mps_trace_laws.specs.Image.AtRest.{StandsAtRest}
use Rattle.mps_refinement.specs.StandsFor.{AreParts, AreRegisteredAt, Past, StandsAt, address_of_id, time_at_rest}
use Rattle.mps_refinement.proofs.Parts.Registered.{now_alone}

-- no address lies in a condemned segment
pub none_over : (s : SegsState) → ((grain : ℕ) → bit s.condemned grain ≡ false) → (o : Option ℕ) → bit_of s.condemned o ≡ false
none_over s none None = refl
none_over s none (Some grain) = none grain

module _ {F : Type 0} (layout : F → Layout) (past : Past) (h : HeapState F) (w : World) (parts : AreParts layout past h w)
    (time : past.time ≡ time_at_rest) where
  pub image_at_rest : StandsAtRest h.segs w
  image_at_rest = subst (λ t. StandsAt t h.segs w) time parts.image

  pub registered_at_rest : h.finals.registered ≡ map (address_of_id w.addresses) w.graph.registered
  registered_at_rest =
      now_alone w.addresses [] h.finals.registered w.graph.registered
      (subst (λ t. AreRegisteredAt t w.addresses h.finals.registered w.graph.registered) time parts.registered)
