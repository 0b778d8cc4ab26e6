-- The segments of a heap at rest, as a collection finds them: each block and each live reservation lies in one, and none is condemned or
-- marked.
use Rattle.mps_refinement.proofs.Parts.LaidSegments.{are_held, are_housed, are_reserved, blocks_in_order, covered_in_order, has_tables, same_segments}
use Rattle.mps_refinement.proofs.Parts.Resting.{image_at_rest}
use Rattle.mps_trace_laws.specs.Image.AtRest.{StandsAtRest}
use Rattle.std.proofs.Common.{◌≡◌, ◌∙◌, ◌+◌, false, sym, ap, inl, inr}
use Rattle.std.proofs.lemmas.Bool.{cases_Bool, or_right}
use Rattle.std.specs.Prelude.{◌||◌}
use Rattle.mps_base.specs.Address.{Word}
use Rattle.mps_extents.specs.Table.{bit}
use Rattle.mps_format.specs.Layout.{Layout}
use Rattle.mps_seg.specs.Table.{IsMarked}
use Rattle.mps_model.specs.World.{World}
use Rattle.mps_laws.proofs.Positions.LegalMoves.{HasLayout}
use Rattle.mps_trace_laws.specs.Begin.Before.{AreSegmentsAtRest}
use Rattle.mps_heap_spec.specs.State.{HeapState}
use Rattle.mps_refinement.specs.StandsFor.{AreParts, Past, Rests, collector_of}

module _ {F : Type 0} (layout : F → Layout) (past : Past) (h : HeapState F) (w : World) (parts : AreParts layout past h w)
    (laid : HasLayout (w.grains + 1) w) (rest : Rests past.time (collector_of h) w) where
  image : StandsAtRest h.segs w
  image = image_at_rest layout past h w parts rest.time

  -- no block is grey, as no object is
  none_grey : (n : Word) → (bit h.segs.marks.exact n || bit h.segs.marks.weak n) ≡ false
  none_grey n = elim (cases_Bool (bit h.segs.marks.exact n || bit h.segs.marks.weak n)) [
    | inl grey ↦
        let block = image.marks.marked n
        (or_right (bit h.segs.marks.kept n) (bit h.segs.marks.exact n || bit h.segs.marks.weak n) grey) in
        ap (λ (k : Word). bit h.segs.marks.exact k || bit h.segs.marks.weak k) block.is
        ∙ sym (image.marks.grey_there block.id block.at block.address)
    | inr none ↦ none
  ]

  -- where the tables of marks have their sizes
  pub segments_at_rest : IsMarked h.segs.grains h.segs.marks h.segs.condemned h.segs.summaries
      → AreSegmentsAtRest h.segs w
  segments_at_rest marked = record {
    segments = same_segments layout past h w parts laid;
    held = are_held layout past h w parts laid;
    tables = has_tables h marked;
    whole = record { sizes = marked; order = blocks_in_order layout past h w parts laid };
    covered = covered_in_order layout past h w parts laid;
    image = image;
    not_condemned = rest.not_condemned;
    unmarked = record { kept = rest.not_kept; grey = none_grey };
    housed = are_housed layout past h w parts laid;
    reserved = are_reserved layout past h w parts laid;
  }
