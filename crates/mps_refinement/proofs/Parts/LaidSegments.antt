-- The segments of a heap that stands for a world that is laid out, as a collection finds them: each block lies in a segment of its rank,
-- and each live reservation in one.
use Rattle.std.proofs.Common.{◌≡◌, ◌∙◌, ℕ, ◌+◌, ◌<◌, ◌≤◌, Bool, true, false, refl, sym, ap, subst, List, [], ◌∷◌, map, Some, Contains, arith}
use Rattle.std.proofs.lemmas.Option.{slice_get-map}
use Rattle.std.specs.Prelude.{if◌then◌else◌, option_map, slice_get}
use Rattle.std.specs.Option.{option_map_or}
use Rattle.mps_base.specs.Address.{Address, Id, address_of_word, words_of_grain}
use Rattle.mps_base.specs.Run.{Run, Covers, IsAscending, end_of}
use Rattle.mps_base.specs.Segment.{Segment, grains_of_segment, segment_over, words_of_segment}
use Rattle.mps_format.specs.Layout.{Layout}
use Rattle.mps_seg.specs.Table.{IsMarked}
use Rattle.mps_base.specs.declared.names.Rank.TheVariants.{Exact, Weak}
use Rattle.mps_model.specs.Graph.{Object, entry_at, is_weak_object, size_of}
use Rattle.mps_model.specs.World.{World, extent}
use Rattle.mps_trace_laws.specs.Image.Memory.{words_of_arena}
use Rattle.mps_laws.proofs.Positions.Covered.{covered-shapes, covered_ascending}
use Rattle.mps_laws.proofs.Positions.LegalMoves.{HasLayout}
use Rattle.mps_laws.proofs.Positions.Occupancy.{OfBlock, OfReservation, Shape, occupancy_of, rank_of_occupant, rank_where, run_of, run_of_block, shape_of}
use Rattle.mps_laws.proofs.Positions.Segments.{AreAligned, IsAmong, found_segment}
use Rattle.mps_trace_laws.specs.Fix.Tracing.{AreSegmentsOf, AreHeld, AreCoveredInOrder, AreReservationsHeld, HasTables}
use Rattle.mps_trace_laws.specs.Fix.Housed.{AreHoused, rank_of_object}
use Rattle.mps_trace_laws.proofs.Image.BlockRuns.{extents_ascend, run_of_object}
use Rattle.mps_trace_laws.proofs.Reclaim.SegmentBounds.{positive_in}
use Rattle.mps_heap_spec.specs.State.{HeapState}
use Rattle.mps_refinement.specs.StandsFor.{AreParts, Past, setting_at}
use Rattle.mps_refinement.proofs.Parts.CommittedParts.{segment_there}
use Rattle.mps_refinement.proofs.Parts.ReservedImage.{reservation_covers}

-- the words of a live object, as what lies where has them
block_run : (w : World) (id : Id) (at : Address) (o : Object) → entry_at w.addresses id ≡ Some at → slice_get w.graph.objects id ≡ Some o
    → run_of (occupancy_of w) (OfBlock id) ≡ extent at (size_of o)
block_run w id at o there object =
    ap (λ s. run_of_block s (entry_at w.addresses id))
    (slice_get-map shape_of w.graph.objects id ∙ ap (option_map shape_of) object)
    ∙ ap (run_of_block (Some (shape_of o))) there

-- and its rank
block_rank : (w : World) (id : Id) (o : Object) → slice_get w.graph.objects id ≡ Some o
    → rank_of_occupant (occupancy_of w) (OfBlock id) ≡ rank_of_object o
block_rank w id o object =
    ap (λ s. option_map_or (λ (x : Shape). rank_where x.is_weak) s Exact)
    (slice_get-map shape_of w.graph.objects id ∙ ap (option_map shape_of) object)
    ∙ of_test (is_weak_object o)
  where
    of_test : (b : Bool) → rank_where b ≡ (if b then Weak else Exact)
    of_test true = refl
    of_test false = refl

-- runs that begin no lower ascend from there on
ascending_above : (low above high : ℕ) (rs : List Run) → IsAscending low high rs → above ≤ high
    → ((r : Run) → Contains rs r → above ≤ r.from) → IsAscending above high rs
ascending_above low above high [] ascending within each = within
ascending_above low above high (r ∷ rs) ascending within each = (each r (0, omega arith, refl), ascending.1, ascending.2)

-- the tables of marks have their sizes
pub has_tables : {F : Type 0} (h : HeapState F) → IsMarked h.segs.grains h.segs.marks h.segs.condemned h.segs.summaries
    → HasTables h.segs
has_tables h marked = record {
  kept = marked.kept_size;
  exact = marked.exact_size;
  weak = marked.weak_size;
  condemned = marked.condemned_size;
}

module _ {F : Type 0} (layout : F → Layout) (past : Past) (h : HeapState F) (w : World) (parts : AreParts layout past h w)
    (laid : HasLayout (w.grains + 1) w) where
  pub same_segments : AreSegmentsOf h.segs w.grains w.limit w.segments
  same_segments = record { same_grains = parts.grains; same_limit = parts.limit; same_segments = parts.segments }

  pub are_held : AreHeld h.segs
  are_held = record {
    small = parts.arena.at_most;
    aligned = subst AreAligned (sym parts.segments) laid.aligned;
    ascending =
        subst (λ (n : ℕ). IsAscending 1 (n + 1) (map grains_of_segment h.segs.segments)) (sym parts.grains)
        (subst (λ (ts : List Segment). IsAscending 1 (w.grains + 1) (map grains_of_segment ts)) (sym parts.segments) laid.ascending);
  }

  -- blocks and reservations ascend, and so do blocks alone
  pub covered_in_order : AreCoveredInOrder h.segs
  covered_in_order =
      subst (λ (n : ℕ). IsAscending 0 (words_of_arena n) h.segs.covered) (sym parts.grains)
      (subst (λ (rs : List Run). IsAscending 0 (words_of_arena w.grains) rs) (sym (parts.image.runs.covered ∙ covered-shapes w))
      (covered_ascending (w.grains + 1) (occupancy_of w) laid))

  pub blocks_in_order : IsAscending 0 (words_of_arena h.segs.grains) h.segs.blocks
  blocks_in_order =
      subst (λ (rs : List Run). IsAscending 0 (words_of_arena h.segs.grains) rs) (sym parts.image.runs.blocks)
      (extents_ascend (setting_at past.time h.segs w) w.addresses parts.image.placed)

  -- each object lies in one segment of its rank
  pub are_housed : AreHoused w.graph.objects h.segs.segments w.addresses
  are_housed id at o there object =
      let g = occupancy_of w in
      let run = block_run w id at o there object in
      let some = parts.image.placed.positive id at o there object in
      let home = laid.placed.homes (OfBlock id) (subst (λ (r : Run). 0 < r.count) (sym run) some) in
      let above = subst (λ (r : Run). (words_of_segment home.segment).from ≤ r.from) run home.above in
      let below = subst (λ (r : Run). end_of r ≤ end_of (words_of_segment home.segment)) run home.below in
      record {
        segment = home.segment;
        held = segment_there home.segment h.segs.segments
            (subst (λ (ts : List Segment). IsAmong home.segment ts) (sym parts.segments) home.held);
        rank_is = home.of_rank ∙ block_rank w id o object;
        above = above;
        below = omega (arith, below);
      }

  -- and blocks ascend from grain 1 on, as no segment has grain 0
  pub blocks_in_grains : IsAscending words_of_grain (words_of_arena h.segs.grains) h.segs.blocks
  blocks_in_grains =
      ascending_above 0 words_of_grain (words_of_arena h.segs.grains) h.segs.blocks blocks_in_order (omega arith) (λ r there.
      let x = run_of_object w.graph.objects w.addresses r
      (subst (λ (rs : List Run). Contains rs r) parts.image.runs.blocks there) in
      let home = are_housed x.id x.at x.object x.address x.there in
      let held = are_held in
      let above = positive_in 1 (h.segs.grains + 1) h.segs.segments home.segment held.ascending home.held in
      let from = ap (λ (q : Run). q.from) x.is in
      omega (arith, home.above, above, from))

  -- and so does each word of a live reservation
  pub are_reserved : AreReservationsHeld h.segs w.graph.points w.point_memories
  are_reserved point l r n lies =
      let g = occupancy_of w in
      let covers = reservation_covers g w.graph.points w.point_memories point l r n refl refl lies in
      let home = laid.placed.homes (OfReservation point) (omega (arith, covers.0, covers.1)) in
      let inside : Covers (words_of_segment home.segment) n =
      (omega (arith, home.above, covers.0), omega (arith, home.below, covers.1)) in (
        home.segment.pool,
        ap (λ (ts : List Segment). option_map (λ (t : Segment). t.pool) (segment_over ts (address_of_word n))) parts.segments
            ∙ ap (option_map (λ (t : Segment). t.pool))
            (found_segment 1 (w.grains + 1) w.segments home.segment laid.ascending laid.aligned home.held n inside),
      )
