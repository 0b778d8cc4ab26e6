-- A cell of a reservation that no flip ended is written, a number or a reference: each word stays summed.
use Rattle.std.proofs.Common.{◌≡◌, ◌∙◌, ℕ, ◌+◌, ◌%◌, ◌<◌, false, refl, sym, ap, List, ◌++◌, length, map, Option, None, Some, Contains, subst, inl, inr, arith}
use Rattle.std.proofs.lemmas.Bool.{cases_lt, eq-eqb, false≢true}
use Rattle.std.proofs.lemmas.Option.{slice_get_within}
use Rattle.std.specs.Prelude.{if◌then◌else◌, slice_get, slice_index, slice_set}
use Rattle.std.specs.Option.{option_map_or}
use Rattle.mps_base.specs.Address.{Address, Word, address_of_word, word_of}
use Rattle.mps_base.specs.Run.{Run}
use Rattle.mps_base.specs.Segment.{Segment, segment_over}
use Rattle.mps_buffer.specs.declared.point.Held.{Held}
use Rattle.mps_buffer.specs.declared.point.Point.{Point}
use Rattle.mps_buffer.specs.Points.{point_at}
use Rattle.mps_format.specs.Layout.{Layout}
use Rattle.mps_format.specs.Pools.{policy_of_pool}
use Rattle.mps_format.specs.declared.pool.Policy.{Policy}
use Rattle.mps_laws.proofs.Positions.LegalMoves.{HasLayout}
use Rattle.mps_laws.proofs.Positions.Occupancy.{OfReservation, PointShape, occupancy_of, reserved_words, run_of, run_of_reservation, run_of_reserved, shape_of_point}
use Rattle.mps_laws.proofs.Positions.Segments.{found_segment}
use Rattle.mps_laws.proofs.Sound.SoundGraph.{IsSoundGraph}
use Rattle.mps_model.specs.Checked.{Numbered}
use Rattle.mps_model.specs.Graph as graph
use Rattle.mps_model.specs.Graph.{Cell, HeadCell, NumberCell, ReferenceCell, Reservation, entry_at}
use Rattle.mps_model.specs.World as world
use Rattle.mps_model.specs.World.{World, extent, extents_of, is_copying_pool, reserved_extents}
use Rattle.mps_seg.specs.Segs.{SegsState}
use Rattle.mps_trace_laws.specs.Image.Memory.{words_of_arena}
use Rattle.mps_trace_laws.specs.Summaries.Summed.{AreWordsSummed}
use Rattle.mps_trace_laws.proofs.Image.BlockRuns.{contained_in_order}
use Rattle.mps_heap_spec.specs.Finding.{retargeted}
use Rattle.mps_heap_spec.specs.Referring.{noting_reference, referring}
use Rattle.mps_heap_spec.specs.State.{HeapState}
use Rattle.mps_heap_spec.specs.declared.found.CellFound.{CellFound}
use Rattle.mps_refinement.specs.StandsFor.{AreParts, IsHeld, IsPoint, Past}
use Rattle.mps_refinement.proofs.Lookups.Cells.{AreCells, IsNumber, IsReference, IsTargetAddress, first_cell, is_head_cell, target_is}
use Rattle.mps_refinement.proofs.Lookups.HeldCells.{format_held, held_cells, held_lawful, of}
use Rattle.mps_refinement.proofs.Lookups.Policies.{layout_of_policy}
use Rattle.mps_refinement.proofs.Parts.LaidSegments.{are_held, covered_in_order}
use Rattle.mps_refinement.proofs.Parts.ReservedImage.{shape_there}
use Rattle.mps_refinement.proofs.Parts.WrittenReservation.{cell_is_fixed}
use Rattle.mps_refinement.proofs.Summaries.CellWrites.{AreReadBy, number_summed, reference_summed}
use Rattle.mps_refinement.proofs.Worlds.AtHand.{extent_there, there_after}
use Rattle.mps_refinement.proofs.Worlds.Ready.{live_is}

module _ {F : Type 0} (layout : F → Layout) (past : Past) (h : HeapState F) (w : World) (parts : AreParts layout past h w)
    (laid : HasLayout (w.grains + 1) w) (sound : IsSoundGraph w) (key : ℕ) (n : Numbered graph.Point)
    (number : n.number ≡ past.point_number key) (p : Point) (at_key : point_at h.points key ≡ Some p)
    (there : entry_at w.graph.points n.number ≡ Some n.value)
    (fit : IsPoint (length w.flips) (is_copying_pool w) w.point_memories n.number p n.value) (held : Held) (r : Reservation)
    (reserved : p.reservation ≡ Some held) (open_there : n.value.reservation ≡ Some r)
    (is : IsHeld (length w.flips) held r fit.memory.reserved_at) (live : r.is_doomed ≡ false) where
  abbrev at : Address
  at = held.at.0

  abbrev size : ℕ
  size = length r.cells

  abbrev formats : List (Option (Policy F))
  formats = map policy_of_pool h.pools

  abbrev with_words : List ℕ → SegsState
  with_words words = record h.segs { words = words }

  abbrev format : F
  format =
      format_held layout past h w parts sound key n.number p n.value at_key there fit.pool held r reserved open_there fit.memory.reserved_at
      is

  abbrev f : Layout
  f = layout format

  cells : AreCells f held.head r.cells
  cells =
      held_cells layout past h w parts sound key n.number p n.value at_key there fit.pool held r reserved open_there fit.memory.reserved_at
      is

  aligned : at % 8 ≡ 0
  aligned = parts.arena.aligned key p held at_key reserved

  some : 0 < size
  some = parts.image.placed.reserved_positive n.number r (live_is (entry_at w.graph.points n.number) n.value r there open_there live)

  -- ---- where it lies

  run_there : Contains h.segs.covered (extent at size)
  run_there =
      let objects = extents_of w.graph.objects w.addresses in
      let points = reserved_extents w.graph.points w.point_memories in
      let run = extent fit.memory.reserved_at size in
      subst (λ (a : Address). Contains h.segs.covered (extent a size)) (sym is.at)
      (subst (λ (rs : List Run). Contains rs run) (sym parts.image.runs.covered)
      (contained_in_order (objects ++ points) run
      (there_after objects points run
      (extent_there w.graph.points w.point_memories n.number n.value r fit.memory there open_there live fit.has))))

  shape : entry_at (occupancy_of w).points n.number ≡ shape_of_point (Some n.value)
  shape = shape_there w.graph.points n.number n.value there

  run_is : run_of (occupancy_of w) (OfReservation n.number) ≡ extent at size
  run_is =
      let words : reserved_words n.value.reservation ≡ Some size =
      ap reserved_words open_there ∙ ap (λ b. if b then None else Some size) live
      in
      ap (λ o. run_of_reservation o (slice_get w.point_memories n.number)) shape
      ∙ ap (λ o. run_of_reserved o (slice_get w.point_memories n.number)) words
      ∙ ap (run_of_reserved (Some size)) fit.has
      ∙ ap (λ (a : Address). extent a size) (sym is.at)

  -- in a segment of its pool
  home : (t : Segment) × (segment_over h.segs.segments at ≡ Some t) × (t.pool ≡ n.value.pool)
  home =
      let g = occupancy_of w in
      let from : (run_of g (OfReservation n.number)).from ≡ word_of at = ap (λ (x : Run). x.from) run_is in
      let count : (run_of g (OfReservation n.number)).count ≡ size = ap (λ (x : Run). x.count) run_is in
      let positive = some in
      let lies = laid.placed.homes (OfReservation n.number) (omega (arith, count, positive)) in
      let begins : at ≡ address_of_word (word_of at) = (let a = aligned in omega (arith, a)) in
      let over = found_segment 1 (w.grains + 1) w.segments lies.segment laid.ascending laid.aligned lies.held (word_of at)
      (omega (arith, lies.above, from), omega (arith, lies.below, from, count, positive)) in (
        lies.segment,
        ap (λ (ss : List Segment). segment_over ss at) parts.segments ∙ ap (segment_over w.segments) begins ∙ over,
        lies.of_pool ∙ ap (λ o. option_map_or (λ (x : PointShape). x.pool) o 0) shape,
      )

  read_by : AreReadBy layout formats h.segs at f
  read_by =
      let pool = of layout past h w parts sound key n.number p n.value at_key there fit.pool held r reserved open_there
      fit.memory.reserved_at is in
      record {
        segment = home.0;
        over = home.1;
        reads = λ policy listed.
            layout_of_policy layout h.pools w parts.pools n.value.pool policy (ap (slice_get formats) (sym home.2) ∙ listed)
            ∙ ap (λ (o : Option world.Pool). w.formats (option_map_or (λ (x : world.Pool). x.format) o 0)) pool.has
            ∙ pool.automatic.means;
      }

  -- its first word is its head
  head_is : slice_index h.segs.words (word_of at) ≡ held.head
  head_is =
      let first : word_of at ≡ word_of at + 0 = omega arith in
      ap (slice_index h.segs.words) first
      ∙ (cell_is_fixed layout past h w parts key n number p at_key there fit held r reserved open_there is live 0 HeadCell some
      (first_cell f held.head r.cells cells some)).holds
      ∙ sym is.head

  module _ (i : ℕ) (c : Cell) (cell_there : slice_get r.cells i ≡ Some c) (other : is_head_cell c ≡ false) where
    -- it isn't the first cell
    later : 0 < i
    later = elim (cases_lt 0 i) [
      | inl above ↦ above
      | inr none ↦ absurd (false≢true (sym other ∙ cells.heads i c cell_there ∙ eq-eqb i 0 (omega (arith, none))))
    ]

  in_words : (cell : CellFound) (i : ℕ) → cell.word ≡ word_of at + i → slice_get h.segs.words cell.word ≡ Some cell.value
      → word_of at + i < length h.segs.words
  in_words cell i is_word has =
      let low = slice_get_within h.segs.words cell.word cell.value has in omega (arith, low, is_word)

  -- ---- a number

  pub number_kept : (i value : ℕ) (cell : CellFound) (old : ℕ) → IsNumber h.segs.words at r.cells i cell old
      → AreWordsSummed layout formats (with_words (slice_set h.segs.words cell.word value))
  number_kept i value cell old found =
      let c = NumberCell old in
      let plain : f.is_reference (slice_index h.segs.words (word_of at)) i ≡ false =
      ap (λ head. f.is_reference head i) head_is ∙ sym (cells.kinds i c found.is.cell)
      in
      subst (λ m. AreWordsSummed layout formats (with_words (slice_set h.segs.words m value))) (sym found.is.word)
      (number_summed layout formats h.segs parts.summed (words_of_arena h.segs.grains) (covered_in_order layout past h w parts laid) at size
      aligned run_there i value found.is.within f read_by (later i c found.is.cell refl)
      (in_words cell i found.is.word found.is.value) plain)

  -- ---- a reference

  pub reference_kept : (i : ℕ) (cell : CellFound) (old : Option ℕ) (found : IsReference h.segs.words at r.cells i cell old) (to : Address)
      → IsTargetAddress to → retargeted f cell.value to ≡ to + found.tag
      → AreWordsSummed layout formats (referring f h.segs at cell to)
  reference_kept i cell old found to address word_is =
      let value = retargeted f cell.value to in
      let lawful =
      held_lawful layout past h w parts sound key n.number p n.value at_key there fit.pool held r reserved open_there
      fit.memory.reserved_at is in
      let leads : f.target value ≡ to = target_is f lawful value to found.tag found.low address word_is in
      let P : Word → Type 0 = λ m.
      AreWordsSummed layout formats (noting_reference (with_words (slice_set h.segs.words m value)) at to)
      in
      subst P (sym found.is.word)
      (reference_summed layout formats h.segs parts.summed (words_of_arena h.segs.grains) (covered_in_order layout past h w parts laid) at
      size aligned run_there i value found.is.within f read_by (later i (ReferenceCell old found.tag) found.is.cell refl)
      (in_words cell i found.is.word found.is.value) (are_held layout past h w parts laid) to leads)
