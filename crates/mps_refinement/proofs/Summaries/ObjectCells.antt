-- A cell of an object is written, a number, a tag or a reference: each word stays summed.
use Rattle.std.proofs.Common.{◌≡◌, ◌∙◌, ℕ, ◌+◌, ◌%◌, ◌<◌, false, refl, sym, ap, List, ◌++◌, length, map, Option, Some, Contains, subst, inl, inr, arith}
use Rattle.std.proofs.lemmas.Bool.{cases_lt, eq-eqb, false≢true}
use Rattle.std.proofs.lemmas.Option.{get_or_from_slice_get, same_Some}
use Rattle.std.specs.Prelude.{slice_get, slice_index, slice_set}
use Rattle.mps_base.specs.Address.{Word, word_of}
use Rattle.mps_format.specs.Layout.{IsLawful, Layout}
use Rattle.mps_format.specs.Pools.{policy_of_pool}
use Rattle.mps_format.specs.declared.pool.Policy.{Policy}
use Rattle.mps_laws.proofs.Positions.LegalMoves.{HasLayout}
use Rattle.mps_model.specs.Checked.{Numbered, cells_of_body, head_of_body}
use Rattle.mps_model.specs.Graph.{Cell, HeadCell, NumberCell, Object, ReferenceCell, size_of, size_of_body}
use Rattle.mps_model.specs.World.{World, extent, extents_of, reserved_extents}
use Rattle.mps_seg.specs.Segs.{SegsState}
use Rattle.mps_trace_laws.specs.Image.Memory.{Lies, all_cells, words_of_arena}
use Rattle.mps_trace_laws.specs.Summaries.Summed.{AreWordsSummed}
use Rattle.mps_trace_laws.proofs.Image.BlockRuns.{contained_in_order, extent_there}
use Rattle.mps_trace_laws.proofs.Reclaim.Around.{contains_left}
use Rattle.mps_heap_spec.specs.Finding.{retargeted}
use Rattle.mps_heap_spec.specs.Referring.{noting_reference, referring}
use Rattle.mps_heap_spec.specs.State.{HeapState}
use Rattle.mps_heap_spec.specs.declared.found.Block.{Block}
use Rattle.mps_heap_spec.specs.declared.found.CellFound.{CellFound}
use Rattle.mps_refinement.specs.StandsFor.{AreParts, Past, address_of_target}
use Rattle.mps_refinement.proofs.Lookups.Cells.{first_cell, is_head_cell, retargeted_is, target_is}
use Rattle.mps_refinement.proofs.Lookups.LiveObjects.{IsObject, IsReferenceOf, lies, object_lawful, target_address}
use Rattle.mps_refinement.proofs.Lookups.Policies.{layout_of_policy}
use Rattle.mps_refinement.proofs.Parts.LaidSegments.{are_held, covered_in_order}
use Rattle.mps_refinement.proofs.Summaries.CellWrites.{AreReadBy, number_summed, reference_summed, same_target_summed}

module _ {F : Type 0} (layout : F → Layout) (past : Past) (h : HeapState F) (w : World) (parts : AreParts layout past h w)
    (laid : HasLayout (w.grains + 1) w) (b : Block F) (n : Numbered Object) (is : IsObject layout past h w b n) where
  abbrev f : Layout
  f = layout b.format

  abbrev formats : List (Option (Policy F))
  formats = map policy_of_pool h.pools

  abbrev with_words : List ℕ → SegsState
  with_words words = record h.segs { words = words }

  run_there : Contains h.segs.covered (extent b.at (size_of n.value))
  run_there =
      let objects = w.graph.objects in
      let run = extent b.at (size_of n.value) in
      let reserved = reserved_extents w.graph.points w.point_memories in
      subst (λ rs. Contains rs run) (sym parts.image.runs.covered)
      (contained_in_order (extents_of objects w.addresses ++ reserved) run
      (contains_left (extents_of objects w.addresses) reserved run
      (extent_there objects w.addresses n.number b.at n.value is.address is.object)))

  aligned : b.at % 8 ≡ 0
  aligned = is.block.address.aligned

  read_by : AreReadBy layout formats h.segs b.at f
  read_by = record {
    segment = is.block.segment;
    over = is.block.over;
    reads = λ policy listed.
        layout_of_policy layout h.pools w parts.pools n.value.pool policy
        (ap (slice_get formats) (sym is.block.of) ∙ listed) ∙ is.layout_is;
  }

  whole : size_of n.value ≡ length is.cells
  whole = ap size_of_body is.body

  -- its first word is its head
  head_is : 0 < length is.cells → slice_index h.segs.words (word_of b.at) ≡ b.head
  head_is some =
      let first : word_of b.at + 0 ≡ word_of b.at = omega arith in
      ap (slice_index h.segs.words) (sym first)
      ∙ parts.image.words.cells n.number 0 n.value (word_of b.at + 0) HeadCell is.read
      (lies layout past h w parts n.number 0 b.at n.value is.address is.object (let size = whole in omega (arith, some, size)))
      (ap (λ body. slice_get (all_cells body) 0) is.body ∙ first_cell f b.head is.cells is.are some)
      ∙ ap head_of_body is.body

  module _ (k : ℕ) (word : Word) (place : Lies w.graph.objects w.addresses n.number k n.value word) where
    word_is : word ≡ word_of b.at + k
    word_is =
        let same : place.at ≡ b.at = same_Some place.at b.at (sym place.address ∙ is.address) in
        place.is ∙ ap (λ a. word_of a + k) same

    in_words : word_of b.at + k < length h.segs.words
    in_words =
        let low = parts.image.placed.within n.number k n.value word place in
        let long = parts.image.words.long in
        let e = word_is in
        omega (arith, low, long, e)

    -- cell k isn't the first where it isn't the head
    is_later : (c : Cell) → slice_get (cells_of_body n.value.body) k ≡ Some c → is_head_cell c ≡ false → 0 < k
    is_later c there other = elim (cases_lt 0 k) [
      | inl later ↦ later
      | inr none ↦
          let e : slice_get is.cells k ≡ Some c = ap (λ body. slice_get (cells_of_body body) k) (sym is.body) ∙ there in
          absurd (false≢true (sym other ∙ is.are.heads k c e ∙ eq-eqb k 0 (omega (arith, none))))
    ]

    -- ---- a number

    pub number_keeps : (value number : ℕ) → slice_get (cells_of_body n.value.body) k ≡ Some (NumberCell number)
        → AreWordsSummed layout formats (with_words (slice_set h.segs.words word value))
    number_keeps value number there =
        let inside = place.within in
        let size = whole in
        let later = is_later (NumberCell number) there refl in
        let e : slice_get is.cells k ≡ Some (NumberCell number) =
        ap (λ body. slice_get (cells_of_body body) k) (sym is.body) ∙ there
        in
        let plain : f.is_reference (slice_index h.segs.words (word_of b.at)) k ≡ false =
        ap (λ head. f.is_reference head k) (head_is (omega (arith, inside, size))) ∙ sym (is.are.kinds k (NumberCell number) e)
        in
        subst (λ m. AreWordsSummed layout formats (with_words (slice_set h.segs.words m value))) (sym word_is)
        (number_summed layout formats h.segs parts.summed (words_of_arena h.segs.grains) (covered_in_order layout past h w parts laid) b.at
        (size_of n.value) aligned run_there k value inside f read_by later in_words plain)

  module _ (k : ℕ) (cell : CellFound) (old : Option ℕ) (found : IsReferenceOf past.time h.segs.words w n k cell old) where
    lawful : IsLawful f
    lawful = object_lawful layout past h w parts b n is

    its_word : cell.word ≡ word_of b.at + k
    its_word = word_is k cell.word found.lies

    is_cell : slice_get (cells_of_body n.value.body) k ≡ Some (ReferenceCell old found.tag)
    is_cell = found.cell

    led_to : f.target (slice_index h.segs.words (word_of b.at + k)) ≡ found.was
    led_to =
        ap (λ m. f.target (slice_index h.segs.words m)) (sym its_word)
        ∙ ap f.target (get_or_from_slice_get h.segs.words cell.word cell.value 0 found.there)
        ∙ target_is f lawful cell.value found.was found.tag found.low found.is_target found.value

    -- ---- a tag

    pub tag_keeps : (tag : ℕ) → tag < 8 → AreWordsSummed layout formats (with_words (slice_set h.segs.words cell.word (found.was + tag)))
    tag_keeps tag low =
        let value = found.was + tag in
        let leads : f.target value ≡ found.was = target_is f lawful value found.was tag low found.is_target refl in
        subst (λ m. AreWordsSummed layout formats (with_words (slice_set h.segs.words m value))) (sym its_word)
        (same_target_summed layout formats h.segs parts.summed (words_of_arena h.segs.grains) (covered_in_order layout past h w parts laid)
        b.at (size_of n.value) aligned run_there k value found.lies.within f read_by
        (is_later k cell.word found.lies (ReferenceCell old found.tag) is_cell refl) (in_words k cell.word found.lies)
        (leads ∙ sym led_to))

    -- ---- a reference

    pub reference_keeps : (target : Option ℕ)
        → AreWordsSummed layout formats (referring f h.segs b.at cell (address_of_target w.addresses target))
    reference_keeps target =
        let to = address_of_target w.addresses target in
        let value = retargeted f cell.value to in
        let address = target_address layout past h w parts target in
        let leads : f.target value ≡ to =
        target_is f lawful value to found.tag found.low address
        (retargeted_is f lawful cell.value found.was found.tag found.low found.is_target found.value to address)
        in
        let P : Word → Type 0 = λ m.
        AreWordsSummed layout formats
        (noting_reference (with_words (slice_set h.segs.words m value)) b.at to)
        in
        subst P (sym its_word)
        (reference_summed layout formats h.segs parts.summed (words_of_arena h.segs.grains) (covered_in_order layout past h w parts laid)
        b.at (size_of n.value) aligned run_there k value found.lies.within f read_by
        (is_later k cell.word found.lies (ReferenceCell old found.tag) is_cell refl) (in_words k cell.word found.lies)
        (are_held layout past h w parts laid) to leads)
