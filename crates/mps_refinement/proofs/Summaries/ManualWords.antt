-- A word of a manual block is written: each word stays summed, since no collection reads it.
use Rattle.std.proofs.Common.{◌≡◌, ◌∙◌, ℕ, ◌+◌, ◌%◌, ◌<◌, true, false, sym, ap, List, ◌++◌, length, map, Option, Some, Contains, subst, arith}
use Rattle.std.proofs.lemmas.Bool.{false≢true}
use Rattle.std.proofs.lemmas.Option.{same_Some}
use Rattle.std.specs.Prelude.{slice_get, slice_set}
use Rattle.std.specs.Option.{option_map_or}
use Rattle.mps_base.specs.Address.{Address, Word, address_of_word, word_of}
use Rattle.mps_base.specs.Segment.{Segment, segment_over}
use Rattle.mps_format.specs.Layout.{Layout}
use Rattle.mps_format.specs.Pools.{policy_of_pool}
use Rattle.mps_format.specs.declared.pool.Policy.{Policy}
use Rattle.mps_laws.proofs.Positions.LegalMoves.{HasLayout}
use Rattle.mps_model.specs.Graph.{size_of, size_of_body}
use Rattle.mps_model.specs.World.{World, extent, extents_of, is_automatic_kind, pool_is, reserved_extents}
use Rattle.mps_model.specs.World as world
use Rattle.mps_trace_laws.specs.Image.Memory.{Lies, words_of_arena}
use Rattle.mps_trace_laws.specs.Summaries.Summed.{AreWordsSummed}
use Rattle.mps_trace_laws.proofs.Fix.Found.{over_of_pool}
use Rattle.mps_trace_laws.proofs.Image.BlockRuns.{contained_in_order, extent_there}
use Rattle.mps_trace_laws.proofs.Reclaim.Around.{contains_left}
use Rattle.mps_heap_spec.specs.State.{HeapState}
use Rattle.mps_refinement.specs.StandsFor.{AreParts, Past}
use Rattle.mps_refinement.proofs.Lookups.ManualBlocks.{IsBlock}
use Rattle.mps_refinement.proofs.Lookups.Policies.{automatic_where_listed}
use Rattle.mps_refinement.proofs.Parts.LaidSegments.{covered_in_order}
use Rattle.mps_refinement.proofs.Summaries.CellWrites.{unread_summed}

module _ {F : Type 0} (layout : F → Layout) (past : Past) (h : HeapState F) (w : World) (parts : AreParts layout past h w)
    (laid : HasLayout (w.grains + 1) w) (at : Address) (id : ℕ) (b : IsBlock w at id) where
  abbrev size : ℕ
  size = size_of b.object

  abbrev formats : List (Option (Policy F))
  formats = map policy_of_pool h.pools

  aligned : at % 8 ≡ 0
  aligned = (parts.image.placed.address id at b.address).aligned

  some : 0 < size
  some = parts.image.placed.positive id at b.object b.address b.there

  run_there : Contains h.segs.covered (extent at size)
  run_there =
      let objects = extents_of w.graph.objects w.addresses in
      let points = reserved_extents w.graph.points w.point_memories in
      let run = extent at size in
      subst (λ rs. Contains rs run) (sym parts.image.runs.covered)
      (contained_in_order (objects ++ points) run
      (contains_left objects points run (extent_there w.graph.objects w.addresses id at b.object b.address b.there)))

  -- its segment is one of its pool
  home : (t : Segment) × (segment_over h.segs.segments (address_of_word (word_of at)) ≡ Some t) × (t.pool ≡ b.object.pool)
  home =
      let first : Lies w.graph.objects w.addresses id 0 b.object (word_of at) =
      record { at = at; address = b.address; object = b.there; within = some; is = omega arith }
      in
      over_of_pool (segment_over h.segs.segments (address_of_word (word_of at))) b.object.pool
      (parts.image.placed.home id 0 b.object (word_of at) first)

  -- which has no policy
  unread : (t : Segment) (policy : Policy F) → segment_over h.segs.segments (address_of_word (word_of at)) ≡ Some t
      → slice_get formats t.pool ≡ Some (Some policy) → ⊥
  unread t policy over listed =
      let same : home.0 ≡ t = same_Some home.0 t (sym home.1 ∙ over) in
      let pool : b.object.pool ≡ t.pool = sym home.2 ∙ ap (λ (u : Segment). u.pool) same in
      let automatic : pool_is is_automatic_kind w b.object.pool ≡ true =
      automatic_where_listed layout h.pools w parts.pools b.object.pool policy (ap (slice_get formats) pool ∙ listed)
      in
      let manual : pool_is is_automatic_kind w b.object.pool ≡ false =
      ap (λ (o : Option world.Pool). option_map_or (λ (x : world.Pool). is_automatic_kind x.kind) o false) b.of ∙ b.right.kind
      in
      false≢true (sym manual ∙ automatic)

  pub manual_keeps : (k value : ℕ) (n : Word) → k < length b.right.words → n ≡ word_of at + k
      → AreWordsSummed layout formats (record h.segs { words = slice_set h.segs.words n value })
  manual_keeps k value n low is =
      let whole : size ≡ length b.right.words = ap size_of_body b.right.body in
      subst (λ m. AreWordsSummed layout formats (record h.segs { words = slice_set h.segs.words m value })) (sym is)
      (unread_summed layout formats h.segs parts.summed (words_of_arena h.segs.grains) (covered_in_order layout past h w parts laid) at size
      aligned run_there k value (omega (arith, low, whole)) unread)
