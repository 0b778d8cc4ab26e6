-- A new block goes into a place of a table: the moves of its call, and what a collection that runs has after it as before.
use Rattle.std.proofs.Common.{◌≡◌, ◌∙◌, ℕ, ◌+◌, ◌<◌, Bool, true, false, refl, sym, ap, subst, List, [], ◌∷◌, ◌++◌, length, Option, Some, None, Ok, is_some, arith}
use Rattle.std.proofs.lemmas.Bool.{and_parts, false≢true, leb-true, ne_eqb}
use Rattle.std.specs.Prelude.{◌==◌, ◌&&◌, nat_le, not}
use Rattle.std.specs.Option.{option_map_or}
use Rattle.mps_base.specs.Address.{Address, address_of_word}
use Rattle.mps_base.specs.Placement.{Placement, Place, NewSegment, OverLimit, NoFreeRun}
use Rattle.mps_base.specs.Segment.{segment_over}
use Rattle.mps_base.specs.Trail.{Moves, with_move}
use Rattle.mps_base.specs.declared.moves.Move.TheVariants as moves
use Rattle.mps_base.specs.declared.names.Rank.TheVariants as rank
use Rattle.mps_format.specs.Layout.{Layout}
use Rattle.mps_changes.proofs.OneMore.{parts_pass}
use Rattle.mps_laws.proofs.Acts.{for_world}
use Rattle.mps_laws.proofs.Positions.LegalMoves.{HasLayout}
use Rattle.mps_laws.proofs.Positions.Segments.{IsAmong}
use Rattle.mps_laws.proofs.Sound.SoundGraph.{PassesOrNull, all-at as all-in, entry-passes}
use Rattle.mps_model.specs.Allocating.{address_of_placement, allows_size, refuse_without_place}
use Rattle.mps_model.specs.Checked.{Found, done}
use Rattle.mps_model.specs.Effect.{world_after_moves}
use Rattle.mps_model.specs.Graph.{entries, entry_at, ids_in_caches, ids_in_places, Graph}
use Rattle.mps_model.specs.History.{alloc_at}
use Rattle.mps_model.specs.Making.{is_block_size}
use Rattle.mps_model.specs.Reply.{act, world_from}
use Rattle.mps_model.specs.World.{World, PoolKind, Collected, OneSize, AnySize, Frames, is_live}
use Rattle.mps_heap_spec.specs.declared.found.Entry.{Entry}
use Rattle.mps_heap_spec.specs.State.{HeapState}
use Rattle.mps_seg.specs.Segs.{moves_after, segments_after, SegsState}
use Rattle.mps_refinement.specs.StandsFor.{AreOfFlip, AreParts, Past, address_of_target, collector_of}
use Rattle.mps_refinement.proofs.Lookups.Found.{some_there}
use Rattle.mps_refinement.proofs.Lookups.Lookups.{IsPlaceEntry}
use Rattle.mps_refinement.proofs.Parts.AllocatedParts.{noted_clear, segments_made}
use Rattle.mps_refinement.proofs.Parts.GreyRanks.{ranks_stay}
use Rattle.mps_refinement.proofs.Parts.SegmentsTaken.{condemned_held, condemned_stay, over_same}
use Rattle.mps_refinement.proofs.Worlds.FlipKept.{flips_kept}
use Rattle.mps_refinement.proofs.Worlds.Known.{IsKnown}
use Rattle.mps_refinement.proofs.Worlds.Placing.{IsSameArena}
use Rattle.mps_refinement.proofs.Worlds.TimeKept.{KeepsTime}
use Rattle.mps_model.specs.declared.call.Call.{Call}

-- ---- what was checked

pub untaken : (b : Bool) → not b ≡ true → b ≡ false
untaken true g = absurd (false≢true g)
untaken false g = refl

pub taken_where : (b : Bool) → not b ≡ false → b ≡ true
taken_where true g = refl
taken_where false g = absurd (false≢true (sym g))

pub none_where : {A : Type 0} (o : Option A) → is_some o ≡ false → o ≡ None
none_where None e = refl
none_where (Some x) e = absurd (false≢true (sym e))

pub with_true : (b : Bool) → (b && true) ≡ b
with_true true = refl
with_true false = refl

pub some_words : (k : PoolKind) (words : ℕ) → allows_size k words ≡ true → 0 < words
some_words (Collected kind) words h = absurd (false≢true h)
some_words (OneSize size) words h =
    let parts = and_parts (is_block_size words) (words == size) h in
    let sized = and_parts (nat_le 1 words) (nat_le words 65536) parts.0 in
    let some = leb-true 1 words sized.0 in
    omega (arith, some)
some_words AnySize words h =
    let sized = and_parts (nat_le 1 words) (nat_le words 65536) h in let some = leb-true 1 words sized.0 in omega (arith, some)
some_words Frames words h =
    let sized = and_parts (nat_le 1 words) (nat_le words 65536) h in let some = leb-true 1 words sized.0 in omega (arith, some)

-- ---- the moves, where the trail had none

pub moves_are : (trail : Moves) (q : Placement) (number words : ℕ) → trail.moves ≡ [] → refuse_without_place q ≡ Ok tt
    → (with_move (moves_after q number 0 trail) (moves.Alloc (record { 0 = address_of_placement q }) words number)).moves
    ≡ alloc_at number words q
moves_are trail (Place word) number words none room =
    ap (λ ms. ms ++ moves.Alloc (record { 0 = address_of_placement (Place word) }) words number ∷ []) none
moves_are trail (NewSegment grain grains) number words none room =
    ap (λ ms. (ms ++ moves.Seg (record { 0 = address_of_placement (NewSegment grain grains) }) grains number 0 ∷ [])
    ++ moves.Alloc (record { 0 = address_of_placement (NewSegment grain grains) }) words number ∷ []) none
moves_are trail (OverLimit committed need limit) number words none room = absurd cc
moves_are trail (NoFreeRun need longest) number words none room = absurd cc

module _ {F : Type 0} (layout : F → Layout) (past : Past) (h : HeapState F) (w : World) (parts : AreParts layout past h w)
    (own : IsKnown past.time w) where
  pub arena_is : IsSameArena h.segs w
  arena_is = record {
    grains = parts.grains;
    limit = parts.limit;
    segments = parts.segments;
    covered = parts.image.runs.covered;
  }

  -- the place is empty in both, or in neither
  pub empty_same : (index : ℕ) (into : Entry Address) (found : Found (Option ℕ)) → IsPlaceEntry past h w index into found
      → (into.value == 0) ≡ not (is_some found.value)
  empty_same index into found is = of_value found.value refl is.value
    where
      of_value : (o : Option ℕ) → found.value ≡ o → into.value ≡ address_of_target w.addresses o → (into.value == 0) ≡ not (is_some o)
      of_value None e value = ap (λ a. a == 0) value
      of_value (Some id) e value =
          let live = subst (PassesOrNull (is_live w)) e (entry-passes (is_live w) found.list index found.value
          (all-in (is_live w) entries w.graph.blocks found.number found.list
          (parts_pass (is_live w) (ids_in_places w.graph) (ids_in_caches w.graph) own.live.blocks).0 is.has) is.there) in
          let at = some_there (entry_at w.addresses id) live in
          let address : into.value ≡ at.0 = value ∙ ap (λ o. option_map_or (λ x. x) o 0) at.1 in
          ne_eqb into.value 0 (λ z. let low = (parts.image.placed.address id at.0 at.1).not_null in omega (arith, z, address, low))

  -- ---- a collection that runs

  module _ (c : Call) (number words : ℕ) (q : Placement) (graph : Graph) (addresses : List (Option Address))
      (moved_is : world_after_moves w (alloc_at number words q)
      ≡ record w { segments = segments_after q number 0 rank.Exact w.segments }) where
    abbrev moved : World
    moved = world_after_moves w (alloc_at number words q)

    abbrev placed : World
    placed = record w { segments = segments_after q number 0 rank.Exact w.segments; graph = graph; addresses = addresses }

    abbrev segs : SegsState
    segs = segments_made h.segs q number words (address_of_placement q)

    flip_stays : act false w moved c ≡ done placed → AreOfFlip past.time.at_flip w → AreOfFlip past.time.at_flip placed
    flip_stays comes of =
        let of_moved : AreOfFlip past.time.at_flip moved =
        subst (AreOfFlip past.time.at_flip) (sym moved_is) (record { made = of.made; still = of.still }) in
        subst (λ y. AreOfFlip past.time.at_flip (world_from moved y)) comes
        (for_world (AreOfFlip past.time.at_flip) moved (act false w moved c)
        (flips_kept false w moved c past.time.at_flip
        (subst (λ (m : World). length m.addresses ≡ length m.graph.objects) (sym moved_is) own.formed.addresses) of_moved) of_moved)

    pub placed_keeps : act false w moved c ≡ done placed → HasLayout (w.grains + 1) placed
        → KeepsTime past.time (collector_of h) w (collector_of (record h { segs = segs })) placed
    placed_keeps comes after = record {
      rest = λ rest. rest;
      not_condemned = λ not_condemned grain. noted_clear q h.segs.condemned grain (not_condemned grain);
      not_kept = λ not_condemned not_kept. not_kept;
      running = refl;
      tails = λ pool generation. refl;
      world_tails = λ pool generation. refl;
      ranked = λ y r.
          ranks_stay layout past h w parts segs (λ n is. is) (λ n is. is) (λ n grey.
          ap (λ ss. segment_over (segments_after q number 0 rank.Exact ss) (address_of_word n)) parts.segments
          ∙ over_same q number 0 rank.Exact (w.grains + 1) w.segments h.segs.condemned own.laid.aligned own.laid.ascending
          after.aligned after.ascending n grey.segment
          (ap (λ ss. segment_over ss (address_of_word n)) (sym parts.segments) ∙ grey.over));
      flip = flip_stays comes;
      condemned = λ y same run marked.
          condemned_stay q number 0 rank.Exact (w.grains + 1) w.segments h.segs.condemned own.laid.aligned own.laid.ascending
          after.aligned after.ascending y.running.condemned_segments marked
          (λ base held. let t = condemned_held y run base held in
          (t.0, subst (λ (m : World). IsAmong t.0 m.segments) same t.1, t.2));
    }
