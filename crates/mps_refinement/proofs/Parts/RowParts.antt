-- After a row of frees of blocks that nobody holds the parts of a heap stand for those of the world after it.
use Rattle.std.proofs.Common.{◌≡◌, ◌∙◌, ℕ, ◌+◌, true, refl, sym, ap, subst, List, map, Option, Some, arith}
use Rattle.std.proofs.lemmas.Bool.{and_parts}
use Rattle.mps_base.specs.Address.{Address, Id, Word, address_of_word}
use Rattle.mps_base.specs.Run.{Covers}
use Rattle.mps_base.specs.Segment.{Segment, is_in_segment, segment_over, words_of_segment}
use Rattle.mps_abstract.specs.Colours.{is_grey}
use Rattle.mps_abstract.proofs.Lists.{contains_left, contains_right}
use Rattle.mps_format.specs.Layout.{Layout}
use Rattle.mps_format.specs.Pools.{policy_of_pool}
use Rattle.mps_laws.proofs.Positions.LegalMoves.{HasLayout}
use Rattle.mps_laws.proofs.Positions.Occupancy.{OfBlock, occupancy_of}
use Rattle.mps_laws.proofs.Positions.Segments.{IsAmong, among_aligned, found_among, found_segment, of_in_segment}
use Rattle.mps_laws.proofs.Sound.HeldIds.{All}
use Rattle.mps_laws.proofs.Sound.SoundGraph.{IsSoundGraph, auto}
use Rattle.mps_model.specs.Graph.{contains, entry_at, ids_in_blocks, ids_in_caches, ids_in_places, is_automatic}
use Rattle.mps_model.specs.WellFormed.{is_live_automatic}
use Rattle.mps_model.specs.World.{World, ids_in_pairs, is_live, object_is}
use Rattle.mps_seg.specs.Segs.{SegsState}
use Rattle.mps_trace_laws.specs.Fix.Ranks.{AreMarksRanked}
use Rattle.mps_trace_laws.specs.Summaries.Summed.{AreWordsSummed}
use Rattle.mps_heap_spec.specs.State.{HeapState}
use Rattle.mps_refinement.specs.Dependents.{kept_pair}
use Rattle.mps_refinement.specs.StandsFor.{AreParts, Past, StandsAt}
use Rattle.mps_refinement.proofs.Collect.SameAddresses.{AreSame, same_places}
use Rattle.mps_refinement.proofs.Parts.BlockParts.{blocks_changed, parts_with_pairs, world_with_blocks}
use Rattle.mps_refinement.proofs.Parts.CachesStill.{same_caches}
use Rattle.mps_refinement.proofs.Parts.GreyRanks.{IsGreyAt, ranks_stay}
use Rattle.mps_refinement.proofs.Parts.Registered.{as_before}
use Rattle.mps_refinement.proofs.Parts.ReservedImage.{block_covers}
use Rattle.mps_refinement.proofs.Parts.StillHeld.{messages_still, slots_still, words_still}
use Rattle.mps_refinement.proofs.Summaries.Kept.{fewer_summed}
use Rattle.mps_refinement.proofs.Worlds.RowOfFrees.{AreFewer, world_row}

module _ {F : Type 0} (layout : F → Layout) (past : Past) (h : HeapState F) (w : World) (parts : AreParts layout past h w)
    (graph : IsSoundGraph w) (registered : All (is_live_automatic w) w.graph.registered)
    (paired : (j : Id) → contains (ids_in_pairs w.state) j ≡ true → auto w j ≡ true) (laid : HasLayout (w.grains + 1) w)
    (after : SegsState) (addresses : List (Option Address)) (segments : List Segment) (pairs : List (Id × Id))
    (image : StandsAt past.time after (world_row w addresses segments pairs)) (segments_are : after.segments ≡ segments)
    (fewer : AreFewer h.segs after w.segments segments)
    (still : (j : Id) → auto w j ≡ true → entry_at addresses j ≡ entry_at w.addresses j) where
  -- what lies in a segment that is left lay in it
  over_before : (n : ℕ) (t : Segment) → segment_over after.segments (address_of_word n) ≡ Some t
      → segment_over h.segs.segments (address_of_word n) ≡ Some t
  over_before n t over =
      let found = found_among (λ (u : Segment). is_in_segment u (address_of_word n)) after.segments t over in
      let held = fewer.among t (subst (IsAmong t) segments_are found.0) in
      ap (λ ss. segment_over ss (address_of_word n)) parts.segments
      ∙ found_segment 1 (w.grains + 1) w.segments t laid.ascending laid.aligned held n
      (of_in_segment t n (among_aligned t w.segments laid.aligned held) found.1)

  row_summed : AreWordsSummed layout (map policy_of_pool h.pools) after
  row_summed =
      fewer_summed layout (map policy_of_pool h.pools) h.segs after parts.summed fewer.grains fewer.words fewer.summaries
      (λ r t over. over_before r.from t over) fewer.covered

  -- where the blocks that are held still are where they were
  pub row_parts : AreSame w.addresses addresses (ids_in_blocks w.graph)
      → map (kept_pair w.addresses) w.graph.dependents ≡ map (kept_pair addresses) w.graph.dependents → pairs ≡ w.graph.dependents
      → AreParts layout past (record h { segs = after }) (world_row w addresses segments pairs)
  row_parts held depending same =
      parts_with_pairs layout past (record h { segs = after })
      (world_with_blocks w w.graph.objects addresses w.graph.blocks segments) pairs same
      (blocks_changed layout past h w after h.roots.blocks w.graph.objects addresses w.graph.blocks segments parts (record {
        grains = fewer.grains;
        limit = fewer.limit;
        segments_are = segments_are;
        image = image;
        summed = row_summed;
        arena = record {
          nonzero = let some = parts.arena.nonzero in let e = fewer.grains in omega (arith, some, e);
          at_most = let most = parts.arena.at_most in let e = fewer.grains in omega (arith, most, e);
          within = λ key p of e f. let low = parts.arena.within key p of e f in let g = fewer.grains in omega (arith, low, g);
          aligned = parts.arena.aligned;
        };
        tables = slots_still w graph addresses still parts.tables;
        areas = words_still w graph addresses still parts.areas;
        blocks_are = parts.blocks ∙ same_places w.addresses addresses w.graph.blocks
            (λ j there. held j (contains_left (ids_in_places w.graph) (ids_in_caches w.graph) j there));
        cached = same_caches w.addresses addresses w.graph.caches
            (λ j there. held j (contains_right (ids_in_places w.graph) (ids_in_caches w.graph) j there));
        depending = depending;
        count = refl;
        counted = refl;
        registered =
            as_before w.addresses past.time.at_flip addresses (is_live_automatic w)
            (λ j passes. still j (and_parts (is_live w j) (object_is is_automatic w j) passes).1) past.time.next past.time.registered_before
            h.finals.registered w.graph.registered registered parts.registered;
        messages = parts.messages ∙ messages_still w graph addresses still;
        paired = λ j from is_paired there. (still j (paired j is_paired) ∙ there, refl);
        there = refl;
        framed = parts.framed;
      }))

  -- grey objects stay where they are, with their segments
  pub row_ranked : HasLayout (w.grains + 1) (world_row w addresses segments pairs)
      → ((j : Id) → is_grey past.time.colours j ≡ true → auto w j ≡ true) → AreMarksRanked h.segs → AreMarksRanked after
  row_ranked laid_then automatic =
      ranks_stay layout past h w parts after fewer.exact fewer.weak over
    where
      over : (n : Word) (grey : IsGreyAt layout past h w parts n) → segment_over after.segments (address_of_word n) ≡ Some grey.segment
      over n grey =
          let v = world_row w addresses segments pairs in
          let c = block_covers (occupancy_of v) w.graph.objects addresses grey.id 0 grey.object n refl refl (record {
            at = grey.lies.at;
            address = still grey.id (automatic grey.id grey.grey) ∙ grey.lies.address;
            object = grey.lies.object;
            within = grey.lies.within;
            is = grey.lies.is;
          }) in
          let home = laid_then.placed.homes (OfBlock grey.id) (omega (arith, c.0, c.1)) in
          let inside : Covers (words_of_segment home.segment) n = (omega (arith, home.above, c.0), omega (arith, home.below, c.1)) in
          let here : segment_over segments (address_of_word n) ≡ Some home.segment =
          found_segment 1 (w.grains + 1) segments home.segment laid_then.ascending laid_then.aligned home.held n inside in
          let now : segment_over after.segments (address_of_word n) ≡ Some home.segment =
          ap (λ ss. segment_over ss (address_of_word n)) segments_are ∙ here in
          now ∙ sym (over_before n home.segment now) ∙ grey.over
