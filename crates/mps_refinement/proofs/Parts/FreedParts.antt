-- After a `free` the parts of a heap stand for those of the world after it.
use Rattle.std.proofs.Common.{◌≡◌, ◌∙◌, ℕ, ◌+◌, Bool, true, false, refl, sym, ap, subst, List, map, Option, Some, None, arith, length}
use Rattle.std.proofs.lemmas.Bool.{eq-eqb, false≢true, and_parts}
use Rattle.std.proofs.lemmas.Option.{same_Some}
use Rattle.std.specs.Prelude.{◌==◌, not, slice_get, slice_set, if◌then◌else◌}
use Rattle.std.specs.Option.{option_map_or}
use Rattle.mps_base.specs.Address.{Address, Id, Word, word_of, address_of_word}
use Rattle.mps_base.specs.Run.{IsAscending}
use Rattle.mps_base.specs.Segment.{Segment, segment_over, without_segment, grains_of_segment}
use Rattle.mps_format.specs.Layout.{Layout}
use Rattle.mps_trace_laws.specs.Image.Memory.{Lies}
use Rattle.mps_laws.proofs.Positions.LegalMoves.{HasLayout}
use Rattle.mps_laws.proofs.Lookups.{entry_at-set_other}
use Rattle.mps_laws.proofs.Positions.Segments.{IsAligned, IsAmong, AreAligned}
use Rattle.mps_laws.proofs.Sound.SoundGraph.{IsSoundGraph, auto}
use Rattle.mps_pools.specs.Manual.{block_removed, is_unused}
use Rattle.mps_model.specs.Graph.{Object, entry_at, is_automatic, ids_in_caches}
use Rattle.mps_model.specs.World as world
use Rattle.mps_model.specs.World.{World, object_is, is_copying_pool, is_live, has_frames, pool_is, pool_of}
use Rattle.mps_model.specs.Effect.{with_address}
use Rattle.mps_heap_spec.specs.declared.found.Entry.{Entry}
use Rattle.mps_heap_spec.specs.State.{HeapState}
use Rattle.mps_format.specs.Pools.{policy_of_pool}
use Rattle.mps_model.specs.Checked.{Found}
use Rattle.mps_root.specs.State.{with_place}
use Rattle.mps_refinement.specs.StandsFor.{AreParts, Past, address_of_target, StandsAt, AreOfFlip, IsInTime, collector_of}
use Rattle.mps_refinement.proofs.Parts.FreedSegments as freed
use Rattle.mps_refinement.proofs.Parts.FreedSegments.{HasShapes}
pub use Rattle.mps_refinement.proofs.Parts.FreedSegments.{any_size_alike, freed_is, segments_freed}
use Rattle.mps_refinement.proofs.Parts.BlockParts.{blocks_changed, with_blocks, world_with_blocks}
use Rattle.mps_refinement.specs.Framed.{AreFramed}
use Rattle.mps_refinement.proofs.Parts.FramedParts.{framed_written, frames_others}
use Rattle.mps_refinement.proofs.Parts.BlockPlaces.{place_length, place_written, places_count, places_counted}
use Rattle.mps_refinement.proofs.Worlds.Known.{IsKnown}
use Rattle.mps_refinement.proofs.Lookups.Lookups.{IsPlaceEntry}
use Rattle.mps_refinement.proofs.Lookups.ManualBlocks.{IsBlock}
use Rattle.mps_refinement.proofs.Worlds.PlacedOnce.{ArePlacedOnce}
use Rattle.mps_refinement.proofs.Worlds.PlacesByMoves.{places_of}
use Rattle.mps_refinement.proofs.Parts.StillHeld.{messages_still, reservation_targets, slots_still, words_still}
use Rattle.mps_refinement.proofs.Parts.Unforwarded.{flip_known}
use Rattle.mps_refinement.proofs.Parts.Registered.{as_before}
use Rattle.mps_model.specs.WellFormed.{is_live_automatic}
use Rattle.mps_abstract.specs.Colours.{is_grey}
use Rattle.mps_refinement.proofs.Parts.GreyRanks.{IsGreyAt, ranks_stay}
use Rattle.mps_trace_laws.specs.Fix.Ranks.{AreMarksRanked}
use Rattle.mps_trace_laws.proofs.Fix.Ranks.{was_set}
use Rattle.mps_seg.specs.Marks.{MarkTables}
use Rattle.mps_extents.specs.Table.{bit}
use Rattle.mps_trace_laws.specs.Summaries.Summed.{AreWordsSummed}
use Rattle.mps_refinement.proofs.Summaries.FreedBlocks.{given_summed, removed_summed}
use Rattle.mps_refinement.proofs.Parts.CachesStill.{same_caches, others_in}
use Rattle.mps_refinement.proofs.Parts.ObjectKinds.{paired_automatic}
use Rattle.mps_refinement.proofs.Parts.PairsKept.{pairs_still}

module _ {F : Type 0} (layout : F → Layout) (past : Past) (h : HeapState F) (w : World) (parts : AreParts layout past h w)
    (known : IsKnown past.time w) (graph : IsSoundGraph w) (at : Address) (id : Id) (b : IsBlock w at id)
    (time : IsInTime past.time (collector_of h) w) where
  shapes : HasShapes w
  shapes = record {
    right = known.formed.objects;
    lawful = parts.lawful;
    reserved = λ point i r u tag live cell. reservation_targets w graph point i r u tag live cell;
  }

  of_flip : AreOfFlip past.time.at_flip w
  of_flip = flip_known past.time (collector_of h) w time

  pub not_automatic : auto w id ≡ false
  not_automatic = freed.not_automatic past.time h.segs w parts.image parts.segments shapes of_flip at id b

  abbrev addresses_after : List (Option Address)
  addresses_after = slice_set w.addresses id None

  -- whether its segment is given back is the same in both
  pub unused_is : (t : Segment) → IsAligned t
      → is_unused (block_removed h.segs at).covered t ≡ world.is_empty_segment (with_address w id None) t
  unused_is = freed.unused_is past.time h.segs w parts.image parts.segments shapes of_flip at id b

  still : (j : Id) → auto w j ≡ true → entry_at addresses_after j ≡ entry_at w.addresses j
  still = freed.still past.time h.segs w parts.image parts.segments shapes of_flip at id b

  -- what is known of the addresses at the flip stays true
  pub flip_after : (places : List (List (Option ℕ))) (segments : List Segment) → AreOfFlip past.time.at_flip w
      → AreOfFlip past.time.at_flip (world_with_blocks w w.graph.objects addresses_after places segments)
  flip_after = freed.flip_after past.time h.segs w parts.image parts.segments shapes of_flip at id b

  -- the segment over a word of a block stays, where it isn't given back
  over_still : (base : Address) (v : World) → v.segments ≡ without_segment w.segments base → v.graph.objects ≡ w.graph.objects
      → v.addresses ≡ addresses_after → HasLayout (w.grains + 1) w → HasLayout (v.grains + 1) v → (j k : ℕ) (o : Object) (n : Word)
      → Lies w.graph.objects addresses_after j k o n
      → segment_over (without_segment h.segs.segments base) (address_of_word n) ≡ segment_over h.segs.segments (address_of_word n)
  over_still = freed.over_still past.time h.segs w parts.image parts.segments shapes of_flip at id b

  -- the words after the free
  image_after : (t : Segment) (given : Bool) (v : World) → IsAmong t w.segments → is_copying_pool w t.pool ≡ false
      → v.segments ≡ (if given then without_segment w.segments t.base else w.segments) → v.graph.objects ≡ w.graph.objects
      → v.addresses ≡ addresses_after → HasLayout (w.grains + 1) w → HasLayout (v.grains + 1) v
      → StandsAt past.time (segments_freed h.segs at t given) (with_address w id None)
  image_after = freed.image_after past.time h.segs w parts.image parts.segments shapes of_flip at id b

  -- ---- the parts

  segs_grains : (t : Segment) (given : Bool) → (segments_freed h.segs at t given).grains ≡ h.segs.grains
  segs_grains t true = refl
  segs_grains t false = refl

  segs_limit : (t : Segment) (given : Bool) → (segments_freed h.segs at t given).limit ≡ h.segs.limit
  segs_limit t true = refl
  segs_limit t false = refl

  pub segs_condemned : (t : Segment) (given : Bool) → (segments_freed h.segs at t given).condemned ≡ h.segs.condemned
  segs_condemned t true = refl
  segs_condemned t false = refl

  pub segs_kept : (t : Segment) (given : Bool)
      → (segments_freed h.segs at t given).marks.kept ≡ slice_set h.segs.marks.kept (word_of at) false
  segs_kept t true = refl
  segs_kept t false = refl

  segs_segments : (t : Segment) (given : Bool)
      → (segments_freed h.segs at t given).segments ≡ (if given then without_segment w.segments t.base else w.segments)
  segs_segments t true = ap (λ ss. without_segment ss t.base) parts.segments
  segs_segments t false = parts.segments

  marks_freed : (t : Segment) (given : Bool) → (segments_freed h.segs at t given).marks ≡ (block_removed h.segs at).marks
  marks_freed t true = refl
  marks_freed t false = refl

  -- grey objects stay where they are, with their segments
  pub ranks_freed : (t : Segment) (given : Bool) (v : World)
      → v.segments ≡ (if given then without_segment w.segments t.base else w.segments) → v.graph.objects ≡ w.graph.objects
      → v.addresses ≡ addresses_after → HasLayout (w.grains + 1) w → HasLayout (v.grains + 1) v
      → ((j : Id) → is_grey past.time.colours j ≡ true → auto w j ≡ true) → AreMarksRanked h.segs
      → AreMarksRanked (segments_freed h.segs at t given)
  ranks_freed t given v segments objects addresses laid after automatic =
      ranks_stay layout past h w parts (segments_freed h.segs at t given)
      (λ n is. was_set h.segs.marks.exact (word_of at) n (ap (λ (m : MarkTables). bit m.exact n) (sym (marks_freed t given)) ∙ is))
      (λ n is. was_set h.segs.marks.weak (word_of at) n (ap (λ (m : MarkTables). bit m.weak n) (sym (marks_freed t given)) ∙ is))
      (λ n grey. over_grey n grey given segments)
    where
      over_grey : (n : Word) (grey : IsGreyAt layout past h w parts n) (g : Bool)
          → v.segments ≡ (if g then without_segment w.segments t.base else w.segments)
          → segment_over (segments_freed h.segs at t g).segments (address_of_word n) ≡ Some grey.segment
      over_grey n grey true segments_are =
          over_still t.base v segments_are objects addresses laid after grey.id 0 grey.object n (record {
            at = grey.lies.at;
            address = still grey.id (automatic grey.id grey.grey) ∙ grey.lies.address;
            object = grey.lies.object;
            within = grey.lies.within;
            is = grey.lies.is;
          }) ∙ grey.over
      over_grey n grey false segments_are = grey.over

  -- words stay summed
  segs_summed : (t : Segment) (given : Bool) → HasLayout (w.grains + 1) w
      → AreWordsSummed layout (map policy_of_pool h.pools) (segments_freed h.segs at t given)
  segs_summed t given laid = of_given given
    where
      aligned : AreAligned h.segs.segments
      aligned = subst AreAligned (sym parts.segments) laid.aligned

      ascending : IsAscending 1 (w.grains + 1) (map grains_of_segment h.segs.segments)
      ascending =
          subst (λ (ss : List Segment). IsAscending 1 (w.grains + 1) (map grains_of_segment ss)) (sym parts.segments) laid.ascending

      of_given : (b : Bool) → AreWordsSummed layout (map policy_of_pool h.pools) (segments_freed h.segs at t b)
      of_given true = given_summed layout (map policy_of_pool h.pools) h.segs (w.grains + 1) aligned ascending parts.summed at t.base
      of_given false = removed_summed layout (map policy_of_pool h.pools) h.segs (w.grains + 1) aligned ascending parts.summed at

  pub parts_freed : (index : ℕ) (entry : Entry Address) (found : Found (Option ℕ)) → IsPlaceEntry past h w index entry found
      → found.value ≡ Some id → ArePlacedOnce (places_of w) → (t : Segment) (given : Bool) → IsAmong t w.segments
      → is_copying_pool w t.pool ≡ false → pool_is has_frames w (pool_of w id) ≡ false
      → HasLayout (w.grains + 1) w
      → HasLayout (w.grains + 1) (world_with_blocks w w.graph.objects addresses_after
      (slice_set w.graph.blocks found.number (slice_set found.list found.index None))
      (if given then without_segment w.segments t.base else w.segments))
      → AreParts layout past
      (with_blocks h (segments_freed h.segs at t given) (with_place h.roots.blocks entry.key entry.index 0))
      (world_with_blocks w w.graph.objects addresses_after
      (slice_set w.graph.blocks found.number (slice_set found.list found.index None))
      (if given then without_segment w.segments t.base else w.segments))
  parts_freed index entry found is value once t given held not_copying frameless laid after =
      let places = slice_set w.graph.blocks found.number (slice_set found.list found.index None) in
      let segments = if given then without_segment w.segments t.base else w.segments in
      let v = world_with_blocks w w.graph.objects addresses_after places segments in
      let same_key : entry.key ≡ found.number = sym is.number in
      let same_index : entry.index ≡ found.index = is.index_is ∙ sym is.found_index in
      let has = is.has in
      blocks_changed layout past h w (segments_freed h.segs at t given) (with_place h.roots.blocks entry.key entry.index 0) w.graph.objects
      addresses_after places segments parts (record {
        grains = segs_grains t given;
        limit = segs_limit t given;
        segments_are = segs_segments t given;
        image = image_after t given v held not_copying refl refl refl laid after;
        summed = segs_summed t given laid;
        arena = record {
          nonzero = let some = parts.arena.nonzero in let e = segs_grains t given in omega (arith, some, e);
          at_most = let most = parts.arena.at_most in let e = segs_grains t given in omega (arith, most, e);
          within = λ key p held e f.
              let low = parts.arena.within key p held e f in let g = segs_grains t given in omega (arith, low, g);
          aligned = parts.arena.aligned;
        };
        tables = slots_still w graph addresses_after still parts.tables;
        areas = words_still w graph addresses_after still parts.areas;
        blocks_are =
            ap (λ bs. with_place bs entry.key entry.index 0) parts.blocks
            ∙ ap (λ n. with_place (map (map (address_of_target w.addresses)) w.graph.blocks) n entry.index 0) same_key
            ∙ ap (λ i. with_place (map (map (address_of_target w.addresses)) w.graph.blocks) found.number i 0) same_index
            ∙ place_written w.graph.blocks found.number found.index found.list None has (address_of_target w.addresses)
            (address_of_target addresses_after) refl (λ m k j there apart.
            ap (λ o. option_map_or (λ x. x) o 0) (sym (entry_at-set_other w.addresses id j None (λ same.
            apart (once.once m k found.number found.index j there (record {
              row = found.list;
              table = has;
              entry = ap (slice_get found.list) is.found_index ∙ is.there ∙ ap Some (value ∙ ap Some same);
            }))))));
        cached = same_caches w.addresses addresses_after w.graph.caches (λ j cached. entry_at-set_other w.addresses id j None
            (others_in id (ids_in_caches w.graph) (once.not_cached found.number found.index id (record {
              row = found.list;
              table = has;
              entry = ap (slice_get found.list) is.found_index ∙ is.there ∙ ap Some value;
            })) j cached));
        depending = pairs_still w known.graph known.formed.dependents addresses_after
            (λ j passes. still j (and_parts (is_live w j) (object_is is_automatic w j) passes).1);
        count = places_count w.graph.blocks found.number found.index found.list None has;
        counted = places_counted w.graph.blocks found.number found.index found.list None has;
        registered =
            as_before w.addresses past.time.at_flip addresses_after (is_live_automatic w)
            (λ j passes. still j (and_parts (is_live w j) (object_is is_automatic w j) passes).1) past.time.next past.time.registered_before
            h.finals.registered w.graph.registered
            known.formed.registered parts.registered;
        messages = parts.messages ∙ messages_still w graph addresses_after still;
        paired = λ j from paired there. (still j (paired_automatic w known.formed j paired) ∙ there, refl);
        there =
            ap (λ n. length (with_place h.roots.blocks n entry.index 0)) same_key
            ∙ ap (λ i. length (with_place h.roots.blocks found.number i 0)) same_index
            ∙ place_length w.graph.blocks found.number found.index found.list None has h.roots.blocks 0;
        framed =
            subst (λ n. AreFramed h.beside.frames (with_place h.roots.blocks n entry.index 0) places w.pools w.graph.frames) (sym same_key)
            (subst (λ i. AreFramed h.beside.frames (with_place h.roots.blocks found.number i 0) places w.pools w.graph.frames)
            (sym same_index)
            (framed_written h.beside.frames h.roots.blocks w.graph.blocks w.pools w.graph.frames parts.framed found.number found.index
            found.list is.list None 0 has (ap (slice_get h.roots.blocks) is.number ∙ is.kept) (λ j. not (id == j))
            (frames_others w id frameless w.graph.frames known.formed.frames) (λ j entry passes.
            let same : id ≡ j =
            same_Some id j (sym value ∙ same_Some found.value (Some j) (sym is.there ∙ ap (slice_get found.list) (sym is.found_index)
            ∙ entry)) in
            false≢true (ap not (sym (eq-eqb id j same)) ∙ passes))
            (places_counted w.graph.blocks found.number found.index found.list None has)));
      })
