-- After an `alloc` the parts of a heap stand for those of the world after it.
use Rattle.std.proofs.Common.{◌≡◌, ◌∙◌, ℕ, zero, suc, ◌+◌, ◌-◌, ◌*◌, ◌%◌, ◌<◌, ◌≤◌, Bool, true, false, refl, sym, ap, subst, List, length, map, replicate, Option, Some, None, Contains, arith, slice_index}
use Rattle.std.proofs.lemmas.Bool.{false≢true, and_parts}
use Rattle.std.proofs.lemmas.List.{length-replicate}
use Rattle.std.proofs.lemmas.Option.{none-some, same_Some, slice_get_within, slice_get-map}
use Rattle.std.specs.Prelude.{◌&&◌, not, slice_get, slice_set, option_map}
use Rattle.std.specs.Option.{option_map_or}
use Rattle.mps_seg.specs.Arena.{cleared_words}
use Rattle.mps_base.specs.Address.{Address, Id, Word, word_of, address_of_word, max_grains, grain_of}
use Rattle.mps_base.specs.Placement.{Placement, Place, NewSegment, OverLimit, NoFreeRun}
use Rattle.mps_base.specs.Run.{Run, Covers, with_run, IsAscending}
use Rattle.mps_base.specs.Segment.{Segment, grains_of_segment, segment_over}
use Rattle.mps_base.specs.declared.names.Rank.TheVariants as rank
use Rattle.mps_extents.specs.Table.{bit}
use Rattle.mps_format.specs.Layout.{Layout}
use Rattle.mps_trace_laws.specs.Image.ArenaLaws.{AreSegmentsKept, setting_with_segments}
use Rattle.mps_trace_laws.specs.Image.Changes.{AreFree, AreHome, IsAllocated}
use Rattle.mps_trace_laws.specs.Image.Image.{IsFixedWord, Stands, black_cells}
use Rattle.mps_trace_laws.specs.Image.Memory.{Lies, Memory, Setting, is_condemned_word, memory_in, pool_layout, pool_over_word, words_of_arena}
use Rattle.mps_trace_laws.specs.Image.SegmentWords.{AreSegmentsInOrder}
use Rattle.mps_trace_laws.proofs.Image.ArenaLaws.{segments_change}
use Rattle.mps_trace_laws.proofs.Image.ClientLaws.{block_is_allocated}
use Rattle.mps_trace_laws.proofs.Image.SegmentWords.{segments_are_home}
use Rattle.mps_laws.proofs.Positions.LegalMoves.{HasLayout}
use Rattle.mps_laws.proofs.Lookups.{entry_at-at_last, entry_at-last, entry_within, slice_get-at_last, slice_get-kept}
use Rattle.mps_laws.proofs.Positions.Occupancy.{Occupant, OfBlock, OfReservation, Shape, occupancy_of, run_of, shape_of, run_of_block}
use Rattle.mps_laws.proofs.Positions.Segments.{IsAmong, among_aligned, found_segment, segment_bounds}
use Rattle.mps_laws.proofs.Sound.SoundGraph.{IsSoundGraph, auto}
use Rattle.mps_model.specs.Allocating.{address_of_placement}
use Rattle.mps_model.specs.Checked.{Found}
use Rattle.mps_model.specs.Graph.{Cell, NumberCell, Manual, Object, entry_at, is_automatic, size_of, with_last, ids_in_caches, ids_in_places}
use Rattle.mps_model.specs.World.{World, extent, is_automatic_kind, is_copying_pool, is_live, object_is, pool_is}
use Rattle.mps_heap_spec.specs.declared.found.Entry.{Entry}
use Rattle.mps_heap_spec.specs.State.{HeapState}
use Rattle.mps_root.specs.State.{with_place}
use Rattle.mps_seg.specs.Segs.{SegsState, noted_for, segments_after}
use Rattle.mps_refinement.specs.StandsFor.{AreParts, Past, address_of_target, StandsAt, setting_at, IsInTime, rests, runs, collector_of}
use Rattle.mps_changes.proofs.Frames.{blocks_in}
use Rattle.mps_refinement.specs.Framed.{AreFramed}
use Rattle.mps_refinement.proofs.Parts.FramedParts.{all_true, framed_written}
use Rattle.mps_refinement.proofs.Parts.BlockParts.{blocks_changed, with_blocks, world_with_blocks}
use Rattle.mps_refinement.proofs.Parts.BlockPlaces.{place_length, place_written, places_count, places_counted}
use Rattle.mps_refinement.proofs.Parts.ClearedWords.{cleared_long, cleared_word, other_word}
use Rattle.mps_refinement.proofs.Parts.CommittedParts.{aligned_otherwise, in_order_still, segment_there}
use Rattle.mps_refinement.proofs.Lookups.Found.{mapped_some}
use Rattle.mps_refinement.proofs.Worlds.Known.{IsKnown}
use Rattle.mps_refinement.proofs.Lookups.Lookups.{IsPlaceEntry}
use Rattle.mps_refinement.proofs.Lookups.ManualBlocks.{passes_there}
use Rattle.mps_refinement.proofs.Worlds.PlacedOnce.{ArePlacedOnce}
use Rattle.mps_refinement.proofs.Worlds.PlacesByMoves.{places_of}
use Rattle.mps_refinement.proofs.Parts.PointWritten.{none_set}
use Rattle.mps_refinement.proofs.Parts.ReservedImage.{block_covers, reservation_covers}
use Rattle.mps_refinement.proofs.Parts.StillHeld.{messages_still, slots_still, words_still}
use Rattle.mps_seg.specs.Collecting.{bit_of, summary_at}
use Rattle.mps_refinement.proofs.Parts.SegmentsTaken.{condemned_held, condemned_same, condemned_stay, pool_same, stays, uncondemned}
use Rattle.mps_refinement.proofs.Parts.Unforwarded.{flip_known, still_in, unmoved}
use Rattle.mps_refinement.proofs.Parts.Registered.{as_before}
use Rattle.mps_model.specs.WellFormed.{is_live_automatic}
use Rattle.mps_trace_laws.specs.Summaries.Summed.{AreWordsSummed}
use Rattle.mps_xform.specs.Summed.{IsRunSummed}
use Rattle.mps_format.specs.Pools.{policy_of_pool}
use Rattle.mps_format.specs.declared.pool.Policy.{Policy}
use Rattle.mps_laws.proofs.Positions.Covered.{covered-shapes, covered_ascending}
use Rattle.mps_refinement.proofs.Lookups.Policies.{lawful_of_policy}
use Rattle.mps_refinement.proofs.Summaries.NewRuns.{new_run_summed, notes_sized, null_target, stays_held, zero_summed}
use Rattle.mps_refinement.proofs.Parts.CachesStill.{same_caches}
use Rattle.mps_refinement.proofs.Parts.ObjectMore.{address_still}
use Rattle.mps_model.proofs.Reaching.{list_all-contains}
use Rattle.mps_changes.proofs.OneMore.{parts_pass}
use Rattle.mps_refinement.proofs.Parts.ObjectKinds.{kind_with_last, paired_automatic}
use Rattle.mps_refinement.proofs.Parts.PairsKept.{pairs_still}

-- ---- placements

-- a placement is at a word
placed_at_word : (q : Placement) → address_of_placement q % 8 ≡ 0
placed_at_word (Place word) = omega arith
placed_at_word (NewSegment grain grains) = omega arith
placed_at_word (OverLimit committed need limit) = refl
placed_at_word (NoFreeRun need longest) = refl

-- a new segment is not condemned
pub noted_clear : (q : Placement) (bits : List Bool) (grain : ℕ) → bit bits grain ≡ false → bit (noted_for q false bits) grain ≡ false
noted_clear (Place word) bits grain clear = clear
noted_clear (NewSegment first grains) bits grain clear = none_set bits first grain clear
noted_clear (OverLimit committed need limit) bits grain clear = clear
noted_clear (NoFreeRun need longest) bits grain clear = clear

all_zero : (count i x : ℕ) → slice_get (replicate count 0) i ≡ Some x → x ≡ 0
all_zero zero i x e = absurd (none-some x e)
all_zero (suc count) zero x e = sym (same_Some 0 x e)
all_zero (suc count) (suc i) x e = all_zero count i x e

abbrev is_block : Occupant → Bool
is_block (OfBlock id) = true
is_block _ = false

abbrev number_of : Occupant → ℕ
number_of (OfBlock id) = id
number_of _ = 0

-- ---- the segments

-- the segments with a block of n words at an address, which a placement gave; its words are 0
abbrev pub segments_made : SegsState → Placement → (pool words : ℕ) → Address → SegsState
segments_made s q pool words at = record s {
  segments = segments_after q pool 0 rank.Exact s.segments;
  condemned = noted_for q false s.condemned;
  summaries = noted_for q 0 s.summaries;
  covered = with_run (record { from = word_of at; count = words }) s.covered;
  blocks = with_run (record { from = word_of at; count = words }) s.blocks;
  words = cleared_words s.words (word_of at) words;
}

module _ {F : Type 0} (layout : F → Layout) (past : Past) (h : HeapState F) (w : World) (parts : AreParts layout past h w)
    (known : IsKnown past.time w) (graph : IsSoundGraph w) (once : ArePlacedOnce (places_of w)) (pool words : ℕ) (some : 0 < words)
    (q : Placement)
    (time : IsInTime past.time (collector_of h) w) (manual : pool_is is_automatic_kind w pool ≡ false)
    (not_copying : is_copying_pool w pool ≡ false)
  where
    abbrev at : Address
    at = address_of_placement q

    abbrev object : Object
    object = record { pool = pool; body = Manual (replicate words 0) }

    abbrev new : Id
    new = length w.graph.objects

    abbrev segs : SegsState
    segs = segments_made h.segs q pool words at

    abbrev objects_after : List Object
    objects_after = with_last w.graph.objects object

    abbrev addresses_after : List (Option Address)
    addresses_after = with_last w.addresses (Some at)

    abbrev segments_now : List Segment
    segments_now = segments_after q pool 0 rank.Exact w.segments

    -- a world with the block
    abbrev pub world_with : List (List (Option ℕ)) → World
    world_with places = world_with_blocks w objects_after addresses_after places segments_now

    size_is : size_of object ≡ words
    size_is = length-replicate words 0

    module _ (places : List (List (Option ℕ))) (laid : HasLayout (w.grains + 1) w) (after : HasLayout (w.grains + 1)
        (world_with places)) where
      abbrev v : World
      v = world_with places

      -- ---- where it lies

      new_object : slice_get objects_after new ≡ Some object
      new_object = slice_get-at_last w.graph.objects object

      new_address : entry_at addresses_after new ≡ Some at
      new_address =
          ap (entry_at addresses_after) (sym known.formed.addresses) ∙ entry_at-at_last w.addresses (Some at)

      abbrev own : (k : ℕ) → k < words → Lies objects_after addresses_after new k object (word_of at + k)
      own k low = record {
        at = at;
        address = new_address;
        object = new_object;
        within = (let e = size_is in omega (arith, low, e));
        is = refl;
      }

      own_covers : (k : ℕ) → k < words → Covers (run_of (occupancy_of v) (OfBlock new)) (word_of at + k)
      own_covers k low =
          block_covers (occupancy_of v) objects_after addresses_after new k object (word_of at + k) refl refl (own k low)

      -- all words of it lie in one segment
      record IsIn : Type 0 where
        segment : Segment
        held : IsAmong segment segments_now
        of_pool : segment.pool ≡ pool
        above : word_of segment.base ≤ word_of at
        below : word_of at + words ≤ word_of segment.base + 512 * segment.grains

      home : IsIn
      home =
          let first = own_covers 0 some in
          let last = own_covers (words - 1) (omega (arith, some)) in
          let x = after.placed.homes (OfBlock new) (omega (arith, first.0, first.1)) in
          let run : run_of (occupancy_of v) (OfBlock new) ≡ extent at (size_of object) =
          ap (λ o. run_of_block o (entry_at addresses_after new))
          (slice_get-map shape_of objects_after new ∙ ap (option_map shape_of) new_object)
          ∙ ap (run_of_block (Some (shape_of object))) new_address in
          let from : (run_of (occupancy_of v) (OfBlock new)).from ≡ word_of at = ap (λ (r : Run). r.from) run in
          let pool_is : x.segment.pool ≡ pool =
          x.of_pool ∙ ap (λ o. option_map_or (λ (y : Shape). y.pool) o 0)
          (slice_get-map shape_of objects_after new ∙ ap (option_map shape_of) new_object) in
          record {
            segment = x.segment;
            held = x.held;
            of_pool = pool_is;
            above = omega (arith, x.above, from);
            below = omega (arith, x.below, last.1, some);
          }

      within_arena : (k : ℕ) → k < words → word_of at + k < words_of_arena w.grains
      within_arena k low =
          let x = home in
          let bounds = segment_bounds 1 (w.grains + 1) segments_now x.segment after.ascending x.held in
          let a = among_aligned x.segment segments_now after.aligned x.held in
          let below = x.below in
          omega (arith, low, below, bounds.2, a)

      fits : word_of at + words ≤ length h.segs.words
      fits =
          let last = within_arena (words - 1) (omega (arith, some)) in
          let grains = parts.grains in
          let long = parts.image.words.long in
          omega (arith, last, some, grains, long)

      -- ---- the segments, and then the block

      abbrev setting_before : Setting
      setting_before = setting_at past.time h.segs w

      abbrev setting_between : Setting
      setting_between = setting_with_segments setting_before (pool_over_word segs) (is_condemned_word segs)

      segments_are : segs.segments ≡ segments_now
      segments_are = ap (λ ss. segments_after q pool 0 rank.Exact ss) parts.segments

      pool_kept : (n : Word) (p : ℕ) → pool_over_word h.segs n ≡ Some p → pool_over_word segs n ≡ pool_over_word h.segs n
      pool_kept n p has =
          ap (λ ss. option_map (λ (x : Segment). x.pool) (segment_over ss (address_of_word n))) segments_are
          ∙ pool_same q pool 0 rank.Exact (w.grains + 1) w.segments h.segs.condemned laid.aligned laid.ascending after.aligned
          after.ascending
          n p (ap (λ ss. option_map (λ (x : Segment). x.pool) (segment_over ss (address_of_word n))) (sym parts.segments) ∙ has)
          ∙ ap (λ ss. option_map (λ (x : Segment). x.pool) (segment_over ss (address_of_word n))) (sym parts.segments)

      condemned_kept : (n : Word) (p : ℕ) → pool_over_word h.segs n ≡ Some p → is_condemned_word segs n ≡ is_condemned_word h.segs n
      condemned_kept n p has =
          ap (λ ss. bit_of segs.condemned (option_map (λ (x : Segment). grain_of x.base) (segment_over ss (address_of_word n))))
          segments_are
          ∙ condemned_same q pool 0 rank.Exact (w.grains + 1) w.segments h.segs.condemned laid.aligned laid.ascending after.aligned
          after.ascending n p (ap (λ ss. option_map (λ (x : Segment). x.pool) (segment_over ss (address_of_word n))) (sym parts.segments)
          ∙ has)
          ∙ ap (λ ss. bit_of h.segs.condemned (option_map (λ (x : Segment). grain_of x.base) (segment_over ss (address_of_word n))))
          (sym parts.segments)

      kept : AreSegmentsKept setting_before w.addresses (pool_over_word segs) (is_condemned_word segs)
      kept = record {
        pool = λ j k o n l. pool_kept n o.pool (parts.image.placed.home j k o n l);
        is_condemned = λ j k o n l. condemned_kept n o.pool (parts.image.placed.home j k o n l);
        old_pool = λ j from to o k e f apart there low.
            pool_kept (word_of from + k) o.pool ((parts.image.words.forwarded j from to o e f apart there).home k low);
        was_condemned = λ j from to o k e f apart there low.
            condemned_kept (word_of from + k) o.pool ((parts.image.words.forwarded j from to o e f apart there).home k low);
      }

      between : Stands setting_between (memory_in h.segs) w.addresses past.time.colours
      between =
          segments_change setting_before (memory_in h.segs) w.addresses past.time.colours
          (black_cells past.time.condemned past.time.colours) (pool_over_word segs)
          (is_condemned_word segs) parts.image kept

      old_still : (j k : ℕ) (o : Object) (n : Word) → Lies w.graph.objects w.addresses j k o n → Lies objects_after addresses_after j k o n
      old_still j k o n l = record {
        at = l.at;
        address = entry_at-last w.addresses (Some at) j (entry_within w.addresses j l.at l.address) ∙ l.address;
        object = slice_get-kept w.graph.objects object o j l.object;
        within = l.within;
        is = l.is;
      }

      in_order : AreSegmentsInOrder segs.segments
      in_order =
          subst AreSegmentsInOrder (sym segments_are) (record {
            aligned = aligned_otherwise segments_now after.aligned;
            ascending = in_order_still 1 (w.grains + 1) (max_grains + 1) (map grains_of_segment segments_now)
                (let most = parts.arena.at_most in let grains = parts.grains in omega (arith, most, grains)) after.ascending;
          })

      at_home : AreHome setting_between at (size_of object) pool
      at_home =
          let x = home in
          let a = among_aligned x.segment segments_now after.aligned x.held in
          let below = x.below in
          subst (AreHome setting_between at (size_of object)) x.of_pool
          (segments_are_home segs w.graph.objects w.graph.points w.point_memories
          (pool_layout w) past.time.at_flip past.time.condemned past.time.is_read x.segment at
          (size_of object) in_order
          (subst (λ ss. Contains ss x.segment) (sym segments_are) (segment_there x.segment segments_now x.held)) (placed_at_word q)
          (let e = size_is in omega (arith, some, e)) x.above (let e = size_is in omega (arith, below, e, a)))

      -- its words are free before
      free : AreFree setting_between w.addresses at (size_of object)
      free = record {
        within = λ k lt. let low = within_arena k (let e = size_is in omega (arith, lt, e)) in let grains = parts.grains in omega
            (arith, low, grains);
        unoccupied = λ k j i o lt l.
            let low : k < words = (let e = size_is in omega (arith, lt, e)) in
            let c = block_covers (occupancy_of v) objects_after addresses_after j i o (word_of at + k) refl refl (old_still j i o
            (word_of at + k) l) in
            let one : j ≡ new = ap number_of (after.placed.apart (OfBlock j) (OfBlock new) (word_of at + k) c (own_covers k low)) in
            let below = slice_get_within w.graph.objects j o l.object in
            omega (arith, one, below);
        unreserved = λ k point i r lt l.
            let low : k < words = (let e = size_is in omega (arith, lt, e)) in
            let c = reservation_covers (occupancy_of v) w.graph.points w.point_memories point i r (word_of at + k) refl refl l in
            false≢true (ap is_block (after.placed.apart (OfReservation point) (OfBlock new) (word_of at + k) c (own_covers k low)));
        unforwarded = unmoved setting_between (memory_in h.segs) w.addresses past.time.colours
            (black_cells past.time.condemned past.time.colours) (is_copying_pool w) at (size_of object) pool between
            (still_in past.time.at_flip w (flip_known past.time (collector_of h) w time)) at_home not_copying;
      }

      -- and its segment isn't condemned
      over_own : segment_over segs.segments (address_of_word (word_of at)) ≡ Some home.segment
      over_own =
          let x = home in
          let a = among_aligned x.segment segments_now after.aligned x.held in
          let below = x.below in
          ap (λ ss. segment_over ss (address_of_word (word_of at))) segments_are
          ∙ found_segment 1 (w.grains + 1) segments_now x.segment after.ascending after.aligned x.held (word_of at)
          (omega (arith, x.above), omega (arith, below, some, a))

      not_condemned : is_condemned_word segs (word_of at) ≡ false
      not_condemned =
          ap (λ o. bit_of segs.condemned (option_map (λ (x : Segment). grain_of x.base) o)) over_own ∙ of_time time
        where
          of_time : IsInTime past.time (collector_of h) w → bit segs.condemned (grain_of home.segment.base) ≡ false
          of_time (rests rest) =
              noted_clear q h.segs.condemned (grain_of home.segment.base) (rest.not_condemned (grain_of home.segment.base))
          of_time (runs y r) =
              uncondemned y r.invariant segments_now segs.condemned (w.grains + 1) after.ascending
              (λ u there. stays q pool 0 rank.Exact (w.grains + 1) w.segments h.segs.condemned laid.aligned laid.ascending after.aligned
              after.ascending u (subst (λ (v : World). IsAmong u v.segments) r.world there))
              (condemned_stay q pool 0 rank.Exact (w.grains + 1) w.segments h.segs.condemned laid.aligned laid.ascending after.aligned
              after.ascending y.running.condemned_segments r.condemned
              (λ base is. let u = condemned_held y r.invariant base is in
              (u.0, subst (λ (v : World). IsAmong u.0 v.segments) r.world u.1, u.2)))
              home.segment home.held
              (ap (pool_is is_automatic_kind y.world) home.of_pool ∙ ap (λ (v : World). pool_is is_automatic_kind v pool) r.world ∙ manual)

      allocated : IsAllocated setting_between (memory_in h.segs) w.addresses past.time.colours object at
          (cleared_words h.segs.words (word_of at) words) (memory_in h.segs).kept
      allocated = record {
        numbered = known.formed.addresses;
        positive = let e = size_is in omega (arith, some, e);
        not_white = known.unused.not_white;
        not_grey = known.unused.not_grey;
        fresh = known.unused.fresh;
        mark = ap (λ b. b && not ((memory_in h.segs).kept (word_of at))) not_condemned;
        kept_others = λ n other. refl;
        long = cleared_long h.segs.words (word_of at) words fits;
        cells = λ i c e.
            let number = mapped_some NumberCell (slice_get (replicate words 0) i) c (sym (slice_get-map NumberCell (replicate words 0) i)
            ∙ e) in
            let low : i < words = (let x = slice_get_within
            (replicate words 0) i number.0 number.1 in let l = length-replicate {A = ℕ} words 0 in
            omega (arith, x, l)) in
            subst (λ (x : Cell). IsFixedWord past.time.condemned addresses_after past.time.colours 0 x
            (slice_index (cleared_words h.segs.words (word_of at) words) (word_of at + i))) number.2 (record {
              holds = cleared_word h.segs.words (word_of at) words fits i low ∙ sym (all_zero words i number.0 number.1);
              not_white = λ t x. absurd (none-some t x);
            });
        others = λ n apart.
            other_word h.segs.words (word_of at) words fits n (λ l lt. apart l (let e = size_is in omega (arith, lt, e)));
      }

      abbrev memory_of : ℕ → Memory
      memory_of count = record (memory_in h.segs) {
        words = cleared_words h.segs.words (word_of at) words;
        blocks = with_run (record { from = word_of at; count = count }) h.segs.blocks;
        covered = with_run (record { from = word_of at; count = count }) h.segs.covered;
      }

      -- the words with the block
      image_made : StandsAt past.time segs v
      image_made =
          subst (λ n. Stands (setting_at past.time segs v)
          (memory_of n) addresses_after
          past.time.colours) size_is
          (block_is_allocated setting_between (memory_in h.segs) w.addresses past.time.colours object at
          (cleared_words h.segs.words (word_of at) words) (memory_in h.segs).kept between allocated free at_home)

      -- ---- words stay summed: those of the block are 0

      abbrev policies : List (Option (Policy F))
      policies = map policy_of_pool h.pools

      abbrev new_run : Run
      new_run = record { from = word_of at; count = words }

      covered_ascend : IsAscending 0 (512 * (w.grains + 1)) (with_run new_run h.segs.covered)
      covered_ascend =
          subst (IsAscending 0 (512 * (w.grains + 1))) (sym (image_made.runs.covered ∙ covered-shapes v))
          (covered_ascending (w.grains + 1) (occupancy_of v) after)

      own_summed : (t : Segment) (format : Policy F) → segment_over segs.segments (address_of_word (word_of at)) ≡ Some t
          → slice_get policies t.pool ≡ Some (Some format)
          → IsRunSummed (layout format.format) segs.words (summary_at segs t.base) new_run
      own_summed t format over listed =
          let lawful = lawful_of_policy layout h.pools w parts.pools parts.lawful t.pool format listed in
          zero_summed (layout format.format) lawful segs.words (summary_at segs t.base) new_run
          (λ reference leads.
          let none = ap (layout format.format).target (cleared_word h.segs.words (word_of at) words fits 0 some)
          ∙ null_target (layout format.format) lawful in
          omega (arith, leads, none))
          (λ k later low. cleared_word h.segs.words (word_of at) words fits k low)

      summed_made : AreWordsSummed layout policies segs
      summed_made =
          new_run_summed layout policies h.segs segs parts.summed new_run (512 * (w.grains + 1)) refl covered_ascend
          (notes_sized q h.segs.summaries ∙ parts.summed.sized)
          (λ n apart. other_word h.segs.words (word_of at) words fits n apart)
          (stays_held layout past h w parts laid q pool 0 rank.Exact after.aligned after.ascending segs segments_are refl) own_summed

    -- ---- the parts

    -- automatic objects stay where they are
    still : (j : Id) → auto w j ≡ true → entry_at addresses_after j ≡ entry_at w.addresses j
    still j is =
        let o = passes_there is_automatic (slice_get w.graph.objects j) is in
        let low = slice_get_within w.graph.objects j o.0 o.1 in
        let lengths = known.formed.addresses in
        entry_at-last w.addresses (Some at) j (omega (arith, low, lengths))

    pub parts_made : (index : ℕ) (entry : Entry Address) (found : Found (Option ℕ)) → IsPlaceEntry past h w index entry found
        → found.value ≡ None → HasLayout (w.grains + 1) w
        → HasLayout (w.grains + 1) (world_with (slice_set w.graph.blocks found.number (slice_set found.list found.index (Some new))))
        → AreParts layout past (with_blocks h segs (with_place h.roots.blocks entry.key entry.index at))
        (world_with (slice_set w.graph.blocks found.number (slice_set found.list found.index (Some new))))
    parts_made index entry found is empty laid after =
        let places = slice_set w.graph.blocks found.number (slice_set found.list found.index (Some new)) in
        let same_key : entry.key ≡ found.number = sym is.number in
        let same_index : entry.index ≡ found.index = is.index_is ∙ sym is.found_index in
        let has = is.has in
        let lengths = known.formed.addresses in
        let own_target : at ≡ address_of_target addresses_after (Some new) =
        sym (ap (λ o. option_map_or (λ x. x) o 0) (ap (entry_at addresses_after) (sym lengths) ∙ entry_at-at_last w.addresses (Some at))) in
        blocks_changed layout past h w segs (with_place h.roots.blocks entry.key entry.index at) objects_after addresses_after places
        segments_now
        parts (record {
          grains = refl;
          limit = refl;
          segments_are = ap (λ ss. segments_after q pool 0 rank.Exact ss) parts.segments;
          image = image_made places laid after;
          summed = summed_made places laid after;
          arena = record {
            nonzero = parts.arena.nonzero;
            at_most = parts.arena.at_most;
            within = parts.arena.within;
            aligned = parts.arena.aligned;
          };
          tables = slots_still w graph addresses_after still parts.tables;
          areas = words_still w graph addresses_after still parts.areas;
          blocks_are =
              ap (λ bs. with_place bs entry.key entry.index at) parts.blocks
              ∙ ap (λ n. with_place (map (map (address_of_target w.addresses)) w.graph.blocks) n entry.index at) same_key
              ∙ ap (λ i. with_place (map (map (address_of_target w.addresses)) w.graph.blocks) found.number i at) same_index
              ∙ ap (λ a. with_place (map (map (address_of_target w.addresses)) w.graph.blocks) found.number found.index a) own_target
              ∙ place_written w.graph.blocks found.number found.index found.list (Some new) has (address_of_target w.addresses)
              (address_of_target addresses_after) refl (λ m k j there apart.
              let low = once.below m k j there in
              ap (λ o. option_map_or (λ x. x) o 0) (sym (entry_at-last w.addresses (Some at) j (omega (arith, low, lengths)))));
          cached = same_caches w.addresses addresses_after w.graph.caches (λ j cached.
              address_still w.addresses at j (list_all-contains (is_live w) (ids_in_caches w.graph) j
              (parts_pass (is_live w) (ids_in_places w.graph) (ids_in_caches w.graph) known.live.blocks).1 cached));
          depending = pairs_still w known.graph known.formed.dependents addresses_after
              (λ j passes. still j (and_parts (is_live w j) (object_is is_automatic w j) passes).1);
          count = places_count w.graph.blocks found.number found.index found.list (Some new) has;
          counted = places_counted w.graph.blocks found.number found.index found.list (Some new) has;
          registered =
              as_before w.addresses past.time.at_flip addresses_after (is_live_automatic w)
              (λ j passes. still j (and_parts (is_live w j) (object_is is_automatic w j) passes).1) past.time.next
              past.time.registered_before
              h.finals.registered w.graph.registered
              known.formed.registered parts.registered;
          messages = parts.messages ∙ messages_still w graph addresses_after still;
          paired = λ j from paired there.
              let automatic = paired_automatic w known.formed j paired in
              let o = passes_there is_automatic (slice_get w.graph.objects j) automatic in
              (still j automatic ∙ there, kind_with_last (is_copying_pool w) w.graph.objects object j o.0 o.1);
          there =
              ap (λ n. length (with_place h.roots.blocks n entry.index at)) same_key
              ∙ ap (λ i. length (with_place h.roots.blocks found.number i at)) same_index
              ∙ place_length w.graph.blocks found.number found.index found.list (Some new) has h.roots.blocks at;
          framed =
              subst (λ n. AreFramed h.beside.frames (with_place h.roots.blocks n entry.index at) places w.pools w.graph.frames)
              (sym same_key)
              (subst (λ i. AreFramed h.beside.frames (with_place h.roots.blocks found.number i at) places w.pools w.graph.frames)
              (sym same_index)
              (framed_written h.beside.frames h.roots.blocks w.graph.blocks w.pools w.graph.frames parts.framed found.number found.index
              found.list is.list (Some new) at has (ap (slice_get h.roots.blocks) is.number ∙ is.kept) (λ j. true)
              (all_true (blocks_in w.graph.frames)) (λ j entry passes.
              none-some j (sym empty ∙ same_Some found.value (Some j) (sym is.there ∙ ap (slice_get found.list) (sym is.found_index)
              ∙ entry)))
              (places_counted w.graph.blocks found.number found.index found.list (Some new) has)));
        })
