-- After a `reserve` the parts of a heap stand for those of the world after it.
use Rattle.std.proofs.Common.{◌≡◌, ◌∙◌, ◌⊎◌, ℕ, ◌+◌, ◌-◌, ◌%◌, ◌<◌, ◌≤◌, false, refl, sym, ap, subst, List, length, Some, None, inl, inr, arith, slice_index, map, Contains, true, Option, ◌*◌}
use Rattle.std.proofs.lemmas.Bool.{cases_eq}
use Rattle.std.proofs.lemmas.Option.{same_Some, slice_get_within}
use Rattle.std.specs.Prelude.{not, slice_get, slice_set, option_map, if◌then◌else◌, IsTrue}
use Rattle.mps_base.specs.Address.{word_of, Word, address_of_word, grain_of, max_grains}
use Rattle.mps_base.specs.Placement.{Placement}
use Rattle.mps_base.specs.Segment.{Segment, grains_of_segment, segment_over}
use Rattle.mps_seg.specs.declared.buffer.Buffer.{Buffer}
use Rattle.mps_buffer.specs.declared.point.Held.{Held}
use Rattle.mps_buffer.specs.declared.point.Point.{Point}
use Rattle.mps_buffer.specs.Points.{point_at, with_point, with_place, with_reservation, run_of_held}
use Rattle.mps_seg.specs.Buffer.{run_of}
use Rattle.mps_format.specs.Layout.{Layout}
use Rattle.mps_trace_laws.specs.Image.ArenaLaws.{setting_with_segments}
use Rattle.mps_trace_laws.specs.Image.Image.{Stands, black_cells}
use Rattle.mps_trace_laws.specs.Image.Memory.{Setting, is_condemned_word, memory_in, pool_layout, pool_over_word, words_of_arena}
use Rattle.mps_trace_laws.proofs.Image.ArenaLaws.{segments_change}
use Rattle.mps_trace_laws.proofs.Image.ClientLaws.{reservation_is_made}
use Rattle.mps_model.specs.Graph as graph
use Rattle.mps_model.specs.Graph.{Cell, Reservation, entry_at, new_cells}
use Rattle.mps_model.specs.World.{World, PointMemory, is_copying_pool}
use Rattle.mps_seg.specs.Segs.{SegsState, segments_after}
use Rattle.mps_laws.proofs.Positions.LegalMoves.{HasLayout}
use Rattle.mps_laws.proofs.Lookups.{entry_is_there, slice_get-set_other, entry_at-set_same, entry_within}
use Rattle.mps_laws.proofs.Positions.Segments.{AreAligned, among_aligned}
use Rattle.mps_heap_spec.specs.State.{HeapState}
use Rattle.mps_refinement.specs.StandsFor.{AreParts, BothHeld, IsArena, IsPoint, Past, IsInTime, StandsAt, setting_at, collector_of}
use Rattle.mps_refinement.proofs.Parts.ClearedWords.{reserved_head, reserved_long, reserved_others, reserved_words, reserved_zero}
use Rattle.mps_refinement.proofs.Parts.Counts.{reservation_written_points}
use Rattle.mps_refinement.proofs.Parts.PointWritten.{points_anew, points_there, points_written, written_point, other_point}
use Rattle.mps_refinement.proofs.Parts.ReservedImage.{new_cell_is_fixed, own_free, own_within, memory_now, own_begins, own_covers, shape_there}
use Rattle.mps_base.specs.Run.{Covers, IsAscending, with_run}
use Rattle.mps_seg.specs.Collecting.{bit_of, summary_at}
use Rattle.std.specs.Option.{option_map_or}
use Rattle.mps_refinement.proofs.Parts.CommittedParts.{aligned_otherwise, in_order_still, segment_there}
use Rattle.mps_refinement.proofs.Parts.SegmentsTaken.{condemned_same, pool_same}
use Rattle.mps_refinement.proofs.Parts.Unforwarded.{flip_known, still_in, uncondemned_place, unmoved}
use Rattle.mps_trace_laws.specs.Image.Changes.{AreHome, IsOfNoMovedBlock}
use Rattle.mps_trace_laws.specs.Image.SegmentWords.{AreSegmentsInOrder}
use Rattle.mps_trace_laws.proofs.Image.SegmentWords.{segments_are_home}
use Rattle.mps_laws.proofs.Positions.Occupancy.{OfReservation, PointShape, occupancy_of, run_of as run_of_occupant}
use Rattle.mps_trace_laws.specs.Summaries.Summed.{AreWordsSummed}
use Rattle.mps_xform.specs.Summed.{IsRunSummed}
use Rattle.mps_format.specs.Pools.{policy_of_pool}
use Rattle.mps_format.specs.declared.pool.Policy.{Policy}
use Rattle.mps_laws.proofs.Positions.Covered.{covered-shapes, covered_ascending}
use Rattle.mps_refinement.proofs.Lookups.Policies.{layout_of_policy, lawful_of_policy}
use Rattle.mps_refinement.proofs.Summaries.NewRuns.{new_run_summed, notes_sized, stays_held, zero_summed}

module _ {F : Type 0} (layout : F → Layout) (past : Past) (h : HeapState F) (w : World) (parts : AreParts layout past h w)
    (key n : ℕ) (number : n ≡ past.point_number key) (p : Point) (q : graph.Point) (at_key : point_at h.points key ≡ Some p)
    (there : entry_at w.graph.points n ≡ Some q) (fit : IsPoint (length w.flips) (is_copying_pool w) w.point_memories n p q)
    (closed : q.reservation ≡ None) (f : Layout) (head : ℕ) (place : Placement) (segments : List Segment)
    (segments_are : segments_after place p.pool 0 p.rank h.segs.segments ≡ segments) (hand : Buffer) (m : PointMemory)
    (hand_is : run_of hand ≡ m.buffer) (aligned : m.reserved_at % 8 ≡ 0)
    (time : IsInTime past.time (collector_of h) w) where
  abbrev pub cells : List Cell
  cells = new_cells f head

  abbrev pub reservation_made : Reservation
  reservation_made = record { head = head; cells = cells; is_doomed = false }

  abbrev pub held_made : Held
  held_made = record { at = record { 0 = m.reserved_at }; head = head; words = length cells; flips = h.points.flips }

  abbrev pub segs_after : SegsState
  segs_after = with_reservation (with_place h.segs p place) held_made

  abbrev pub point_after : Point
  point_after = record p { buffer = hand; reservation = Some held_made }

  abbrev pub heap_after : HeapState F
  heap_after = record h { segs = segs_after; points = with_point h.points key (Some point_after) }

  abbrev pub entry_after : graph.Point
  entry_after = record q { reservation = Some reservation_made }

  abbrev pub world_after : World
  world_after = record w {
    graph = record w.graph { points = slice_set w.graph.points n (Some entry_after) };
    segments = segments;
    point_memories = slice_set w.point_memories n m;
  }

  module _ (laid : HasLayout (w.grains + 1) w) (after : HasLayout (w.grains + 1) world_after)
      (clear : (is_copying_pool w q.pool ≡ false) ⊎ (is_condemned_word segs_after (word_of m.reserved_at) ≡ false))
      (valid : (pool_layout w q.pool).is_valid head ≡ true) where
    abbrev from : ℕ
    from = word_of m.reserved_at

    within_arena : (l : ℕ) → l < length cells → from + l < words_of_arena w.grains
    within_arena l lt = own_within w n q there closed reservation_made refl m segments fit.memory fit.has laid after l lt

    some : 0 < length cells
    some = omega arith

    fits : from + length cells ≤ words_of_arena h.segs.grains
    fits =
        let last = within_arena (length cells - 1) (omega (arith, some)) in
        let grains = parts.grains in
        omega (arith, last, some, grains)

    fits_words : from + length cells ≤ length h.segs.words
    fits_words = let long = parts.image.words.long in omega (arith, fits, long)

    -- the segments, and then the reservation
    abbrev setting_before : Setting
    setting_before = setting_at past.time h.segs w

    abbrev setting_between : Setting
    setting_between = setting_with_segments setting_before (pool_over_word segs_after) (is_condemned_word segs_after)

    now_is : segments_after place p.pool 0 p.rank w.segments ≡ segments
    now_is = ap (λ ss. segments_after place p.pool 0 p.rank ss) (sym parts.segments) ∙ segments_are

    aligned_now : AreAligned (segments_after place p.pool 0 p.rank w.segments)
    aligned_now = subst AreAligned (sym now_is) after.aligned

    ascending_now : IsAscending 1 (w.grains + 1) (map grains_of_segment (segments_after place p.pool 0 p.rank w.segments))
    ascending_now = subst (λ ss. IsAscending 1 (w.grains + 1) (map grains_of_segment ss)) (sym now_is) after.ascending

    segs_are : segs_after.segments ≡ segments_after place p.pool 0 p.rank w.segments
    segs_are = ap (λ ss. segments_after place p.pool 0 p.rank ss) parts.segments

    -- old words stay in their segments
    pool_kept : (x : Word) (number : ℕ) → pool_over_word h.segs x ≡ Some number → pool_over_word segs_after x ≡ pool_over_word h.segs x
    pool_kept x number has =
        ap (λ ss. option_map (λ (t : Segment). t.pool) (segment_over ss (address_of_word x))) segs_are
        ∙ pool_same place p.pool 0 p.rank (w.grains + 1) w.segments h.segs.condemned laid.aligned laid.ascending aligned_now ascending_now
        x number (ap (λ ss. option_map (λ (t : Segment). t.pool) (segment_over ss (address_of_word x))) (sym parts.segments) ∙ has)
        ∙ ap (λ ss. option_map (λ (t : Segment). t.pool) (segment_over ss (address_of_word x))) (sym parts.segments)

    condemned_kept : (x : Word) (number : ℕ) → pool_over_word h.segs x ≡ Some number
        → is_condemned_word segs_after x ≡ is_condemned_word h.segs x
    condemned_kept x number has =
        ap (λ ss. bit_of segs_after.condemned (option_map (λ (t : Segment). grain_of t.base) (segment_over ss (address_of_word x))))
        segs_are
        ∙ condemned_same place p.pool 0 p.rank (w.grains + 1) w.segments h.segs.condemned laid.aligned laid.ascending aligned_now
        ascending_now x number (ap (λ ss. option_map (λ (t : Segment). t.pool) (segment_over ss (address_of_word x))) (sym parts.segments)
        ∙ has)
        ∙ ap (λ ss. bit_of h.segs.condemned (option_map (λ (t : Segment). grain_of t.base) (segment_over ss (address_of_word x))))
        (sym parts.segments)

    between : Stands setting_between (memory_in h.segs) w.addresses past.time.colours
    between =
        segments_change setting_before (memory_in h.segs) w.addresses past.time.colours
        (black_cells past.time.condemned past.time.colours) (pool_over_word segs_after) (is_condemned_word segs_after) parts.image (record {
          pool = λ j k o x l. pool_kept x o.pool (parts.image.placed.home j k o x l);
          is_condemned = λ j k o x l. condemned_kept x o.pool (parts.image.placed.home j k o x l);
          old_pool = λ j was to o k e f apart there low.
              pool_kept (word_of was + k) o.pool ((parts.image.words.forwarded j was to o e f apart there).home k low);
          was_condemned = λ j was to o k e f apart there low.
              condemned_kept (word_of was + k) o.pool ((parts.image.words.forwarded j was to o e f apart there).home k low);
        })

    -- all its words lie in one segment of its pool
    own : (l : ℕ) → l < length cells → Covers (run_of_occupant (occupancy_of world_after) (OfReservation n)) (from + l)
    own l lt = own_covers w n q there closed reservation_made refl m segments fit.memory fit.has laid after l lt

    at_home : AreHome setting_between m.reserved_at (length cells) q.pool
    at_home =
        let first = own 0 some in
        let last = own (length cells - 1) (omega (arith, some)) in
        let x = after.placed.homes (OfReservation n) (omega (arith, first.0, first.1)) in
        let a = among_aligned x.segment segments after.aligned x.held in
        let above = x.above in
        let below = x.below in
        let pool_is : x.segment.pool ≡ q.pool =
        x.of_pool ∙ ap (λ o. option_map_or (λ (y : PointShape). y.pool) o 0)
        (shape_there (slice_set w.graph.points n (Some entry_after)) n entry_after
        (entry_at-set_same w.graph.points n (Some entry_after) (entry_within w.graph.points n q there))) in
        subst (AreHome setting_between m.reserved_at (length cells)) pool_is
        (segments_are_home segs_after w.graph.objects w.graph.points w.point_memories (pool_layout w) past.time.at_flip past.time.condemned
        past.time.is_read x.segment m.reserved_at (length cells)
        (subst AreSegmentsInOrder (sym segments_are) (record {
          aligned = aligned_otherwise segments after.aligned;
          ascending = in_order_still 1 (w.grains + 1) (max_grains + 1) (map grains_of_segment segments)
              (let most = parts.arena.at_most in let grains = parts.grains in omega (arith, most, grains)) after.ascending;
        }))
        (subst (λ ss. Contains ss x.segment) (sym segments_are) (segment_there x.segment segments x.held)) aligned some
        (omega (arith, above, first.0, run_is))
        (omega (arith, below, last.1, run_is, a, some)))
      where
        run_is : (run_of_occupant (occupancy_of world_after) (OfReservation n)).from ≡ from
        run_is = own_begins w n q there closed reservation_made refl m segments fit.memory fit.has laid after

    unforwarded : (l : ℕ) → l < length cells → IsOfNoMovedBlock setting_between w.addresses (word_of m.reserved_at + l)
    unforwarded = of_clear clear
      where
        of_clear : (is_copying_pool w q.pool ≡ false) ⊎ (is_condemned_word segs_after (word_of m.reserved_at) ≡ false)
            → (l : ℕ) → l < length cells → IsOfNoMovedBlock setting_between w.addresses (word_of m.reserved_at + l)
        of_clear (inl still) =
            unmoved setting_between (memory_in h.segs) w.addresses past.time.colours (black_cells past.time.condemned past.time.colours)
            (is_copying_pool w) m.reserved_at (length cells) q.pool between
            (still_in past.time.at_flip w (flip_known past.time (collector_of h) w time)) at_home still
        of_clear (inr here) =
            uncondemned_place setting_between (memory_in h.segs) w.addresses past.time.colours
            (black_cells past.time.condemned past.time.colours) (is_copying_pool w) m.reserved_at (length cells) q.pool between
            (still_in past.time.at_flip w (flip_known past.time (collector_of h) w time)) at_home here

    image_after : StandsAt past.time segs_after world_after
    image_after =
        reservation_is_made setting_between (memory_in h.segs) w.addresses past.time.colours n
        (Some q) entry_after fit.memory m reservation_made
        (reserved_words h.segs.words from (length cells) head) between (entry_is_there w.graph.points n q there) fit.has
        (ap (λ o. Rattle.std.specs.Prelude.option_and_then
        (λ (r : Reservation). if Rattle.mps_model.specs.Graph.is_live_reservation r then Some r else None) o) closed)
        refl some
        (own_free w n q there closed reservation_made refl m segments fit.memory fit.has laid after setting_between refl refl refl
        (ap words_of_arena parts.grains) unforwarded)
        (reserved_long h.segs.words from (length cells) head some fits_words)
        (λ l c e. new_cell_is_fixed past.time w.addresses f head l c
        (slice_index (reserved_words h.segs.words from (length cells) head) (from + l)) e
        (λ first. ap (slice_index (reserved_words h.segs.words from (length cells) head))
        (let z : from + l ≡ from = omega (arith, first) in z) ∙ reserved_head h.segs.words from (length cells) head some fits_words)
        (λ later. reserved_zero h.segs.words from (length cells) head some fits_words l later (slice_get_within cells l c e)))
        (λ x apart. reserved_others h.segs.words from (length cells) head some fits_words x apart)

    -- a reservation is the new one, or it was there
    own_or_there : (k : ℕ) (x : Point) (held : Held) → point_at (with_point h.points key (Some point_after)) k ≡ Some x
        → x.reservation ≡ Some held → (held_made ≡ held) ⊎ (point_at h.points k ≡ Some x)
    own_or_there k x held e reserved =
        elim (cases_eq k key) [
          | inl same ↦
              let own : point_after ≡ x =
              same_Some point_after x (sym (ap (point_at (with_point h.points key (Some point_after))) same
              ∙ written_point h.points key p (Some point_after) at_key) ∙ e) in
              inl (same_Some held_made held (ap (λ (y : Point). y.reservation) own ∙ reserved))
          | inr other ↦ inr (sym (other_point h.points key k (Some point_after) other) ∙ e)
        ]

    resting_after : IsArena segs_after.grains (with_point h.points key (Some point_after))
    resting_after = record {
      nonzero = parts.arena.nonzero;
      at_most = parts.arena.at_most;
      within = λ k x held e reserved.
          elim (own_or_there k x held e reserved) [
            | inl mine ↦ subst (λ (y : Held). word_of y.at.0 + y.words ≤ words_of_arena h.segs.grains) mine fits
            | inr was ↦ parts.arena.within k x held was reserved
          ];
      aligned = λ k x held e reserved.
          elim (own_or_there k x held e reserved) [
            | inl mine ↦ subst (λ (y : Held). y.at.0 % 8 ≡ 0) mine aligned
            | inr was ↦ parts.arena.aligned k x held was reserved
          ];
    }

    fit_after : IsPoint (length w.flips) (is_copying_pool w) (slice_set w.point_memories n m) n point_after entry_after
    fit_after = record {
      pool = fit.pool;
      rank = fit.rank;
      copying = fit.copying;
      memory = m;
      has = memory_now w n q there closed reservation_made refl m segments fit.memory fit.has;
      buffer = hand_is;
      reservation = BothHeld (record {
        at = refl;
        head = refl;
        words = refl;
        doomed = sym (ap not (Rattle.std.proofs.lemmas.Bool.eq-eqb h.points.flips (length w.flips) parts.point_flips));
      });
    }

    -- ---- words stay summed: those of the reservation are 0 but for a valid head

    abbrev policies : List (Option (Policy F))
    policies = map policy_of_pool h.pools

    covered_ascend : IsAscending 0 (512 * (w.grains + 1)) (with_run (run_of_held held_made) h.segs.covered)
    covered_ascend =
        subst (IsAscending 0 (512 * (w.grains + 1))) (sym (image_after.runs.covered ∙ covered-shapes world_after))
        (covered_ascending (w.grains + 1) (occupancy_of world_after) after)

    own_summed : (t : Segment) (format : Policy F) → segment_over segs_after.segments (address_of_word from) ≡ Some t
        → slice_get policies t.pool ≡ Some (Some format)
        → IsRunSummed (layout format.format) segs_after.words (summary_at segs_after t.base) (run_of_held held_made)
    own_summed t format over listed =
        let first : from + 0 ≡ from = omega arith in
        let home : pool_over_word segs_after from ≡ Some q.pool = ap (pool_over_word segs_after) (sym first) ∙ at_home.over 0 some in
        let pool : t.pool ≡ q.pool =
        same_Some t.pool q.pool (sym (ap (option_map (λ (u : Segment). u.pool)) over) ∙ home) in
        let of_pool = layout_of_policy layout h.pools w parts.pools t.pool format listed ∙ ap (pool_layout w) pool in
        let lawful = lawful_of_policy layout h.pools w parts.pools parts.lawful t.pool format listed in
        let is_valid : (layout format.format).is_valid head ≡ true =
        subst (λ (g : Layout). g.is_valid head ≡ true) (sym of_pool) valid in
        zero_summed (layout format.format) lawful segs_after.words (summary_at segs_after t.base) (run_of_held held_made)
        (λ reference leads.
        let is_head = reserved_head h.segs.words from (length cells) head some fits_words in
        let at_head = subst (λ (n : ℕ). IsTrue ((layout format.format).is_reference n 0)) is_head reference in
        let later = (lawful.references head 0 is_valid at_head).0 in
        omega (arith, later))
        (λ l later low. reserved_zero h.segs.words from (length cells) head some fits_words l later low)

    summed_after : AreWordsSummed layout policies segs_after
    summed_after =
        new_run_summed layout policies h.segs segs_after parts.summed (run_of_held held_made) (512 * (w.grains + 1)) refl covered_ascend
        (notes_sized place h.segs.summaries ∙ parts.summed.sized)
        (λ x apart. reserved_others h.segs.words from (length cells) head some fits_words x apart)
        (stays_held layout past h w parts laid place p.pool 0 p.rank aligned_now ascending_now segs_after segs_are refl) own_summed

    pub parts_after : AreParts layout past heap_after world_after
    parts_after =
        points_anew layout past h w parts segs_after (with_point h.points key (Some point_after))
        (slice_set w.graph.points n (Some entry_after)) segments (slice_set w.point_memories n m)
        (record {
          grains = refl;
          limit = refl;
          segments_are = segments_are;
          image = image_after;
          arena = resting_after;
          summed = summed_after;
          are = subst (λ j. Rattle.mps_refinement.specs.Numbering.AreNumbered
              (IsPoint (length w.flips) (is_copying_pool w) (slice_set w.point_memories n m)) past.point_number
              (point_at (with_point h.points key (Some point_after))) (slice_set w.graph.points j (Some entry_after))) (sym number)
              (points_written (length w.flips) (is_copying_pool w) w.point_memories (slice_set w.point_memories n m) past.point_number
              h.points
              w.graph.points parts.points key p point_after entry_after at_key
              (λ j apart. slice_get-set_other w.point_memories n j m (λ e. apart (sym e ∙ number)))
              (subst (λ j. IsPoint (length w.flips) (is_copying_pool w) (slice_set w.point_memories n m) j point_after entry_after) number
              fit_after));
          counted =
              reservation_written_points w.graph (record { number = n; value = q }) (Some reservation_made) there;
          flips = refl;
          there = points_there h.points key p point_after at_key;
        })
