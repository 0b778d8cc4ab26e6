-- A `reserve` after its poll is right, at any time.
use Rattle.std.proofs.Common.{◌≡◌, ◌∙◌, ◌⊎◌, ℕ, ◌+◌, ◌-◌, ◌*◌, ◌<◌, ◌≤◌, Bool, true, false, refl, sym, ap, subst, List, [], ◌∷◌, ◌++◌, length, Some, None, Ok, Err, inl, inr, arith}
use Rattle.std.specs.Prelude.{if◌then◌else◌, option_map, slice_set}
use Rattle.std.specs.Option.{option_map_or}
use Rattle.mps_seg.specs.Arena.{answer_of_placement}
use Rattle.mps_base.specs.Address.{word_of, address_of_word, address_of_grain, grain_of}
use Rattle.mps_base.specs.Placement.{Placement, Place, NewSegment, OverLimit, NoFreeRun}
use Rattle.mps_base.specs.Run.{Run}
use Rattle.mps_base.specs.Segment.{Segment, segment_over, with_segment}
use Rattle.mps_base.specs.Trail.{Moves}
use Rattle.mps_base.specs.declared.moves.Move.{Move}
use Rattle.mps_base.specs.declared.moves.Move.TheVariants as moves
use Rattle.mps_base.specs.declared.names.Name.{Name}
use Rattle.mps_base.specs.declared.names.Rank.{Rank}
use Rattle.mps_base.specs.declared.refusal.Refusal.{Refusal}
use Rattle.mps_base.specs.declared.refusal.Refusal.TheVariants as refusal
use Rattle.mps_extents.specs.Table.{bit}
use Rattle.mps_buffer.specs.declared.point.Point.{Point}
use Rattle.mps_buffer.specs.Points.{buffer_after, after_open, placement_at, with_place, with_point, with_reservation}
use Rattle.mps_seg.specs.Buffer.{rest_at_hand, run_of}
use Rattle.mps_format.specs.Layout.{Layout}
use Rattle.mps_trace_laws.specs.Image.Memory.{is_condemned_word, pool_layout}
use Rattle.mps_trace_laws.proofs.Image.SegmentMarks.{clear_bit}
use Rattle.mps_laws.proofs.Positions.LegalMoves.{HasLayout, at_front}
use Rattle.mps_laws.proofs.Positions.Occupancy.{OfBuffer, occupancy_of}
use Rattle.mps_laws.proofs.Same.{Same, fits}
use Rattle.mps_laws.proofs.Same as same
use Rattle.mps_laws.proofs.Positions.Segments.{IsAmong, among_new, found_segment}
use Rattle.mps_seg.specs.Segs.{moves_after, segments_after}
use Rattle.mps_seg.specs.Collecting.{bit_of}
use Rattle.mps_model.specs.declared.call.Call.{Call}
use Rattle.mps_model.specs.declared.call.Call.TheVariants as call
use Rattle.mps_model.specs.declared.reply.Reply.TheVariants as reply
use Rattle.mps_model.specs.Allocating as model
use Rattle.mps_model.specs.Allocating.{act_reserve, without_front}
use Rattle.mps_model.specs.Answer.{Answer, Replied, refused}
use Rattle.mps_model.specs.Checked.{Checked, Numbered, ◌>>=◌, done, point_named}
use Rattle.mps_model.specs.Graph as graph
use Rattle.mps_model.specs.Graph.{contains, new_cells}
use Rattle.mps_model.specs.History.{segment_taken, segment_of_reserve, segment_where_judged}
use Rattle.mps_model.specs.LegalMove.{IsPlaceAt}
use Rattle.mps_model.specs.Placement.{ForReserve, placement_of, placement_at_front, placement_at_point, new_segment_for, buffer_of}
use Rattle.mps_model.specs.World.{World, PointMemory, is_copying_pool, is_live}
use Rattle.mps_heap_spec.specs.Allocating.{check_reserve, held_at, after_reserve}
use Rattle.mps_model.specs.World as world
use Rattle.mps_heap_spec.specs.Coming.{Moved, answer_moved, state_moved, trail_moved}
use Rattle.mps_heap_spec.specs.declared.found.Kept.{Kept}
use Rattle.mps_heap_spec.specs.declared.found.Reserving.{Reserving}
use Rattle.mps_heap_spec.specs.State.{HeapState}
use Rattle.mps_refinement.specs.Answering.{answer_to, says_ok}
use Rattle.mps_refinement.specs.RightStep.{IsRightIn, step_of}
use Rattle.mps_refinement.specs.StandsFor.{AreParts, IsInTime, IsReached, Past, rests, runs, collector_of}
use Rattle.mps_refinement.proofs.Parts.CommittedParts.{segment_there}
use Rattle.mps_refinement.proofs.Worlds.Known.{IsKnown}
use Rattle.mps_refinement.proofs.Lookups.Lookups.{IsPointFound}
use Rattle.mps_refinement.proofs.Worlds.Placing.{reserve_agrees}
use Rattle.mps_refinement.proofs.Calls.ReserveChecks.{IsReserving, checked_point, reserve_checked}
use Rattle.mps_refinement.proofs.Calls.ReserveStep.{Polls, cut_segment, cut_without, layout_after, reserved_rightly}
use Rattle.mps_refinement.proofs.Parts.ReservedParts.{parts_after}
use Rattle.mps_refinement.proofs.Worlds.Reserved.{memory_in_own, own, own_rank, refused_there, reserved_at_place, reserved_in_new, reserved_world}
use Rattle.mps_refinement.proofs.Calls.Reserving.{reserve_from}
use Rattle.mps_refinement.proofs.Worlds.RestingActs.{resting_sound}
use Rattle.mps_refinement.proofs.Parts.AllocatedParts.{noted_clear}
use Rattle.mps_laws.proofs.Sound.HeldIds.{new_cells_written}
use Rattle.mps_laws.proofs.QuietSteps.{IsSound}
use Rattle.mps_laws.proofs.Sound.SoundChanges.{sound_again}
use Rattle.mps_laws.proofs.Sound.SoundEffects.{reservation_sound}
use Rattle.std.proofs.lemmas.Option.{none-some}
use Rattle.mps_refinement.proofs.Parts.SegmentsTaken.{condemned_held, condemned_stay, over_same}
use Rattle.mps_refinement.proofs.Worlds.TimeKept.{keeps_still}
use Rattle.mps_refinement.proofs.Parts.GreyRanks.{ranks_stay}

module _ {F : Type 0} (layout : F → Layout) (past : Past) (h : HeapState F) (w : World) (laid_before : HasLayout (w.grains + 1) w)
    (reach : IsReached w) (name : Name) (head : ℕ) (poll : List Move) (v : World) (polled : Polls w name head poll v)
    (parts : AreParts layout past h v) (knows : IsKnown past.time v) (time : IsInTime past.time (collector_of h) v) (trail : Moves)
    (none : trail.moves ≡ poll) (line : ℕ) where
  abbrev the_call : Call
  the_call = call.Reserve name head

  -- the step with this outcome is right
  abbrev IsRightOutcome : Checked (Moved F (Unit {0})) → Type 0
  IsRightOutcome o =
      IsRightIn layout w (step_of line the_call (trail_moved trail o).moves (answer_to says_ok (answer_moved o))) (state_moved h o)

  -- ---- refused

  -- with no own segment, if the act is refused
  refused_rightly : (why : Refusal) → [] ≡ segment_where_judged v name head → act_reserve v v name head ≡ Err why
      → IsRightIn layout w (step_of line the_call trail.moves (refused why)) h
  refused_rightly why own_is acts =
      subst (λ ms. IsRightIn layout w (step_of line the_call ms (refused why)) h)
      (Rattle.std.proofs.lemmas.List.append-nil poll ∙ sym none)
      (reserved_rightly w laid_before name head poll v polled [] (cut_without poll polled.never_own) own_is v refl (Err why) acts
      (refused why) past.time knows refl knows.live.blocks layout line h h reach time
      (record { past = past; timed = refl; parts = parts }) (λ rest. resting_sound v rest knows.live) keeps_still refl)

  refused_outcome : (why : Refusal) → model.check_reserve v name head ≡ Err why → IsRightOutcome (Err why)
  refused_outcome why e =
      refused_rightly why (sym (ap (segment_of_reserve v) e)) (ap (reserve_from v v name head) e)

  -- ---- where the checks pass

  module _ (k : Kept Point) (n : Numbered graph.Point) (found : IsPointFound past h v k n) (closed : n.value.reservation ≡ None)
      (format : Layout)
      (check : model.check_reserve v name head ≡ Ok (record { point = n; cells = new_cells format head }))
      (named : point_named v name ≡ Ok n) (valid : (pool_layout v n.value.pool).is_valid head ≡ true) where
    abbrev size : ℕ
    size = length (new_cells format head)

    abbrev reserving : model.Reserving
    reserving = record { point = n; cells = new_cells format head }

    -- what the outcome is at a placement
    abbrev outcome_at : (words : ℕ) → Placement → Checked (Moved F (Unit {0}))
    outcome_at words q =
        answer_of_placement q >>= (λ at. Ok (record {
          answer = tt;
          state = record h {
            segs = with_reservation (with_place h.segs k.value q) (held_at layout h at head words);
            points = with_point h.points k.key (Some (after_open k.value q (held_at layout h at head words)));
          };
          trail = moves_after q k.value.pool 0 trail;
        }))

    buffer_is : run_of k.value.buffer ≡ buffer_of v n.number
    buffer_is = found.fit.buffer ∙ sym (ap (λ o. option_map_or (λ (m : PointMemory). m.buffer) o (record { from = 0; count = 0 }))
        found.fit.has)

    placed_alike : placement_at k.value h.segs size ≡ placement_of v (ForReserve n.number size)
    placed_alike =
        reserve_agrees h.segs v
        (record { grains = parts.grains; limit = parts.limit; segments = parts.segments; covered = parts.image.runs.covered })
        n.number k.value n.value size found.has found.fit.pool found.fit.rank found.fit.copying buffer_is

    refused_at : (why : Refusal) (q : Placement) → placement_of v (ForReserve n.number size) ≡ q
        → model.refuse_without_place q ≡ Err why → segment_taken n.value.pool q ≡ []
        → IsRightIn layout w (step_of line the_call trail.moves (refused why)) h
    refused_at why q e refusal taken =
        let there = refused_there v name head reserving check named why q e refusal taken in
        refused_rightly why there.0 there.1

    -- ---- at a place in what is held

    placed_front : (word : ℕ) → is_copying_pool v n.value.pool ≡ true → placement_of v (ForReserve n.number size) ≡ Place word
        → (size ≤ (buffer_of v n.number).count) × (word ≡ (buffer_of v n.number).from)
    placed_front word copying e =
        let placed : placement_at_front v (buffer_of v n.number) size ≡ Place word =
        sym (ap (λ o. option_map_or (λ x. placement_at_point v n.number x size) o (new_segment_for v size)) found.has
        ∙ ap (λ b. if b then placement_at_front v (buffer_of v n.number) size
        else Rattle.mps_model.specs.Placement.placement_in_gaps v (Rattle.mps_base.specs.Segment.gaps_of
        (Rattle.mps_model.specs.World.covered v) v.segments n.value.pool n.value.rank) size) copying) ∙ e in
        let front = at_front v (buffer_of v n.number) size (address_of_word word)
        (subst (λ q. IsPlaceAt q (address_of_word word)) (sym placed) refl) in
        (front.0, omega (arith, front.1))

    hand_at_place : (word : ℕ) → placement_of v (ForReserve n.number size) ≡ Place word
        → run_of (buffer_after k.value (Place word) size) ≡ model.buffer_after v n.number n.value size
    hand_at_place word e =
        ap (λ b. run_of (if b then rest_at_hand k.value.buffer (Place word) size else k.value.buffer)) found.fit.copying
        ∙ elim (is_copying_pool v n.value.pool) as (λ b. is_copying_pool v n.value.pool ≡ b
        → run_of (if b then rest_at_hand k.value.buffer (Place word) size else k.value.buffer)
        ≡ (if b then without_front (buffer_of v n.number) size else buffer_of v n.number)) [
          | true ↦
              (λ copying.
              ap (λ (x : ℕ). run_of (record { from = x + size; count = k.value.buffer.count - size })) (placed_front word copying e).1
              ∙ ap (λ (r : Run). record { from = (buffer_of v n.number).from + size; count = r.count - size }) buffer_is)
          | false ↦ (λ manual. buffer_is)
        ] refl

    -- what is at hand isn't condemned
    clear_front : (word : ℕ) → is_copying_pool v n.value.pool ≡ true → placement_of v (ForReserve n.number size) ≡ Place word
        → is_condemned_word h.segs (word_of (address_of_word word)) ≡ false
    clear_front word copying e =
        let front = placed_front word copying e in
        let some : 0 < size = omega arith in
        let run : Rattle.mps_laws.proofs.Positions.Occupancy.run_of (occupancy_of v) (OfBuffer n.number) ≡ buffer_of v n.number =
        ap Rattle.mps_laws.proofs.Positions.Occupancy.run_of_buffer found.fit.has
        ∙ sym (ap (λ o. option_map_or (λ (m : PointMemory). m.buffer) o (record { from = 0; count = 0 })) found.fit.has) in
        let first : (Rattle.mps_laws.proofs.Positions.Occupancy.run_of (occupancy_of v) (OfBuffer n.number)).from ≡
        (buffer_of v n.number).from =
        ap (λ (x : Run). x.from) run in
        let count : (Rattle.mps_laws.proofs.Positions.Occupancy.run_of (occupancy_of v) (OfBuffer n.number)).count ≡
        (buffer_of v n.number).count =
        ap (λ (x : Run). x.count) run in
        let home = knows.laid.placed.homes (OfBuffer n.number) (omega (arith, front.0, some, count)) in
        let above = home.above in
        let below = home.below in
        let over : segment_over v.segments (address_of_word (word_of (address_of_word word))) ≡ Some home.segment =
        found_segment 1 (v.grains + 1) v.segments home.segment knows.laid.ascending knows.laid.aligned home.held
        (word_of (address_of_word word))
        (omega (arith, above, first, front.1), omega (arith, below, first, count, front.0, front.1, some)) in
        ap (λ ss. bit_of h.segs.condemned (option_map (λ (t : Segment). grain_of t.base)
        (segment_over ss (address_of_word (word_of (address_of_word word)))))) parts.segments
        ∙ ap (λ o. bit_of h.segs.condemned (option_map (λ (t : Segment). grain_of t.base) o)) over
        ∙ of_time home.segment home.held (home.spared refl) time
      where
        of_time : (t : Segment) → IsAmong t v.segments → contains
            (Rattle.mps_laws.proofs.Positions.Occupancy.condemned_in v.collection) t.base ≡ false
            → IsInTime past.time (collector_of h) v → bit h.segs.condemned (grain_of t.base) ≡ false
        of_time t held spared (rests rest) = rest.not_condemned (grain_of t.base)
        of_time t held spared (runs y r) =
            r.condemned t (segment_there t v.segments held)
            ∙ ap (λ o. contains (Rattle.mps_laws.proofs.Positions.Occupancy.condemned_in o) t.base)
            (sym r.invariant.runs ∙ ap (λ (o : World). o.collection) r.world) ∙ spared

    -- the world with the reservation is sound
    reserved_sound : (segments : List Segment) (m : PointMemory) → v.collection ≡ None
        → IsSound (reserved_world v name head reserving check named segments m)
    reserved_sound segments m rest =
        sound_again (Rattle.mps_model.specs.Checked.with_graph v (model.with_reservation v.graph n (Some (record {
          head = head;
          cells = new_cells format head;
          is_doomed = false;
        })))) (reserved_world v name head reserving check named segments m) refl refl refl refl refl
        (reservation_sound v (resting_sound v rest knows.live) n (record {
          head = head;
          cells = new_cells format head;
          is_doomed = false;
        }) (new_cells_written (is_live v) format head) (λ c e. absurd (none-some c (sym rest ∙ e))))

    abbrev ok : Answer
    ok = Replied reply.Ok

    at_place : (word : ℕ) → placement_of v (ForReserve n.number size) ≡ Place word → IsRightOutcome (outcome_at size (Place word))
    at_place word e =
        let m : PointMemory = record { reserved_at = address_of_word word; buffer = model.buffer_after v n.number n.value size } in
        let out : World = reserved_world v name head reserving check named v.segments m in
        let is = reserved_at_place v name head reserving check named word e in
        let cut = cut_without poll polled.never_own in
        let after : HasLayout (v.grains + 1) out =
        layout_after w laid_before name head poll v polled [] cut is.own is.taken is.moved (done out) is.acts ok in
        subst (λ ms. IsRightIn layout w (step_of line the_call ms ok) (state_moved h (outcome_at size (Place word))))
        (Rattle.std.proofs.lemmas.List.append-nil poll ∙ sym none)
        (reserved_rightly w laid_before name head poll v polled [] cut is.own is.taken is.moved (done out) is.acts ok past.time knows
        refl knows.live.blocks layout line h (state_moved h (outcome_at size (Place word))) reach time (record {
          past = past;
          timed = refl;
          parts = parts_after layout past h v parts k.key n.number found.number k.value n.value found.kept found.has found.fit closed format
              head (Place word) v.segments parts.segments (buffer_after k.value (Place word) size) m (hand_at_place word e)
              (omega arith) time knows.laid after (of_copying (is_copying_pool v n.value.pool) refl)
              valid;
        }) (reserved_sound v.segments m) (record {
          rest = λ none. none;
          not_condemned = λ not_condemned. not_condemned;
          not_kept = λ not_condemned not_kept. not_kept;
          running = refl;
          tails = λ pool generation. refl;
          world_tails = λ pool generation. refl;
          ranked = λ y r ranked. record { exact = ranked.exact; weak = ranked.weak };
          flip = λ of. record { made = of.made; still = of.still };
          condemned = λ y is run marked. marked;
        }) refl)
      where
        of_copying : (b : Bool) → is_copying_pool v n.value.pool ≡ b
            → (is_copying_pool v n.value.pool ≡ false) ⊎ (is_condemned_word h.segs (word_of (address_of_word word)) ≡ false)
        of_copying true copying = inr (clear_front word copying e)
        of_copying false manual = inl manual

    -- ---- in a new segment

    hand_in_own : (grain grains : ℕ)
        → run_of (buffer_after k.value (NewSegment grain grains) size)
        ≡ (if is_copying_pool v n.value.pool then without_front (record
        { from = word_of (address_of_grain grain); count = 512 * grains }) size
        else buffer_of v n.number)
    hand_in_own grain grains =
        ap (λ b. run_of (if b then rest_at_hand k.value.buffer (NewSegment grain grains) size else k.value.buffer)) found.fit.copying
        ∙ elim (is_copying_pool v n.value.pool) as (λ b.
        run_of (if b then rest_at_hand k.value.buffer (NewSegment grain grains) size else k.value.buffer)
        ≡ (if b then without_front (record { from = word_of (address_of_grain grain); count = 512 * grains }) size
        else buffer_of v n.number)) [
          | true ↦
              ap (λ (x : ℕ). record { from = x + size; count = 512 * grains - size })
              (let e : 512 * grain ≡ word_of (address_of_grain grain) = omega arith in e)
          | false ↦ buffer_is
        ]

    in_new : (grain grains : ℕ) → placement_of v (ForReserve n.number size) ≡ NewSegment grain grains
        → IsRightOutcome (outcome_at size (NewSegment grain grains))
    in_new grain grains e =
        let some : 0 < size = omega arith in
        let s : Segment = own v name head reserving check named knows.laid grain grains some e in
        let m : PointMemory = memory_in_own v name head reserving check named knows.laid grain grains some e in
        let out : World = reserved_world v name head reserving check named (with_segment s v.segments) m in
        let is = reserved_in_new v name head reserving check named knows.laid grain grains some e in
        let cut = cut_segment poll (record { 0 = address_of_grain grain }) grains n.value.pool 0 in
        let seg : List Move = moves.Seg (record { 0 = address_of_grain grain }) grains n.value.pool 0 ∷ [] in
        let after : HasLayout (v.grains + 1) out =
        layout_after w laid_before name head poll v polled seg cut is.own is.taken is.moved (done out) is.acts ok in
        let heap_after = state_moved h (outcome_at size (NewSegment grain grains)) in
        let segments : segments_after (NewSegment grain grains) k.value.pool 0 k.value.rank h.segs.segments ≡ with_segment s v.segments =
        ap (λ (p : ℕ). with_segment (record {
          base = address_of_grain grain;
          grains = grains;
          pool = p;
          generation = 0;
          rank = k.value.rank;
        }) h.segs.segments) found.fit.pool
        ∙ ap (λ (r : Rank). with_segment (record {
          base = address_of_grain grain;
          grains = grains;
          pool = n.value.pool;
          generation = 0;
          rank = r;
        }) h.segs.segments) (found.fit.rank ∙ sym (own_rank v name head reserving check named knows.laid grain grains some e))
        ∙ ap (with_segment s) parts.segments in
        let over : segment_over (with_segment s v.segments) (address_of_word (word_of (address_of_grain grain))) ≡ Some s =
        found_segment 1 (v.grains + 1) (with_segment s v.segments) s after.ascending after.aligned (among_new s v.segments)
        (word_of (address_of_grain grain)) (
          omega arith,
          (let fit = Rattle.mps_refinement.proofs.Worlds.Reserved.own_size v name head reserving check named knows.laid grain
              grains some e in omega (arith, fit, some)),
        ) in
        let ms : trail.moves ++ moves.Seg (record { 0 = address_of_grain grain }) grains k.value.pool 0 ∷ [] ≡ poll ++ seg =
        ap (λ (xs : List Move). xs ++ moves.Seg (record { 0 = address_of_grain grain }) grains k.value.pool 0 ∷ []) none
        ∙ ap (λ (p : ℕ). poll ++ moves.Seg (record { 0 = address_of_grain grain }) grains p 0 ∷ []) found.fit.pool in
        subst (λ (xs : List Move). IsRightIn layout w (step_of line the_call xs ok) heap_after) (sym ms)
        (reserved_rightly w laid_before name head poll v polled seg cut is.own is.taken is.moved (done out) is.acts ok past.time knows
        refl knows.live.blocks layout line h heap_after reach time (record {
          past = past;
          timed = refl;
          parts = parts_after layout past h v parts k.key n.number found.number k.value n.value found.kept found.has found.fit closed format
              head (NewSegment grain grains) (with_segment s v.segments) segments (buffer_after k.value (NewSegment grain grains) size) m
              (hand_in_own grain grains) (omega arith) time knows.laid after
              (inr (ap (λ ss. bit_of (slice_set h.segs.condemned grain false) (option_map (λ (t : Segment). grain_of t.base)
              (segment_over ss (address_of_word (word_of (address_of_grain grain)))))) segments
              ∙ ap (λ o. bit_of (slice_set h.segs.condemned grain false) (option_map (λ (t : Segment). grain_of t.base) o)) over
              ∙ ap (bit (slice_set h.segs.condemned grain false))
              (let same : grain_of (address_of_grain grain) ≡ grain = omega arith in same)
              ∙ clear_bit h.segs.condemned grain)) valid;
        }) (reserved_sound (with_segment s v.segments) m) (record {
          rest = λ none. none;
          not_condemned = λ not_condemned at. noted_clear (NewSegment grain grains) h.segs.condemned at (not_condemned at);
          not_kept = λ not_condemned not_kept. not_kept;
          running = refl;
          tails = λ pool generation. refl;
          world_tails = λ pool generation. refl;
          ranked = λ y r.
              ranks_stay layout past h v parts heap_after.segs (λ n is. is) (λ n is. is) (λ word grey.
              ap (λ ss. segment_over ss (address_of_word word)) segments
              ∙ over_same (NewSegment grain grains) n.value.pool 0 s.rank (v.grains + 1) v.segments h.segs.condemned knows.laid.aligned
              knows.laid.ascending after.aligned after.ascending word grey.segment
              (ap (λ ss. segment_over ss (address_of_word word)) (sym parts.segments) ∙ grey.over));
          flip = λ of. record { made = of.made; still = of.still };
          condemned = λ y is run marked.
              condemned_stay (NewSegment grain grains) n.value.pool 0 s.rank (v.grains + 1) v.segments h.segs.condemned
              knows.laid.aligned knows.laid.ascending after.aligned after.ascending y.running.condemned_segments marked
              (λ base held. let u = condemned_held y run base held in
              (u.0, subst (λ (o : World). IsAmong u.0 o.segments) is u.1, u.2));
        }) refl)

    of_placement : (q : Placement) → placement_of v (ForReserve n.number size) ≡ q → IsRightOutcome (outcome_at size q)
    of_placement (Place word) e = at_place word e
    of_placement (NewSegment grain grains) e = in_new grain grains e
    of_placement (OverLimit committed need limit) e =
        refused_at (refusal.CommitLimit committed need limit) (OverLimit committed need limit) e refl refl
    of_placement (NoFreeRun need longest) e = refused_at (refusal.NoRun need longest) (NoFreeRun need longest) e refl refl

  -- ---- the whole call

  -- what comes after the checks
  abbrev after_checks : Reserving → Checked (Moved F (Unit {0}))
  after_checks a =
      answer_of_placement (placement_at a.point.value h.segs a.words) >>= (λ at. Ok (record {
        answer = tt;
        state = Rattle.mps_heap_spec.specs.Allocating.with_reserved layout h a.point (held_at layout h at head a.words);
        trail = moves_after (placement_at a.point.value h.segs a.words) a.point.value.pool 0 trail;
      }))

  of_fit : (a : Reserving) (b : model.Reserving) → check_reserve layout h name head ≡ Ok a → model.check_reserve v name head ≡ Ok b
      → IsReserving layout past h v parts knows.graph name head a b → IsRightOutcome (after_reserve layout h trail name head)
  of_fit a b ours theirs is =
      let q = placement_of v (ForReserve is.point.number (length (new_cells is.format head))) in
      let check = theirs ∙ ap Ok is.is in
      let named = reserving_point check in
      let now : after_reserve layout h trail name head ≡ outcome_at a.point is.point is.found is.closed is.format check named is.valid
      (length (new_cells is.format head)) q =
      ap (λ x. x >>= after_checks) ours
      ∙ ap (λ words. after_checks (record { point = a.point; words = words })) is.words
      ∙ ap (outcome_at a.point is.point is.found is.closed is.format check named is.valid (length (new_cells is.format head)))
      (placed_alike a.point is.point is.found is.closed is.format check named is.valid) in
      subst IsRightOutcome (sym now) (of_placement a.point is.point is.found is.closed is.format check named is.valid q refl)
    where
      reserving_point : {n : Numbered graph.Point} {cells : List graph.Cell}
          → model.check_reserve v name head ≡ Ok (record { point = n; cells = cells }) → point_named v name ≡ Ok n
      reserving_point {n} {cells} e = checked_point v name head (record { point = n; cells = cells }) e

  of_both : (y : Checked Reserving) (z : Checked model.Reserving) → check_reserve layout h name head ≡ y
      → model.check_reserve v name head ≡ z
      → Same (IsReserving layout past h v parts knows.graph name head) y z → IsRightOutcome (after_reserve layout h trail name head)
  of_both y z ours theirs (fits {a} {b} is) = of_fit a b ours theirs is
  of_both y z ours theirs (same.refused {why}) =
      subst IsRightOutcome (sym (ap (λ z. z >>= after_checks) ours)) (refused_outcome why theirs)

  -- `reserve` is right at any time, if the trail has the moves of its poll
  pub reserve_runs_on : IsRightOutcome (after_reserve layout h trail name head)
  reserve_runs_on =
      of_both (check_reserve layout h name head) (model.check_reserve v name head) refl refl
      (reserve_checked layout past h v parts knows.graph name head)
