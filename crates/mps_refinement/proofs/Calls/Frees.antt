-- `free`: from its outcome to a right step.
use Rattle.std.proofs.Common.{◌≡◌, ◌∙◌, ℕ, Bool, true, false, refl, sym, ap, subst, [], ◌∷◌, ◌++◌, Option, Some, None, Ok, Err, ◌+◌, List, Contains}
use Rattle.std.proofs.lemmas.Option.{slice_get-map, same_Some}
use Rattle.std.specs.Prelude.{◌==◌, ◌&&◌, slice_get, option_map, if◌then◌else◌}
use Rattle.std.specs.Option.{option_map_or}
use Rattle.mps_base.specs.Address.{Address, Id, grain_of, word_of}
use Rattle.mps_base.specs.Segment.{Segment, segment_over}
use Rattle.mps_base.specs.Trail.{Moves, with_move}
use Rattle.mps_base.specs.declared.moves.Move.TheVariants as moves
use Rattle.mps_base.specs.declared.names.Slot.{Slot}
use Rattle.mps_base.specs.declared.refusal.Refusal.{Refusal}
use Rattle.mps_base.specs.declared.refusal.Refusal.TheVariants as refusal
use Rattle.mps_format.specs.Layout.{Layout}
use Rattle.mps_laws.proofs.Acts.{required-is}
use Rattle.mps_laws.proofs.Sound.PoolsThere.{all-at}
use Rattle.mps_laws.proofs.Same as same
use Rattle.mps_laws.proofs.Same.{Same, fits}
use Rattle.mps_laws.proofs.Positions.Segments.{among_aligned, found_among, IsAmong, among_without}
use Rattle.mps_base.specs.Segment.{is_in_segment, without_segment}
use Rattle.mps_pools.specs.Manual.{any_size, block_removed, segs_after_free, is_unused, moves_freed, moves_given_back}
use Rattle.mps_model.specs.Allocating as model
use Rattle.mps_model.specs.declared.call.Call.TheVariants as call
use Rattle.mps_model.specs.Checked as checked
use Rattle.mps_model.specs.Checked.{Checked, Found, ◌>>=◌, ◌>>◌, done, refuse_when, required}
use Rattle.mps_model.specs.Effect.{with_address, world_after_moves}
use Rattle.mps_model.specs.World.{World, Pool, is_any_size_kind, is_empty_segment, pool_is, is_automatic_kind, is_copying_pool, object_is, has_frames, pool_of}
use Rattle.mps_heap_spec.specs.Coming.{ComesMoving, Moved}
use Rattle.mps_heap_spec.specs.Finding.{block_place_in}
use Rattle.mps_heap_spec.specs.declared.found.Entry.{Entry}
use Rattle.mps_heap_spec.specs.Framing as framing
use Rattle.mps_heap_spec.specs.Manual.{block_freed, block_in, with_block_place}
use Rattle.mps_heap_spec.specs.State.{HeapState}
use Rattle.mps_format.specs.Pools.{size_of_pool}
use Rattle.mps_refinement.specs.Answering.{answer_to, says_ok}
use Rattle.mps_refinement.specs.Framed.{is_framed}
use Rattle.mps_refinement.specs.RightStep.{IsRight, IsRightFrom, step_of}
use Rattle.mps_refinement.specs.StandsFor.{AreParts, IsReached, Past, IsInTime, collector_of}
use Rattle.mps_refinement.proofs.Lookups.Blocks.{same_address}
use Rattle.mps_refinement.proofs.Parts.FreedParts.{any_size_alike, freed_is, not_automatic, parts_freed, segments_freed, unused_is, flip_after, segs_condemned, segs_kept, ranks_freed}
use Rattle.mps_refinement.proofs.Calls.FreeingStep as freeing
use Rattle.mps_refinement.proofs.Worlds.Known.{IsKnown}
use Rattle.mps_refinement.proofs.Worlds.OneFree.{AreOutside, outside_known}
use Rattle.mps_refinement.proofs.Lookups.LiveObjects.{IsLiveBlock, live_block}
use Rattle.mps_refinement.proofs.Lookups.Lookups.{IsPlaceEntry, IsPlaceFound, place_same}
use Rattle.mps_refinement.proofs.Lookups.ManualBlocks.{IsBlock, block_same, setting}
use Rattle.mps_refinement.proofs.Worlds.PlacedOnce.{is_sized, ArePlacedOnce}
use Rattle.mps_seg.specs.Segs.{SegsState}
use Rattle.mps_model.specs.Answer.{Replied}
use Rattle.mps_model.specs.declared.reply.Reply.TheVariants as reply
use Rattle.mps_base.specs.declared.moves.Move.{Move}
use Rattle.mps_extents.specs.Table.{bit}
use Rattle.mps_laws.proofs.Replays.FreeSteps.{free_step}
use Rattle.mps_laws.proofs.Positions.LaidOut.{IsLaidOut}
use Rattle.mps_laws.proofs.Positions.LegalMoves.{HasLayout}
use Rattle.mps_laws.proofs.Sound.PoolKinds.{manual_not_copying}
use Rattle.mps_laws.proofs.QuietSteps.{IsSound}
use Rattle.mps_laws.proofs.Sound.SoundGraph.{IsSoundGraph, auto}
use Rattle.mps_laws.proofs.Replays.Steps.{remembered_kept}
use Rattle.mps_model.specs.Graph.{entry_at, is_automatic, Object}
use Rattle.mps_model.specs.History.{moves_of_free, unless_refused, with_client_remembered}
use Rattle.mps_model.specs.Reply.{world_from}
use Rattle.mps_refinement.proofs.Worlds.PlacesByMoves.{places_of}
use Rattle.mps_refinement.proofs.Parts.CommittedParts.{segment_there}
use Rattle.mps_refinement.proofs.Parts.PointWritten.{none_set}
use Rattle.mps_refinement.proofs.Parts.SegmentsTaken.{contained_among}
use Rattle.mps_refinement.proofs.Worlds.RestingActs.{resting_sound}
use Rattle.mps_refinement.proofs.Calls.RightOwn.{IsOwn, IsRightOutcome, done_is_right, outcome_is_right, refusal_is_right}
use Rattle.mps_refinement.proofs.Parts.BlockParts.{parts_with_pairs, world_with_blocks}
use Rattle.mps_abstract.specs.Colours.{is_grey}
use Rattle.mps_refinement.proofs.Parts.ObjectKinds.{manual_unpaired}
use Rattle.mps_refinement.proofs.Parts.PairsKept.{none_ends}

-- the moves of a free, where the trail had none
pub moves_are : (size : ℕ) (s : SegsState) (trail : Moves) (at : Address) (t : Segment) → trail.moves ≡ []
    → segment_over s.segments at ≡ Some t
    → (moves_freed size s trail (record { 0 = at })).moves
    ≡ moves.Free (record { 0 = at })
    ∷ (if size == any_size && is_unused (block_removed s at).covered t then moves.Unseg (record { 0 = t.base }) ∷ [] else [])
moves_are size s trail at t none over =
    elim (size == any_size) as (λ b. (if b
    then moves_given_back (block_removed s at).covered (segment_over s.segments at) (with_move trail (moves.Free (record { 0 = at })))
    else with_move trail (moves.Free (record { 0 = at }))).moves
    ≡ moves.Free (record { 0 = at })
    ∷ (if b && is_unused (block_removed s at).covered t then moves.Unseg (record { 0 = t.base }) ∷ [] else [])) [
      | true ↦
          ap (λ o. (moves_given_back (block_removed s at).covered o (with_move trail (moves.Free (record { 0 = at })))).moves) over
          ∙ of_unused (is_unused (block_removed s at).covered t)
      | false ↦ ap (λ ms. ms ++ moves.Free (record { 0 = at }) ∷ []) none
    ]
  where
    of_unused : (b : Bool)
        → (if b then with_move (with_move trail (moves.Free (record { 0 = at }))) (moves.Unseg (record { 0 = t.base }))
        else with_move trail (moves.Free (record { 0 = at }))).moves
        ≡ moves.Free (record { 0 = at }) ∷ (if b then moves.Unseg (record { 0 = t.base }) ∷ [] else [])
    of_unused true = ap (λ ms. (ms ++ moves.Free (record { 0 = at }) ∷ []) ++ moves.Unseg (record { 0 = t.base }) ∷ []) none
    of_unused false = ap (λ ms. ms ++ moves.Free (record { 0 = at }) ∷ []) none

module _ {F : Type 0} (layout : F → Layout) (h : HeapState F) (trail : Moves) (none : trail.moves ≡ []) (place : Slot) where
  abbrev IsRightFree : World → ℕ → Checked (Moved F (Unit {0})) → Type 0
  IsRightFree w line o = IsRightOutcome layout h trail none (call.Free place) w line o

  module _ (w : World) (line : ℕ) (past : Past) (parts : AreParts layout past h w) (own : IsKnown past.time w)
      (reach : IsReached w) (time : IsInTime past.time (collector_of h) w) where
    is_own : IsOwn w (call.Free place)
    is_own = record {
      arena = refl;
      collected = λ ms answer. refl;
      legal = λ ms. tt;
      marked = λ y answer. tt;
      read = λ y. tt;
      possible = λ answer. tt;
      unasked = λ why. refl;
      still = refl;
      judged = λ ms. refl;
      taken = λ v. refl;
    }

    sound : w.collection ≡ None → IsSound w
    sound rest = resting_sound w rest own.live

    -- no segment that may be given back is condemned
    pub outside : AreOutside w
    outside = outside_known past (collector_of h) w own time

    refused_outcome : (why : Refusal) → model.act_free w place ≡ Err why → IsRightFree w line (Err why)
    refused_outcome why e =
        refusal_is_right layout h trail none (call.Free place) w line past parts own reach time is_own why e

    -- from the block on
    abbrev from_size : (entry : Entry Address) → Address → Option ℕ → Checked (Moved F (Unit {0}))
    from_size entry at o =
        required o refusal.NotABlock >>= (λ size. Ok (record {
          answer = tt;
          state = with_block_place (record h { segs = segs_after_free size h.segs at }) entry 0;
          trail = moves_freed size h.segs trail (record { 0 = at });
        }))

    abbrev from_segment : (entry : Entry Address) → Address → Segment → (framed : Bool) → Checked (Moved F (Unit {0}))
    from_segment entry at s framed = refuse_when framed refusal.WrongPool >> from_size entry at (slice_get h.sizes s.pool)

    abbrev from_block : (entry : Entry Address) → Address → Checked (Moved F (Unit {0}))
    from_block entry at =
        required (segment_over h.segs.segments at) refusal.NotABlock >>= (λ (s : Segment).
        from_segment entry at s (framing.has_frames h s.pool))

    -- what is known of a block
    module _ (at : Address) (id : Id) (b : IsBlock w at id) where
      pub found_live : IsLiveBlock layout h w id at b.object
      found_live =
          let x = live_block layout past h w parts own id at b.address in
          subst (IsLiveBlock layout h w id at)
          (same_Some x.0 b.object (sym x.1.object ∙ b.there)) x.1

      -- whether its pool has frames
      framed_alike : framing.has_frames h found_live.segment.pool ≡ pool_is has_frames w (pool_of w id)
      framed_alike =
          parts.framed.kinds found_live.segment.pool ∙ ap (is_framed w.pools) found_live.of
          ∙ sym (ap (λ o. pool_is has_frames w (option_map_or (λ (x : Object). x.pool) o 0)) b.there)

      framed_is_refused : (entry : Entry Address) → pool_is has_frames w (pool_of w id) ≡ true
          → from_block entry at ≡ Err refusal.WrongPool
      framed_is_refused entry framed =
          ap (λ o. required o refusal.NotABlock >>= (λ (s : Segment). from_segment entry at s (framing.has_frames h s.pool)))
          found_live.over
          ∙ ap (from_segment entry at found_live.segment) (framed_alike ∙ framed)

    module _ (entry : Entry Address) (found : Found (Option ℕ)) (is : IsPlaceEntry past h w place.index entry found)
        (place_is : checked.block_place_in w place ≡ Ok found) (at : Address) (id : Id) (b : IsBlock w at id) (value : found.value
        ≡ Some id)
      where
        abbrev pub live : IsLiveBlock layout h w id at b.object
        live = found_live at id b

        abbrev pub t : Segment
        t = live.segment

        pub size : ℕ
        size = size_of_pool live.pool

        pub size_is : slice_get h.sizes t.pool ≡ Some size
        unfolding size
        size_is =
            ap (λ xs. slice_get xs t.pool) parts.sizes ∙ slice_get-map size_of_pool h.pools t.pool
            ∙ ap (λ n. option_map size_of_pool (slice_get h.pools n)) live.of ∙ ap (option_map size_of_pool) live.kept

        abbrev pub given : Bool
        given = size == any_size && is_unused (block_removed h.segs at).covered t

        pub any_size_is : (size == any_size) ≡ pool_is is_any_size_kind w t.pool
        unfolding size
        any_size_is =
            let models = ap (λ o. option_map_or (λ (q : Pool). is_any_size_kind q.kind) o false)
            (ap (slice_get w.pools) live.of ∙ live.has) in
            let same : live.models ≡ b.pool =
            same_Some live.models b.pool (sym live.has ∙ b.of) in
            any_size_alike layout w.formats live.pool live.models live.fit
            (ap (λ (q : Pool). is_automatic_kind q.kind) same ∙ b.right.kind)
            (all-at (λ (q : Pool). is_sized q.kind ≡ true) w.pools b.object.pool live.models own.once.sized live.has)
            ∙ sym models

        pub over : segment_over w.segments at ≡ Some t
        over = ap (λ ss. segment_over ss at) (sym parts.segments) ∙ live.over

        pub is_given : (pool_is is_any_size_kind w t.pool && is_empty_segment (with_address w id None) t) ≡ given
        is_given =
            let laid = own.laid in
            let aligned = among_aligned t w.segments laid.aligned (found_among (λ s. is_in_segment s at) w.segments t over).0 in
            ap (λ c. c && is_empty_segment (with_address w id None) t) (sym any_size_is)
            ∙ ap (λ c. (size == any_size) && c) (sym (unused_is layout past h w parts own own.graph at id b time t aligned))

        pub entry_there : slice_get found.list found.index ≡ Some found.value
        entry_there = ap (slice_get found.list) is.found_index ∙ is.there

        graph : IsSoundGraph w
        graph = own.graph

        abbrev once : ArePlacedOnce (places_of w)
        once = own.once

        abbrev differ : (i j : ℕ) (a : Address) → entry_at w.addresses i ≡ Some a → entry_at w.addresses j ≡ Some a → i ≡ j
        differ = same_address (setting layout past h w parts own) w.addresses parts.image.placed

        abbrev manual : auto w id ≡ false
        manual = not_automatic layout past h w parts own graph at id b time

        abbrev v : World
        v =
            freeing.world_freed w outside graph sound own.live.blocks once place found place_is is.has entry_there id at value b.address
            manual differ t over given is_given

        abbrev ms : List Move
        ms =
            freeing.moves_freed w outside graph sound own.live.blocks once place found place_is is.has entry_there id at value b.address
            manual differ t over given is_given

        due : ms ≡ unless_refused (Replied reply.Ok) (moves_of_free w (checked.block_place_in w place))
        due =
            freeing.due w outside graph sound own.live.blocks once place found place_is is.has entry_there id at value b.address manual
            differ t over given is_given

        pub among : IsAmong t w.segments
        among = (found_among (λ s. is_in_segment s at) w.segments t over).0

        pub not_copying : is_copying_pool w t.pool ≡ false
        not_copying =
            manual_not_copying w.pools t.pool b.pool (ap (slice_get w.pools) live.of ∙ b.of) b.right.kind

        -- where its pool has no frames
        module _ (frameless : pool_is has_frames w (pool_of w id) ≡ false) where
          outcome_is : from_block entry at ≡ Ok (record {
            answer = tt;
            state = with_block_place (record h { segs = segs_after_free size h.segs at }) entry 0;
            trail = moves_freed size h.segs trail (record { 0 = at });
          })
          outcome_is =
              ap (λ o. required o refusal.NotABlock >>= (λ (s : Segment). from_segment entry at s (framing.has_frames h s.pool))) live.over
              ∙ ap (from_segment entry at t) (framed_alike at id b ∙ frameless) ∙ ap (from_size entry at) size_is

          comes : model.act_free (world_after_moves w ms) place ≡ done v
          comes =
              freeing.comes w outside graph sound own.live.blocks once place found place_is is.has entry_there id at value b.address manual
              differ t over given is_given frameless

          layout_freed : HasLayout (w.grains + 1) v
          layout_freed =
              let r = free_step (w.grains + 1) 0 line w own.laid place ms (Replied reply.Ok) own.live.blocks due in
              subst (IsLaidOut (w.grains + 1)) (remembered_kept v)
              (subst (λ x. HasLayout (w.grains + 1) (with_client_remembered (world_from (world_after_moves w ms) x))) comes r.layout)

          accepted_outcome : IsRightFree w line (from_block entry at)
          accepted_outcome =
              subst (IsRightFree w line) (sym outcome_is)
              (subst (λ ns. IsRightFrom layout h w
              (step_of line (call.Free place) ns (Replied reply.Ok))
              (with_block_place (record h { segs = segs_after_free size h.segs at }) entry 0)) (sym
              (moves_are size h.segs trail at t none live.over))
              (subst (λ segs. IsRightFrom layout h w
              (step_of line (call.Free place) ms (Replied reply.Ok))
              (with_block_place (record h { segs = segs }) entry 0)) (sym (freed_is size h.segs at t live.over))
              (done_is_right layout h trail none (call.Free place) w line past parts own reach time is_own ms
              (with_block_place (record h { segs = segments_freed h.segs at t given }) entry 0) v (record {
                due = due;
                comes = comes;
                sound =
                    freeing.sound_freed w outside graph sound own.live.blocks once place found place_is is.has entry_there id at value
                    b.address manual differ t over given is_given (manual_unpaired w own.formed id manual);
                blocks =
                    freeing.blocks_freed w outside graph sound own.live.blocks once place found place_is is.has entry_there id at value
                    b.address manual differ t over given is_given;
                laid = layout_freed;
                has = record {
                  past = past;
                  timed = refl;
                  parts = parts_with_pairs layout past (with_block_place (record h { segs = segments_freed h.segs at t given }) entry 0)
                      (world_with_blocks w w.graph.objects v.addresses v.graph.blocks v.segments) v.graph.dependents
                      (none_ends w own.graph own.formed.dependents id manual)
                      (parts_freed layout past h w parts own graph at id b time place.index entry found is value once t given among
                      not_copying frameless own.laid layout_freed);
                };
                keeps = record {
                  rest = λ rest. rest;
                  not_condemned = λ none grain. ap (λ bits. bit bits grain)
                      (segs_condemned layout past h w parts own graph at id b time t given)
                      ∙ none grain;
                  not_kept = λ none unmarked n. ap (λ bits. bit bits n)
                      (segs_kept layout past h w parts own graph at id b time t given)
                      ∙ none_set h.segs.marks.kept (word_of at) n (unmarked n);
                  running = refl;
                  tails = λ pool generation. refl;
                  world_tails = λ pool generation. refl;
                  ranked = λ y r.
                      ranks_freed layout past h w parts own graph at id b time t given v refl refl refl own.laid layout_freed (λ j grey.
                      ap (λ (u : World). object_is is_automatic u j) (sym r.world)
                      ∙ r.invariant.grey.grey_automatic j (ap (λ k. is_grey k j) (sym r.colours) ∙ grey));
                  flip = λ of_flip.
                      let after = flip_after layout past h w parts own graph at id b time v.graph.blocks v.segments of_flip in
                      record { made = after.made; still = after.still };
                  condemned = λ y same run marked u there.
                      ap (λ bits. bit bits (grain_of u.base)) (segs_condemned layout past h w parts own graph at id b time t given)
                      ∙ marked u (still_held given u there);
                };
                formats = refl;
              }))))
            where
              still_held : (g : Bool) (u : Segment) → Contains (if g then without_segment w.segments t.base else w.segments) u
                  → Contains w.segments u
              still_held true u there =
                  segment_there u w.segments (among_without t.base u w.segments
                  (contained_among (without_segment w.segments t.base) u there))
              still_held false u there = there

    -- ---- the checks

    of_block : (entry : Entry Address) (found : Found (Option ℕ)) → IsPlaceEntry past h w place.index entry found
        → checked.block_place_in w place ≡ Ok found → (x : Checked Address) (y : Checked ℕ) → model.block_in found ≡ y
        → Same (IsBlock w) x y → IsRightFree w line (x >>= from_block entry)
    of_block entry found is place_is x y theirs (fits {a = at} {b = id} b) =
        of_framed (pool_is has_frames w (pool_of w id)) refl
      where
        value : found.value ≡ Some id
        value = required-is found.value refusal.NotABlock id theirs

        of_framed : (framed : Bool) → pool_is has_frames w (pool_of w id) ≡ framed → IsRightFree w line (from_block entry at)
        of_framed true framed =
            subst (IsRightFree w line) (sym (framed_is_refused at id b entry framed))
            (refused_outcome refusal.WrongPool
            (ap (λ z. z >>= (λ (p : Found (Option ℕ)). model.block_in p >>= (λ (n : ℕ).
            refuse_when (pool_is has_frames w (pool_of w n)) refusal.WrongPool
            >> done (checked.with_graph w (model.with_block_place w.graph p None))))) place_is
            ∙ ap (λ z. z >>= (λ (n : ℕ). refuse_when (pool_is has_frames w (pool_of w n)) refusal.WrongPool
            >> done (checked.with_graph w (model.with_block_place w.graph found None)))) theirs
            ∙ ap (λ c. refuse_when c refusal.WrongPool >> done (checked.with_graph w (model.with_block_place w.graph found None))) framed))
        of_framed false frameless = accepted_outcome entry found is place_is at id b value frameless
    of_block entry found is place_is x y theirs (same.refused {why = why}) =
        refused_outcome why
        (ap (λ z. z >>= (λ (p : Found (Option ℕ)). model.block_in p >>= (λ (n : ℕ).
        refuse_when (pool_is has_frames w (pool_of w n)) refusal.WrongPool
        >> done (checked.with_graph w (model.with_block_place w.graph p None))))) place_is
        ∙ ap (λ z. z >>= (λ (n : ℕ). refuse_when (pool_is has_frames w (pool_of w n)) refusal.WrongPool
        >> done (checked.with_graph w (model.with_block_place w.graph found None)))) theirs)

    of_place : (x : Checked (Entry Address)) (y : Checked (Found (Option ℕ))) → checked.block_place_in w place ≡ y
        → Same (IsPlaceFound past h w place) x y
        → IsRightFree w line (x >>= (λ entry. block_in h entry >>= from_block entry))
    of_place x y theirs (fits {a = entry} {b = found} is) =
        of_block entry found is.fit theirs (block_in h entry) (model.block_in found) refl
        (block_same layout past h w parts own place.index entry found is.fit)
    of_place x y theirs (same.refused {why = why}) =
        refused_outcome why
        (ap (λ z. z >>= (λ (p : Found (Option ℕ)). model.block_in p >>= (λ (n : ℕ).
        refuse_when (pool_is has_frames w (pool_of w n)) refusal.WrongPool
        >> done (checked.with_graph w (model.with_block_place w.graph p None))))) theirs)

    freed_outcome : IsRightFree w line (block_freed h trail place)
    freed_outcome =
        of_place (block_place_in h place) (checked.block_place_in w place) refl (place_same layout past h w parts place)

  -- `free` is right, where the trail has no moves before it
  pub free_is_right : (result : Checked (Unit {0})) (after : HeapState F) (trail_after : Moves)
      → ComesMoving h trail (block_freed h trail place) result after trail_after
      → IsRight layout h (call.Free place) trail_after.moves (answer_to says_ok result) after
  free_is_right result after trail_after comes =
      outcome_is_right layout h trail none (call.Free place) (block_freed h trail place) result after trail_after comes freed_outcome
