-- A `reserve` is right, whatever its poll does: where a collection runs it does 64 units, or fewer if the collection ends in them. Where
-- none runs it flips the generation that is due, if one is. It can be done, and keeps the room of its trail.
use Rattle.std.proofs.Common.{◌≡◌, ◌∙◌, ◌<◌, ◌≤◌, Bool, true, false, refl, sym, ap, subst, List, [], ◌++◌, Option, Some, None, is_some, arith}
use Rattle.std.proofs.lemmas.List.{append-nil}
use Rattle.std.specs.Prelude.{ℕ, MatchBool}
use Rattle.mps_base.specs.Generation.{Due}
use Rattle.mps_base.specs.Trail.{Moves}
use Rattle.mps_base.specs.declared.moves.Move.{Move}
use Rattle.mps_base.specs.declared.names.Name.{Name}
use Rattle.mps_buffer.specs.Points.{WereMadeBefore}
use Rattle.mps_format.specs.Layout.{Layout}
use Rattle.mps_model.specs.declared.call.Call.{Call}
use Rattle.mps_model.specs.declared.call.Call.TheVariants as call
use Rattle.mps_model.specs.Checked.{Checked}
use Rattle.mps_model.specs.Policy.{polls, units_of_poll}
use Rattle.mps_laws.proofs.SameArena.{moved_alone}
use Rattle.mps_model.specs.Collecting.{with_state}
use Rattle.mps_model.specs.Effect.{world_after_moves}
use Rattle.mps_model.specs.History.{asking}
use Rattle.mps_model.specs.World.{World, is_parked, is_running, pairs_in}
use Rattle.mps_refinement.proofs.Collect.LiveIsFew.{most_now}
use Rattle.mps_pools.specs.Pools.{trace_of}
use Rattle.mps_trace.specs.Unit.{EndsWithin, UnitsTo}
use Rattle.mps_trace.specs.declared.running.Running.{Running as RunningState}
use Rattle.mps_heap_spec.specs.Allocating.{after_reserve, check_reserve}
use Rattle.mps_heap_spec.specs.Coming.{ComesMoving}
use Rattle.mps_heap_spec.specs.Collecting.{IsStarted, most_flips}
use Rattle.mps_heap_spec.specs.Polling.{CanPoll, HasFlipped, HasPolled, HasReserved, condemned_by, due_in, polls_for}
use Rattle.mps_heap_spec.specs.State.{HeapState, IsReady}
use Rattle.mps_heap_spec.specs.Units.{HasDoneUnits, IsWhole, ends, goes_on, none_runs, traced_in}
use Rattle.mps_refinement.specs.Answering.{answer_to, says_ok}
use Rattle.mps_refinement.specs.RightMoving.{IsRightMovingIn, KeepsRoom}
use Rattle.mps_refinement.specs.StandsFor.{IsInTime, IsReached, StandsFor, Time, collector_of}
use Rattle.mps_refinement.proofs.Calls.Reserves.{no_poll, no_poll_at_rest, polls_alike}
use Rattle.mps_refinement.proofs.Calls.ReserveStep.{Polls}
use Rattle.mps_refinement.proofs.Calls.RightReserve.{reserve_runs_on}
use Rattle.mps_refinement.proofs.Following.WithoutPairs.{alone}
use Rattle.mps_refinement.proofs.Units.FlipPolls as flips
use Rattle.mps_refinement.proofs.Units.Outcomes.{can_do_units, running_alike, units_keep_room}
use Rattle.mps_refinement.proofs.Units.Polls.{units_poll}
use Rattle.mps_refinement.proofs.Units.RoomLeft.{more_is_left}
use Rattle.mps_refinement.proofs.Units.UnitsDone as going
use Rattle.mps_refinement.proofs.Units.UnitsMade.{AreUnitsMade, units_are_made}
use Rattle.mps_refinement.proofs.Worlds.Appending.{outcome_appended, reserve_appends}
use Rattle.mps_refinement.proofs.Worlds.InSteps.{known_asked_by_moves, running_unparked}
use Rattle.mps_refinement.proofs.Worlds.Known.{IsKnown, known_now}
use Rattle.mps_refinement.proofs.Worlds.LikeReached.{IsLikeReached, like_reached}
use Rattle.mps_refinement.proofs.Worlds.Ready.{heap_is_ready, laid_out, ready}
use Rattle.mps_refinement.proofs.Worlds.Room.{keeps_room, reserve_keeps_room}
use Rattle.mps_refinement.proofs.Worlds.RunningNow.{resting_now, running_now}
use Rattle.mps_refinement.proofs.Worlds.Steps.{HasParts}
use Rattle.mps_heap_spec.specs.Following.{Follows}

-- ---- after the moves of a poll

module _ {F : Type 0} (layout : F → Layout) (w : World) (reach : IsReached w) (name : Name) (head : ℕ) (before : List Move) where
  abbrev the_call : Call
  the_call = call.Reserve name head

  -- what comes of a `reserve` of a heap after the poll, over a trail that had these moves, is right
  abbrev pub IsRightAfterPoll : HeapState F → Moves → Type 0
  IsRightAfterPoll polled trail =
      (result : Checked (Unit {0})) (after : HeapState F) (trail_after : Moves)
      → ComesMoving polled trail (after_reserve layout polled trail name head) result after trail_after
      → IsRightMovingIn layout w the_call before trail_after.moves (answer_to says_ok result) after

  judged_is_right : (t : Time) (polled : HeapState F) (trail : Moves) (poll : List Move) (v : World) → Polls w name head poll v
      → HasParts layout t polled v → IsKnown t v → IsInTime t (collector_of polled) v → trail.moves ≡ before ++ poll
      → IsRightAfterPoll polled trail
  judged_is_right t polled trail poll v polls_so has knows time trail_is =
      let own : Moves = record { moves = poll; spare = trail.spare } in
      let is : trail ≡ record { moves = before ++ poll; spare = trail.spare } =
      ap (λ ms. let u : Moves = record { moves = ms; spare = trail.spare } in u) trail_is
      in
      outcome_appended layout polled w the_call before says_ok own trail (after_reserve layout polled trail name head)
      (after_reserve layout polled own name head) is (reserve_appends layout polled name head before trail own is)
      (λ line. reserve_runs_on layout has.past polled w (laid_out w reach) reach name head poll v polls_so has.parts
      (subst (λ u. IsKnown u v) (sym has.timed) knows) (subst (λ u. IsInTime u (collector_of polled) v) (sym has.timed) time)
      own refl line)

-- ---- while a collection runs

module _ {F : Type 0} (layout : F → Layout) (w : World) (reach : IsReached w) (m : Moves) (polled : HeapState F) (trail : Moves)
    (is : AreUnitsMade layout w m units_of_poll polled trail) (running : is_running w ≡ true) where
  abbrev like : IsLikeReached w
  like = like_reached w reach

  abbrev v : World
  v = asking (Some units_of_poll) (world_after_moves w is.moves)

  unparked : is_parked (world_after_moves w is.moves) ≡ false
  unparked = ap (λ s. is_parked (with_state w s)) (moved_alone w call.Park is.moves).state ∙ running_unparked w like.formed running

  pub known_then : IsKnown is.time v
  known_then =
      known_asked_by_moves w like is.moves is.made.legal units_of_poll unparked is.made.live is.time (collector_of polled) is.made.now

  pub ready_after : IsReady polled
  ready_after = heap_is_ready layout is.made.has.past polled v is.made.has.parts known_then.laid

  pub polled_is_right : (name : Name) (head : ℕ) → polls w (call.Reserve name head) ≡ true
      → IsRightAfterPoll layout w reach name head m.moves polled trail
  polled_is_right name head polling =
      judged_is_right layout w reach name head m.moves is.time polled trail is.moves v
      (units_poll w name head is.moves running polling is.made.legal (is.units running) is.taken_by_none) is.made.has known_then is.made.now
      is.appended

-- ---- at any time

module _ {F : Type 0} (layout : F → Layout) (h : HeapState F) (whole : IsWhole h) (m : Moves)
    (room : most_now h.segs < m.spare) (w : World) (st : StandsFor layout h w) where
  enough : most_now h.segs ≤ m.spare
  enough = omega (arith, room)

  runs_there : (run : RunningState) → h.running ≡ Some run → is_running w ≡ true
  runs_there run is = running_alike st.time ∙ ap (λ (o : Option RunningState). is_some o) is

  -- the points are ready after a poll
  ready_then : (run : RunningState) → h.running ≡ Some run → (h' : HeapState F) (m' : Moves)
      → Follows layout m (HasDoneUnits layout h m units_of_poll) h' m' → IsReady h'
  ready_then run runs_now h' m' follows =
      ready_after layout w st.reached m h' m' (units_are_made layout h whole m enough w st units_of_poll h' m' follows)
      (runs_there run runs_now)

  -- and there is room for a move
  room_then : (h' : HeapState F) (m' : Moves) → HasDoneUnits layout h m units_of_poll h' m' → 0 < m'.spare
  room_then h' m' (none_runs none is trail) = let same = ap (λ (u : Moves). u.spare) trail in omega (arith, same, room)
  room_then h' m' (goes_on run next is units state) =
      let g = running_now layout h w st run is in
      going.room_left layout g.past (alone h) g.collecting g.parts g.bare g.runs
      whole.tails whole.marked m enough units_of_poll
      (traced_in h' m') h'.finals next
      (subst (λ q. UnitsTo layout (trace_of h.pools h.chains h.tails).formats (trace_of h.pools h.chains h.tails).chains
      (traced_in h m) h.finals q units_of_poll (traced_in h' m') h'.finals next) (sym g.same) units)
  room_then h' m' (ends run is over state) =
      let g = running_now layout h w st run is in
      let more =
      more_is_left layout g.past (alone h) g.collecting g.parts g.bare g.runs whole.tails whole.marked m enough units_of_poll
      (traced_in h' m') h'.finals
      (subst (λ q. EndsWithin layout (trace_of h.pools h.chains h.tails).formats (trace_of h.pools h.chains h.tails).chains
      (traced_in h m) h.finals q units_of_poll (traced_in h' m') h'.finals) (sym g.same) over)
      in
      omega (arith, more, room)

  -- whatever a poll does: units, a flip, or nothing
  pub of_poll : (P : HeapState F → Moves → Type 0)
      → ((run : RunningState) → h.running ≡ Some run → (h' : HeapState F) (m' : Moves)
      → Follows layout m (HasDoneUnits layout h m units_of_poll) h' m' → P h' m')
      → ((due : Due) → h.running ≡ None → due_in h ≡ Some due → (h' : HeapState F) (m' : Moves)
      → IsStarted layout (condemned_by due) h m h' m' → P h' m')
      → (h.running ≡ None → due_in h ≡ None → P h m) → (h' : HeapState F) (m' : Moves) → HasPolled layout h m h' m' → P h' m'
  of_poll P units flip nothing h' m' = of_running h.running refl
    where
      of_due : (o : Option Due) → h.running ≡ None → due_in h ≡ o → HasFlipped layout h m o h' m' → P h' m'
      of_due None none is still = subst (λ g. P g m') (sym still.0) (subst (λ t. P h t) (sym still.1) (nothing none is))
      of_due (Some due) none is started = flip due none is h' m' started

      of_running : (o : Option RunningState) → h.running ≡ o
          → MatchBool (is_some o) (Follows layout m (HasDoneUnits layout h m units_of_poll) h' m')
          (HasFlipped layout h m (due_in h) h' m') → P h' m'
      of_running None none polled = of_due (due_in h) none refl polled
      of_running (Some run) runs_now done = units run runs_now h' m' done

  module _ (made : WereMadeBefore h.points.flips h.points) where
    ready_after_poll : (h' : HeapState F) (m' : Moves) → HasPolled layout h m h' m' → IsReady h'
    ready_after_poll =
        of_poll (λ g t. IsReady g) ready_then
        (λ due none is h' m' started. flips.ready_then layout h whole m enough w st none due is made h' m' started)
        (λ none is. ready layout h w st)

    room_after_poll : (h' : HeapState F) (m' : Moves) → HasPolled layout h m h' m' → 0 < m'.spare
    room_after_poll =
        of_poll (λ g t. 0 < t.spare) (λ run runs_now h' m' follows. room_then follows.made m' follows.left)
        (λ due none is h' m' started. (flips.flipped layout h whole m enough w st none due is made h' m' started).some_left)
        (λ none is. omega (arith, room))

    poll_keeps_room : (h' : HeapState F) (m' : Moves) → HasPolled layout h m h' m' → KeepsRoom m m'
    poll_keeps_room =
        of_poll (λ g t. KeepsRoom m t)
        (λ run runs_now h' m' follows. units_keep_room layout h whole m enough w st units_of_poll follows.made m' follows.left)
        (λ due none is h' m' started. (flips.flipped layout h whole m enough w st none due is made h' m' started).room)
        (λ none is. refl)

    pub can_poll : h.points.flips < most_flips → CanPoll layout h m
    can_poll few = record {
      units = can_do_units layout h whole m enough w st units_of_poll;
      flip = λ due none is. flips.due_can_start layout h whole m enough w st none due is few;
      ready = ready_after_poll;
      room = room_after_poll;
    }

    module _ (name : Name) (head : ℕ) where
      -- where the poll does nothing
      unpolled_is_right : Polls w name head [] w → IsRightAfterPoll layout w st.reached name head m.moves h m
      unpolled_is_right none =
          judged_is_right layout w st.reached name head m.moves st.past.time h m [] w none
          (record { past = st.past; timed = refl; parts = st.parts }) (known_now st) st.time
          (sym (append-nil m.moves))

      after_units : polls_for h (check_reserve layout h name head) ≡ true → (run : RunningState) → h.running ≡ Some run
          → (polled : HeapState F) (trail : Moves) → Follows layout m (HasDoneUnits layout h m units_of_poll) polled trail
          → IsRightAfterPoll layout w st.reached name head m.moves polled trail
      after_units polling run runs_now polled trail follows =
          polled_is_right layout w st.reached m polled trail
          (units_are_made layout h whole m enough w st units_of_poll polled trail follows) (runs_there run runs_now) name head
          (sym (polls_alike layout st.past h w st.parts (known_now st) name head) ∙ polling)

      after_flip : polls_for h (check_reserve layout h name head) ≡ true → (due : Due) → h.running ≡ None → due_in h ≡ Some due
          → (polled : HeapState F) (trail : Moves) → IsStarted layout (condemned_by due) h m polled trail
          → IsRightAfterPoll layout w st.reached name head m.moves polled trail
      after_flip polling due none is polled trail started =
          let flipped = flips.flipped layout h whole m enough w st none due is made polled trail started in
          let unclamped = flips.unclamped_if_it_polls h (check_reserve layout h name head) polling (pairs_in w.state) in
          let polling_there = sym (polls_alike layout st.past h w st.parts (known_now st) name head) ∙ polling in
          judged_is_right layout w st.reached name head m.moves flipped.time polled trail
          (flips.ms layout h whole m enough w st none due is made polled trail started)
          (flips.v layout h whole m enough w st none due is made polled trail started)
          (flips.flip_polls layout h whole m enough w st none due is made polled trail started unclamped name head polling_there)
          (flips.flipped_has layout h whole m enough w st none due is made polled trail started unclamped)
          (flips.flipped_known layout h whole m enough w st none due is made polled trail started unclamped)
          (flips.flipped_time layout h whole m enough w st none due is made polled trail started unclamped) flipped.appended

      after_nothing : h.running ≡ None → due_in h ≡ None → IsRightAfterPoll layout w st.reached name head m.moves h m
      after_nothing none is =
          unpolled_is_right
          (no_poll_at_rest w name head (resting_now layout h w st none).none (sym (flips.due_alike layout st.past h w st.parts) ∙ is))

      after_the_poll : polls_for h (check_reserve layout h name head) ≡ true → (polled : HeapState F) (trail : Moves)
          → HasPolled layout h m polled trail → IsRightAfterPoll layout w st.reached name head m.moves polled trail
      after_the_poll polling =
          of_poll (λ polled trail. IsRightAfterPoll layout w st.reached name head m.moves polled trail)
          (after_units polling) (after_flip polling) after_nothing

      module _ (result : Checked (Unit {0})) (after : HeapState F) (trail_after : Moves)
          (reserved : HasReserved layout h m name head result after trail_after) where
        -- whether it polls or not
        of_polling : (b : Bool) → polls_for h (check_reserve layout h name head) ≡ b
            → MatchBool b (HasPolled layout h m reserved.polled reserved.trail_polled)
            ((reserved.polled ≡ h) × (reserved.trail_polled ≡ m))
            → IsRightMovingIn layout w (call.Reserve name head) m.moves trail_after.moves (answer_to says_ok result) after
            × KeepsRoom m trail_after
        of_polling true is polled = (
          after_the_poll is reserved.polled reserved.trail_polled polled result after trail_after reserved.comes,
          keeps_room reserved.trail_polled reserved.polled (after_reserve layout reserved.polled reserved.trail_polled name head) result
              after trail_after reserved.comes
              (reserve_keeps_room layout reserved.polled reserved.trail_polled name head (room_after_poll reserved.polled
              reserved.trail_polled polled)) ∙ poll_keeps_room reserved.polled reserved.trail_polled polled,
        )
        of_polling false is still =
            let comes =
            subst (λ u. ComesMoving h u (after_reserve layout h u name head) result after trail_after) still.1
            (subst (λ s. ComesMoving s reserved.trail_polled (after_reserve layout s reserved.trail_polled name head) result after
            trail_after) still.0 reserved.comes)
            in (
              unpolled_is_right (no_poll w name head
                  (sym (polls_alike layout st.past h w st.parts (known_now st) name head) ∙ is)) result after trail_after comes,
              keeps_room m h (after_reserve layout h m name head) result after trail_after comes
                  (reserve_keeps_room layout h m name head (omega (arith, room))),
            )

        -- so it is right, and the trail keeps its room
        pub a_reserve_is_right :
            IsRightMovingIn layout w (call.Reserve name head) m.moves trail_after.moves (answer_to says_ok result) after
            × KeepsRoom m trail_after
        a_reserve_is_right = of_polling (polls_for h (check_reserve layout h name head)) refl reserved.poll
