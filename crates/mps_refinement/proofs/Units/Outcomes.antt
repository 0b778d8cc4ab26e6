-- The outcomes of `step`, `park` and `collect` are right, whether a collection runs before them or not: units can be done, and what came
-- of them is a legal step.
use Rattle.std.proofs.Common.{◌≡◌, ◌≢◌, ◌∙◌, ℕ, ◌+◌, ◌*◌, ◌≤◌, Bool, true, false, refl, sym, ap, subst, List, [], ◌++◌, length, Option, Some, is_some, None, arith}
use Rattle.std.proofs.lemmas.Bool.{and_left}
use Rattle.std.proofs.lemmas.List.{append-nil, append_cancel_left}
use Rattle.std.specs.Prelude.{MatchBool, ◌&&◌, if◌then◌else◌}
use Rattle.mps_base.specs.Trail.{Moves}
use Rattle.mps_base.specs.declared.moves.Move.{Move}
use Rattle.mps_buffer.specs.Points.{PointsState, WereMadeBefore}
use Rattle.mps_format.specs.Layout.{Layout}
use Rattle.mps_model.specs.declared.call.Call.{Call}
use Rattle.mps_model.specs.declared.call.Call.TheVariants as call
use Rattle.mps_model.specs.declared.reply.Reply.TheVariants as reply
use Rattle.mps_model.specs.Answer.{Answer, Replied}
use Rattle.mps_model.specs.Collection.{Collection}
use Rattle.mps_laws.proofs.SameArena.{moved_alone}
use Rattle.mps_model.specs.Collecting.{with_state}
use Rattle.mps_model.specs.Units.{AreUnitsToEnd}
use Rattle.mps_model.specs.World.{World, is_parked, is_running, is_unclamped, pairs_in}
use Rattle.mps_model.proofs.AtRest.{is_running-none}
use Rattle.mps_refinement.specs.MovesNeeded.{moves_needed}
use Rattle.mps_refinement.proofs.Collect.LiveIsFew.{most_now, needed_is_enough}
use Rattle.mps_pools.specs.Pools.{trace_of}
use Rattle.mps_trace.specs.State.{FinalsState}
use Rattle.mps_trace.specs.Trace.{TraceState, Traced}
use Rattle.mps_trace.specs.Unit.{AreUnitsReady, EndsWithin, UnitsTo}
use Rattle.mps_trace.specs.declared.running.Running.{Running as RunningState}
use Rattle.mps_abstract.proofs.Rows.{still_runs}
use Rattle.mps_heap_spec.specs.Arena.{with_arena}
use Rattle.mps_heap_spec.specs.Collecting.{CanCollectAll, IsCollected}
use Rattle.mps_heap_spec.specs.Following.{Follows, made_since, moves_followed}
use Rattle.mps_heap_spec.specs.State.{HeapState}
use Rattle.mps_heap_spec.specs.Units.{CanDoUnits, HasDoneUnits, HasStepped, IsWhole, ends, goes_on, none_runs, progress_of, traced_in, units_to_end}
use Rattle.mps_heap_spec.specs.declared.arena.ArenaState.{ArenaState}
use Rattle.mps_heap_spec.specs.declared.arena.ArenaState.TheVariants as arena
use Rattle.mps_heap_spec.specs.declared.arena.Progress.{Progress}
use Rattle.mps_heap_spec.specs.declared.arena.Progress.TheVariants.{Idle, More}
use Rattle.mps_refinement.specs.Answering.{says_progress}
use Rattle.mps_refinement.specs.Collect.Collecting.{ACollectIsRight}
use Rattle.mps_refinement.specs.RightMoving.{IsRightMoving, IsRightMovingIn, KeepsRoom}
use Rattle.mps_refinement.specs.RightStep.{IsRightIn, is_of_client, step_of}
use Rattle.mps_refinement.specs.StandsFor.{CollectorState, IsInTime, StandsFor, Time, rests, runs, state_of, time_at_rest}
use Rattle.mps_refinement.proofs.Calls.ArenaCalls.{resting_park_is_right}
use Rattle.mps_refinement.proofs.Following.Made.{following_leaves}
use Rattle.mps_refinement.proofs.Units.Collects as collects
use Rattle.mps_refinement.proofs.Units.Collects.{HasEnded}
use Rattle.mps_refinement.proofs.Units.Ended as ended
use Rattle.mps_refinement.proofs.Following.WithoutPairs.{alone}
use Rattle.mps_refinement.proofs.Units.Parks.{parking_is_right}
use Rattle.mps_refinement.proofs.Units.Ready as ready
use Rattle.mps_refinement.proofs.Units.Steps.{idle_step_is_right, step_is_right}
use Rattle.mps_refinement.proofs.Units.UnitsMade.{AreLastMade, last_are_made, since_are, units_are_made}
use Rattle.mps_refinement.proofs.Units.Followed.{units_leave}
use Rattle.mps_refinement.proofs.Units.RoomLeft.{room_then}
use Rattle.mps_refinement.proofs.Units.UnitsDone as going
use Rattle.mps_refinement.proofs.Worlds.InSteps.{like_by_moves, running_unparked}
use Rattle.mps_refinement.proofs.Worlds.LikeReached.{like_reached}
use Rattle.mps_refinement.proofs.Worlds.Known.{known_now}
use Rattle.mps_refinement.proofs.Worlds.RunningNow.{resting_now, running_now}
use Rattle.mps_refinement.proofs.Worlds.Steps.{of_collector}

-- ---- in each world

-- what a call in which a collector works does is right if it is right in each world, by the moves that a trail got
pub right_in_each : {F : Type 0} (layout : F → Layout) (h : HeapState F) (c : Call) → is_of_client c ≡ false
    → (trail trail_after : List Move) (answer : Answer) (after : HeapState F) → (w : World) × StandsFor layout h w
    → ((w : World) → StandsFor layout h w → IsRightMovingIn layout w c trail trail_after answer after)
    → IsRightMoving layout h c trail trail_after answer after
right_in_each layout h c not trail trail_after answer after one each =
    let here = each one.0 one.1 in
    record {
      moves = here.moves;
      appended = here.appended;
      right = λ w line stands.
          let there = each w stands in
          of_collector layout h not (subst (λ ms. IsRightIn layout w (step_of line c ms answer) after)
          (append_cancel_left trail there.moves here.moves (sym there.appended ∙ here.appended)) (there.right line));
    }

-- whether a collection is in progress, as it is said
said : (b : Bool) → says_progress (if b then More else Idle) ≡ Replied (if b then reply.More else reply.Idle)
said true = refl
said false = refl

abbrev no_moves : List Move
no_moves = []

-- a trail that got nothing
none_appended : (m m' : Moves) → m' ≡ m → m'.moves ≡ m.moves ++ []
none_appended m m' trail = ap (λ (u : Moves). u.moves) trail ∙ sym (append-nil m.moves)

-- a collection runs in a world exactly if the collector has one
pub running_alike : {t : Time} {s : CollectorState} {w : World} → IsInTime t s w → is_running w ≡ is_some s.running
running_alike (rests rest) =
    ap (λ (o : Option Collection). is_some o) rest.none ∙ sym (ap (λ (o : Option RunningState). is_some o) rest.not_running)
running_alike (runs x r) =
    subst (λ v. is_running v ≡ true) r.world (still_runs x.world x.running r.invariant.runs)
    ∙ sym (ap (λ (o : Option RunningState). is_some o) r.running)

-- ---- units

module _ {F : Type 0} (layout : F → Layout) (h : HeapState F) (whole : IsWhole h) (m : Moves)
    (room : most_now h.segs ≤ m.spare) (w : World) (st : StandsFor layout h w) where
  abbrev t : TraceState F
  t = trace_of h.pools h.chains h.tails

  abbrev ok : Answer
  ok = Replied reply.Ok

  -- any number of units can be done
  pub can_do_units : (n : ℕ) → CanDoUnits layout h m n
  can_do_units n run is =
      let g = running_now layout h w st run is in
      subst (λ q. AreUnitsReady layout t h.segs m h.finals q n) g.same
      (ready.units_can_be_done layout g.past (alone h) g.collecting g.parts g.bare g.runs
      whole.tails whole.marked m room n)

  -- and a collection doesn't go on after as many as it has at most
  ends_in_time : (run next : RunningState) (z : Traced) (f : FinalsState) → h.running ≡ Some run
      → UnitsTo layout t.formats t.chains (traced_in h m) h.finals run (units_to_end h) z f next → ⊥
  ends_in_time run next z f is units =
      let g = running_now layout h w st run is in
      ready.ends_in_time layout g.past (alone h) g.collecting g.parts g.bare g.runs
      whole.tails whole.marked m room z f next
      (subst (λ q. UnitsTo layout t.formats t.chains (traced_in h m) h.finals q (units_to_end h) z f next) (sym g.same) units)

  -- the trail keeps its room
  pub units_keep_room : (n : ℕ) (h' : HeapState F) (m' : Moves) → HasDoneUnits layout h m n h' m' → KeepsRoom m m'
  units_keep_room n h' m' (none_runs none is trail) = ap (λ (u : Moves). u.spare + length u.moves) trail
  units_keep_room n h' m' (goes_on run next is units state) =
      let g = running_now layout h w st run is in
      going.keeps_room layout g.past (alone h) g.collecting g.parts g.bare g.runs
      whole.tails whole.marked m room n (traced_in h' m') h'.finals
      next
      (subst (λ q. UnitsTo layout t.formats t.chains (traced_in h m) h.finals q n (traced_in h' m') h'.finals next) (sym g.same) units)
  units_keep_room n h' m' (ends run is over state) =
      let g = running_now layout h w st run is in
      ended.keeps_room layout g.past (alone h) g.collecting g.parts g.bare g.runs
      whole.tails whole.marked m room n (traced_in h' m') h'.finals
      (subst (λ q. EndsWithin layout t.formats t.chains (traced_in h m) h.finals q n (traced_in h' m') h'.finals) (sym g.same) over)

  -- ---- `park`

  pub park_is_right : (between : HeapState F) (m' : Moves) → Follows layout m (HasDoneUnits layout h m (units_to_end h)) between m'
      → IsRightMovingIn layout w call.Park m.moves m'.moves ok (with_arena between arena.Parked)
  park_is_right between m' follows =
      subst (λ g. IsRightMovingIn layout w call.Park m.moves m'.moves ok (with_arena g arena.Parked)) (sym follows.followed)
      (of_units follows.left)
    where
      of_units : HasDoneUnits layout h m (units_to_end h) follows.made m'
          → IsRightMovingIn layout w call.Park m.moves m'.moves ok
          (with_arena (moves_followed layout follows.made (made_since m m')) arena.Parked)
      of_units (none_runs none is trail) = record {
        moves = [];
        appended = none_appended m m' trail;
        right = λ line.
            subst (λ g. IsRightIn layout w (step_of line call.Park [] ok) (with_arena g arena.Parked))
            (sym is ∙ ap (moves_followed layout follows.made) (sym (since_are m m' [] (none_appended m m' trail))))
            (resting_park_is_right layout h w st (resting_now layout h w st none) line);
      }
      of_units (goes_on run next is units state) =
          absurd (ends_in_time run next (traced_in follows.made m') follows.made.finals is units)
      of_units (ends run is over state) =
          parking_is_right layout w st.reached m (moves_followed layout follows.made (made_since m m')) m'
          (last_are_made layout h whole m room w st (units_to_end h) follows.made m' run is over state)

  -- ---- `step`

  unclamped_alike : is_unclamped w ≡ is_unclamped (record w { state = state_of h.arena (pairs_in w.state) })
  unclamped_alike = ap (λ s. is_unclamped (record w { state = s })) st.parts.state

  -- a step that does nothing, if the arena isn't unclamped or no collection runs
  idle_step : (n : ℕ) (m' : Moves) → m' ≡ m → (is_unclamped w && is_running w) ≡ false
      → IsRightMovingIn layout w (call.Step n) m.moves m'.moves (says_progress (progress_of h)) h
  idle_step n m' trail idle = record {
    moves = [];
    appended = none_appended m m' trail;
    right = λ line.
        subst (λ a. IsRightIn layout w (step_of line (call.Step n) [] a) h)
        (ap (λ b. Replied (if b then reply.More else reply.Idle)) (running_alike st.time) ∙ sym (said (is_some h.running)))
        (idle_step_is_right layout st.past h w st.parts st.reached line n idle st.time);
  }

  -- units of an unclamped arena
  units_of_step : (n : ℕ) (h' : HeapState F) (m' : Moves) → is_unclamped w ≡ true → Follows layout m (HasDoneUnits layout h m n) h' m'
      → IsRightMovingIn layout w (call.Step n) m.moves m'.moves (says_progress (progress_of h')) h'
  units_of_step n h' m' unclamped follows =
      let is = units_are_made layout h whole m room w st n h' m' follows in
      subst (λ a. IsRightMovingIn layout w (call.Step n) m.moves m'.moves a h')
      (ap (λ b. Replied (if b then reply.More else reply.Idle)) (running_alike is.made.now) ∙ sym (said (is_some h'.running)))
      (step_is_right layout w st.reached n unclamped m h' m' is)

  pub stepped_is_right : (n : ℕ) (h' : HeapState F) (m' : Moves) (answer : Progress) → HasStepped layout h m n h' m' answer
      → IsRightMovingIn layout w (call.Step n) m.moves m'.moves (says_progress answer) h'
  stepped_is_right n h' m' answer stepped =
      subst (λ a. IsRightMovingIn layout w (call.Step n) m.moves m'.moves (says_progress a) h') (sym stepped.answered)
      (of_arena h.arena refl)
    where
      still : h.arena ≢ arena.Unclamped → is_unclamped w ≡ false
          → IsRightMovingIn layout w (call.Step n) m.moves m'.moves (says_progress (progress_of h')) h'
      still other clamped =
          let same = stepped.still other in
          subst (λ s. IsRightMovingIn layout w (call.Step n) m.moves m'.moves (says_progress (progress_of s)) s) (sym same.0)
          (idle_step n m' same.1 (and_left (is_unclamped w) (is_running w) clamped))

      unclamped_in : (a : ArenaState) → h.arena ≡ a
          → is_unclamped w ≡ is_unclamped (record w { state = state_of a (pairs_in w.state) })
      unclamped_in a is = unclamped_alike ∙ ap (λ b. is_unclamped (record w { state = state_of b (pairs_in w.state) })) is

      of_arena : (a : ArenaState) → h.arena ≡ a
          → IsRightMovingIn layout w (call.Step n) m.moves m'.moves (says_progress (progress_of h')) h'
      of_arena arena.Unclamped is =
          units_of_step n h' m' (unclamped_in arena.Unclamped is) (stepped.done is)
      of_arena arena.Clamped is =
          still (λ e. let apart : arena.Clamped ≡ arena.Unclamped = sym is ∙ e in absurd cc) (unclamped_in arena.Clamped is)
      of_arena arena.Parked is =
          still (λ e. let apart : arena.Parked ≡ arena.Unclamped = sym is ∙ e in absurd cc) (unclamped_in arena.Parked is)

  pub stepped_keeps_room : (n : ℕ) (h' : HeapState F) (m' : Moves) (answer : Progress) → HasStepped layout h m n h' m' answer
      → KeepsRoom m m'
  stepped_keeps_room n h' m' answer stepped = of_arena h.arena refl
    where
      kept : m' ≡ m → KeepsRoom m m'
      kept trail = ap (λ (u : Moves). u.spare + length u.moves) trail

      of_arena : (a : ArenaState) → h.arena ≡ a → KeepsRoom m m'
      of_arena arena.Unclamped is = units_keep_room n (stepped.done is).made m' (stepped.done is).left
      of_arena arena.Clamped is =
          kept (stepped.still (λ e. let apart : arena.Clamped ≡ arena.Unclamped = sym is ∙ e in absurd cc)).1
      of_arena arena.Parked is =
          kept (stepped.still (λ e. let apart : arena.Parked ≡ arena.Unclamped = sym is ∙ e in absurd cc)).1

  -- ---- `collect`

  -- units to the end, whose moves are followed
  abbrev EndsFirst : HeapState F → Moves → Type 0
  EndsFirst = Follows layout m (HasDoneUnits layout h m (units_to_end h))

  none_ends : (m' : Moves) → h.running ≡ None → m' ≡ m → HasEnded layout w m h m'
  none_ends m' none trail = record {
    moves = [];
    appended = none_appended m m' trail;
    legal = tt;
    finishes = subst (λ b. MatchBool b (AreUnitsToEnd w []) (no_moves ≡ []))
        (sym (is_running-none w (resting_now layout h w st none).none)) refl;
    time = st.past.time;
    has = record { past = st.past; timed = refl; parts = st.parts };
    now = st.time;
    ended = none;
    like = like_reached w st.reached;
  }

  last_ends : (run : RunningState) → h.running ≡ Some run → (g : HeapState F) (m' : Moves) → AreLastMade layout w m g m'
      → HasEnded layout w m g m'
  last_ends run is g m' last =
      let like = like_reached w st.reached in
      let running = running_alike st.time ∙ ap (λ (o : Option RunningState). is_some o) is in
      record {
        moves = last.moves;
        appended = last.appended;
        legal = last.made.legal;
        finishes = last.finishes;
        time = time_at_rest;
        has = last.made.has;
        now = last.made.now;
        ended = last.ended;
        like = like_by_moves w like last.moves last.made.legal
            (ap (λ s. is_parked (with_state w s)) (moved_alone w call.Park last.moves).state ∙ running_unparked w like.formed running)
            last.made.live;
      }

  -- what they leave, and that there is room for another collection
  ended_first : (between : HeapState F) (m' : Moves) → 2 * moves_needed h.segs ≤ m.spare → EndsFirst between m'
      → HasEnded layout w m between m' × (most_now between.segs ≤ m'.spare)
  ended_first between m' both_fit follows =
      subst (λ g. HasEnded layout w m g m' × (most_now g.segs ≤ m'.spare)) (sym follows.followed) (of_units follows.left)
    where
      after : HeapState F
      after = moves_followed layout follows.made (made_since m m')

      most_kept : most_now after.segs ≡ most_now follows.made.segs
      most_kept = ap (λ (g : HeapState F). most_now g.segs) (following_leaves layout follows.made (made_since m m'))

      of_units : HasDoneUnits layout h m (units_to_end h) follows.made m'
          → HasEnded layout w m after m' × (most_now after.segs ≤ m'.spare)
      of_units (none_runs none is trail) =
          let same = sym is ∙ ap (moves_followed layout follows.made) (sym (since_are m m' [] (none_appended m m' trail))) in (
            subst (λ g. HasEnded layout w m g m') same (none_ends m' none trail),
            subst (λ (g : HeapState F). most_now g.segs ≤ m'.spare) same
                (let spare = ap (λ (u : Moves). u.spare) trail in omega (arith, spare, room)),
          )
      of_units (goes_on run next is units state) =
          absurd (ends_in_time run next (traced_in follows.made m') follows.made.finals is units)
      of_units (ends run is over state) =
          let g = running_now layout h w st run is in (
            last_ends run is after m' (last_are_made layout h whole m room w st (units_to_end h) follows.made m' run is over state),
            subst (λ (n : ℕ). n ≤ m'.spare) (sym most_kept)
                (room_then layout g.past (alone h) g.collecting g.parts g.bare g.runs whole.tails whole.marked m room (units_to_end h)
                (traced_in follows.made m') follows.made.finals
                (subst (λ q. EndsWithin layout t.formats t.chains (traced_in h m) h.finals q (units_to_end h)
                (traced_in follows.made m') follows.made.finals) (sym g.same) over) both_fit),
          )

  points_kept : {between : HeapState F} {m' : Moves} → EndsFirst between m' → between.points ≡ h.points
  points_kept {m' = m'} follows =
      ap (λ (g : HeapState F). g.points) (follows.followed ∙ following_leaves layout follows.made (made_since m m'))
      ∙ ap (λ (g : HeapState F). g.points) (units_leave follows.left)

  module _ (both_fit : 2 * moves_needed h.segs ≤ m.spare) (between : HeapState F) (m_between : Moves) (whole_then : IsWhole between)
      (first : EndsFirst between m_between) where
    pub can_collect_then : CanCollectAll layout between m_between
    can_collect_then =
        let is = ended_first between m_between both_fit first in
        collects.can_collect_then layout w m between m_between is.0 whole_then.marked is.1

    module _ (made : WereMadeBefore h.points.flips h.points) (h' : HeapState F) (m' : Moves)
        (collected : Follows layout m_between (IsCollected layout between m_between) h' m') where
      pub collect_is_right : IsRightMovingIn layout w call.Collect m.moves m'.moves ok h' × KeepsRoom m m'
      collect_is_right =
          let is = ended_first between m_between both_fit first in
          let made_then = subst (λ (ps : PointsState). WereMadeBefore ps.flips ps) (sym (points_kept first)) made in (
            collects.collecting_is_right layout w m between m_between is.0 whole_then.marked is.1 st.reached made_then h' m' collected,
            collects.full_keeps_room layout w m between m_between is.0 whole_then.marked is.1 st.reached made_then h' m' collected
                ∙ units_keep_room (units_to_end h) first.made m_between first.left,
          )

-- what a heap says that it needs is enough
pub needed_now : {F : Type 0} (layout : F → Layout) (h : HeapState F) (w : World) → StandsFor layout h w
    → most_now h.segs ≤ moves_needed h.segs
needed_now layout h w st = needed_is_enough layout st.past h w st.parts (known_now st).laid

pub a_collect_is_right : {F : Type 0} → ACollectIsRight F
a_collect_is_right layout h m between m_between h' m' may made first whole_then collected =
    let both_fit = may.room in
    let needed = needed_now layout h may.world may.stands in
    let of_world = λ (w : World) (st : StandsFor layout h w).
    collect_is_right layout h may.whole m (omega (arith, both_fit, needed)) w st both_fit between m_between whole_then first made h' m'
    collected in
    record {
      right =
          right_in_each layout h call.Collect refl m.moves m'.moves (Replied reply.Ok) h' (may.world, may.stands)
          (λ w st. (of_world w st).0);
      room = (of_world may.world may.stands).1;
    }
