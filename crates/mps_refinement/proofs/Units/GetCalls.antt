-- The call `get` at any time: the barrier that it needs can be done, the call is right, and its trail keeps its room.
use Rattle.std.proofs.Common.{◌≡◌, ◌∙◌, ℕ, ◌<◌, ◌≤◌, refl, sym, ap, subst, List, [], ◌++◌, Option, Some, None, Contains, arith}
use Rattle.std.proofs.lemmas.List.{append-nil, append_cancel_left}
use Rattle.std.proofs.lemmas.Option.{same_Some}
use Rattle.mps_base.specs.Segment.{Segment}
use Rattle.mps_base.specs.Trail.{Moves}
use Rattle.mps_base.specs.declared.moves.Move.{Move}
use Rattle.mps_base.specs.declared.names.Slot.{Slot}
use Rattle.mps_amc.proofs.Found.{over_is_there}
use Rattle.mps_format.specs.Layout.{Layout}
use Rattle.mps_trace.specs.Access.{CanAccess, too_many_scans}
use Rattle.mps_refinement.proofs.Collect.LiveIsFew.{most_now}
use Rattle.mps_trace.specs.Trace.{Traced}
use Rattle.mps_trace.specs.declared.running.Running.{Running as RunningState}
use Rattle.mps_abstract.specs.Collecting.{Collecting, units_left}
use Rattle.mps_model.specs.declared.call.Call.{Call}
use Rattle.mps_model.specs.declared.call.Call.TheVariants as call
use Rattle.mps_model.specs.Checked.{Checked}
use Rattle.mps_model.specs.World.{World}
use Rattle.mps_heap_spec.specs.Coming.{Comes, answered, state_from}
use Rattle.mps_heap_spec.specs.Getting.{CanGet, IsGot, is_refused, reads, with_traced, after_access}
use Rattle.mps_heap_spec.specs.Objects.{reference_got}
use Rattle.mps_heap_spec.specs.State.{HeapState}
use Rattle.mps_heap_spec.specs.Units.{IsWhole, trace_in, traced_in}
use Rattle.mps_refinement.specs.Answering.{answer_to, says_ok}
use Rattle.mps_refinement.specs.RightMoving.{IsRightMoving, KeepsRoom}
use Rattle.mps_refinement.specs.RightStep.{IsRightIn, step_of}
use Rattle.mps_refinement.specs.StandsFor.{AreParts, Past, Rests, Runs, StandsFor, collector_of}
use Rattle.mps_refinement.specs.StandsForSome.{StandsForSome}
use Rattle.mps_refinement.proofs.Calls.Gets.{resting_get_is_right}
use Rattle.mps_refinement.proofs.Units.Accesses.{IsAccessed, access_can_be_done, access_is_done}
use Rattle.mps_refinement.proofs.Units.Gets.{get_is_right, its_segment, refused_get_is_right}
use Rattle.mps_refinement.proofs.Units.Ready.{units_are_few}
use Rattle.mps_refinement.proofs.Worlds.Known.{known_now}
use Rattle.mps_refinement.proofs.Worlds.Staying.{one_world}
use Rattle.mps_refinement.proofs.Worlds.LikeReached.{IsBare}
use Rattle.mps_refinement.proofs.Units.UnitsMade.{since_are}
use Rattle.mps_refinement.proofs.Following.WithoutPairs.{alone}
use Rattle.mps_refinement.proofs.Worlds.RunningNow.{resting_now, running_now}
use Rattle.mps_refinement.proofs.Worlds.Steps.{of_collector}
use Rattle.mps_heap_spec.specs.Following.{moves_followed}

module _ {F : Type 0} (layout : F → Layout) (h : HeapState F) (m : Moves) (room : most_now h.segs ≤ m.spare) where
  -- ---- the barrier

  module _ (whole : IsWhole h) (past : Past) (x : Collecting) (parts : AreParts layout past (alone h) x.world) (bare : IsBare x.world)
      (r : Runs past.time (collector_of h) x.world x) where
    few : units_left x < too_many_scans
    few =
        let below = units_are_few layout past (alone h) x parts bare r in
        let grains = parts.arena.at_most in
        let registered = whole.few in
        omega (arith, below, grains, registered)

    can_access : (run : RunningState) → h.running ≡ Some run → (t : Segment) → Contains h.segs.segments t
        → CanAccess layout run.band (trace_in h) h.segs m t
    can_access run running t held =
        subst (λ (o : RunningState). CanAccess layout o.band (trace_in h) h.segs m t) (same_Some r.run run (sym r.running ∙ running))
        (access_can_be_done layout past (alone h) x parts bare r whole.tails whole.marked m room t held few)

  pub can_get : (w : World) → StandsFor layout h w → (target source : Slot) (k : ℕ) → CanGet layout h m target source k
  can_get w st target source k whole object found run running t over =
      let g = running_now layout h w st run running in
      can_access whole g.past g.collecting g.parts g.bare g.runs run running t (over_is_there h.segs.segments object.at t over)

  -- ---- what it does

  module _ (target source : Slot) (k : ℕ) (result : Checked (Unit {0})) (after : HeapState F) (m' : Moves)
      (got : IsGot layout h m target source k result after m') where
    abbrev c : Call
    c = call.Get target source k

    -- in a world: its moves, by which the step is legal
    record IsGotIn (w : World) : Type 0 where
      moves : List Move
      appended : m'.moves ≡ m.moves ++ moves
      kept : KeepsRoom m m'
      right : (line : ℕ) → IsRightIn layout w (step_of line c moves (answer_to says_ok result)) after

    -- a trail that is as it was
    none_appended : m' ≡ m → m'.moves ≡ m.moves ++ []
    none_appended same = ap (λ (n : Moves). n.moves) same ∙ sym (append-nil m.moves)

    kept_as : m' ≡ m → KeepsRoom m m'
    kept_as same = subst (KeepsRoom m) (sym same) refl

    -- what is read after a barrier that made these moves
    comes_after : (x : Traced) (ms : List Move) → x.moves.moves ≡ m.moves ++ ms
        → Comes (after_access layout h m x) (reference_got layout (after_access layout h m x) target source k) result after
        → let g : HeapState F = moves_followed layout (with_traced h x) ms in Comes g (reference_got layout g target source k) result after
    comes_after x ms made comes =
        subst (λ (ns : List Move). let g : HeapState F = moves_followed layout (with_traced h x) ns in
        Comes g (reference_got layout g target source k) result after) (since_are m x.moves ms made) comes

    -- ---- at rest

    read_alone : h.running ≡ None → IsGot layout h m target source k result after m'
        → Comes h (reference_got layout h target source k) result after × (m' ≡ m)
    read_alone none (is_refused why e answer state trail) =
        (record { answer = answer ∙ sym (ap answered e); state = state ∙ sym (ap (state_from h) e) }, trail)
    read_alone none (reads x is comes trail) =
        let same : x ≡ traced_in h m = is.accessed.rests none in (
          subst (λ (z : Traced). Comes (with_traced h z) (reference_got layout (with_traced h z) target source k) result after) same
              (comes_after x [] (ap (λ (z : Traced). z.moves.moves) same ∙ sym (append-nil m.moves)) comes),
          trail ∙ ap (λ (z : Traced). z.moves) same,
        )

    resting : (w : World) (st : StandsFor layout h w) → Rests st.past.time (collector_of h) w → IsGotIn w
    resting w st rest =
        let plain = read_alone rest.not_running got in
        record {
          moves = [];
          appended = none_appended plain.1;
          kept = kept_as plain.1;
          right = λ line. resting_get_is_right layout h target source k result after w line st rest plain.0;
        }

    -- ---- while a collection runs

    running_so : (w : World) (st : StandsFor layout h w) (run : RunningState) → h.running ≡ Some run
        → IsGot layout h m target source k result after m' → IsGotIn w
    running_so w st run is_on (is_refused why e answer state trail) = record {
      moves = [];
      appended = none_appended trail;
      kept = kept_as trail;
      right = λ line.
          subst (λ s. IsRightIn layout w (step_of line c [] (answer_to says_ok result)) s) (sym state)
          (subst (λ a. IsRightIn layout w (step_of line c [] (answer_to says_ok a)) h) (sym answer)
          (refused_get_is_right layout st.past h w st.parts (known_now st) st.reached line target source k st.time why e));
    }
    running_so w st run is_on (reads z accessed comes trail) =
        let g = running_now layout h w st run is_on in
        let whole = accessed.accessed.whole g.runs.run g.runs.running in
        let b = accessed.object in
        let over = its_segment layout st.past h w st.parts (known_now st) st.reached 0 target source k b accessed.found in
        let is : IsAccessed layout g.past (alone h) g.collecting g.runs m over.0 z =
        access_is_done layout g.past (alone h) g.collecting g.parts g.bare g.runs whole.tails whole.marked m room over.0
        (over_is_there h.segs.segments b.at over.0 over.1) z (accessed.accessed.runs g.runs.run g.runs.running over.0 over.1) in
        record {
          moves = is.moves;
          appended = ap (λ (n : Moves). n.moves) trail ∙ is.trail;
          kept = subst (KeepsRoom m) (sym trail) is.room;
          right = λ line.
              get_is_right layout g.past h w g.parts_paired g.known_paired st.reached line target source k g.collecting g.world g.bare
              g.runs m
              accessed.outcome accessed.accepted b accessed.found over.0 over.1 z is result after
              (comes_after z is.moves is.trail comes);
        }

    -- ---- at any time

    got_in : (w : World) → StandsFor layout h w → IsGotIn w
    got_in w st = of_running h.running refl
      where
        of_running : (o : Option RunningState) → h.running ≡ o → IsGotIn w
        of_running None none = resting w st (resting_now layout h w st none)
        of_running (Some run) is_on = running_so w st run is_on got

    -- it makes the same moves, whatever the world is
    pub got_rightly : StandsForSome layout h
        → IsRightMoving layout h c m.moves m'.moves (answer_to says_ok result) after × KeepsRoom m m'
    got_rightly some =
        let one = one_world layout h some in
        let here = got_in one.0 one.1 in (
          record {
            moves = here.moves;
            appended = here.appended;
            right = λ v line stands.
                let there = got_in v stands in
                of_collector layout h refl (subst (λ ms. IsRightIn layout v (step_of line c ms (answer_to says_ok result)) after)
                (append_cancel_left m.moves there.moves here.moves (sym there.appended ∙ here.appended)) (there.right line));
          },
          here.kept,
        )
