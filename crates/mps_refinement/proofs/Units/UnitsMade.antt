-- What units of a heap's collection make: first of the heap and the world without their pairs of dependents, by the abstract collector, and
-- then with them, once the heap has followed the moves.
use Rattle.std.proofs.Common.{◌≡◌, ◌∙◌, ℕ, suc, ◌+◌, ◌≤◌, true, false, refl, sym, ap, subst, List, [], ◌∷◌, ◌++◌, drop, length, Some, None, inl, inr, arith}
use Rattle.std.proofs.lemmas.Bool.{cases_Bool, false≢true}
use Rattle.std.proofs.lemmas.List.{append-nil}
use Rattle.mps_base.specs.Trail.{Moves}
use Rattle.mps_base.specs.declared.moves.Move.{Move}
use Rattle.mps_format.specs.Layout.{Layout}
use Rattle.mps_model.specs.Collection.{Collection}
use Rattle.mps_model.specs.Effect.{world_after_moves}
use Rattle.mps_model.specs.History.{FinishesCollection, HeldAreLive, asking, own_segment}
use Rattle.mps_model.specs.Units.{AreUnits}
use Rattle.mps_model.specs.World.{World, is_running}
use Rattle.mps_model.proofs.AtRest.{is_running-none, with_collection-none}
use Rattle.mps_seg.specs.Table.{IsMarked}
use Rattle.mps_refinement.proofs.Collect.LiveIsFew.{most_now}
use Rattle.mps_pools.specs.Pools.{trace_of}
use Rattle.mps_pools.specs.Collecting.{IsTraceOf}
use Rattle.mps_trace.specs.State.{FinalsState}
use Rattle.mps_trace.specs.Trace.{Traced, traced}
use Rattle.mps_trace.specs.Unit.{EndsWithin, UnitsTo}
use Rattle.mps_trace.specs.declared.running.Running.{Running as RunningState}
use Rattle.mps_abstract.specs.Collecting.{Collecting}
use Rattle.mps_abstract.specs.Laws.{AreLastUnitsDone, AreUnitsDone}
use Rattle.mps_abstract.proofs.Due.{work_is_due}
use Rattle.mps_abstract.proofs.Rows.{still_runs}
use Rattle.mps_trace_laws.specs.Units.Laws.{AreLastTracedUnitsDone, AreTracedUnitsDone}
use Rattle.mps_heap_spec.specs.Following.{Follows, made_since, moves_followed}
use Rattle.mps_heap_spec.specs.State.{HeapState}
use Rattle.mps_heap_spec.specs.Units.{HasDoneUnits, IsWhole, ends, goes_on, none_runs, traced_in}
use Rattle.mps_refinement.specs.Dependents.{AreDependents}
use Rattle.mps_refinement.specs.Following.{are_of_one, unpaired}
use Rattle.mps_refinement.specs.StandsFor.{AreParts, IsInTime, Past, Runs, StandsFor, Time, collector_of, rests, runs, time_at_rest}
use Rattle.mps_refinement.proofs.Following.Laws.{due_moves_follow, units_follow_so}
use Rattle.mps_refinement.proofs.Following.Made.{AreMade, asked_aside, following_leaves, paired_made, still_aside}
use Rattle.mps_refinement.proofs.Following.WithoutPairs.{alone}
use Rattle.mps_refinement.proofs.Units.Ended as ended
use Rattle.mps_refinement.proofs.Units.Followed.{pairs_of, units_leave}
use Rattle.mps_refinement.proofs.Units.UnitsDone as going
use Rattle.mps_refinement.proofs.Worlds.InSteps.{blocks_after_units, live_while_running}
use Rattle.mps_refinement.proofs.Worlds.LikeReached.{IsBare, IsLikeReached, like_reached}
use Rattle.mps_refinement.proofs.Worlds.RunningNow.{resting_now, running_now}

-- n units, or fewer if the collection ended in them, or none if none runs: the world after them, once the collection is asked for them
pub record AreUnitsMade {F : Type 0} (layout : F → Layout) (w : World) (m : Moves) (n : ℕ) (h : HeapState F) (m' : Moves) : Type 0 where
  pub moves : List Move
  pub appended : m'.moves ≡ m.moves ++ moves
  pub time : Time
  pub made : AreMade layout w moves (asking (Some n) (world_after_moves w moves)) time h
  pub units : is_running w ≡ true → AreUnits w n moves
  pub none : is_running w ≡ false → moves ≡ []
  pub taken_by_none : own_segment moves ≡ []

-- units after which the collection has ended
pub record AreLastMade {F : Type 0} (layout : F → Layout) (w : World) (m : Moves) (h : HeapState F) (m' : Moves) : Type 0 where
  pub moves : List Move
  pub appended : m'.moves ≡ m.moves ++ moves
  pub made : AreMade layout w moves (world_after_moves w moves) time_at_rest h
  pub finishes : FinishesCollection w moves
  pub ended : h.running ≡ None

-- ---- by the abstract collector

module _ {F : Type 0} (layout : F → Layout) (past : Past) (h : HeapState F) (x : Collecting) (parts : AreParts layout past h x.world)
    (bare : IsBare x.world) (r : Runs past.time (collector_of h) x.world x)
    (of : IsTraceOf h.pools h.chains (trace_of h.pools h.chains h.tails))
    (marked : IsMarked h.segs.grains h.segs.marks h.segs.condemned h.segs.summaries)
    (m : Moves) (room : most_now h.segs ≤ m.spare) (n : ℕ) where
  abbrev here : Traced
  here = traced (trace_of h.pools h.chains h.tails) h.segs m

  stops : is_running x.world ≡ false → ⊥
  stops isnt = false≢true (sym isnt ∙ still_runs x.world x.running r.invariant.runs)

  -- the collection goes on
  module _ (z : Traced) (f : FinalsState) (run : RunningState)
      (units : UnitsTo layout (trace_of h.pools h.chains h.tails).formats (trace_of h.pools h.chains h.tails).chains
      (traced (trace_of h.pools h.chains h.tails) h.segs m) h.finals r.run n z f run) where
    abbrev done : AreTracedUnitsDone layout (trace_of h.pools h.chains h.tails).formats (trace_of h.pools h.chains h.tails).chains
        past.time.at_flip here x n z f run
    done = going.done layout past h x parts bare r of marked m room n z f run units

    abbrev later : Collecting
    later = going.later layout past h x parts bare r of marked m room n z f run units

    shown : AreUnitsDone x n done.moves done.after
    shown = going.shown layout past h x parts bare r of marked m room n z f run units

    leads : asking (Some n) (world_after_moves x.world done.moves) ≡ later.world
    leads = ap (asking (Some n)) shown.leads

    abbrev then : Time
    then = going.time_after layout past h x parts bare r of marked m room n z f run units

    abbrev heap_then : HeapState F
    heap_then = going.heap_after layout past h x parts bare r of marked m room n z f run units

    pub units_made : AreUnitsMade layout x.world m n heap_then z.moves
    units_made = record {
      moves = done.moves;
      appended = done.trail;
      time = then;
      made = record {
        legal = shown.legal;
        has = record {
          past = record past { time = then };
          timed = refl;
          parts = subst (AreParts layout (record past { time = then }) heap_then) (sym leads)
              (going.parts_later layout past h x parts bare r of marked m room n z f run units);
        };
        now = subst (IsInTime then (collector_of heap_then)) (sym leads)
            (runs later (going.runs_later layout past h x parts bare r of marked m room n z f run units));
        live = subst HeldAreLive (sym leads)
            (live_while_running later shown.asked_running
            (blocks_after_units x done.after n done.moves bare.like r.invariant done.units));
      };
      units = λ running. shown.are_units;
      none = λ isnt. absurd (stops isnt);
      taken_by_none = (work_is_due x r.invariant).taken_by_none done.units;
    }

  -- it ends
  module _ (z : Traced) (f : FinalsState)
      (over : EndsWithin layout (trace_of h.pools h.chains h.tails).formats (trace_of h.pools h.chains h.tails).chains
      (traced (trace_of h.pools h.chains h.tails) h.segs m) h.finals r.run n z f) where
    abbrev last : AreLastTracedUnitsDone here x (suc over.count) z f
    last = ended.done layout past h x parts bare r of marked m room n z f over

    abbrev heap_at_rest : HeapState F
    heap_at_rest = ended.heap_after layout past h x parts bare r of marked m room n z f over

    shown_last : AreLastUnitsDone x (suc over.count) last.moves
    shown_last = ended.last layout past h x parts bare r of marked m room n z f over

    abbrev v : World
    v = world_after_moves x.world last.moves

    made_last : AreMade layout x.world last.moves v time_at_rest heap_at_rest
    made_last = record {
      legal = shown_last.legal;
      has = record {
        past = record past { time = time_at_rest };
        timed = refl;
        parts = ended.parts_after layout past h x parts bare r of marked m room n z f over;
      };
      now = rests (ended.rests_after layout past h x parts bare r of marked m room n z f over);
      live = ended.live layout past h x parts bare r of marked m room n z f over;
    }

    pub last_made : AreLastMade layout x.world m heap_at_rest z.moves
    last_made = record {
      moves = last.moves;
      appended = last.trail;
      made = made_last;
      finishes = (work_is_due x r.invariant).finish last.units;
      ended = refl;
    }

    pub last_units_made : AreUnitsMade layout x.world m n heap_at_rest z.moves
    last_units_made = record {
      moves = last.moves;
      appended = last.trail;
      time = time_at_rest;
      made = subst (λ u. AreMade layout x.world last.moves u time_at_rest heap_at_rest)
          (sym (with_collection-none v (λ (c : Collection). record c { spent = c.spent + n }) last.ended)) made_last;
      units = λ running. shown_last.are_units n (let within = over.within in omega (arith, within));
      none = λ isnt. absurd (stops isnt);
      taken_by_none = (work_is_due x r.invariant).taken_by_no_last last.units;
    }

-- ---- with pairs

front_dropped : (xs ys : List Move) → drop (length xs) (xs ++ ys) ≡ ys
front_dropped [] ys = refl
front_dropped (x ∷ xs) ys = front_dropped xs ys

-- the moves that were made since
pub since_are : (m m' : Moves) (ms : List Move) → m'.moves ≡ m.moves ++ ms → made_since m m' ≡ ms
since_are m m' ms appended = ap (drop (length m.moves)) appended ∙ front_dropped m.moves ms

module _ {F : Type 0} (layout : F → Layout) (w : World) (like : IsLikeReached w) (m m' : Moves) (made : HeapState F)
    (kept : AreDependents w.addresses made.beside.dependents w.graph.dependents) where
  abbrev then_followed : HeapState F
  then_followed = moves_followed layout made (made_since m m')

  pub units_paired : (n : ℕ) → AreUnitsMade layout (unpaired w) m n (alone made) m' → AreUnitsMade layout w m n then_followed m'
  units_paired n is =
      let both : is_running w ≡ true → (are_of_one is.moves ≡ true) × AreUnits w n is.moves =
      λ running. units_follow_so w None n is.moves like.kept.paired is.made.legal (is.units running) in
      let one : are_of_one is.moves ≡ true = elim (cases_Bool (is_running w)) [
        | inl running ↦ (both running).0
        | inr isnt ↦ ap are_of_one (is.none isnt)
      ] in
      record {
        moves = is.moves;
        appended = is.appended;
        time = is.time;
        made = subst (AreMade layout w is.moves (asking (Some n) (world_after_moves w is.moves)) is.time)
            (ap (moves_followed layout made) (sym (since_are m m' is.moves is.appended)))
            (paired_made layout (asking (Some n)) (asked_aside n) w like is.moves is.time made kept one is.made);
        units = λ running. (both running).1;
        none = is.none;
        taken_by_none = is.taken_by_none;
      }

  pub last_paired : AreLastMade layout (unpaired w) m (alone made) m' → AreLastMade layout w m then_followed m'
  last_paired is =
      let both = (due_moves_follow w None is.moves like.kept.paired is.made.legal).finish is.finishes in
      record {
        moves = is.moves;
        appended = is.appended;
        made = subst (AreMade layout w is.moves (world_after_moves w is.moves) time_at_rest)
            (ap (moves_followed layout made) (sym (since_are m m' is.moves is.appended)))
            (paired_made layout (λ v. v) still_aside w like is.moves time_at_rest made kept both.0 is.made);
        finishes = both.1;
        ended = ap (λ (g : HeapState F). g.running) (following_leaves layout made (made_since m m')) ∙ is.ended;
      }

-- ---- of a heap

module _ {F : Type 0} (layout : F → Layout) (h : HeapState F) (whole : IsWhole h) (m : Moves)
    (room : most_now h.segs ≤ m.spare) (w : World) (st : StandsFor layout h w) where
  abbrev like : IsLikeReached w
  like = like_reached w st.reached

  -- units keep the pairs
  pub pairs_kept : {n : ℕ} {made : HeapState F} {m' : Moves} → HasDoneUnits layout h m n made m'
      → AreDependents w.addresses made.beside.dependents w.graph.dependents
  pairs_kept units = ap pairs_of (units_leave units) ∙ st.parts.beside.dependents

  none_made : (n : ℕ) (m' : Moves) → h.running ≡ None → m' ≡ m → AreUnitsMade layout w m n h m'
  none_made n m' none trail =
      let rest = resting_now layout h w st none in
      let still : asking (Some n) w ≡ w = with_collection-none w (λ (c : Collection). record c { spent = c.spent + n }) rest.none in
      record {
        moves = [];
        appended = ap (λ (u : Moves). u.moves) trail ∙ sym (append-nil m.moves);
        time = st.past.time;
        made = subst (λ u. AreMade layout w [] u st.past.time h) (sym still) (record {
          legal = tt;
          has = record { past = st.past; timed = refl; parts = st.parts };
          now = st.time;
          live = like.kept.held;
        });
        units = λ running. absurd (false≢true (sym (is_running-none w rest.none) ∙ running));
        none = λ isnt. refl;
        taken_by_none = refl;
      }

  pub units_are_made : (n : ℕ) (h' : HeapState F) (m' : Moves) → Follows layout m (HasDoneUnits layout h m n) h' m'
      → AreUnitsMade layout w m n h' m'
  units_are_made n h' m' follows =
      subst (λ g. AreUnitsMade layout w m n g m') (sym follows.followed) (of_units follows.left)
    where
      of_units : HasDoneUnits layout h m n follows.made m'
          → AreUnitsMade layout w m n (moves_followed layout follows.made (made_since m m')) m'
      of_units (none_runs none is trail) =
          let nothing : made_since m m' ≡ [] =
          since_are m m' [] (ap (λ (u : Moves). u.moves) trail ∙ sym (append-nil m.moves)) in
          subst (λ g. AreUnitsMade layout w m n g m')
          (sym is ∙ ap (moves_followed layout follows.made) (sym nothing)) (none_made n m' none trail)
      of_units (goes_on run next is units state) =
          let g = running_now layout h w st run is in
          units_paired layout w like m m' follows.made (pairs_kept (goes_on run next is units state)) n
          (subst (λ v. AreUnitsMade layout v m n (alone follows.made) m') g.world
          (subst (λ s. AreUnitsMade layout g.collecting.world m n s m') (ap alone (sym state))
          (units_made layout g.past (alone h) g.collecting g.parts g.bare g.runs whole.tails whole.marked m room n
          (traced_in follows.made m') follows.made.finals next
          (subst (λ q. UnitsTo layout (trace_of h.pools h.chains h.tails).formats (trace_of h.pools h.chains h.tails).chains
          (traced_in h m) h.finals q n (traced_in follows.made m') follows.made.finals next) (sym g.same) units))))
      of_units (ends run is over state) =
          let g = running_now layout h w st run is in
          units_paired layout w like m m' follows.made (pairs_kept (ends run is over state)) n
          (subst (λ v. AreUnitsMade layout v m n (alone follows.made) m') g.world
          (subst (λ s. AreUnitsMade layout g.collecting.world m n s m') (ap alone (sym state))
          (last_units_made layout g.past (alone h) g.collecting g.parts g.bare g.runs whole.tails whole.marked m room n
          (traced_in follows.made m') follows.made.finals
          (subst (λ q. EndsWithin layout (trace_of h.pools h.chains h.tails).formats (trace_of h.pools h.chains h.tails).chains
          (traced_in h m) h.finals q n (traced_in follows.made m') follows.made.finals) (sym g.same) over))))

  -- units to the end
  pub last_are_made : (n : ℕ) (made : HeapState F) (m' : Moves) (run : RunningState) (is : h.running ≡ Some run)
      → EndsWithin layout (trace_of h.pools h.chains h.tails).formats (trace_of h.pools h.chains h.tails).chains (traced_in h m) h.finals
      run n (traced_in made m') made.finals
      → made ≡ Rattle.mps_heap_spec.specs.Units.after_units h made None
      → AreLastMade layout w m (moves_followed layout made (made_since m m')) m'
  last_are_made n made m' run is over state =
      let g = running_now layout h w st run is in
      last_paired layout w like m m' made (pairs_kept (ends run is over state))
      (subst (λ v. AreLastMade layout v m (alone made) m') g.world
      (subst (λ s. AreLastMade layout g.collecting.world m s m') (ap alone (sym state))
      (last_made layout g.past (alone h) g.collecting g.parts g.bare g.runs whole.tails whole.marked m room n
      (traced_in made m') made.finals
      (subst (λ q. EndsWithin layout (trace_of h.pools h.chains h.tails).formats (trace_of h.pools h.chains h.tails).chains
      (traced_in h m) h.finals q n (traced_in made m') made.finals) (sym g.same) over))))
