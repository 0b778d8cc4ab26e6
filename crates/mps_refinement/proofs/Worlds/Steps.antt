-- Steps of a heap at any time: if a call's outcome and the model's act come to the same, the step is legal, and the heap represents
-- the world after it. One lemma for calls that never make moves, and one for those with moves of the client.
use Rattle.std.proofs.Common.{◌≡◌, ◌∙◌, ◌≤◌, ℕ, true, false, true≢false, refl, sym, ap, subst, List, [], None, Err, Contains, arith}
use Rattle.mps_base.specs.declared.moves.Move.{Move}
use Rattle.mps_format.specs.Layout.{Layout}
use Rattle.mps_model.specs.declared.call.Call.{Call}
use Rattle.mps_model.specs.Answer.{Answer, is_block, refused}
use Rattle.mps_model.specs.WellFormed.{IsWellFormed}
use Rattle.mps_model.specs.Step.{Step}
use Rattle.mps_model.specs.World.{World}
use Rattle.mps_model.specs.Checked.{Act, Checked}
use Rattle.mps_model.specs.Reply.{act, answer_from, world_from}
use Rattle.mps_model.specs.History.{IsLegalStep, moved_world, remembering, world_after, with_client_remembered}
use Rattle.mps_model.proofs.AtRest.{with_client_remembered-none}
use Rattle.mps_changes.specs.Change.{makes_arena}
use Rattle.mps_laws.proofs.Acts.{for_world, ForAct}
use Rattle.mps_laws.proofs.Same as same
use Rattle.mps_laws.proofs.Same.{Same, fits}
use Rattle.mps_laws.proofs.QuietSteps.{IsRight as IsRightStep, quiet_step, IsSound}
use Rattle.mps_heap_spec.specs.State.{HeapState}
use Rattle.mps_heap_spec.specs.Coming.{Outcome, Comes, answered, state_from}
pub use Rattle.mps_refinement.specs.Answering.{answer_to}
use Rattle.mps_refinement.specs.RightStep.{IsRight, IsRightFrom, IsRightIn, is_of_client, step_of}
use Rattle.mps_refinement.specs.StandsFor.{Rests, AreParts, IsReached, Past, StandsFor, AreOfFlip, CollectorState, IsInTime, Runs, Time, collector_of, rests, runs}
use Rattle.mps_refinement.proofs.Worlds.RestingActs.{LeavesSound, act_leaves_sound, may_move}
use Rattle.mps_refinement.proofs.Worlds.RestingSteps.{IsMoving, moving_step, quiet_at_rest}
use Rattle.mps_refinement.specs.UnitsLeft.{units_left}
use Rattle.mps_refinement.proofs.Left.Alike.{none_at_rest, units_in_state}
use Rattle.mps_refinement.proofs.Worlds.Reached.{reached_next, reached_sound, reached_well_formed}
use Rattle.mps_base.specs.Address.{grain_of}
use Rattle.mps_extents.specs.Table.{bit}
use Rattle.mps_base.specs.declared.refusal.Refusal.{Refusal}
use Rattle.mps_abstract.specs.Collecting.{Collecting, Running}
use Rattle.mps_abstract.specs.Collecting as abstract
use Rattle.mps_abstract.specs.ClientLaws.{IsMarkedKept, after_client, collection_without, next_without, position_taken}
use Rattle.mps_model.specs.Graph.{ids_of_client}
use Rattle.mps_model.specs.World as world
use Rattle.mps_model.specs.World.{empty_run, is_tail_of}
use Rattle.std.specs.List.{find}
use Rattle.std.specs.Option.{option_map_or}
use Rattle.mps_base.specs.declared.refusal.Refusal.TheVariants as refusal
use Rattle.mps_refinement.proofs.Worlds.CollectorKept.{IsRunKept, KeepsAll, KeepsCollector, all_kept, none_running, ranks_kept, rest_after, running_after, runs_after, time_after}
use Rattle.mps_refinement.proofs.Worlds.TimeKept.{KeepsTime, keeps_still, none_after, run_kept}
use Rattle.mps_laws.proofs.LeftByActs.{Leaves, act_leaves}
use Rattle.mps_refinement.proofs.Worlds.FlipKept.{flips_kept}
use Rattle.mps_refinement.proofs.Worlds.Known.{IsKnown, known, known_now}
use Rattle.mps_refinement.proofs.Parts.PartsByKind.{parts_of_kinds, arena_of, finals_of, image_of, points_of, pools_of, roots_of, states_of}
use Rattle.mps_refinement.proofs.Worlds.RunningSteps.{IsAnswered, IsOwnStep, own_step_runs_on, still_step_runs_on}
use Rattle.mps_refinement.proofs.Worlds.RunningActs.{act_segments, act_tails, is_plain, marks_do_not_matter, none_kept, quiet_calls_run_on, makes_no_arena, moves_not_at_rest, takes_none}
use Rattle.mps_refinement.specs.QuietCalls.{RunsOn, never_moves}

module _ {F : Type 0} (layout : F → Layout) where
  -- the parts of the state represent those of the world at this time, by some numbering
  pub record HasParts (t : Time) (h : HeapState F) (w : World) : Type 0 where
    pub past : Past
    pub timed : past.time ≡ t
    pub parts : AreParts layout past h w

  -- what is remembered of the client changes none of the parts
  parts_remembered : (past : Past) (h : HeapState F) (w : World) → AreParts layout past h w
      → AreParts layout past h (with_client_remembered w)
  parts_remembered past h w parts =
      parts_of_kinds (arena_of parts) (image_of parts) (roots_of parts) (points_of parts) (finals_of parts) parts.dependencies
      (pools_of parts) parts.names (states_of parts)

  -- a legal step after which the parts are right
  pub step_stands : (t : Time) (h : HeapState F) (w v : World) (line : ℕ) (c : Call) (ms : List Move) (answer : Answer) → IsReached w
      → IsLegalStep w (step_of line c ms answer) → world_after w (step_of line c ms answer) ≡ v → v.formats ≡ w.formats
      → makes_arena c ≡ false → HasParts t h v → IsInTime t (collector_of h) v → IsRightIn layout w (step_of line c ms answer) h
  step_stands t h w v line c ms answer reached legal after formats arena has now = record {
    legal = legal;
    formats = ap (λ (u : World). u.formats) after ∙ formats;
    stands = subst (StandsFor layout h) (sym after) (record {
      past = has.past;
      parts = has.parts;
      time = subst (λ (u : Time). IsInTime u (collector_of h) v) (sym has.timed) now;
      reached = subst IsReached after
          (reached_next w (step_of line c ms answer) reached legal (ap (λ (u : World). u.formats) after ∙ formats) arena);
    });
  }

  -- ---- what is left of a collection

  -- a step of a call in which a collector works
  pub of_collector : (before : HeapState F) {w : World} {s : Step} {after : HeapState F} → is_of_client s.call ≡ false
      → IsRightIn layout w s after → IsRightFrom layout before w s after
  of_collector before {s = s} not right = record {
    legal = right.legal;
    formats = right.formats;
    stands = right.stands;
    units = λ own. absurd (true≢false (sym own ∙ not));
  }

  -- a step after which no collection runs
  to_rest : (before : HeapState F) {w : World} {s : Step} {after : HeapState F} → after.running ≡ None → IsRightIn layout w s after
      → IsRightFrom layout before w s after
  to_rest before {after = after} none right = record {
    legal = right.legal;
    formats = right.formats;
    stands = right.stands;
    units = λ own. let left = none_at_rest after none in omega (arith, left);
  }

  -- a step after which a collection runs that is in a state with no more units left than the heap before it had
  step_runs : (t : Time) (h before : HeapState F) (w v : World) (line : ℕ) (c : Call) (ms : List Move) (answer : Answer) → IsReached w
      → IsLegalStep w (step_of line c ms answer) → world_after w (step_of line c ms answer) ≡ v → v.formats ≡ w.formats
      → makes_arena c ≡ false → HasParts t h v → (x : Collecting) → Runs t (collector_of h) v x
      → abstract.units_left x ≤ units_left before → IsRightFrom layout before w (step_of line c ms answer) h
  step_runs t h before w v line c ms answer reached legal after formats arena has x r fewer =
      let right = step_stands t h w v line c ms answer reached legal after formats arena has (runs x r) in
      let left =
      units_in_state layout has.past h v has.parts
      (subst IsWellFormed after (reached_well_formed (world_after w (step_of line c ms answer)) right.stands.reached)) x
      (subst (λ u. Runs u (collector_of h) v x) (sym has.timed) r)
      in
      record {
        legal = right.legal;
        formats = right.formats;
        stands = right.stands;
        units = λ own. omega (arith, left, fewer);
      }

  -- ---- calls that make no moves

  -- a call that makes no moves at rest
  pub resting_is_right : (w : World) (line : ℕ) (c : Call) (answer : Answer) → may_move c ≡ false → makes_arena c ≡ false
      → IsReached w → (taken : Checked ℕ) (t : Time) (s : CollectorState) (x : Checked Act)
      (after : HeapState F) → Rests t s w → KeepsCollector taken s (collector_of after) → act (is_block answer) w w c ≡ x
      → answer ≡ answer_from x
      → HasParts (time_after taken t) after (world_from w x) → IsRightIn layout w (step_of line c [] answer) after
  resting_is_right w line c answer quiet arena reached taken t s x after rest same comes answers has =
      let sound = reached_sound w reached rest.none in
      let left : LeavesSound w.formats (world_from w x) =
      subst (λ y. LeavesSound w.formats (world_from w y)) comes
      (for_world (LeavesSound w.formats) w (act (is_block answer) w w c)
      (act_leaves_sound w rest.none sound (is_block answer) c quiet)
      (record { sound = sound; formats_kept = refl }))
      in
      let step : IsRightStep w (step_of line c [] answer) _ =
      quiet_step w line c answer (quiet_at_rest w rest.none c answer quiet) x
      comes answers left.sound
      in
      let none = none_after c w x (subst (ForAct (Leaves c w)) comes (act_leaves (is_block answer) w w c)) rest.none in
      step_stands (time_after taken t) after w (world_from w x) line c [] answer reached step.legal
      (step.world ∙ with_client_remembered-none (world_from w x) none) left.formats_kept arena has
      (rests (record {
        none = none;
        time = ap (time_after taken) rest.time ∙ rest_after taken;
        not_running = same.4 ∙ ap (running_after taken) rest.not_running ∙ none_running taken;
        not_condemned = λ grain. ap (λ bits. bit bits grain) same.0 ∙ rest.not_condemned grain;
        not_kept = λ n. ap (λ m. bit m.kept n) same.1 ∙ rest.not_kept n;
      }))

  module _ (w : World) (line : ℕ) (c : Call) (answer : Answer) (still : never_moves c ≡ true) (h : HeapState F)
      (st : StandsFor layout h w) where
    abbrev t : Time
    t = st.past.time

    abbrev s : CollectorState
    s = collector_of h

    in_time : IsInTime t s w → IsKnown t w → (x : Checked Act) (after : HeapState F)
        → KeepsCollector (position_taken w c) s (collector_of after)
        → act (is_block answer) w w c ≡ x → answer ≡ answer_from x
        → ((y : Collecting) → y.world ≡ w → t.condemned ≡ y.running.condemned → t.colours ≡ y.colours → IsMarkedKept y c answer)
        → (world_from w x).formats ≡ w.formats → HasParts (time_after (position_taken w c) t) after (world_from w x)
        → IsRightFrom layout h w (step_of line c [] answer) after
    in_time (rests rest) of x after same comes answers kept formats has =
        to_rest h (same.4 ∙ ap (running_after (position_taken w c)) rest.not_running ∙ none_running (position_taken w c))
        (resting_is_right w line c answer (moves_not_at_rest c still) (makes_no_arena c still) st.reached (position_taken w c) t s x
        after rest same comes answers has)
    in_time (runs y r) known x after same comes answers kept formats has =
        let on = running_step y r.world r.invariant (kept y r.world r.condemned_ids r.colours) in
        let flips : AreOfFlip t.at_flip (world_from w x) =
        subst (λ r. AreOfFlip t.at_flip (world_from w r)) comes
        (for_world (AreOfFlip t.at_flip) w (act (is_block answer) w w c)
        (flips_kept (is_block answer) w w c t.at_flip known.formed.addresses r.flip) r.flip) in
        let left = units_in_state layout st.past h w st.parts known.formed y r in
        let fewer = on.2 in
        step_runs (time_after (position_taken w c) t) after h w (with_client_remembered (world_from w x)) line c [] answer st.reached on.0
        on.1.1 formats (makes_no_arena c still)
        (record { past = has.past; timed = has.timed; parts = parts_remembered has.past after (world_from w x) has.parts })
        (after_client y.world y (step_of line c [] answer))
        (subst (λ p. Runs (time_after p t) (collector_of after) (with_client_remembered (world_from w x))
        (after_client y.world y (step_of line c [] answer))) (ap (λ v. position_taken v c) r.world)
        (runs_after t s (collector_of after) w (with_client_remembered (world_from w x)) y r
        (ids_of_client (world_after y.world (step_of line c [] answer)).graph)
        (world_after y.world (step_of line c [] answer)) (ap (λ v. world_after v (step_of line c [] answer)) r.world ∙ on.1.1)
        (position_taken y.world c) on.1.0
        (record {
          running = same.4 ∙ ap (λ p. running_after p s.running) (sym (ap (λ v. position_taken v c) r.world));
          tails = same.3;
          world_tails = λ pool generation.
              ap (λ ts. option_map_or (λ (u : world.Tail). u.words) (find (is_tail_of pool generation) ts) empty_run) tails;
          ranked = λ ranked. ranks_kept s.segs after.segs same.1 same.2 ranked;
          condemned = λ is held there. ap (λ bits. bit bits (grain_of held.base)) same.0
              ∙ is held (subst (λ ss. Contains ss held) segments there);
          flip = record { made = flips.made; still = flips.still };
        })))
        (omega (arith, left, fewer))
      where
        segments : (world_from w x).segments ≡ w.segments
        segments =
            subst (λ r. (world_from w r).segments ≡ w.segments) comes (act_segments w c still (is_block answer))

        tails : (world_from w x).tails ≡ w.tails
        tails = subst (λ r. (world_from w r).tails ≡ w.tails) comes (act_tails w c still (is_block answer))

        step_at : (y : Collecting) → Running y → IsKnown t y.world → act (is_block answer) y.world y.world c ≡ x → IsMarkedKept y c answer
            → IsLegalStep y.world (step_of line c [] answer)
            × (Running (after_client y.world y (step_of line c [] answer))
            × (world_after y.world (step_of line c [] answer) ≡ with_client_remembered (world_from y.world x)))
            × (abstract.units_left (after_client y.world y (step_of line c [] answer)) ≤ abstract.units_left y)
        step_at y run of comes kept =
            let on = quiet_calls_run_on y line c answer run (record {
              never = still;
              well_formed = of.formed;
              blocks_live = of.live.blocks;
              answers = answers ∙ ap answer_from (sym comes);
              marked_kept = kept;
            }) in
            (on.legal, (on.running, on.world ∙ ap (λ r. with_client_remembered (world_from y.world r)) comes), on.no_more)

        running_step : (y : Collecting) → y.world ≡ w → Running y → IsMarkedKept y c answer
            → IsLegalStep w (step_of line c [] answer)
            × (Running (after_client y.world y (step_of line c [] answer))
            × (world_after w (step_of line c [] answer) ≡ with_client_remembered (world_from w x)))
            × (abstract.units_left (after_client y.world y (step_of line c [] answer)) ≤ abstract.units_left y)
        running_step y of run kept =
            subst (λ v. IsLegalStep v (step_of line c [] answer)
            × (Running (after_client y.world y (step_of line c [] answer))
            × (world_after v (step_of line c [] answer) ≡ with_client_remembered (world_from v x)))
            × (abstract.units_left (after_client y.world y (step_of line c [] answer)) ≤ abstract.units_left y)) of
            (step_at y run (subst (IsKnown t) (sym of) known) (subst (λ v. act (is_block answer) v v c ≡ x) (sym of) comes) kept)

    -- if the model's act comes to this, with this answer, and the state after the call represents the world after it, the step is right
    pub answered_is_right : (x : Checked Act) (after : HeapState F) → KeepsCollector (position_taken w c) s (collector_of after)
        → act (is_block answer) w w c ≡ x → answer ≡ answer_from x
        → ((y : Collecting) → y.world ≡ w → t.condemned ≡ y.running.condemned → t.colours ≡ y.colours → IsMarkedKept y c answer)
        → (world_from w x).formats ≡ w.formats → HasParts (time_after (position_taken w c) t) after (world_from w x)
        → IsRightFrom layout h w (step_of line c [] answer) after
    answered_is_right = in_time st.time (known_now st)

  -- an outcome and an act lead to the same: the act answers what the call says, and the state stands for the world
  pub record Leads {A : Type 0} (says : A → Answer) (h : HeapState F) (past : Past) (w : World) (o : Outcome F A) (a : Act) : Type 0 where
    pub answer : a.answer ≡ says o.answer
    pub keeps : KeepsAll (collector_of h) (collector_of o.state)
    pub formats : a.world.formats ≡ w.formats
    pub has : HasParts past.time o.state a.world

  -- a call that takes no registration away leaves the time
  none_taken : (w : World) (c : Call) → position_taken w c ≡ Err refusal.NotRegistered → (s s' : CollectorState) → KeepsAll s s'
      → KeepsCollector (position_taken w c) s s'
  none_taken w c none s s' all = subst (λ p. KeepsCollector p s s') (sym none) all

  untimed : (t : Time) (w : World) (c : Call) → position_taken w c ≡ Err refusal.NotRegistered → (h : HeapState F) (v : World)
      → HasParts t h v → HasParts (time_after (position_taken w c) t) h v
  untimed t w c none h v has = subst (λ p. HasParts (time_after p t) h v) (sym none) has

  -- a plain call, with what its act comes to
  pub plain_is_right : (w : World) (line : ℕ) (c : Call) (answer : Answer) (x : Checked Act) (h after : HeapState F)
      → never_moves c ≡ true → is_plain c ≡ true → (st : StandsFor layout h w)
      → KeepsAll (collector_of h) (collector_of after)
      → act false w w c ≡ x → answer ≡ answer_from x → (world_from w x).formats ≡ w.formats
      → HasParts st.past.time after (world_from w x) → IsRightFrom layout h w (step_of line c [] answer) after
  plain_is_right w line c answer x h after still plain st same comes answers formats has =
      answered_is_right w line c answer still h st x after
      (none_taken w c (takes_none w c plain) (collector_of h) (collector_of after) same)
      (marks_do_not_matter w (is_block answer) c plain still ∙ comes) answers
      (λ y of condemned colours. none_kept y c answer plain) formats
      (untimed st.past.time w c (takes_none w c plain) after (world_from w x) has)

  module _ {A : Type 0} (says : A → Answer) (h : HeapState F) (c : Call) where
    -- what a call that never moves must show in each world that the heap represents, at any time
    abbrev pub ComesToTheSame : Checked (Outcome F A) → Type 0
    ComesToTheSame outcome =
        (w : World) (past : Past) → AreParts layout past h w → IsKnown past.time w
        → Same (Leads says h past w) outcome (act false w w c)

    -- the state after it stands for the world after it
    pub record Left (past : Past) (w : World) (outcome : Checked (Outcome F A)) (x : Checked Act) : Type 0 where
      pub has : HasParts past.time (state_from h outcome) (world_from w x)
      pub keeps : KeepsAll (collector_of h) (collector_of (state_from h outcome))
      pub formats : (world_from w x).formats ≡ w.formats
      pub answer : answer_to says (answered outcome) ≡ answer_from x

    after_same : (past : Past) (w : World) (outcome : Checked (Outcome F A)) (x : Checked Act) → AreParts layout past h w
        → Same (Leads says h past w) outcome x → Left past w outcome x
    after_same past w outcome x parts (fits leads) =
        record { has = leads.has; keeps = leads.keeps; formats = leads.formats; answer = sym leads.answer }
    after_same past w outcome x parts same.refused =
        record { has = record { past = past; timed = refl; parts = parts }; keeps = all_kept h; formats = refl; answer = refl }

    pub quiet_is_right : never_moves c ≡ true → is_plain c ≡ true → (outcome : Checked (Outcome F A)) (result : Checked A)
        (after : HeapState F) → ComesToTheSame outcome
        → Comes h outcome result after → IsRight layout h c [] (answer_to says result) after
    quiet_is_right still plain outcome result after leads comes w line st =
        let x = act false w w c in
        let of = known_now st in
        let left = after_same st.past w outcome x st.parts (leads w st.past st.parts of) in
        answered_is_right w line c (answer_to says result) still h st x after
        (none_taken w c (takes_none w c plain) (collector_of h) (collector_of after)
        (subst (λ (s : HeapState F). KeepsAll (collector_of h) (collector_of s)) (sym comes.state) left.keeps))
        (marks_do_not_matter w (is_block (answer_to says result)) c plain still)
        (ap (answer_to says) comes.answer ∙ left.answer) (λ y of condemned colours. none_kept y c (answer_to says result) plain)
        left.formats
        (untimed st.past.time w c (takes_none w c plain) after (world_from w x)
        (subst (λ s. HasParts st.past.time s (world_from w x)) (sym comes.state) left.has))

    -- the same of a call whose act is asked with the mark of its answer
    pub marked_is_right : never_moves c ≡ true → ((w : World) → position_taken w c ≡ Err refusal.NotRegistered)
        → (outcome : Checked (Outcome F A)) (result : Checked A) (after : HeapState F)
        → ((w : World) (past : Past) → AreParts layout past h w → IsKnown past.time w
        → Same (Leads says h past w) outcome (act (is_block (answer_to says (answered outcome))) w w c)
        × ((y : Collecting) → y.world ≡ w → past.time.condemned ≡ y.running.condemned → past.time.colours ≡ y.colours
        → IsMarkedKept y c (answer_to says (answered outcome))))
        → Comes h outcome result after → IsRight layout h c [] (answer_to says result) after
    marked_is_right still none outcome result after leads comes w line st =
        let marked = is_block (answer_to says (answered outcome)) in
        let x = act marked w w c in
        let of = known_now st in
        let both = leads w st.past st.parts of in
        let left = after_same st.past w outcome x st.parts both.0 in
        let answers : answer_to says result ≡ answer_to says (answered outcome) = ap (answer_to says) comes.answer in
        answered_is_right w line c (answer_to says result) still h st x after
        (none_taken w c (none w) (collector_of h) (collector_of after)
        (subst (λ (s : HeapState F). KeepsAll (collector_of h) (collector_of s)) (sym comes.state) left.keeps))
        (ap (λ a. act (is_block a) w w c) answers)
        (answers ∙ left.answer)
        (λ y is condemned colours. subst (IsMarkedKept y c) (sym answers) (both.1 y is condemned colours)) left.formats
        (untimed st.past.time w c (none w) after (world_from w x)
        (subst (λ s. HasParts st.past.time s (world_from w x)) (sym comes.state) left.has))

    -- ---- calls that only answer

    -- the act says what the checks came to, and changes nothing
    pub record SaysOnly (w : World) (a : A) (b : Act) : Type 0 where
      pub answer : b.answer ≡ says a
      pub world : b.world ≡ w

    says_left : (past : Past) (w : World) (checked : Checked A) (x : Checked Act) → AreParts layout past h w
        → Same (SaysOnly w) checked x
        → HasParts past.time h (world_from w x) × ((world_from w x).formats ≡ w.formats) × (answer_to says checked ≡ answer_from x)
    says_left past w checked x parts (fits said) = (
      record { past = past; timed = refl; parts = subst (AreParts layout past h) (sym said.world) parts },
      ap (λ (v : World). v.formats) said.world,
      sym said.answer,
    )
    says_left past w checked x parts same.refused = (record { past = past; timed = refl; parts = parts }, refl, refl)

    pub answer_is_right_in : never_moves c ≡ true → is_plain c ≡ true → (checked result : Checked A) (w : World) (line : ℕ)
        → Same (SaysOnly w) checked (act false w w c) → result ≡ checked
        → StandsFor layout h w → IsRightFrom layout h w (step_of line c [] (answer_to says result)) h
    answer_is_right_in still plain checked result w line same is st =
        let x = act false w w c in
        let left = says_left st.past w checked x st.parts same in
        answered_is_right w line c (answer_to says result) still h st x h
        (none_taken w c (takes_none w c plain) (collector_of h) (collector_of h) (all_kept h))
        (marks_do_not_matter w (is_block (answer_to says result)) c plain still)
        (ap (answer_to says) is ∙ left.2) (λ y of condemned colours. none_kept y c (answer_to says result) plain) left.1
        (untimed st.past.time w c (takes_none w c plain) h (world_from w x) left.0)

    pub answer_is_right : never_moves c ≡ true → is_plain c ≡ true → (checked result : Checked A)
        → ((w : World) (past : Past) → AreParts layout past h w → IsKnown past.time w → Same (SaysOnly w) checked (act false w w c))
        → result ≡ checked → IsRight layout h c [] (answer_to says result) h
    answer_is_right still plain checked result same is =
        λ w line st. answer_is_right_in still plain checked result w line
        (same w st.past st.parts (known_now st)) is st

  -- ---- calls with moves of the client alone

  -- what it must show in a world, at any time: its moves, its act and its answer, and that the state represents the world after it
  pub record MovesTo (t : Time) (s : CollectorState) (w : World) (c : Call) (ms : List Move) (answer : Answer) (after : HeapState F)
      (result : Checked Act) : Type 0 where
    pub moving : (y : Collecting) → y.world ≡ w → Running y → IsOwnStep w y c ms answer result
    pub resting : w.collection ≡ None → IsMoving w c ms answer result
    pub formats : (world_from (moved_world w c ms) result).formats ≡ w.formats
    pub has : HasParts t after (world_from (moved_world w c ms) result)
    pub keeps : KeepsTime t s w (collector_of after) (world_from (moved_world w c ms) result)

  -- a step while a collection runs: its collector's part led to a state with this time, and the client's part keeps it
  module _ (t : Time) (s : CollectorState) (w u : World) (y : Collecting) (r : Runs t s u y) (line : ℕ)
      (c : Call) (none : position_taken y.world c ≡ Err refusal.NotRegistered) (ms : List Move)
      (answer : Answer) (after : HeapState F) (result : Checked Act) (arena : makes_arena c ≡ false) (reached : IsReached w) where
    abbrev v : World
    v = world_from (moved_world w c ms) result

    abbrev now : Collecting
    now = record y {
      world = world_after w (step_of line c ms answer);
      running = remembering (ids_of_client (world_after w (step_of line c ms answer)).graph)
          (collection_without (Err refusal.NotRegistered) y.running);
      next = next_without (Err refusal.NotRegistered) y.next;
    }

    goes_to_now : after_client w y (step_of line c ms answer) ≡ now
    goes_to_now =
        ap (λ p. let x : Collecting = record y {
          world = world_after w (step_of line c ms answer);
          running = remembering (ids_of_client (world_after w (step_of line c ms answer)).graph) (collection_without p y.running);
          next = next_without p y.next;
        } in x) none

    runs_now : RunsOn w y (step_of line c ms answer) v → IsRunKept (Err refusal.NotRegistered) t s (collector_of after) u v y
        → Runs t (collector_of after) (with_client_remembered v) now
    runs_now on kept =
        runs_after t s (collector_of after) u (with_client_remembered v) y r
        (ids_of_client (world_after w (step_of line c ms answer)).graph) (world_after w (step_of line c ms answer)) on.world
        (Err refusal.NotRegistered) (subst Running goes_to_now on.running) (record {
          running = kept.running;
          tails = kept.tails;
          world_tails = kept.world_tails;
          ranked = kept.ranked;
          condemned = kept.condemned;
          flip = record { made = kept.flip.made; still = kept.flip.still };
        })

    pub runs_on_is_right : RunsOn w y (step_of line c ms answer) v → v.formats ≡ w.formats → HasParts t after v
        → IsRunKept (Err refusal.NotRegistered) t s (collector_of after) u v y → IsRightIn layout w (step_of line c ms answer) after
    runs_on_is_right on formats has kept =
        step_stands t after w (with_client_remembered v) line c ms answer reached on.legal on.world formats arena
        (record { past = has.past; timed = has.timed; parts = parts_remembered has.past after v has.parts })
        (runs now (runs_now on kept))

    pub own_step_is_right : IsOwnStep w y c ms answer result → v.formats ≡ w.formats → HasParts t after v
        → IsRunKept (Err refusal.NotRegistered) t s (collector_of after) u v y → IsRightIn layout w (step_of line c ms answer) after
    own_step_is_right own = runs_on_is_right (own_step_runs_on w y r.invariant line c ms answer result own)

    -- from a heap that has as many units left as that state
    own_step_from : (before : HeapState F) → units_left before ≡ abstract.units_left y → IsOwnStep w y c ms answer result
        → v.formats ≡ w.formats → HasParts t after v → IsRunKept (Err refusal.NotRegistered) t s (collector_of after) u v y
        → IsRightFrom layout before w (step_of line c ms answer) after
    own_step_from before left own formats has kept =
        let on = own_step_runs_on w y r.invariant line c ms answer result own in
        let fewer : abstract.units_left now ≤ abstract.units_left y =
        subst (λ z. abstract.units_left z ≤ abstract.units_left y) goes_to_now on.no_more
        in
        step_runs t after before w (with_client_remembered v) line c ms answer reached on.legal on.world formats arena
        (record { past = has.past; timed = has.timed; parts = parts_remembered has.past after v has.parts })
        now (runs_now on kept) (omega (arith, left, fewer))

  -- a call with its moves after which no collection runs
  pub moved_to_rest : (t : Time) (w : World) (line : ℕ) (c : Call) (ms : List Move) (answer : Answer) (after : HeapState F)
      (result : Checked Act) → makes_arena c ≡ false → (world_from (moved_world w c ms) result).formats ≡ w.formats → IsReached w
      → IsMoving w c ms answer result → HasParts t after (world_from (moved_world w c ms) result)
      → Rests t (collector_of after) (world_from (moved_world w c ms) result) → IsRightIn layout w (step_of line c ms answer) after
  moved_to_rest t w line c ms answer after result arena formats reached moving has rest =
      let step = moving_step w line c ms answer result moving in
      let v = world_from (moved_world w c ms) result in
      step_stands t after w v line c ms answer reached step.legal (step.world ∙ with_client_remembered-none v rest.none) formats arena has
      (rests rest)

  pub moving_is_right : (past : Past) (h : HeapState F) (w : World) → AreParts layout past h w → IsWellFormed w → (line : ℕ) (c : Call)
      → ((v : World) → position_taken v c ≡ Err refusal.NotRegistered) → (ms : List Move) (answer : Answer)
      (after : HeapState F) (result : Checked Act) → makes_arena c ≡ false → IsReached w → IsInTime past.time (collector_of h) w
      → MovesTo past.time (collector_of h) w c ms answer after result → IsRightFrom layout h w (step_of line c ms answer) after
  moving_is_right past h w parts formed line c none ms answer after result arena reached (rests rest) m =
      to_rest h (m.keeps.running ∙ rest.not_running)
      (moved_to_rest past.time w line c ms answer after result arena m.formats reached (m.resting rest.none) m.has (record {
        none = m.keeps.rest rest.none;
        time = rest.time;
        not_running = m.keeps.running ∙ rest.not_running;
        not_condemned = m.keeps.not_condemned rest.not_condemned;
        not_kept = m.keeps.not_kept rest.not_condemned rest.not_kept;
      }))
  moving_is_right past h w parts formed line c none ms answer after result arena reached (runs y r) m =
      own_step_from past.time (collector_of h) w w y r line c (none y.world) ms answer after result arena reached h
      (units_in_state layout past h w parts formed y r) (m.moving y r.world r.invariant) m.formats m.has (run_kept m.keeps y r)

  -- ---- a call that is refused and makes no moves

  -- it is right at any time, if it takes no registration away
  pub refusal_is_right : (past : Past) (h : HeapState F) (w : World) (line : ℕ) (c : Call) (why : Refusal) → makes_arena c ≡ false
      → IsReached w → AreParts layout past h w → IsInTime past.time (collector_of h) w → IsAnswered w c [] (refused why) (Err why)
      → moved_world w c [] ≡ w → ((v : World) → position_taken v c ≡ Err refusal.NotRegistered)
      → IsRightIn layout w (step_of line c [] (refused why)) h
  refusal_is_right past h w line c why arena reached parts (rests rest) m still not_taken =
      let step = moving_step w line c [] (refused why) (Err why) (record {
        legal = m.legal;
        due = m.due;
        comes = m.comes;
        answers = m.answers;
        marked = m.possible;
        sound = subst IsSound (sym still) (reached_sound w reached rest.none);
      }) in
      step_stands past.time h w w line c [] (refused why) reached step.legal
      (step.world ∙ ap with_client_remembered still ∙ with_client_remembered-none w rest.none) refl arena
      (record { past = past; timed = refl; parts = parts }) (rests rest)
  refusal_is_right past h w line c why arena reached parts (runs y r) m still not_taken =
      runs_on_is_right past.time (collector_of h) w w y r line c (not_taken y.world) [] (refused why) h (Err why) arena reached
      (still_step_runs_on w y line c [] (refused why) (Err why) r.invariant m (still ∙ sym r.world) refusal.NotRegistered
      (not_taken y.world))
      (ap (λ (u : World). u.formats) still)
      (subst (HasParts past.time h) (sym still) (record { past = past; timed = refl; parts = parts }))
      (subst (λ (u : World). IsRunKept (Err refusal.NotRegistered) past.time (collector_of h) (collector_of h) w u y) (sym still)
      (run_kept keeps_still y r))
