-- The step of a `reserve` after its poll, at any time, from what its act comes to. The moves of the poll come first, and its own segment
-- last.
use Rattle.std.proofs.Common.{◌≡◌, ◌∙◌, ℕ, ◌+◌, ◌-◌, Bool, true, false, refl, sym, ap, subst, List, [], ◌∷◌, ◌++◌, length, take, Option, Some, None, arith, Err}
use Rattle.std.proofs.lemmas.List.{append-nil, length-append}
use Rattle.std.specs.Prelude.{if◌then◌else◌, option_and_then}
use Rattle.std.specs.List.{list_all}
use Rattle.mps_base.specs.declared.refusal.Refusal.TheVariants as refusal
use Rattle.mps_base.specs.Segment.{Segment, words_of_segment}
use Rattle.mps_base.specs.declared.address.Addr.{Addr}
use Rattle.mps_base.specs.declared.moves.Move.{Move}
use Rattle.mps_base.specs.declared.moves.Move.TheVariants as moves
use Rattle.mps_base.specs.declared.names.Name.{Name}
use Rattle.mps_format.specs.Layout.{Layout}
use Rattle.mps_abstract.specs.Collecting.{Collecting}
use Rattle.mps_abstract.specs.ClientLaws.{IsWellPlaced}
use Rattle.mps_laws.proofs.Positions.LaidOut.{IsLaidOut}
use Rattle.mps_laws.proofs.Positions.LegalMoves.{HasLayout}
use Rattle.mps_laws.proofs.Replays.ReserveReplayed.{all_names_kept, reserve_step}
use Rattle.mps_laws.proofs.Replays.ReserveSteps.{poll_then_own}
use Rattle.mps_laws.proofs.Replays.Steps.{remembered_kept}
use Rattle.mps_model.specs.declared.call.Call.{Call}
use Rattle.mps_model.specs.declared.call.Call.TheVariants as call
use Rattle.mps_model.specs.Answer.{Answer}
use Rattle.mps_model.specs.Checked.{Act, Checked, as_point, number_named}
use Rattle.mps_model.specs.Allocating.{act_reserve}
use Rattle.mps_model.specs.Collection.{Collection}
use Rattle.mps_model.specs.Effect.{world_after_moves, holding, segment_of_move}
use Rattle.mps_model.specs.Graph.{ids_in_blocks, thing_in}
use Rattle.mps_model.specs.History.{AreMovesOfReserve, IsPollWhereDue, after_own_segment, asking, judged_world, moved_world, moves_of_poll, own_segment, last_move, rank_of_point, segment_where_judged, with_buffer, with_client_remembered, with_segment_for_point, world_after}
use Rattle.mps_model.specs.LegalMove.{AreLegalMoves}
use Rattle.mps_model.specs.Policy.{units_asked}
use Rattle.mps_model.specs.Reply.{answer_from, world_from}
use Rattle.mps_model.specs.World.{World, is_copying_pool, is_live}
use Rattle.mps_heap_spec.specs.State.{HeapState}
use Rattle.mps_refinement.specs.RightStep.{IsRightIn, step_of}
use Rattle.mps_refinement.specs.StandsFor.{IsInTime, IsReached, Time, rests, runs, collector_of}
use Rattle.mps_refinement.proofs.Worlds.Known.{IsKnown}
use Rattle.mps_refinement.proofs.Worlds.RunningSteps.{IsOwnStep, placed_from_layout}
use Rattle.mps_refinement.proofs.Worlds.Steps.{HasParts, own_step_is_right, step_stands}
use Rattle.mps_refinement.proofs.Worlds.TimeKept.{KeepsTime, run_kept}
use Rattle.mps_refinement.proofs.Worlds.RestingSteps.{moving_step}
use Rattle.mps_laws.proofs.QuietSteps.{IsSound}
use Rattle.mps_model.specs.WellFormed.{IsWellFormed}
use Rattle.mps_model.proofs.AtRest.{with_client_remembered-none}
use Rattle.mps_refinement.proofs.Worlds.CollectorKept.{IsRunKept}

-- ---- the moves of a reserve

-- moves of a poll, and then the reserve's own
pub record IsCut (poll own : List Move) : Type 0 where
  pub polled : moves_of_poll (poll ++ own) ≡ poll
  pub owned : own_segment (poll ++ own) ≡ own

pub cut_without : (poll : List Move) → own_segment poll ≡ [] → IsCut poll []
cut_without poll none = record {
  polled =
      ap moves_of_poll (append-nil poll) ∙ sym (append-nil (moves_of_poll poll))
      ∙ ap (λ ms. moves_of_poll poll ++ ms) (sym none) ∙ poll_then_own poll;
  owned = ap own_segment (append-nil poll) ∙ none;
}

last_is : (ms : List Move) (m : Move) → last_move (ms ++ m ∷ []) ≡ m ∷ []
last_is [] m = refl
last_is (n ∷ []) m = refl
last_is (n ∷ o ∷ ms) m = last_is (o ∷ ms) m

take_first : (ms more : List Move) → take (length ms) (ms ++ more) ≡ ms
take_first [] [] = refl
take_first [] (m ∷ more) = refl
take_first (n ∷ ms) more = ap (λ rest. n ∷ rest) (take_first ms more)

pub cut_segment : (poll : List Move) (base : Addr) (grains pool generation : ℕ)
    → IsCut poll (moves.Seg base grains pool generation ∷ [])
cut_segment poll base grains pool generation =
    let m : Move = moves.Seg base grains pool generation in
    let own : own_segment (poll ++ m ∷ []) ≡ m ∷ [] = ap (Rattle.std.specs.Prelude.filter Rattle.mps_model.specs.History.is_segment_taken)
    (last_is poll m) in
    record {
      polled =
          ap (λ o. take (length (poll ++ m ∷ []) - length o) (poll ++ m ∷ [])) own
          ∙ ap (λ n. take n (poll ++ m ∷ []))
          (let e = length-append poll (m ∷ []) in let n : length (poll ++ m ∷ []) - 1 ≡ length poll = omega (arith, e) in n)
          ∙ take_first poll (m ∷ []);
      owned = own;
    }

-- ---- a poll, or none

-- moves of a poll that lead to a world, with the units that it asks
pub record Polls (w : World) (name : Name) (head : ℕ) (poll : List Move) (v : World) : Type 0 where
  pub legal : AreLegalMoves w None poll
  pub due : IsPollWhereDue w (call.Reserve name head) poll
  pub never_own : own_segment poll ≡ []
  pub units : Option ℕ
  pub asks : units_asked w (call.Reserve name head) ≡ units
  pub leads : asking units (world_after_moves w poll) ≡ v
  -- the collection of the world in which the `reserve` is judged: it isn't asked yet
  pub judged : Option Collection
  pub judged_is : world_after_moves w poll ≡ record v { collection = judged }
  pub grains : v.grains ≡ w.grains
  pub formats : v.formats ≡ w.formats

asked_segment : (n : ℕ) (v : World) (s : Segment) (point : ℕ)
    → asking (Some n) (with_segment_for_point v s point) ≡ with_segment_for_point (asking (Some n) v) s point
asked_segment n v s point = of_copying (is_copying_pool v s.pool)
  where
    taken : World
    taken = holding v (record s { rank = rank_of_point v point })

    of_copying : (b : Bool)
        → asking (Some n) (if b then record taken { point_memories = with_buffer v.point_memories point (words_of_segment s) } else taken)
        ≡ (if b then record (holding (asking (Some n) v) (record s { rank = rank_of_point v point })) {
          point_memories = with_buffer v.point_memories point (words_of_segment s);
        } else holding (asking (Some n) v) (record s { rank = rank_of_point v point }))
    of_copying true = refl
    of_copying false = refl

asked_own : (units : Option ℕ) (v : World) (own : List Move) (point : Option ℕ)
    → asking units (after_own_segment v own point) ≡ after_own_segment (asking units v) own point
asked_own None v own point = refl
asked_own (Some n) v [] point = refl
asked_own (Some n) v (moves.Seg base grains pool generation ∷ ms) None = refl
asked_own (Some n) v (moves.Seg base grains pool generation ∷ ms) (Some point) =
    asked_segment n v (segment_of_move base.0 grains pool generation) point
asked_own (Some n) v (moves.Unseg base ∷ ms) point = refl
asked_own (Some n) v (moves.Flip zones chain generation ∷ ms) point = refl
asked_own (Some n) v (moves.End ∷ ms) point = refl
asked_own (Some n) v (moves.Moved from to ∷ ms) point = refl
asked_own (Some n) v (moves.Stay at ∷ ms) point = refl
asked_own (Some n) v (moves.Splat holder cell ∷ ms) point = refl
asked_own (Some n) v (moves.Post at ∷ ms) point = refl
asked_own (Some n) v (moves.Commit at words pool ∷ ms) point = refl
asked_own (Some n) v (moves.Alloc at words pool ∷ ms) point = refl
asked_own (Some n) v (moves.Free at ∷ ms) point = refl

-- ---- the step

module _ (w : World) (laid : HasLayout (w.grains + 1) w) (name : Name) (head : ℕ) (poll : List Move) (v : World)
    (polled : Polls w name head poll v) (own : List Move) (cut : IsCut poll own)
    (own_is : own ≡ segment_where_judged v name head) (u : World)
    (taken : after_own_segment v own (number_named v name as_point) ≡ u) (result : Checked Act)
    (acts : act_reserve v u name head ≡ result) (answer : Answer) where
  abbrev c : Call
  c = call.Reserve name head

  abbrev ms : List Move
  ms = poll ++ own

  judged_so : judged_world w c ms ≡ record v { collection = polled.judged }
  judged_so = ap (world_after_moves w) cut.polled ∙ polled.judged_is

  names_same : (world_after_moves w poll).graph.names ≡ v.graph.names
  names_same = ap (λ (o : World). o.graph.names) polled.judged_is

  number_same : number_named w name as_point ≡ number_named v name as_point
  number_same =
      ap (λ ns. option_and_then as_point (thing_in ns name)) (sym (all_names_kept w poll) ∙ names_same)

  pub moved_so : moved_world w c ms ≡ u
  moved_so =
      ap (λ ps. asking (units_asked w c) (after_own_segment (world_after_moves w ps) (own_segment ms) (number_named w name as_point)))
      cut.polled
      ∙ ap (λ os. asking (units_asked w c) (after_own_segment (world_after_moves w poll) os (number_named w name as_point))) cut.owned
      ∙ ap (λ n. asking (units_asked w c) (after_own_segment (world_after_moves w poll) own n)) number_same
      ∙ ap (λ n. asking n (after_own_segment (world_after_moves w poll) own (number_named v name as_point))) polled.asks
      ∙ asked_own polled.units (world_after_moves w poll) own (number_named v name as_point)
      ∙ ap (λ o. after_own_segment o own (number_named v name as_point)) polled.leads ∙ taken

  comes : act_reserve (judged_world w c ms) (moved_world w c ms) name head ≡ result
  comes =
      ap (λ v. act_reserve (judged_world w c ms) v name head) moved_so ∙ ap (λ v. act_reserve v u name head) judged_so ∙ acts

  segment : own_segment ms ≡ segment_where_judged (world_after_moves w (moves_of_poll ms)) name head
  segment = cut.owned ∙ own_is ∙ sym (ap (λ v. segment_where_judged v name head) judged_so)

  legal : AreLegalMoves w None (moves_of_poll ms)
  legal = subst (AreLegalMoves w None) (sym cut.polled) polled.legal

  after_is : world_after w (step_of 0 c ms answer) ≡ with_client_remembered (world_from (moved_world w c ms) result)
  after_is = ap (λ r. with_client_remembered (world_from (moved_world w c ms) r)) comes

  remembered_layout : HasLayout (w.grains + 1) (with_client_remembered (world_from (moved_world w c ms) result))
  remembered_layout =
      subst (HasLayout (w.grains + 1)) after_is (reserve_step (w.grains + 1) 0 0 w laid name head ms answer legal segment).layout

  -- how the world after it is laid out
  pub layout_after : HasLayout (v.grains + 1) (world_from u result)
  layout_after =
      subst (λ k. HasLayout (k + 1) (world_from u result)) (sym polled.grains)
      (subst (λ v. HasLayout (w.grains + 1) (world_from v result)) moved_so
      (subst (IsLaidOut (w.grains + 1)) (remembered_kept (world_from (moved_world w c ms) result)) remembered_layout))

  placed : IsWellPlaced (world_from (moved_world w c ms) result)
  placed =
      let of = placed_from_layout (w.grains + 1) (with_client_remembered (world_from (moved_world w c ms) result)) remembered_layout in
      record { different = of.different; apart = of.apart }

  -- what is known of the world before, and what its act leaves
  module _ (t : Time) (knows : IsKnown t v) (answers : answer ≡ answer_from result)
      (blocks : list_all (is_live (world_from u result)) (ids_in_blocks (world_from u result).graph) ≡ true) where
    due : AreMovesOfReserve w name head ms
    due = record {
      poll = subst (IsPollWhereDue w c) (sym cut.polled) polled.due;
      segment = segment;
    }

    pub own_step : (y : Collecting) → y.world ≡ v → IsOwnStep w y c ms answer result
    own_step y is = record {
      collected = ap (λ ps. asking (units_asked w c) (world_after_moves w ps)) cut.polled
          ∙ ap (λ n. asking n (world_after_moves w poll)) polled.asks ∙ polled.leads ∙ sym is;
      legal = legal;
      due = due;
      marked = tt;
      read = tt;
      possible = tt;
      comes = comes;
      answers = answers;
      formed = subst IsWellFormed (sym is) knows.formed;
      blocks = subst (λ (o : World). list_all (is_live o) (ids_in_blocks o.graph) ≡ true) (sym is) knows.live.blocks;
      placed = placed;
      blocks_after = subst (λ o. list_all (is_live (world_from o result)) (ids_in_blocks (world_from o result).graph) ≡ true) (sym moved_so)
          blocks;
    }

    -- it is right at any time
    pub reserved_rightly : {F : Type 0} (layout : F → Layout) (line : ℕ) (before after : HeapState F) → IsReached w
        → IsInTime t (collector_of before) v → HasParts layout t after (world_from u result)
        → (v.collection ≡ None → IsSound (world_from u result)) → KeepsTime t (collector_of before) v (collector_of after)
        (world_from u result)
        → (world_from u result).formats ≡ v.formats → IsRightIn layout w (step_of line c ms answer) after
    reserved_rightly layout line before after reach (rests rest) has sound keeps formats =
        let step = moving_step w line c ms answer result (record {
          legal = legal;
          due = due;
          comes = comes;
          answers = answers;
          marked = tt;
          sound = subst (λ o. IsSound (world_from o result)) (sym moved_so) (sound rest.none);
        }) in
        let out = ap (λ o. world_from o result) moved_so in
        step_stands layout t after w (world_from u result) line c ms answer reach step.legal
        (step.world ∙ ap with_client_remembered out ∙ with_client_remembered-none (world_from u result) (keeps.rest rest.none))
        (formats ∙ polled.formats) refl has
        (rests (record {
          none = keeps.rest rest.none;
          time = rest.time;
          not_running = keeps.running ∙ rest.not_running;
          not_condemned = keeps.not_condemned rest.not_condemned;
          not_kept = keeps.not_kept rest.not_condemned rest.not_kept;
        }))
    reserved_rightly layout line before after reach (runs y r) has sound keeps formats =
        own_step_is_right layout t (collector_of before) w v y r line c refl ms answer after result refl reach (own_step y r.world)
        (ap (λ o. (world_from o result).formats) moved_so ∙ formats ∙ polled.formats)
        (subst (λ o. HasParts layout t after (world_from o result)) (sym moved_so) has)
        (subst (λ o. IsRunKept (Err refusal.NotRegistered) t (collector_of before) (collector_of after) v (world_from o result) y)
        (sym moved_so) (run_kept keeps y r))
