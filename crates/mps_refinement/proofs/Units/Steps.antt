-- A `step` of n units is right, whether the running collection goes on after them or ends in them, and so is one that does nothing.
use Rattle.std.proofs.Common.{◌≡◌, ◌∙◌, ℕ, ◌+◌, Bool, true, false, refl, sym, ap, subst, List, [], Option, Some, None, Ok, is_some}
use Rattle.std.proofs.lemmas.Bool.{true≢false}
use Rattle.std.specs.Prelude.{MatchBool, ◌&&◌, if◌then◌else◌}
use Rattle.mps_base.specs.Trail.{Moves}
use Rattle.mps_base.specs.declared.moves.Move.{Move}
use Rattle.mps_base.specs.declared.refusal.Refusal.TheVariants as refusal
use Rattle.mps_format.specs.Layout.{Layout}
use Rattle.mps_laws.proofs.SameArena.{moved_alone}
use Rattle.mps_model.specs.declared.call.Call.{Call}
use Rattle.mps_model.specs.declared.call.Call.TheVariants as call
use Rattle.mps_model.specs.declared.reply.Reply.TheVariants as reply
use Rattle.mps_model.specs.Answer.{Answer, Replied}
use Rattle.mps_model.specs.Collecting.{act_step}
use Rattle.mps_model.specs.Collection.{Collection}
use Rattle.mps_model.specs.Effect.{world_after_moves}
use Rattle.mps_model.specs.History.{AreMovesOfStep, asking}
use Rattle.mps_model.specs.World.{World, is_running, is_unclamped}
use Rattle.mps_model.specs.Units.{AreUnits}
use Rattle.mps_model.proofs.AtRest.{with_collection-none}
use Rattle.mps_heap_spec.specs.State.{HeapState}
use Rattle.mps_refinement.specs.RightMoving.{IsRightMovingIn}
use Rattle.mps_refinement.specs.RightStep.{IsRightIn, step_of}
use Rattle.mps_refinement.specs.StandsFor.{AreParts, IsInTime, IsReached, Past, collector_of, rests, runs}
use Rattle.mps_refinement.proofs.Units.MadeSteps.{made_step_is_right}
use Rattle.mps_refinement.proofs.Units.UnitsMade.{AreUnitsMade}
use Rattle.mps_refinement.proofs.Worlds.RunningSteps.{still_step_runs_on}
use Rattle.mps_refinement.proofs.Worlds.Steps.{moved_to_rest, runs_on_is_right}
use Rattle.mps_refinement.proofs.Worlds.TimeKept.{keeps_still, run_kept}
use Rattle.mps_refinement.proofs.Worlds.Reached.{reached_live, reached_sound}

module _ {F : Type 0} (layout : F → Layout) (w : World) (reach : IsReached w) (n : ℕ) (unclamped : is_unclamped w ≡ true) (m : Moves)
    (h : HeapState F) (m' : Moves) (is : AreUnitsMade layout w m n h m') where
  -- the world after it
  abbrev u : World
  u = asking (Some n) (world_after_moves w is.moves)

  abbrev pub said_then : Answer
  said_then = Replied (if is_running u then reply.More else reply.Idle)

  asks : asking (if is_unclamped w then Some n else None) (world_after_moves w is.moves) ≡ u
  asks = ap (λ (b : Bool). asking (if b then Some n else None) (world_after_moves w is.moves)) unclamped

  due_then : AreMovesOfStep w n is.moves
  due_then =
      subst (λ b. MatchBool (b && is_running w) (AreUnits w n is.moves) (is.moves ≡ [])) (sym unclamped) (of_running (is_running w) refl)
    where
      of_running : (b : Bool) → is_running w ≡ b → MatchBool b (AreUnits w n is.moves) (is.moves ≡ [])
      of_running true e = is.units e
      of_running false e = is.none e

  pub step_is_right : IsRightMovingIn layout w (call.Step n) m.moves m'.moves said_then h
  step_is_right = record {
    moves = is.moves;
    appended = is.appended;
    right = λ line.
        made_step_is_right layout w reach line (call.Step n) is.moves said_then u (record {
          arena = refl;
          collectors = refl;
          due = due_then;
          possible = tt;
          comes = ap act_step asks;
          not_taken = λ v. refl;
          formats = (moved_alone w call.Park is.moves).formats;
        }) is.time h is.made;
  }

-- ---- a step that does nothing: no collection runs, or the arena isn't unclamped

abbrev no_moves : List Move
no_moves = []

module _ {F : Type 0} (layout : F → Layout) (past : Past) (h : HeapState F) (w : World) (parts : AreParts layout past h w)
    (reach : IsReached w) (line n : ℕ) (idle : (is_unclamped w && is_running w) ≡ false) where
  abbrev the_call : Call
  the_call = call.Step n

  none_runs : (o : Option Collection) → is_some o ≡ false → o ≡ None
  none_runs None e = refl
  none_runs (Some c) e = absurd (true≢false e)

  -- nothing is asked
  none_asked : asking (if is_unclamped w then Some n else None) w ≡ w
  none_asked = of_bool (is_unclamped w) refl
    where
      of_bool : (b : Bool) → is_unclamped w ≡ b → asking (if b then Some n else None) w ≡ w
      of_bool true e =
          with_collection-none w (λ (c : Collection). record c { spent = c.spent + n })
          (none_runs w.collection (sym (ap (λ b. b && is_running w) e) ∙ idle))
      of_bool false e = refl

  abbrev answer : Answer
  answer = Replied (if is_running w then reply.More else reply.Idle)

  comes_still : act_step (asking (if is_unclamped w then Some n else None) w) ≡ Ok (record { answer = answer; world = w })
  comes_still = ap act_step none_asked

  due_still : MatchBool (is_unclamped w && is_running w) (AreUnits w n []) ([] ≡ no_moves)
  due_still = subst (λ b. MatchBool b (AreUnits w n []) ([] ≡ no_moves)) (sym idle) refl

  pub idle_step_is_right : IsInTime past.time (collector_of h) w → IsRightIn layout w (step_of line the_call [] answer) h
  idle_step_is_right (rests rest) =
      moved_to_rest layout past.time w line the_call [] answer h (Ok (record { answer = answer; world = w })) refl refl reach
      (record {
        legal = tt;
        due = due_still;
        comes = comes_still;
        answers = refl;
        marked = tt;
        sound = reached_sound w reach rest.none;
      })
      (record { past = past; timed = refl; parts = parts }) rest
  idle_step_is_right (runs y q) =
      runs_on_is_right layout past.time (collector_of h) w w y q line the_call refl [] answer h
      (Ok (record { answer = answer; world = w })) refl reach
      (still_step_runs_on w y line the_call [] answer (Ok (record { answer = answer; world = w })) q.invariant (record {
        legal = tt;
        due = due_still;
        possible = tt;
        comes = comes_still;
        answers = refl;
        blocks_after = (reached_live w reach).blocks;
      }) (sym q.world) refusal.NotRegistered refl)
      refl (record { past = past; timed = refl; parts = parts }) (run_kept keeps_still y q)
