-- The step of a call whose act leaves the world to which its moves led, at any time.
use Rattle.std.proofs.Common.{◌≡◌, ℕ, false, refl, sym, List, None, Ok, Err, subst}
use Rattle.mps_base.specs.declared.moves.Move.{Move}
use Rattle.mps_base.specs.declared.refusal.Refusal.TheVariants as refusal
use Rattle.mps_format.specs.Layout.{Layout}
use Rattle.mps_abstract.specs.ClientLaws.{position_taken}
use Rattle.mps_changes.specs.Change.{makes_arena}
use Rattle.mps_model.specs.declared.call.Call.{Call}
use Rattle.mps_model.specs.Answer.{Answer, is_block}
use Rattle.mps_model.specs.Checked.{Act, Checked}
use Rattle.mps_model.specs.History.{AreMovesOf, IsPossiblyMarked, judged_world, moved_world, moves_of_collector}
use Rattle.mps_model.specs.LegalMove.{AreLegalMoves}
use Rattle.mps_model.specs.Reply.{act}
use Rattle.mps_model.specs.World.{World}
use Rattle.mps_heap_spec.specs.State.{HeapState}
use Rattle.mps_refinement.specs.RightStep.{IsRightIn, step_of}
use Rattle.mps_refinement.specs.StandsFor.{IsInTime, IsReached, Time, collector_of, rests, runs}
use Rattle.mps_refinement.proofs.Following.Made.{AreMade}
use Rattle.mps_refinement.proofs.Worlds.RestingActs.{resting_sound}
use Rattle.mps_refinement.proofs.Worlds.RunningSteps.{still_step_runs_on}
use Rattle.mps_refinement.proofs.Worlds.Steps.{moved_to_rest, runs_on_is_right}
use Rattle.mps_refinement.proofs.Worlds.TimeKept.{keeps_still, run_kept}

-- a call with these moves and this answer, whose act leaves this world
pub record LeavesAsMoved (w : World) (c : Call) (ms : List Move) (answer : Answer) (u : World) : Type 0 where
  pub arena : makes_arena c ≡ false
  pub collectors : moves_of_collector c ms ≡ ms
  pub due : AreMovesOf w c answer ms
  pub possible : IsPossiblyMarked w c answer
  pub comes : act (is_block answer) (judged_world w c ms) (moved_world w c ms) c ≡ Ok (record { answer = answer; world = u })
  pub not_taken : (v : World) → position_taken v c ≡ Err refusal.NotRegistered
  pub formats : u.formats ≡ w.formats

module _ {F : Type 0} (layout : F → Layout) (w : World) (reach : IsReached w) (line : ℕ) (c : Call) (ms : List Move) (answer : Answer)
    (u : World) (is : LeavesAsMoved w c ms answer u) (t : Time) (h : HeapState F) (made : AreMade layout w ms u t h) where
  abbrev result : Checked Act
  result = Ok (record { answer = answer; world = u })

  legal : AreLegalMoves w None (moves_of_collector c ms)
  legal = subst (AreLegalMoves w None) (sym is.collectors) made.legal

  pub made_step_is_right : IsRightIn layout w (step_of line c ms answer) h
  made_step_is_right = of_time made.now
    where
      of_time : IsInTime t (collector_of h) u → IsRightIn layout w (step_of line c ms answer) h
      of_time (rests rest) =
          moved_to_rest layout t w line c ms answer h result is.arena is.formats reach
          (record {
            legal = legal;
            due = is.due;
            comes = is.comes;
            answers = refl;
            marked = is.possible;
            sound = resting_sound u rest.none made.live;
          }) made.has rest
      of_time (runs y r) =
          runs_on_is_right layout t (collector_of h) w u y r line c (is.not_taken y.world) ms answer h result is.arena reach
          (still_step_runs_on w y line c ms answer result r.invariant (record {
            legal = legal;
            due = is.due;
            possible = is.possible;
            comes = is.comes;
            answers = refl;
            blocks_after = made.live.blocks;
          }) (sym r.world) refusal.NotRegistered (is.not_taken y.world)) is.formats made.has (run_kept keeps_still y r)
