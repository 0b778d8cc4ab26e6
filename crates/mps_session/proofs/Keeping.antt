-- A session goes on standing for some world of a script, with room for the moves of each call.
use Rattle.std.proofs.Common.{◌≡◌, ◌∙◌, ◌+◌, ◌*◌, ◌<◌, ◌≤◌, ℕ, false, sym, subst, List, [], length, Result, Ok, Err, arith}
use Rattle.std.specs.Prelude.{OnErr, OnOk}
use Rattle.mps_base.specs.Trail.{Moves, emptied}
use Rattle.mps_base.specs.declared.moves.Move.{Move}
use Rattle.mps_commands.specs.RightAnswer.{step_in}
use Rattle.mps_format.specs.Any.{numbered_layout}
use Rattle.mps_format.specs.AnyFormat.{any_layout}
use Rattle.mps_format.specs.declared.any.AnyFormat.{AnyFormat}
use Rattle.mps_heap.specs.Right.{IsNewHeap}
use Rattle.mps_laws.proofs.WellFormedHistories.{step_grains}
use Rattle.mps_model.specs.FirstCall.{is_arena}
use Rattle.mps_model.specs.History.{world_after}
use Rattle.mps_model.specs.World.{empty_world}
use Rattle.mps_model.specs.declared.call.Call.{Call}
use Rattle.mps_model.specs.declared.reply.Reply.{Reply}
use Rattle.mps_refinement.specs.State.{HeapState}
use Rattle.mps_refinement.specs.NewHeap.{arena_step}
use Rattle.mps_refinement.specs.RightMoving.{KeepsRoom}
use Rattle.mps_refinement.specs.TraceCollect.{most_moves}
use Rattle.mps_session.specs.Standing.{HeapStands, HeapStandsStill, IsAnswered, StandsForScript}
use Rattle.mps_session.proofs.Standing.{StepsTo, answer, answers_in, made_once, numbers_are_lawful}

-- the trail was emptied, and a call kept its room, in an arena of as many grains
has_room : (grains grains' : ℕ) (trail after : Moves) → grains' ≡ grains → 2 * most_moves grains ≤ trail.spare + length trail.moves
    → KeepsRoom (emptied trail) after → 2 * most_moves grains' ≤ after.spare + length after.moves
has_room grains grains' trail after same fits kept = omega (arith, same, fits, kept)

module _ (h after : HeapState AnyFormat) (trail trail' : Moves) (kept : KeepsRoom (emptied trail) trail') where
  -- a call was answered
  pub answered_keeps : (c : Call) (moves : List Move) (given : Reply) → is_arena c ≡ false → IsAnswered h c moves given after
      → StandsForScript h trail → StandsForScript after trail'
  answered_keeps c moves given other answers s = record {
    world = world_after s.world (step_in 0 c moves (answer h after c moves given));
    stands = next.stands;
    fits = has_room h.segs.grains after.segs.grains trail trail' same s.fits kept;
  }
    where
      next : StepsTo (HeapStands after) s.world (step_in 0 c moves (answer h after c moves given))
      next = answers_in h after c moves given other answers s.world 0 s.stands

      same : after.segs.grains ≡ h.segs.grains
      same =
          next.stands.heap.parts.grains
          ∙ step_grains 0 s.world c moves (answer h after c moves given) (made_once c ∙ other)
          ∙ sym s.stands.heap.parts.grains

  -- memory was out
  pub still_keeps : HeapStandsStill h after → StandsForScript h trail → StandsForScript after trail'
  still_keeps still s =
      let there = still s.world s.stands.heap in
      record {
        world = s.world;
        stands = record { heap = there; formats = s.stands.formats; arena = s.stands.arena };
        fits = has_room h.segs.grains after.segs.grains trail trail' (there.parts.grains ∙ sym s.stands.heap.parts.grains) s.fits kept;
      }

  -- whatever the call came to
  pub call_keeps : {T E : Type 0} (c : Call) (moves : List Move) (given : Reply) → is_arena c ≡ false → (r : Result T E)
      → OnOk r (IsAnswered h c moves given after) → OnErr r (HeapStandsStill h after)
      → StandsForScript h trail → StandsForScript after trail'
  call_keeps c moves given other (Ok done) answers still s = answered_keeps c moves given other answers s
  call_keeps c moves given other (Err e) answers still s = still_keeps still s

-- a new heap, with an empty trail that has room for two collections of it
pub new_keeps : (grains limit : ℕ) (h : HeapState AnyFormat) (trail : Moves) → 0 < grains → IsNewHeap any_layout grains limit h
    → trail ≡ record { moves = []; spare = 2 * most_moves h.segs.grains } → StandsForScript h trail
new_keeps grains limit h trail some new is =
    let r = new numbered_layout numbers_are_lawful 0 in
    record {
      world = world_after empty_world (arena_step 0 grains limit);
      stands = record { heap = r.stands; formats = r.formats; arena = some };
      fits = subst (λ (t : Moves). 2 * most_moves h.segs.grains ≤ t.spare + length t.moves) (sym is) (omega arith);
    }
