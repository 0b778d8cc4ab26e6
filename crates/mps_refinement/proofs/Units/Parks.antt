-- A `park` that finishes a running collection is right: the collection ends, and the arena is parked.
use Rattle.std.proofs.Common.{refl, subst}
use Rattle.mps_base.specs.Trail.{Moves}
use Rattle.mps_format.specs.Layout.{Layout}
use Rattle.mps_laws.proofs.SameArena.{moved_alone}
use Rattle.mps_model.specs.declared.call.Call.TheVariants as call
use Rattle.mps_model.specs.declared.reply.Reply.TheVariants as reply
use Rattle.mps_model.specs.Answer.{Answer, Replied}
use Rattle.mps_model.specs.Collecting.{with_state}
use Rattle.mps_model.specs.Effect.{world_after_moves}
use Rattle.mps_model.specs.World.{World, Parked, pairs_in}
use Rattle.mps_heap_spec.specs.Arena.{with_arena}
use Rattle.mps_heap_spec.specs.State.{HeapState}
use Rattle.mps_heap_spec.specs.declared.arena.ArenaState.TheVariants as arena
use Rattle.mps_refinement.specs.RightMoving.{IsRightMovingIn}
use Rattle.mps_refinement.specs.StandsFor.{IsReached, rests, time_at_rest}
use Rattle.mps_refinement.proofs.Calls.ArenaCalls.{parked_has}
use Rattle.mps_refinement.proofs.Following.Made.{AreMade}
use Rattle.mps_refinement.proofs.Units.MadeSteps.{made_step_is_right}
use Rattle.mps_refinement.proofs.Units.UnitsMade.{AreLastMade}
use Rattle.mps_refinement.proofs.Worlds.RunningNow.{rests_now}
use Rattle.mps_refinement.proofs.Worlds.Steps.{HasParts}

module _ {F : Type 0} (layout : F → Layout) (w : World) (reach : IsReached w) (m : Moves) (between : HeapState F) (m' : Moves)
    (is : AreLastMade layout w m between m') where
  abbrev v : World
  v = world_after_moves w is.moves

  -- the parked world
  abbrev u : World
  u = with_state v (Parked (pairs_in v.state))

  abbrev ok : Answer
  ok = Replied reply.Ok

  abbrev heap_after : HeapState F
  heap_after = with_arena between arena.Parked

  made : AreMade layout w is.moves u time_at_rest heap_after
  made =
      let rest = rests_now is.made.now is.ended in
      let l = is.made.live in
      record {
        legal = is.made.legal;
        has = subst (λ t. HasParts layout t heap_after u) is.made.has.timed
            (parked_has layout between v is.made.has.past is.made.has.parts);
        now = rests (record {
          none = rest.none;
          time = rest.time;
          not_running = rest.not_running;
          not_condemned = rest.not_condemned;
          not_kept = rest.not_kept;
        });
        live = record { client = l.client; blocks = l.blocks; referred = l.referred; transforms = l.transforms };
      }

  pub parking_is_right : IsRightMovingIn layout w call.Park m.moves m'.moves ok heap_after
  parking_is_right = record {
    moves = is.moves;
    appended = is.appended;
    right = λ line.
        made_step_is_right layout w reach line call.Park is.moves ok u (record {
          arena = refl;
          collectors = refl;
          due = is.finishes;
          possible = tt;
          comes = refl;
          not_taken = λ q. refl;
          formats = (moved_alone w call.Park is.moves).formats;
        }) time_at_rest heap_after made;
  }
