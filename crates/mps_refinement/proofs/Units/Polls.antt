-- The poll of a `reserve` while a collection runs: 64 units, or fewer if the collection ends in them.
use Rattle.std.proofs.Common.{◌≡◌, ℕ, true, refl, ap, sym, subst, List, [], Some, None}
use Rattle.std.proofs.lemmas.Bool.{and_from}
use Rattle.std.specs.Prelude.{MatchBool, if◌then◌else◌}
use Rattle.mps_base.specs.declared.moves.Move.{Move}
use Rattle.mps_base.specs.declared.names.Name.{Name}
use Rattle.mps_laws.proofs.SameArena.{moved_alone}
use Rattle.mps_model.specs.declared.call.Call.TheVariants as call
use Rattle.mps_model.specs.Effect.{world_after_moves}
use Rattle.mps_model.specs.History.{IsPoll, asking, own_segment, poll_at_rest}
use Rattle.mps_model.specs.LegalMove.{AreLegalMoves}
use Rattle.mps_model.specs.Policy.{due_in, polls, units_of_poll}
use Rattle.mps_model.specs.Units.{AreUnits}
use Rattle.mps_model.specs.World.{World, is_running}
use Rattle.mps_refinement.proofs.Calls.ReserveStep.{Polls}

pub units_poll : (w : World) (name : Name) (head : ℕ) (ms : List Move) → is_running w ≡ true → polls w (call.Reserve name head) ≡ true
    → AreLegalMoves w None ms → AreUnits w units_of_poll ms → own_segment ms ≡ []
    → Polls w name head ms (asking (Some units_of_poll) (world_after_moves w ms))
units_poll w name head ms running polling legal units none = record {
  legal = legal;
  due = subst (λ b. MatchBool b (IsPoll w ms) (ms ≡ [])) (sym polling)
      (subst (λ b. MatchBool b (AreUnits w units_of_poll ms) (ms ≡ poll_at_rest w (due_in w))) (sym running) units);
  never_own = none;
  units = Some units_of_poll;
  asks = ap (λ b. if b then Some units_of_poll else None) (and_from (is_running w) (polls w (call.Reserve name head)) running polling);
  leads = refl;
  judged = (world_after_moves w ms).collection;
  judged_is = refl;
  grains = (moved_alone w call.Park ms).grains;
  formats = (moved_alone w call.Park ms).formats;
}
