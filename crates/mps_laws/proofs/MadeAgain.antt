-- A legal history that makes its arena again, and leaves a segment outside it.
use Rattle.std.proofs.Common.{◌≡◌, refl, true, false}
use Rattle.std.specs.Prelude.{IsTrue, ◌||◌, None}
use Rattle.std.specs.List.{list_all, flat_map}
use Rattle.mps_model.specs.Any.{numbered_layout}
use Rattle.mps_model.specs.Step.{Step}
use Rattle.mps_model.specs.Answer.{is_block}
use Rattle.mps_model.specs.Graph.{ids_of_client, ids_in_blocks, targets}
use Rattle.mps_model.specs.World.{World, is_live, is_running, live_ids, ids_in_pairs}
use Rattle.mps_model.specs.Reply.{reply_to}
use Rattle.mps_model.specs.LegalMove.{AreLegalMoves}
use Rattle.mps_model.specs.History.{AreMovesOf, moves_of_collector, IsLegalStep, IsLegalHistoryOf, IsPossiblyMarked, judged_world, moved_world, world_after, are_held_kept, has_units_left}
use Rattle.mps_laws.specs.WellFormed.{made_again, ArenaMadeAgainLeavesSegments}

legal_step : {w : World} {s : Step} → AreLegalMoves w None (moves_of_collector s.call s.moves) → AreMovesOf w s.call s.answer s.moves
    → s.answer ≡ reply_to (is_block s.answer) (judged_world w s.call s.moves) (moved_world w s.call s.moves) s.call
    → IsPossiblyMarked w s.call s.answer → IsTrue (list_all (is_live (world_after w s)) (ids_of_client (world_after w s).graph))
    → IsTrue (list_all (is_live (world_after w s)) (ids_in_blocks (world_after w s).graph))
    → IsTrue (is_running (world_after w s) || list_all (is_live (world_after w s))
    (flat_map (targets (world_after w s).graph) (live_ids (world_after w s))))
    → IsTrue (is_running (world_after w s) || list_all (is_live (world_after w s)) (ids_in_pairs (world_after w s).state))
    → IsTrue (are_held_kept (world_after w s))
    → IsTrue (has_units_left (world_after w s)) → IsLegalStep w s
legal_step legal due said marked client blocks referred pairs kept left = record {
  moves_are_legal = legal;
  moves_are_due = due;
  answer_is_due = said;
  marked_may_survive = marked;
  held_are_live = record { client = client; blocks = blocks; referred = referred; transforms = pairs };
  held_are_kept = kept;
  units_are_left = left;
}

is_legal : IsLegalHistoryOf numbered_layout made_again
is_legal = (
  legal_step tt refl refl tt refl refl refl refl refl refl,
  (
    legal_step tt refl refl tt refl refl refl refl refl refl,
    (
      legal_step tt refl refl tt refl refl refl refl refl refl,
      (
        legal_step tt refl refl tt refl refl refl refl refl refl,
        (
          legal_step tt refl refl tt refl refl refl refl refl refl,
          tt,
        ),
      ),
    ),
  ),
)

pub leaves_segments : ArenaMadeAgainLeavesSegments
leaves_segments = (is_legal, (λ w. let h : false ≡ true = w.segments in absurd cc))
