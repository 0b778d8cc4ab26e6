use Rattle.std.proofs.Common.{◌≡◌, refl, [], ◌∷◌, ◌++◌, inr, Some}
use Rattle.mps_base.specs.declared.moves.Move.TheVariants as moves
use Rattle.mps_model.specs.World.{World, empty_world}
use Rattle.mps_model.specs.History.{IsLegalFrom, IsLegalHistory, world_after_steps}
use Rattle.mps_model.specs.Reachable.{begins}
use Rattle.mps_model.specs.Units.{scans, scans_no_more, reclaims}
use Rattle.mps_model.proofs.Appending.{IsLegalFrom-then}
use Rattle.mps_model.proofs.Reaching.{PathLeads-closed}
use Rattle.mps_model_examples.specs.Script.{address}
use Rattle.mps_model_examples.specs.FillingGaps.{one_grain, gap_filled, lowest_gap, block_of_four, world_of_grain, FillingGapsIsLegal}
use Rattle.mps_model_examples.proofs.Refusing.{false_is_not_true}
use Rattle.mps_model_examples.proofs.Units.{to_end, at_rest}
use Rattle.mps_model_examples.proofs.Steps.{legal_step}

-- one block, and two
abbrev one : World
one = world_of_grain (block_of_four ∷ []) 0 (Some 0x1000 ∷ []) 0x1000

abbrev two : World
two = world_of_grain (block_of_four ∷ block_of_four ∷ []) 1 (Some 0x1000 ∷ Some 0x1020 ∷ []) 0x1020

one_leaves : world_after_steps empty_world one_grain ≡ one
one_leaves = refl

two_leaves : world_after_steps one gap_filled ≡ two
two_leaves = refl

one_is_legal : IsLegalHistory one_grain
one_is_legal = (
  legal_step tt refl refl tt refl refl refl refl refl refl,
  (
    legal_step tt refl refl tt refl refl refl refl refl refl,
    (
      legal_step tt refl refl tt refl refl refl refl refl refl,
      (
        legal_step tt refl refl tt refl refl refl refl refl refl,
        (
          legal_step tt
              (record { poll = refl; segment = refl }) refl tt refl refl refl refl refl refl,
          (
            legal_step tt refl refl tt refl refl refl refl refl refl,
            tt,
          ),
        ),
      ),
    ),
  ),
)

two_is_legal : IsLegalFrom one gap_filled
two_is_legal = (
  legal_step tt (record { poll = refl; segment = refl }) refl tt refl refl refl refl refl refl,
  (
    legal_step tt (record { poll = refl; segment = refl }) refl tt refl refl refl refl refl refl,
    (
      legal_step tt refl refl tt refl refl refl refl refl refl,
      tt,
    ),
  ),
)

lowest_is_legal : IsLegalFrom two lowest_gap
lowest_is_legal = (
  legal_step (
    record { none_runs = refl; of_zones = refl },
    (
      record {
        gone = record {
          condemned = refl;
          not_settled = refl;
          lost =
              λ path. false_is_not_true (PathLeads-closed _ _ (1 ∷ []) refl refl path);
        };
        not_registered = refl;
      },
      (record { survivors = (inr (begins refl), tt); copied = refl; segments = refl }, tt),
    ),
  )
      (at_rest refl (
      record {
        later = moves.Free (address 0x1000) ∷ moves.End ∷ [];
        whole = refl;
        later_ends = to_end ([]
            ∷ (moves.Free (address 0x1000) ∷ moves.End ∷ [])
            ∷ []) refl
            ((
              scans 1 (record { live = refl; not_weak = refl; may_be_scanned = inr (refl, begins refl) }) scans_no_more,
              refl,
              reclaims (record {
                base = 0x1000;
                freed = 0x1000 ∷ [];
                condemned = refl;
                in_turn = refl;
                ascending = refl;
                in_segment = refl;
                whole = refl;
              }),
            )) refl refl;
        exact = record {
          posts = [];
          posted = refl;
          exact = refl;
          survivors = ((λ path. false_is_not_true (PathLeads-closed _ _ (1 ∷ []) refl refl path)), (begins {id = 1} refl, tt));
        };
      }))
      refl tt refl refl refl refl refl refl,
  (
    legal_step tt (record { poll = refl; segment = refl }) refl tt refl refl refl refl refl refl,
    (
      legal_step tt refl refl tt refl refl refl refl refl refl,
      (
        legal_step tt refl refl tt refl refl refl refl refl refl,
        tt,
      ),
    ),
  ),
)

pub filling_gaps_is_legal : FillingGapsIsLegal
filling_gaps_is_legal =
    IsLegalFrom-then empty_world one one_grain (gap_filled ++ lowest_gap) one_leaves one_is_legal
    (IsLegalFrom-then one two gap_filled lowest_gap two_leaves two_is_legal lowest_is_legal)
