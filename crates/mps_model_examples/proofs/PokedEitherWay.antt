use Rattle.std.proofs.Common.{◌≡◌, refl, [], ◌∷◌, ◌++◌, inl, arith}
use Rattle.mps_base.specs.declared.moves.Move.TheVariants as moves
use Rattle.mps_model.specs.World.{empty_world}
use Rattle.mps_model.specs.Step.{History}
use Rattle.mps_model.specs.History.{IsLegalFrom, IsLegalHistory, world_after_steps}
use Rattle.mps_model.specs.Reachable.{begins, goes_on}
use Rattle.mps_model.specs.Units.{reclaims}
use Rattle.mps_model.proofs.Appending.{IsLegalFrom-then}
use Rattle.mps_model.proofs.Reaching.{PathLeads-closed}
use Rattle.mps_model_examples.specs.Script.{address}
use Rattle.mps_model_examples.specs.PokedEitherWay.{linked_in_place, unlinked, as_block, as_number, linked_in_place_world, unlinked_world, PokedEitherWayIsLegal}
use Rattle.mps_model_examples.proofs.Refusing.{false_is_not_true}
use Rattle.mps_model_examples.proofs.Units.{at_most}
use Rattle.mps_model_examples.proofs.Steps.{legal_step}

linked_leaves : world_after_steps empty_world linked_in_place ≡ linked_in_place_world
linked_leaves = refl

unlinked_leaves : world_after_steps linked_in_place_world unlinked ≡ unlinked_world
unlinked_leaves = refl

linked_is_legal : IsLegalHistory linked_in_place
linked_is_legal = (
  legal_step tt refl refl tt refl refl refl refl refl refl,
  (
    legal_step tt refl refl tt refl refl refl refl refl refl,
    (
      legal_step tt refl refl tt refl refl refl refl refl refl,
      (
        legal_step tt refl refl tt refl refl refl refl refl refl,
        (
          legal_step tt refl refl tt refl refl refl refl refl refl,
          (
            legal_step tt
                (record { poll = refl; segment = refl }) refl tt refl refl refl refl refl refl,
            (
              legal_step tt refl refl tt refl refl refl refl refl refl,
              (
                legal_step tt (record { poll = refl; segment = refl }) refl tt refl refl refl refl refl refl,
                (
                  legal_step tt refl refl tt refl refl refl refl refl refl,
                  (
                    legal_step tt refl refl tt refl refl refl refl refl refl,
                    (
                      legal_step tt refl refl tt refl refl refl refl refl refl,
                      tt,
                    ),
                  ),
                ),
              ),
            ),
          ),
        ),
      ),
    ),
  ),
)

unlinked_is_legal : IsLegalFrom linked_in_place_world unlinked
unlinked_is_legal = (
  legal_step (record { none_runs = refl; of_zones = refl }, tt) refl refl tt refl refl refl refl refl refl,
  (
    legal_step tt refl refl tt refl refl refl refl refl refl,
    tt,
  ),
)

block_is_legal : IsLegalFrom unlinked_world as_block
block_is_legal = (
  legal_step tt refl refl (goes_on (begins {id = 1} refl) refl) refl refl refl refl refl refl,
  (
    legal_step (record { survivors = (inl refl, (inl refl, tt)); copied = refl; segments = refl }, tt)
        (at_most ((moves.End ∷ [])
        ∷ []) refl
        (reclaims (record {
          base = 0x1000;
          freed = [];
          condemned = refl;
          in_turn = refl;
          ascending = refl;
          in_segment = refl;
          whole = refl;
        })) refl (omega arith) refl)
        refl tt refl refl refl refl refl refl,
    (
      legal_step tt refl refl tt refl refl refl refl refl refl,
      tt,
    ),
  ),
)

number_is_legal : IsLegalFrom unlinked_world as_number
number_is_legal = (
  legal_step tt refl refl tt refl refl refl refl refl refl,
  (
    legal_step (
      record {
        gone = record {
          condemned = refl;
          not_settled = refl;
          lost =
              λ path. false_is_not_true (PathLeads-closed _ _ (1 ∷ []) refl refl path);
        };
        not_registered = refl;
      },
      (record { survivors = (inl refl, tt); copied = refl; segments = refl }, tt),
    )
        (at_most ((moves.Free (address 0x1000) ∷ moves.End ∷ [])
        ∷ []) refl
        (reclaims (record {
          base = 0x1000;
          freed = 0x1000 ∷ [];
          condemned = refl;
          in_turn = refl;
          ascending = refl;
          in_segment =
              refl;
          whole = refl;
        })) refl (omega arith) refl)
        refl tt refl refl refl refl refl refl,
    (
      legal_step tt refl refl tt refl refl refl refl refl refl,
      tt,
    ),
  ),
)

-- a history that goes on after the poke is legal
goes_on_legally : (more : History) → IsLegalFrom unlinked_world more → IsLegalHistory (linked_in_place ++ (unlinked ++ more))
goes_on_legally more legal =
    IsLegalFrom-then empty_world linked_in_place_world linked_in_place (unlinked ++ more) linked_leaves linked_is_legal
    (IsLegalFrom-then linked_in_place_world unlinked_world unlinked more unlinked_leaves unlinked_is_legal legal)

pub poked_either_way_is_legal : PokedEitherWayIsLegal
poked_either_way_is_legal = (goes_on_legally as_block block_is_legal, goes_on_legally as_number number_is_legal)
