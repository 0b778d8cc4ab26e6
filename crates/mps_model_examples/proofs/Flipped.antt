use Rattle.std.proofs.Common.{refl, [], ◌∷◌}
use Rattle.mps_base.specs.declared.moves.Move.TheVariants as moves
use Rattle.mps_model.specs.Units.{reclaims}
use Rattle.mps_model_examples.specs.Script.{address}
use Rattle.mps_model_examples.specs.Flipped.{FlippedIsLegal}
use Rattle.mps_model_examples.proofs.Units.{to_end, at_rest}
use Rattle.mps_model_examples.proofs.Steps.{legal_step}

pub flipped_is_legal : FlippedIsLegal
flipped_is_legal = (
  legal_step tt refl refl tt refl refl refl refl refl refl,
  (
    legal_step tt refl refl tt refl refl refl refl refl refl,
    (
      legal_step tt refl refl tt refl refl refl refl refl refl,
      (
        legal_step tt refl refl tt refl refl refl refl refl refl,
        (
          legal_step tt
              (record { poll = refl; segment = refl }) refl tt refl refl refl refl refl refl,
          (
            legal_step (
              record { none_runs = refl; of_zones = refl },
              (
                record { empty = refl; condemned = refl },
                (record { survivors = tt; copied = refl; segments = refl }, tt),
              ),
            )
                (at_rest refl (
                record {
                  later = moves.Unseg (address 0x1000) ∷ moves.End ∷ [];
                  whole = refl;
                  later_ends = to_end ((moves.Unseg (address 0x1000) ∷ moves.End ∷ []) ∷ []) refl
                      (reclaims (record {
                        base = 0x1000;
                        freed = [];
                        condemned = refl;
                        in_turn = refl;
                        ascending = refl;
                        in_segment =
                            refl;
                        whole = refl;
                      })) refl refl;
                  exact = record { posts = []; posted = refl; exact = refl; survivors = tt };
                }))
                refl tt refl refl refl refl refl refl,
            (
              legal_step tt refl refl tt refl refl refl refl refl refl,
              (
                legal_step tt refl refl tt refl refl refl refl refl refl,
                (
                  legal_step tt refl refl tt refl refl refl refl refl refl,
                  (legal_step tt refl refl tt refl refl refl refl refl refl, tt),
                ),
              ),
            ),
          ),
        ),
      ),
    ),
  ),
)
