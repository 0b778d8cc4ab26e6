use Rattle.std.proofs.Common.{refl}
use Rattle.mps_model_examples.specs.OneBlock.{OneBlockIsLegal}
use Rattle.mps_model_examples.proofs.Steps.{legal_step}

pub one_block_is_legal : OneBlockIsLegal
one_block_is_legal = (
  legal_step tt refl refl tt refl refl refl refl refl refl,
  (
    legal_step tt refl refl tt refl refl refl refl refl refl,
    (
      legal_step tt refl refl tt refl refl refl refl refl refl,
      (
        legal_step tt refl refl tt refl refl refl refl refl refl,
        (
          legal_step (tt)
              (record { poll = refl; segment = refl }) refl tt refl refl refl refl refl refl,
          (
            legal_step tt refl refl tt refl refl refl refl refl refl,
            (
              legal_step (tt) refl refl tt refl refl refl refl refl refl,
              (legal_step tt refl refl tt refl refl refl refl refl refl, tt),
            ),
          ),
        ),
      ),
    ),
  ),
)
