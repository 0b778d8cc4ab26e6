use Rattle.std.proofs.Common.{◌≡◌, refl}
use Rattle.mps_model.specs.World.{empty_world}
use Rattle.mps_model.specs.History.{IsLegalFrom, IsLegalHistory, world_after_steps}
use Rattle.mps_model.proofs.Appending.{IsLegalFrom-then}
use Rattle.mps_model_examples.specs.OneSize.{block_made, place_used_again, one_size_world, OneSizeIsLegal}
use Rattle.mps_model_examples.proofs.Steps.{legal_step}

made_leaves : world_after_steps empty_world block_made ≡ one_size_world
made_leaves = refl

made_is_legal : IsLegalHistory block_made
made_is_legal = (
  legal_step tt refl refl tt refl refl refl refl refl refl,
  (
    legal_step tt refl refl tt refl refl refl refl refl refl,
    (
      legal_step tt refl refl tt refl refl refl refl refl refl,
      (
        legal_step tt refl refl tt refl refl refl refl refl refl,
        tt,
      ),
    ),
  ),
)

again_is_legal : IsLegalFrom one_size_world place_used_again
again_is_legal = (
  legal_step tt refl refl tt refl refl refl refl refl refl,
  (
    legal_step tt refl refl tt refl refl refl refl refl refl,
    (
      legal_step tt refl refl tt refl refl refl refl refl refl,
      (
        legal_step tt refl refl tt refl refl refl refl refl refl,
        tt,
      ),
    ),
  ),
)

pub one_size_is_legal : OneSizeIsLegal
one_size_is_legal = IsLegalFrom-then empty_world one_size_world block_made place_used_again made_leaves made_is_legal again_is_legal
