use Rattle.std.proofs.Common.{◌≡◌, refl, [], ◌∷◌, ◌++◌, Some, None}
use Rattle.mps_model.specs.World.{World, empty_world}
use Rattle.mps_model.specs.History.{IsLegalFrom, IsLegalHistory, world_after_steps}
use Rattle.mps_model.proofs.Appending.{IsLegalFrom-then}
use Rattle.mps_model_examples.specs.Script.{grain_segment}
use Rattle.mps_model_examples.specs.Manual.{two_blocks, first_freed, sharing, blocks_world, ManualIsLegal}
use Rattle.mps_model_examples.proofs.Steps.{legal_step}

abbrev both : World
both = blocks_world (Some 0) (grain_segment 0x1000 0 ∷ grain_segment 0x2000 0 ∷ []) (Some 0x1000)

abbrev one_left : World
one_left = blocks_world None (grain_segment 0x2000 0 ∷ []) None

both_leave : world_after_steps empty_world two_blocks ≡ both
both_leave = refl

first_leaves : world_after_steps both first_freed ≡ one_left
first_leaves = refl

both_are_legal : IsLegalHistory two_blocks
both_are_legal = (
  legal_step tt refl refl tt refl refl refl refl refl refl,
  (
    legal_step tt refl refl tt refl refl refl refl refl refl,
    (
      legal_step tt refl refl tt refl refl refl refl refl refl,
      (
        legal_step tt refl refl tt refl refl refl refl refl refl,
        (
          legal_step tt refl refl tt refl refl refl refl refl refl,
          tt,
        ),
      ),
    ),
  ),
)

first_is_legal : IsLegalFrom both first_freed
first_is_legal = (
  legal_step tt refl refl tt refl refl refl refl refl refl,
  (
    legal_step tt refl refl tt refl refl refl refl refl refl,
    (legal_step tt refl refl tt refl refl refl refl refl refl, tt),
  ),
)

sharing_is_legal : IsLegalFrom one_left sharing
sharing_is_legal = (
  legal_step tt refl refl tt refl refl refl refl refl refl,
  (
    legal_step tt refl refl tt refl refl refl refl refl refl,
    (
      legal_step tt refl refl tt refl refl refl refl refl refl,
      (
        legal_step tt refl refl tt refl refl refl refl refl refl,
        (
          legal_step tt refl refl tt refl refl refl refl refl refl,
          (
            legal_step tt refl refl tt refl refl refl refl refl refl,
            (legal_step tt refl refl tt refl refl refl refl refl refl, tt),
          ),
        ),
      ),
    ),
  ),
)

pub manual_is_legal : ManualIsLegal
manual_is_legal =
    IsLegalFrom-then empty_world both two_blocks (first_freed ++ sharing) both_leave both_are_legal
    (IsLegalFrom-then both one_left first_freed sharing first_leaves first_is_legal sharing_is_legal)
