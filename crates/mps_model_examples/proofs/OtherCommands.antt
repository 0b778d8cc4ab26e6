use Rattle.std.proofs.Common.{◌≡◌, refl, [], ◌∷◌, ◌++◌, Some, None}
use Rattle.mps_model.specs.Graph.{PlainWord, Hold}
use Rattle.mps_model.specs.World.{World, empty_world}
use Rattle.mps_model.specs.History.{IsLegalFrom, IsLegalHistory, world_after_steps}
use Rattle.mps_model.proofs.Appending.{IsLegalFrom-then}
use Rattle.mps_model_examples.specs.OtherCommands as commands
use Rattle.mps_model_examples.specs.OtherCommands.{one_mapped, area_written, roots_dropped, cells_made, written_cells, mapped_world, OtherCommandsIsLegal}
use Rattle.mps_model_examples.proofs.Steps.{legal_step}

-- the block as it was made, as it was written, and with area words
abbrev made : World
made = mapped_world cells_made None (PlainWord 0 ∷ PlainWord 0 ∷ [])

abbrev written : World
written = mapped_world written_cells (Some 0) (PlainWord 0 ∷ PlainWord 0 ∷ [])

abbrev pinned : World
pinned = mapped_world written_cells (Some 0) (Hold 0 0 ∷ PlainWord 5 ∷ [])

made_leaves : world_after_steps empty_world one_mapped ≡ made
made_leaves = refl

written_leaves : world_after_steps made commands.written ≡ written
written_leaves = refl

read_leaves : world_after_steps written commands.read ≡ written
read_leaves = refl

pinned_leaves : world_after_steps written area_written ≡ pinned
pinned_leaves = refl

made_is_legal : IsLegalHistory one_mapped
made_is_legal = (
  legal_step tt refl refl tt refl refl refl refl refl refl,
  (
    legal_step tt refl refl tt refl refl refl refl refl refl,
    (
      legal_step tt refl refl tt refl refl refl refl refl refl,
      (
        legal_step tt refl refl tt refl refl refl refl refl refl,
        (
          legal_step tt refl refl tt refl refl refl refl refl refl,
          (
            legal_step tt refl refl tt refl refl refl refl refl refl,
            (
              legal_step tt
                  (record { poll = refl; segment = refl }) refl tt refl refl refl refl refl refl,
              (
                legal_step tt refl refl tt refl refl refl refl refl refl,
                tt,
              ),
            ),
          ),
        ),
      ),
    ),
  ),
)

written_is_legal : IsLegalFrom made commands.written
written_is_legal = (
  legal_step tt refl refl tt refl refl refl refl refl refl,
  (
    legal_step tt refl refl tt refl refl refl refl refl refl,
    (
      legal_step tt refl refl tt refl refl refl refl refl refl,
      tt,
    ),
  ),
)

read_is_legal : IsLegalFrom written commands.read
read_is_legal = (
  legal_step tt refl refl tt refl refl refl refl refl refl,
  (
    legal_step tt refl refl tt refl refl refl refl refl refl,
    (
      legal_step tt refl refl tt refl refl refl refl refl refl,
      tt,
    ),
  ),
)

pinned_is_legal : IsLegalFrom written area_written
pinned_is_legal = (
  legal_step tt refl refl tt refl refl refl refl refl refl,
  (
    legal_step tt refl refl tt refl refl refl refl refl refl,
    (
      legal_step tt refl refl tt refl refl refl refl refl refl,
      tt,
    ),
  ),
)

dropped_is_legal : IsLegalFrom pinned roots_dropped
dropped_is_legal = (
  legal_step tt refl refl tt refl refl refl refl refl refl,
  (
    legal_step tt refl refl tt refl refl refl refl refl refl,
    (
      legal_step tt refl refl tt refl refl refl refl refl refl,
      (
        legal_step tt refl refl tt refl refl refl refl refl refl,
        (
          legal_step tt refl refl tt refl refl refl refl refl refl,
          tt,
        ),
      ),
    ),
  ),
)

pub other_commands_is_legal : OtherCommandsIsLegal
other_commands_is_legal =
    IsLegalFrom-then empty_world made one_mapped (commands.written
    ++ (commands.read ++ (area_written ++ roots_dropped))) made_leaves made_is_legal
    (IsLegalFrom-then made written commands.written (commands.read ++ (area_written ++ roots_dropped)) written_leaves written_is_legal
    (IsLegalFrom-then written written commands.read (area_written ++ roots_dropped) read_leaves read_is_legal
    (IsLegalFrom-then written pinned area_written roots_dropped pinned_leaves pinned_is_legal dropped_is_legal)))
