use Rattle.std.proofs.Common.{◌≡◌, refl, ◌++◌, inl}
use Rattle.mps_model.specs.World.{empty_world}
use Rattle.mps_model.specs.History.{IsLegalFrom, IsLegalHistory, world_after_steps}
use Rattle.mps_model.specs.Units.{scans_no_more, moves_target}
use Rattle.mps_model.proofs.Appending.{IsLegalFrom-then}
use Rattle.mps_model_examples.specs.ReadingOn.{three_in_a_row, row_started, row_read, row_world, row_started_world, ReadingOnIsLegal}
use Rattle.mps_model_examples.proofs.Steps.{legal_step}

pub row_leaves : world_after_steps empty_world three_in_a_row ≡ row_world
row_leaves = refl

pub started_leaves : world_after_steps row_world row_started ≡ row_started_world
started_leaves = refl

pub row_is_legal : IsLegalHistory three_in_a_row
row_is_legal = (
  legal_step tt refl refl tt refl refl refl refl refl refl,
  (
    legal_step tt refl refl tt refl refl refl refl refl refl,
    (
      legal_step tt refl refl tt refl refl refl refl refl refl,
      (
        legal_step tt refl refl tt refl refl refl refl refl refl,
        (
          legal_step tt
              (record { poll = refl; segment = refl }) refl tt refl refl refl refl refl refl,
          (
            legal_step tt refl refl tt refl refl refl refl refl refl,
            (
              legal_step tt (record { poll = refl; segment = refl }) refl tt refl refl refl refl refl refl,
              (
                legal_step tt refl refl tt refl refl refl refl refl refl,
                (
                  legal_step tt refl refl tt refl refl refl refl refl refl,
                  (
                    legal_step tt (record { poll = refl; segment = refl }) refl tt refl refl refl refl refl refl,
                    (
                      legal_step tt refl refl tt refl refl refl refl refl refl,
                      (
                        legal_step tt refl refl tt refl refl refl refl refl refl,
                        (
                          legal_step tt refl refl tt refl refl refl refl refl refl,
                          tt,
                        ),
                      ),
                    ),
                  ),
                ),
              ),
            ),
          ),
        ),
      ),
    ),
  ),
)

pub started_is_legal : IsLegalFrom row_world row_started
started_is_legal = (
  legal_step (
    record { none_runs = refl; of_zones = refl },
    (
      record { first = refl; placement = (refl, refl); of_pool = refl; of_generation = refl },
      (record { tracing = refl; condemned = refl; not_settled = refl; copying = refl; at_placement = refl }, tt),
    ),
  ) refl refl tt refl refl refl refl refl refl,
  tt,
)

read_is_legal : IsLegalFrom row_started_world row_read
read_is_legal = (
  legal_step (
    record { tracing = refl; condemned = refl; not_settled = refl; copying = refl; at_placement = refl },
    (record { tracing = refl; condemned = refl; not_settled = refl; copying = refl; at_placement = refl }, tt),
  ) (inl (moves_target (record { holder = 2; scanned = record { in_segment = refl; may_be_scanned = inl refl }; refers = refl })
      (moves_target (record { holder = 1; scanned = record { in_segment = refl; may_be_scanned = inl refl }; refers = refl }) scans_no_more)
      )) refl tt refl refl refl refl refl refl,
  (
    legal_step tt (inl scans_no_more) refl tt refl refl refl refl refl refl,
    (
      legal_step tt refl refl tt refl refl refl refl refl refl,
      tt,
    ),
  ),
)

pub reading_on_is_legal : ReadingOnIsLegal
reading_on_is_legal =
    IsLegalFrom-then empty_world row_world three_in_a_row (row_started ++ row_read) row_leaves row_is_legal
    (IsLegalFrom-then row_world row_started_world row_started row_read started_leaves started_is_legal read_is_legal)
