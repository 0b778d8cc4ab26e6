use Rattle.std.proofs.Common.{◌≡◌, refl, [], ◌∷◌, ◌++◌, inl}
use Rattle.mps_base.specs.declared.moves.Move.TheVariants as moves
use Rattle.mps_model.specs.World.{empty_world}
use Rattle.mps_model.specs.History.{IsLegalFrom, world_after_steps}
use Rattle.mps_model.specs.Units.{scans, scans_no_more, moves_target, reclaims}
use Rattle.mps_model.proofs.Appending.{IsLegalFrom-then}
use Rattle.mps_model_examples.specs.Script.{address}
use Rattle.mps_model_examples.specs.ReadingOn.{three_in_a_row, row_started, row_world, row_started_world}
use Rattle.mps_model_examples.specs.Stepping.{row_scanned, row_ended, row_moved_world, SteppingIsLegal}
use Rattle.mps_model_examples.proofs.ReadingOn.{row_leaves, started_leaves, row_is_legal, started_is_legal}
use Rattle.mps_model_examples.proofs.Units.{exactly}
use Rattle.mps_model_examples.proofs.Steps.{legal_step}

scanned_leaves : world_after_steps row_started_world row_scanned ≡ row_moved_world
scanned_leaves = refl

scanned_is_legal : IsLegalFrom row_started_world row_scanned
scanned_is_legal = (
  legal_step (record { tracing = refl; condemned = refl; not_settled = refl; copying = refl; at_placement = refl }, tt)
      (exactly ((moves.Moved (address 0x1018) (address 0x2018) ∷ [])
      ∷ []) refl
      (scans 2 (record { live = refl; not_weak = refl; may_be_scanned = inl refl })
      (moves_target (record { holder = 2; scanned = refl; refers = refl }) scans_no_more)) refl refl)
      refl tt refl refl refl refl refl refl,
  (
    legal_step (record { tracing = refl; condemned = refl; not_settled = refl; copying = refl; at_placement = refl }, tt)
        (exactly ((moves.Moved (address 0x1000) (address 0x2030) ∷ [])
        ∷ []) refl
        (scans 1 (record { live = refl; not_weak = refl; may_be_scanned = inl refl })
        (moves_target (record { holder = 1; scanned = refl; refers = refl }) scans_no_more)) refl refl)
        refl tt refl refl refl refl refl refl,
    tt,
  ),
)

ended_is_legal : IsLegalFrom row_moved_world row_ended
ended_is_legal = (
  legal_step tt
      (exactly ([]
      ∷ []) refl
      (scans 0 (record { live = refl; not_weak = refl; may_be_scanned = inl refl }) scans_no_more) refl refl)
      refl tt refl refl refl refl refl refl,
  (
    legal_step (
      record { empty = refl; condemned = refl },
      (record { survivors = (inl refl, (inl refl, (inl refl, tt))); copied = refl; segments = refl }, tt),
    )
        (exactly ((moves.Unseg (address 0x1000) ∷ moves.End ∷ [])
        ∷ []) refl
        (reclaims (record {
          base = 0x1000;
          freed = [];
          condemned = refl;
          in_turn = refl;
          ascending = refl;
          in_segment = refl;
          whole = refl;
        })) refl refl)
        refl tt refl refl refl refl refl refl,
    tt,
  ),
)

pub stepping_is_legal : SteppingIsLegal
stepping_is_legal =
    IsLegalFrom-then empty_world row_world three_in_a_row (row_started ++ (row_scanned ++ row_ended)) row_leaves row_is_legal
    (IsLegalFrom-then row_world row_started_world row_started (row_scanned ++ row_ended) started_leaves started_is_legal
    (IsLegalFrom-then row_started_world row_moved_world row_scanned row_ended scanned_leaves scanned_is_legal ended_is_legal))
