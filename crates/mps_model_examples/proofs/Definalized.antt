use Rattle.std.proofs.Common.{◌≡◌, refl, [], ◌∷◌, ◌++◌, inl, Some, None, arith}
use Rattle.mps_base.specs.declared.moves.Move.TheVariants as moves
use Rattle.mps_model.specs.World.{World, empty_run, empty_world}
use Rattle.mps_model.specs.History.{IsLegalFrom, IsLegalHistory, world_after_steps}
use Rattle.mps_model.specs.Units.{scans, scans_no_more, reclaims}
use Rattle.mps_model.proofs.Appending.{IsLegalFrom-then}
use Rattle.mps_model_examples.specs.Script.{address, grain_segment, words, tail}
use Rattle.mps_model_examples.specs.Definalized.{registered_once, registered_anew, not_posted, registered_world, collection_of_registered, DefinalizedIsLegal}
use Rattle.mps_model_examples.proofs.Units.{at_most}
use Rattle.mps_model_examples.proofs.Steps.{legal_step}

-- registered once, before the collection; and while it runs
abbrev once : World
once = registered_world (Some 0) (grain_segment 0x1000 0 ∷ []) 0x1000 (words 514 510) [] [] None

abbrev anew : World
anew =
    registered_world None (grain_segment 0x1000 0 ∷ grain_segment 0x2000 0 ∷ []) 0x2000 empty_run (tail 1026 510) (2 ∷ [])
    (Some collection_of_registered)

once_leaves : world_after_steps empty_world registered_once ≡ once
once_leaves = refl

anew_leaves : world_after_steps once registered_anew ≡ anew
anew_leaves = refl

once_is_legal : IsLegalHistory registered_once
once_is_legal = (
  legal_step tt refl refl tt refl refl refl refl refl refl,
  (
    legal_step tt refl refl tt refl refl refl refl refl refl,
    (
      legal_step tt refl refl tt refl refl refl refl refl refl,
      (
        legal_step tt refl refl tt refl refl refl refl refl refl,
        (
          legal_step tt
              (record { poll = refl; segment = refl }) refl tt refl refl refl refl refl refl,
          (
            legal_step tt refl refl tt refl refl refl refl refl refl,
            (
              legal_step tt refl refl tt refl refl refl refl refl refl,
              (
                legal_step tt refl refl tt refl refl refl refl refl refl,
                (
                  legal_step tt refl refl tt refl refl refl refl refl refl,
                  (
                    legal_step tt refl refl tt refl refl refl refl refl refl,
                    tt,
                  ),
                ),
              ),
            ),
          ),
        ),
      ),
    ),
  ),
)

anew_is_legal : IsLegalFrom once registered_anew
anew_is_legal = (
  legal_step (
    record { none_runs = refl; of_zones = refl },
    (
      record { first = refl; placement = (refl, refl); of_pool = refl; of_generation = refl },
      (record { tracing = refl; condemned = refl; not_settled = refl; copying = refl; at_placement = refl }, tt),
    ),
  ) refl refl tt refl refl refl refl refl refl,
  (
    legal_step tt refl refl tt refl refl refl refl refl refl,
    (
      legal_step tt refl refl tt refl refl refl refl refl refl,
      (
        legal_step tt refl refl tt refl refl refl refl refl refl,
        tt,
      ),
    ),
  ),
)

rest_is_legal : IsLegalFrom anew not_posted
rest_is_legal = (
  legal_step (
    record { empty = refl; condemned = refl },
    (record { survivors = (inl refl, tt); copied = refl; segments = refl }, tt),
  )
      (at_most ([]
      ∷ (moves.Unseg (address 0x1000) ∷ moves.End ∷ [])
      ∷ []) refl
      ((
        scans 0 (record { live = refl; not_weak = refl; may_be_scanned = inl refl }) scans_no_more,
        refl,
        reclaims (record {
          base = 0x1000;
          freed = [];
          condemned = refl;
          in_turn = refl;
          ascending = refl;
          in_segment = refl;
          whole =
              refl;
        }),
      )) refl (omega arith) refl)
      refl tt refl refl refl refl refl refl,
  (
    legal_step tt refl refl tt refl refl refl refl refl refl,
    tt,
  ),
)

pub definalized_is_legal : DefinalizedIsLegal
definalized_is_legal =
    IsLegalFrom-then empty_world once registered_once (registered_anew ++ not_posted) once_leaves once_is_legal
    (IsLegalFrom-then once anew registered_anew not_posted anew_leaves anew_is_legal rest_is_legal)
