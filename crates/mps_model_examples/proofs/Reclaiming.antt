use Rattle.std.proofs.Common.{◌≡◌, refl, [], ◌∷◌, ◌++◌, Some, None}
use Rattle.mps_base.specs.declared.moves.Move.TheVariants as moves
use Rattle.mps_model.specs.Collection.{Tracing, Reclaiming}
use Rattle.mps_model.specs.World.{World, empty_world}
use Rattle.mps_model.specs.History.{IsLegalFrom, IsLegalHistory, world_after_steps}
use Rattle.mps_model.specs.Units.{reclaims}
use Rattle.mps_model.proofs.Appending.{IsLegalFrom-then}
use Rattle.mps_model.proofs.Reaching.{PathLeads-closed}
use Rattle.mps_model_examples.specs.Script.{address, grain_segment}
use Rattle.mps_model_examples.specs.Reclaiming.{two_to_reclaim, lower_first, upper_last, dropped_world, collection_of_dropped, ReclaimingIsLegal}
use Rattle.mps_model_examples.proofs.Refusing.{false_is_not_true}
use Rattle.mps_model_examples.proofs.Units.{exactly}
use Rattle.mps_model_examples.proofs.Steps.{legal_step}

-- a collection was begun; and one segment is reclaimed
abbrev begun : World
begun =
    dropped_world (grain_segment 0x1000 0 ∷ grain_segment 0x2000 1 ∷ []) (Some 0x1000)
    (collection_of_dropped (0x1000 ∷ 0x2000 ∷ []) Tracing 0 0)

abbrev half_reclaimed : World
half_reclaimed =
    dropped_world (grain_segment 0x2000 1 ∷ []) None (collection_of_dropped (0x2000 ∷ []) Reclaiming 0x1000 1)

begin_leaves : world_after_steps empty_world two_to_reclaim ≡ begun
begin_leaves = refl

lower_leaves : world_after_steps begun lower_first ≡ half_reclaimed
lower_leaves = refl

begin_is_legal : IsLegalHistory two_to_reclaim
begin_is_legal = (
  legal_step tt refl refl tt refl refl refl refl refl refl,
  (
    legal_step tt refl refl tt refl refl refl refl refl refl,
    (
      legal_step tt refl refl tt refl refl refl refl refl refl,
      (
        legal_step tt refl refl tt refl refl refl refl refl refl,
        (
          legal_step tt refl refl tt refl refl refl refl refl refl,
          (
            legal_step tt refl refl tt refl refl refl refl refl refl,
            (
              legal_step tt
                  (record { poll = refl; segment = refl }) refl tt refl refl refl refl refl refl,
              (
                legal_step tt refl refl tt refl refl refl refl refl refl,
                (
                  legal_step tt
                      (record { poll = refl; segment = refl }) refl tt refl refl refl refl refl refl,
                  (
                    legal_step tt refl refl tt refl refl refl refl refl refl,
                    (
                      legal_step tt refl refl tt refl refl refl refl refl refl,
                      (
                        legal_step (record { none_runs = refl; of_zones = refl }, tt) refl refl tt refl refl refl refl refl refl,
                        tt,
                      ),
                    ),
                  ),
                ),
              ),
            ),
          ),
        ),
      ),
    ),
  ),
)

lower_is_legal : IsLegalFrom begun lower_first
lower_is_legal = (
  legal_step (
    record {
      gone = record {
        condemned = refl;
        not_settled = refl;
        lost =
            λ path. false_is_not_true (PathLeads-closed _ _ [] refl refl path);
      };
      not_registered = refl;
    },
    (record { empty = refl; condemned = refl }, tt),
  )
      (exactly ((moves.Free (address 0x1000) ∷ moves.Unseg (address 0x1000) ∷ []) ∷ []) refl
      (reclaims (record {
        base = 0x1000;
        freed = 0x1000 ∷ [];
        condemned = refl;
        in_turn = refl;
        ascending = refl;
        in_segment =
            refl;
        whole = refl;
      })) refl refl)
      refl tt refl refl refl refl refl refl,
  (
    legal_step tt refl refl tt refl refl refl refl refl refl,
    (
      legal_step tt refl refl tt refl refl refl refl refl refl,
      (
        legal_step tt refl refl tt refl refl refl refl refl refl,
        tt,
      ),
    ),
  ),
)

upper_is_legal : IsLegalFrom half_reclaimed upper_last
upper_is_legal = (
  legal_step (
    record {
      gone = record {
        condemned = refl;
        not_settled = refl;
        lost =
            λ path. false_is_not_true (PathLeads-closed _ _ [] refl refl path);
      };
      not_registered = refl;
    },
    (record { empty = refl; condemned = refl }, (record { survivors = tt; copied = refl; segments = refl }, tt)),
  )
      (exactly ((moves.Free (address 0x2000) ∷ moves.Unseg (address 0x2000) ∷ moves.End ∷ []) ∷ []) refl
      (reclaims (record {
        base = 0x2000;
        freed = 0x2000 ∷ [];
        condemned = refl;
        in_turn = refl;
        ascending = refl;
        in_segment =
            refl;
        whole = refl;
      })) refl refl)
      refl tt refl refl refl refl refl refl,
  (
    legal_step tt refl refl tt refl refl refl refl refl refl,
    tt,
  ),
)

pub reclaiming_is_legal : ReclaimingIsLegal
reclaiming_is_legal =
    IsLegalFrom-then empty_world begun two_to_reclaim (lower_first ++ upper_last) begin_leaves begin_is_legal
    (IsLegalFrom-then begun half_reclaimed lower_first upper_last lower_leaves lower_is_legal upper_is_legal)
