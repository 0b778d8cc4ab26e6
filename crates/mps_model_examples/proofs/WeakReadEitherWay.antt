use Rattle.std.proofs.Common.{◌≡◌, refl, [], ◌∷◌, ◌++◌, inl, inr, Some, None, arith}
use Rattle.mps_base.specs.declared.moves.Move.TheVariants as moves
use Rattle.mps_model.specs.Collection.{Tracing, Splatting}
use Rattle.mps_model.specs.World.{World, empty_world}
use Rattle.mps_model.specs.Step.{History}
use Rattle.mps_model.specs.History.{IsLegalFrom, IsLegalHistory, world_after_steps}
use Rattle.mps_model.specs.Units.{scans, scans_no_more, moves_target_to_segment, reclaims}
use Rattle.mps_model.proofs.Appending.{IsLegalFrom-then}
use Rattle.mps_model.proofs.Reaching.{PathLeads-closed}
use Rattle.mps_model_examples.specs.Script.{address, grain_segment, tail}
use Rattle.mps_model_examples.specs.WeakReadEitherWay.{weakly_held, read_moving, kept, read_splatting, gone, weakly_graph, weak_segment, weakly_world, WeakReadEitherWayIsLegal}
use Rattle.mps_model_examples.proofs.Refusing.{false_is_not_true}
use Rattle.mps_model_examples.proofs.Units.{at_most}
use Rattle.mps_model_examples.proofs.Steps.{legal_step}

-- a collection was begun; then the block was moved; or the reference was splatted
abbrev begun : World
begun = weakly_world (weakly_graph None (Some 0)) (grain_segment 0x1000 0 ∷ weak_segment ∷ []) 0x1000 [] [] (1 ∷ []) Tracing

abbrev moved : World
moved =
    weakly_world (weakly_graph (Some 0) (Some 0)) (grain_segment 0x1000 0 ∷ weak_segment ∷ grain_segment 0x3000 0 ∷ []) 0x3000
    (tail 1538 510)
    (0 ∷ []) (0 ∷ 1 ∷ 1 ∷ []) Tracing

abbrev splatted : World
splatted = weakly_world (weakly_graph None None) (grain_segment 0x1000 0 ∷ weak_segment ∷ []) 0x1000 [] [] (1 ∷ 1 ∷ []) Splatting

begin_leaves : world_after_steps empty_world weakly_held ≡ begun
begin_leaves = refl

moved_leaves : world_after_steps begun (read_moving ∷ []) ≡ moved
moved_leaves = refl

splatted_leaves : world_after_steps begun (read_splatting ∷ []) ≡ splatted
splatted_leaves = refl

begin_is_legal : IsLegalHistory weakly_held
begin_is_legal = (
  legal_step tt refl refl tt refl refl refl refl refl refl,
  (
    legal_step tt refl refl tt refl refl refl refl refl refl,
    (
      legal_step tt refl refl tt refl refl refl refl refl refl,
      (
        legal_step tt refl refl tt refl refl refl refl refl refl,
        (
          legal_step tt refl refl tt refl refl refl refl refl refl,
          (
            legal_step tt refl refl tt refl refl refl refl refl refl,
            (
              legal_step tt
                  (record { poll = refl; segment = refl }) refl tt refl refl refl refl refl refl,
              (
                legal_step tt refl refl tt refl refl refl refl refl refl,
                (
                  legal_step tt
                      (record { poll = refl; segment = refl }) refl tt refl refl refl refl refl refl,
                  (
                    legal_step tt refl refl tt refl refl refl refl refl refl,
                    (
                      legal_step tt refl refl tt refl refl refl refl refl refl,
                      (
                        legal_step tt refl refl tt refl refl refl refl refl refl,
                        (
                          legal_step (record { none_runs = refl; of_zones = refl }, tt) refl refl tt refl refl refl refl refl refl,
                          tt,
                        ),
                      ),
                    ),
                  ),
                ),
              ),
            ),
          ),
        ),
      ),
    ),
  ),
)

moved_is_legal : IsLegalFrom begun (read_moving ∷ [])
moved_is_legal = (
  legal_step (
    record { first = refl; placement = (refl, refl); of_pool = refl; of_generation = refl },
    (record { tracing = refl; condemned = refl; not_settled = refl; copying = refl; at_placement = refl }, tt),
  )
      (inl (moves_target_to_segment
      (record { holder = 1; scanned = record { in_segment = refl; may_be_scanned = inl refl }; refers = refl }) scans_no_more))
      refl tt refl refl refl refl refl refl,
  tt,
)

kept_is_legal : IsLegalFrom moved kept
kept_is_legal = (
  legal_step tt refl refl tt refl refl refl refl refl refl,
  (
    legal_step (
      record { empty = refl; condemned = refl },
      (record { survivors = (inl refl, (inl refl, tt)); copied = refl; segments = refl }, tt),
    )
        (at_most ([]
        ∷ (moves.Unseg (address 0x1000) ∷ [])
        ∷ (moves.End ∷ [])
        ∷ []) refl
        ((
          scans 0 (record { live = refl; not_weak = refl; may_be_scanned = inl refl }) scans_no_more,
          refl,
          (
            reclaims (record {
              base = 0x1000;
              freed = [];
              condemned = refl;
              in_turn = refl;
              ascending = refl;
              in_segment = refl;
              whole =
                  refl;
            }),
            refl,
            reclaims (record {
              base = 0x2000;
              freed = [];
              condemned = refl;
              in_turn = refl;
              ascending = refl;
              in_segment = refl;
              whole =
                  refl;
            }),
          ),
        )) refl (omega arith) refl)
        refl tt refl refl refl refl refl refl,
    tt,
  ),
)

splatted_is_legal : IsLegalFrom begun (read_splatting ∷ [])
splatted_is_legal = (
  legal_step (
    record {
      phase = refl;
      weak = refl;
      scanned = inl refl;
      target_is_gone = record {
        condemned = refl;
        not_settled = refl;
        lost =
            λ path. false_is_not_true (PathLeads-closed _ _ (1 ∷ []) refl refl path);
      };
    },
    tt,
  ) (inr refl) refl tt refl refl refl refl refl refl,
  tt,
)

gone_is_legal : IsLegalFrom splatted gone
gone_is_legal = (
  legal_step tt refl refl tt refl refl refl refl refl refl,
  (
    legal_step (
      record {
        gone = record {
          condemned = refl;
          not_settled = refl;
          lost =
              λ path. false_is_not_true (PathLeads-closed _ _ (1 ∷ []) refl refl path);
        };
        not_registered = refl;
      },
      (
        record { empty = refl; condemned = refl },
        (record { survivors = (inl refl, tt); copied = refl; segments = refl }, tt),
      ),
    )
        (at_most ((moves.Free (address 0x1000) ∷ moves.Unseg (address 0x1000) ∷ [])
        ∷ (moves.End ∷ [])
        ∷ []) refl
        ((
          reclaims (record {
            base = 0x1000;
            freed = 0x1000 ∷ [];
            condemned = refl;
            in_turn = refl;
            ascending = refl;
            in_segment = refl;
            whole = refl;
          }),
          refl,
          reclaims (record {
            base = 0x2000;
            freed = [];
            condemned = refl;
            in_turn = refl;
            ascending = refl;
            in_segment = refl;
            whole =
                refl;
          }),
        )) refl (omega arith) refl)
        refl tt refl refl refl refl refl refl,
    tt,
  ),
)

-- what is legal after the start of the collection
begun_then : (more : History) → IsLegalFrom begun more → IsLegalHistory (weakly_held ++ more)
begun_then more legal = IsLegalFrom-then empty_world begun weakly_held more begin_leaves begin_is_legal legal

pub weak_read_either_way_is_legal : WeakReadEitherWayIsLegal
weak_read_either_way_is_legal = (
  begun_then (read_moving ∷ kept) (IsLegalFrom-then begun moved (read_moving ∷ []) kept moved_leaves moved_is_legal kept_is_legal),
  begun_then (read_splatting ∷ gone) (IsLegalFrom-then begun splatted (read_splatting
      ∷ []) gone splatted_leaves splatted_is_legal gone_is_legal),
)
