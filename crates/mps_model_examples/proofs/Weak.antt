use Rattle.std.proofs.Common.{◌≡◌, refl, [], ◌∷◌, ◌++◌, inr, true, false, Some, None}
use Rattle.mps_model.specs.World.{World, Unclamped, Parked, empty_world}
use Rattle.mps_model.specs.History.{IsLegalFrom, IsLegalHistory, world_after_steps}
use Rattle.mps_model.specs.Units.{splats, reclaims}
use Rattle.mps_model.proofs.Appending.{IsLegalFrom-then}
use Rattle.mps_base.specs.declared.moves.Move.TheVariants as moves
use Rattle.mps_model.specs.Reachable.{begins}
use Rattle.mps_model.proofs.Reaching.{PathLeads-closed}
use Rattle.mps_model_examples.specs.Script.{address}
use Rattle.mps_model_examples.specs.Weak.{WeakIsLegal, weak_world, weak_pair, target_dropped, splatted}
use Rattle.mps_model_examples.proofs.Units.{to_end, at_rest}
use Rattle.mps_model_examples.proofs.Steps.{legal_step}

false_is_not_true : false ≡ true → ⊥
false_is_not_true h = absurd cc

-- both objects are held, and no collection was
abbrev pub held_world : World
held_world = weak_world (Some 0) (Some 1) [] Unclamped

-- the weak object is held alone, after one collection
abbrev dropped_world : World
dropped_world = weak_world None (Some 1) (0 ∷ []) (Parked [])

pub pair_leaves : world_after_steps empty_world weak_pair ≡ held_world
pair_leaves = refl

dropped_leaves : world_after_steps held_world target_dropped ≡ dropped_world
dropped_leaves = refl

pair_is_legal : IsLegalHistory weak_pair
pair_is_legal = (
  legal_step tt refl refl tt refl refl refl refl refl refl,
  (
    legal_step tt refl refl tt refl refl refl refl refl refl,
    (
      legal_step tt refl refl tt refl refl refl refl refl refl,
      (
        legal_step tt refl refl tt refl refl refl refl refl refl,
        (
          legal_step tt refl refl tt refl refl refl refl refl refl,
          (
            legal_step tt
                (record { poll = refl; segment = refl }) refl tt refl refl refl refl refl refl,
            (
              legal_step tt refl refl tt refl refl refl refl refl refl,
              (
                legal_step tt
                    (record { poll = refl; segment = refl }) refl tt refl refl refl refl refl refl,
                (
                  legal_step tt refl refl tt refl refl refl refl refl refl,
                  (
                    legal_step tt refl refl tt refl refl refl refl refl refl,
                    tt,
                  ),
                ),
              ),
            ),
          ),
        ),
      ),
    ),
  ),
)

dropped_is_legal : IsLegalFrom held_world target_dropped
dropped_is_legal = (
  legal_step (
    record { none_runs = refl; of_zones = refl },
    (record { survivors = (inr (begins refl), (inr (begins refl), tt)); copied = refl; segments = refl }, tt),
  )
      (at_rest refl (
      record {
        later = moves.End ∷ [];
        whole = refl;
        later_ends = to_end ((moves.End ∷ []) ∷ []) refl
            (reclaims (record {
              base = 0x2000;
              freed = [];
              condemned = refl;
              in_turn = refl;
              ascending = refl;
              in_segment = refl;
              whole = refl;
            })) refl refl;
        exact = record { posts = []; posted = refl; exact = refl; survivors = (begins refl, (begins refl, tt)) };
      }))
      refl tt refl refl refl refl refl refl,
  (
    legal_step tt refl refl tt refl refl refl refl refl refl,
    (
      legal_step tt refl refl tt refl refl refl refl refl refl,
      (
        legal_step tt refl refl tt refl refl refl refl refl refl,
        (
          legal_step tt refl refl tt refl refl refl refl refl refl,
          tt,
        ),
      ),
    ),
  ),
)

splatted_is_legal : IsLegalFrom dropped_world splatted
splatted_is_legal = (
  legal_step (
    record { none_runs = refl; of_zones = refl },
    (
      record {
        phase = refl;
        weak = refl;
        scanned = inr (refl, begins refl);
        target_is_gone = record {
          condemned = refl;
          not_settled = refl;
          lost =
              λ path. false_is_not_true (PathLeads-closed _ _ (1 ∷ []) refl refl path);
        };
      },
      (
        record {
          gone = record {
            condemned = refl;
            not_settled = refl;
            lost =
                λ path. false_is_not_true (PathLeads-closed _ _ (1 ∷ []) refl refl path);
          };
          not_registered = refl;
        },
        (
          record { empty = refl; condemned = refl },
          (record { survivors = (inr (begins refl), tt); copied = refl; segments = refl }, tt),
        ),
      ),
    ),
  )
      (at_rest refl (
      record {
        later = moves.Splat (address 0x2000) 1 ∷ moves.Free (address 0x1000) ∷ moves.Unseg (address 0x1000) ∷ moves.End ∷ [];
        whole = refl;
        later_ends = to_end ((moves.Splat (address 0x2000) 1 ∷ [])
            ∷ (moves.Free (address 0x1000) ∷ moves.Unseg (address 0x1000) ∷ [])
            ∷ (moves.End ∷ [])
            ∷ []) refl
            ((
              splats (address 0x2000) (1 ∷ []) refl,
              refl,
              (
                reclaims (record {
                  base = 0x1000;
                  freed = 0x1000 ∷ [];
                  condemned = refl;
                  in_turn = refl;
                  ascending = refl;
                  in_segment =
                      refl;
                  whole = refl;
                }),
                refl,
                reclaims (record {
                  base = 0x2000;
                  freed = [];
                  condemned = refl;
                  in_turn = refl;
                  ascending = refl;
                  in_segment = refl;
                  whole =
                      refl;
                }),
              ),
            )) refl refl;
        exact = record {
          posts = [];
          posted = refl;
          exact = refl;
          survivors = ((λ path. false_is_not_true (PathLeads-closed _ _ (1 ∷ []) refl refl path)), (begins refl, tt));
        };
      }))
      refl tt refl refl refl refl refl refl,
  (
    legal_step tt refl refl tt refl refl refl refl refl refl,
    (legal_step tt refl refl tt refl refl refl refl refl refl, tt),
  ),
)

pub weak_is_legal : WeakIsLegal
weak_is_legal =
    IsLegalFrom-then empty_world held_world weak_pair (target_dropped ++ splatted) pair_leaves pair_is_legal
    (IsLegalFrom-then held_world dropped_world target_dropped splatted dropped_leaves dropped_is_legal splatted_is_legal)
