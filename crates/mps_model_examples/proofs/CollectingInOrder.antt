use Rattle.std.proofs.Common.{◌≡◌, refl, [], ◌∷◌, inl, inr}
use Rattle.mps_base.specs.declared.moves.Move.TheVariants as moves
use Rattle.mps_model.specs.World.{empty_world}
use Rattle.mps_model.specs.History.{IsLegalFrom, IsLegalHistory, world_after_steps}
use Rattle.mps_model.specs.Reachable.{begins, goes_on}
use Rattle.mps_model.specs.Units.{scans, scans_no_more, moves_target, splats, reclaims}
use Rattle.mps_model.proofs.Appending.{IsLegalFrom-then}
use Rattle.mps_model.proofs.Reaching.{PathLeads-closed}
use Rattle.mps_model_examples.specs.Script.{address}
use Rattle.mps_model_examples.specs.CollectingInOrder.{weak_and_linked, moves_in_order, collected_in_order, weak_and_linked_world, CollectingInOrderIsLegal}
use Rattle.mps_model_examples.proofs.Refusing.{false_is_not_true}
use Rattle.mps_model_examples.proofs.Units.{to_end, at_rest}
use Rattle.mps_model_examples.proofs.Steps.{legal_step}

linked_leaves : world_after_steps empty_world weak_and_linked ≡ weak_and_linked_world
linked_leaves = refl

linked_is_legal : IsLegalHistory weak_and_linked
linked_is_legal = (
  legal_step tt refl refl tt refl refl refl refl refl refl,
  (
    legal_step tt refl refl tt refl refl refl refl refl refl,
    (
      legal_step tt refl refl tt refl refl refl refl refl refl,
      (
        legal_step tt refl refl tt refl refl refl refl refl refl,
        (
          legal_step tt
              (record { poll = refl; segment = refl }) refl tt refl refl refl refl refl refl,
          (
            legal_step tt refl refl tt refl refl refl refl refl refl,
            (
              legal_step tt (record { poll = refl; segment = refl }) refl tt refl refl refl refl refl refl,
              (
                legal_step tt refl refl tt refl refl refl refl refl refl,
                (
                  legal_step tt refl refl tt refl refl refl refl refl refl,
                  (
                    legal_step tt refl refl tt refl refl refl refl refl refl,
                    (
                      legal_step tt refl refl tt refl refl refl refl refl refl,
                      (
                        legal_step tt refl refl tt refl refl refl refl refl refl,
                        (
                          legal_step tt
                              (record { poll = refl; segment = refl }) refl tt refl refl refl refl refl refl,
                          (
                            legal_step tt refl refl tt refl refl refl refl refl refl,
                            (
                              legal_step tt (record { poll = refl; segment = refl }) refl tt refl refl refl refl refl refl,
                              (
                                legal_step tt refl refl tt refl refl refl refl refl refl,
                                (
                                  legal_step tt refl refl tt refl refl refl refl refl refl,
                                  (
                                    legal_step tt refl refl tt refl refl refl refl refl refl,
                                    tt,
                                  ),
                                ),
                              ),
                            ),
                          ),
                        ),
                      ),
                    ),
                  ),
                ),
              ),
            ),
          ),
        ),
      ),
    ),
  ),
)

collected_is_legal : IsLegalFrom weak_and_linked_world collected_in_order
collected_is_legal = (
  legal_step (
    record { none_runs = refl; of_zones = refl },
    (
      record { first = refl; placement = (refl, refl); of_pool = refl; of_generation = refl },
      (
        record { tracing = refl; condemned = refl; not_settled = refl; copying = refl; at_placement = refl },
        (
          record { tracing = refl; condemned = refl; not_settled = refl; copying = refl; at_placement = refl },
          (
            record {
              phase = refl;
              weak = refl;
              scanned = inr (refl, begins refl);
              target_is_gone = record {
                condemned = refl;
                not_settled = refl;
                lost =
                    λ path. false_is_not_true (PathLeads-closed _ _ (0 ∷ 1 ∷ 3 ∷ []) refl refl path);
              };
            },
            (
              record { empty = refl; condemned = refl },
              (
                record {
                  gone = record {
                    condemned = refl;
                    not_settled = refl;
                    lost =
                        λ path. false_is_not_true (PathLeads-closed _ _ (0 ∷ 1 ∷ 3 ∷ []) refl refl path);
                  };
                  not_registered = refl;
                },
                (record { survivors = (inl refl, (inl refl, (inr (begins refl), tt))); copied = refl; segments = refl }, tt),
              ),
            ),
          ),
        ),
      ),
    ),
  )
      (at_rest refl (
      record {
        later = moves_in_order;
        whole = refl;
        later_ends = to_end ((moves.Moved (address 0x1000) (address 0x3018) ∷ [])
            ∷ (moves.Splat (address 0x2010) 1 ∷ [])
            ∷ (moves.Unseg (address 0x1000) ∷ [])
            ∷ (moves.Free (address 0x2000) ∷ moves.End ∷ [])
            ∷ []) refl
            ((
              scans 1 (record { live = refl; not_weak = refl; may_be_scanned = inl refl })
                  (moves_target (record { holder = 1; scanned = refl; refers = refl }) scans_no_more),
              refl,
              (
                splats (address 0x2010) (1 ∷ []) refl,
                refl,
                (
                  reclaims (record {
                    base = 0x1000;
                    freed = [];
                    condemned = refl;
                    in_turn = refl;
                    ascending = refl;
                    in_segment = refl;
                    whole = refl;
                  }),
                  refl,
                  reclaims (record {
                    base = 0x2000;
                    freed = 0x2000 ∷ [];
                    condemned = refl;
                    in_turn = refl;
                    ascending = refl;
                    in_segment =
                        refl;
                    whole = refl;
                  }),
                ),
              ),
            )) refl refl;
        exact = record {
          posts = [];
          posted = refl;
          exact = refl;
          survivors = (
            goes_on (begins {id = 1} refl) refl,
            (begins refl, (λ path. false_is_not_true (PathLeads-closed _ _ (0 ∷ 1 ∷ 3 ∷ []) refl refl path), (begins refl, tt))),
          );
        };
      }))
      refl tt refl refl refl refl refl refl,
  (
    legal_step tt refl refl tt refl refl refl refl refl refl,
    tt,
  ),
)

pub collecting_in_order_is_legal : CollectingInOrderIsLegal
collecting_in_order_is_legal = IsLegalFrom-then empty_world weak_and_linked_world weak_and_linked collected_in_order linked_leaves
    linked_is_legal collected_is_legal
