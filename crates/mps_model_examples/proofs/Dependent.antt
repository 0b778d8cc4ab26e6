use Rattle.std.proofs.Common.{◌≡◌, refl, [], ◌∷◌, ◌++◌, inr, Some, None}
use Rattle.mps_base.specs.declared.moves.Move.TheVariants as moves
use Rattle.mps_base.specs.declared.refusal.Refusal.TheVariants as refusal
use Rattle.mps_model.specs.Answer.{Replied}
use Rattle.mps_model.specs.declared.reply.Reply.TheVariants as reply
use Rattle.mps_model.specs.World.{World, Unclamped, Parked, empty_world}
use Rattle.mps_model.specs.History.{IsLegalFrom, IsLegalHistory, world_after_steps}
use Rattle.mps_model.specs.Reachable.{begins}
use Rattle.mps_model.specs.Units.{splats, reclaims}
use Rattle.mps_model.proofs.Appending.{IsLegalFrom-then}
use Rattle.mps_model.proofs.Reaching.{PathLeads-closed}
use Rattle.mps_model_examples.specs.Script.{address}
use Rattle.mps_model_examples.specs.Dependent.{key_world, key_and_value, value_gone, collect_step, get_value, value_there, holder_gone, pair_left, DependentIsLegal, NoValueIsLeft, NoPairOutlivesItsHolder}
use Rattle.mps_model_examples.proofs.Refusing.{cannot_follow, false_is_not_true}
use Rattle.mps_model_examples.proofs.Steps.{legal_step}
use Rattle.mps_model_examples.proofs.Units.{to_end, at_rest}

linked_is_legal : IsLegalHistory key_and_value
linked_is_legal = (
  legal_step tt refl refl tt refl refl refl refl refl refl,
  (
    legal_step tt refl refl tt refl refl refl refl refl refl,
    (
      legal_step tt refl refl tt refl refl refl refl refl refl,
      (
        legal_step tt refl refl tt refl refl refl refl refl refl,
        (
          legal_step tt refl refl tt refl refl refl refl refl refl,
          (
            legal_step tt (record { poll = refl; segment = refl }) refl tt refl refl refl refl refl refl,
            (
              legal_step tt refl refl tt refl refl refl refl refl refl,
              (
                legal_step tt (record { poll = refl; segment = refl }) refl tt refl refl refl refl refl refl,
                (
                  legal_step tt refl refl tt refl refl refl refl refl refl,
                  (
                    legal_step tt refl refl tt refl refl refl refl refl refl,
                    (
                      legal_step tt (record { poll = refl; segment = refl }) refl tt refl refl refl refl refl refl,
                      (
                        legal_step tt refl refl tt refl refl refl refl refl refl,
                        (
                          legal_step tt refl refl tt refl refl refl refl refl refl,
                          (
                            legal_step tt refl refl tt refl refl refl refl refl refl,
                            (
                              legal_step tt refl refl tt refl refl refl refl refl refl,
                              tt,
                            ),
                          ),
                        ),
                      ),
                    ),
                  ),
                ),
              ),
            ),
          ),
        ),
      ),
    ),
  ),
)

-- before the collection, and after it
abbrev linked : World
linked = key_world (Some 0) (Some 1) (Some 0x1000 ∷ Some 0x1010 ∷ Some 0x2000 ∷ []) [] Unclamped

abbrev gone : World
gone = key_world None None (None ∷ Some 0x1010 ∷ Some 0x2000 ∷ []) (0 ∷ []) (Parked [])

linked_leaves : world_after_steps empty_world key_and_value ≡ linked
linked_leaves = refl

gone_leaves : world_after_steps linked (collect_step ∷ []) ≡ gone
gone_leaves = refl

collect_is_legal : IsLegalFrom linked (collect_step ∷ [])
collect_is_legal = (
  legal_step (
    record { none_runs = refl; of_zones = refl },
    (
      record {
        phase = refl;
        weak = refl;
        scanned = inr (refl, begins refl);
        target_is_gone = record {
          condemned = refl;
          not_settled = refl;
          lost =
              λ path. false_is_not_true (PathLeads-closed _ _ (1 ∷ 2 ∷ []) refl refl path);
        };
      },
      (
        record {
          gone = record {
            condemned = refl;
            not_settled = refl;
            lost =
                λ path. false_is_not_true (PathLeads-closed _ _ (1 ∷ 2 ∷ []) refl refl path);
          };
          not_registered = refl;
        },
        (record { survivors = (inr (begins refl), (inr (begins refl), tt)); copied = refl; segments = refl }, tt),
      ),
    ),
  )
      (at_rest refl (
      record {
        later = moves.Splat (address 0x2000) 1 ∷ moves.Free (address 0x1000) ∷ moves.End ∷ [];
        whole = refl;
        later_ends = to_end ((moves.Splat (address 0x2000) 1 ∷ []) ∷ (moves.Free (address 0x1000) ∷ []) ∷ (moves.End ∷ []) ∷ []) refl
            ((
              splats (address 0x2000) (1 ∷ []) refl,
              refl,
              (
                reclaims (record {
                  base = 0x1000;
                  freed = 0x1000 ∷ [];
                  condemned = refl;
                  in_turn = refl;
                  ascending = refl;
                  in_segment = refl;
                  whole = refl;
                }),
                refl,
                reclaims (record {
                  base = 0x2000;
                  freed = [];
                  condemned = refl;
                  in_turn = refl;
                  ascending = refl;
                  in_segment = refl;
                  whole = refl;
                }),
              ),
            )) refl refl;
        exact = record {
          posts = [];
          posted = refl;
          exact = refl;
          survivors = ((λ path. false_is_not_true (PathLeads-closed _ _ (1 ∷ 2 ∷ []) refl refl path)), (begins refl, (begins refl, tt)));
        };
      }))
      refl tt refl refl refl refl refl refl,
  tt,
)

gone_is_legal : IsLegalFrom gone value_gone
gone_is_legal = (
  legal_step tt refl refl tt refl refl refl refl refl refl,
  (
    legal_step tt refl refl tt refl refl refl refl refl refl,
    (
      legal_step tt refl refl tt refl refl refl refl refl refl,
      (
        legal_step tt refl refl tt refl refl refl refl refl refl,
        (
          legal_step tt refl refl tt refl refl refl refl refl refl,
          tt,
        ),
      ),
    ),
  ),
)

pub dependent_is_legal : DependentIsLegal
dependent_is_legal =
    IsLegalFrom-then empty_world linked key_and_value (collect_step ∷ value_gone) linked_leaves linked_is_legal
    (IsLegalFrom-then linked gone (collect_step ∷ []) value_gone gone_leaves collect_is_legal gone_is_legal)

not_there : Replied reply.No ≡ Replied reply.Yes → ⊥
not_there h = absurd cc

not_linked : Replied reply.Ok ≡ Replied (reply.Refused refusal.NotLinked) → ⊥
not_linked h = absurd cc

pub no_value_is_left : NoValueIsLeft
no_value_is_left = cannot_follow (key_and_value ++ collect_step ∷ get_value ∷ []) value_there (λ s. not_there s.answer_is_due)

pub no_pair_outlives_its_holder : NoPairOutlivesItsHolder
no_pair_outlives_its_holder = cannot_follow holder_gone pair_left (λ s. not_linked s.answer_is_due)
