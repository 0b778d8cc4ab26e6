use Rattle.std.proofs.Common.{◌≡◌, ◌∙◌, ap, ℕ, refl, sym, subst, List, [], ◌∷◌, ◌++◌, Some, None, inl, inr}
use Rattle.mps_base.specs.declared.moves.Move.{Move}
use Rattle.mps_base.specs.declared.moves.Move.TheVariants as moves
use Rattle.mps_model.specs.declared.call.Call.TheVariants as call
use Rattle.mps_model.specs.declared.reply.Reply.TheVariants as reply
use Rattle.mps_model.specs.World.{World, empty_world}
use Rattle.mps_model.specs.Step.{History}
use Rattle.mps_model.specs.Effect.{Everything, world_after_moves}
use Rattle.mps_model.specs.Flip.{world_at_flip}
use Rattle.mps_model.specs.Posts.{AreWholePosts, AreExactSurvivors}
use Rattle.mps_model.specs.Reachable.{begins}
use Rattle.mps_model.specs.Units.{splats, examines, posts, reclaims}
use Rattle.mps_model.specs.History.{IsFullCollection, IsLegalHistory, IsLegalStep, world_after_steps}
use Rattle.mps_model.proofs.Appending.{IsLegalFrom-then, world_after_steps-append}
use Rattle.mps_model.proofs.Reaching.{PathLeads-closed}
use Rattle.mps_model_examples.specs.Script.{t, at_index, address, step}
use Rattle.mps_model_examples.specs.KeptReferences.{weakly_linked, drop_block}
use Rattle.mps_model_examples.specs.WholeCollections.{registered, dead, collect_nothing, collect_and_post, collect_dead, RegisteredWithoutPost, DeadBlockStays}
use Rattle.mps_model_examples.proofs.Steps.{legal_step}
use Rattle.mps_model_examples.proofs.Units.{at_rest, to_end}
use Rattle.mps_model_examples.proofs.Refusing.{false_is_not_true, cannot_follow_from}
use Rattle.mps_model_examples.proofs.KeptReferences.{weak_world, weak_leaves, weak_is_legal}

-- a `collect` that begins at rest is a full collection alone
full_alone : (v : World) (made earlier full : List Move) → earlier ≡ [] → made ≡ earlier ++ full
    → IsFullCollection (world_after_moves v earlier) full → IsFullCollection v made
full_alone v made [] full none both is_full = subst (λ all. IsFullCollection v all) (sym both) is_full
full_alone v made (m ∷ ms) full none both is_full = absurd cc

-- ---- the registered block

abbrev registered_world : World
registered_world = record weak_world {
  graph = record weak_world.graph { tables = Some (None ∷ Some 1 ∷ None ∷ []) ∷ []; registered = 0 ∷ [] };
}

abbrev registering : History
registering = step 12 (call.Finalize (at_index t 0)) [] reply.Ok ∷ drop_block 13 ∷ []

registered_leaves : world_after_steps empty_world registered ≡ registered_world
registered_leaves =
    world_after_steps-append empty_world weakly_linked registering ∙ ap (λ left. world_after_steps left registering) weak_leaves

registered_is_legal : IsLegalHistory registered
registered_is_legal =
    IsLegalFrom-then empty_world weak_world weakly_linked registering weak_leaves weak_is_legal
    (legal_step tt refl refl tt refl refl refl refl refl refl, (legal_step tt refl refl tt refl refl refl refl refl refl, tt))

-- the block is reached in no way, so it has to be posted
abbrev registered_flipped : World
registered_flipped = world_at_flip registered_world Everything

unposted : (posted : List ℕ) → [] ≡ posted → AreWholePosts registered_flipped posted → ⊥
unposted [] e (inl (lost, none)) = none
unposted [] e (inr (there, rest)) = false_is_not_true (PathLeads-closed _ _ (1 ∷ []) refl refl there)
unposted (p ∷ ps) e exact = absurd cc

unposted_full : IsFullCollection registered_world (collect_nothing 14).moves → ⊥
unposted_full full = unposted full.exact.posts full.exact.posted full.exact.exact

posted_is_legal : IsLegalStep registered_world collect_and_post
posted_is_legal =
    legal_step (
      record { none_runs = refl; of_zones = refl },
      (
        record {
          tracing = refl;
          condemned = refl;
          lost = λ path. false_is_not_true (PathLeads-closed _ _ (1 ∷ []) refl refl path);
          registered = refl;
          just_found = refl;
        },
        (record { survivors = (inl refl, (inr (begins refl), tt)); copied = refl; segments = refl }, tt),
      ),
    )
    (at_rest refl (record {
      later = moves.Post (address 0x1000) ∷ moves.End ∷ [];
      whole = refl;
      later_ends = to_end ((moves.Post (address 0x1000) ∷ []) ∷ (moves.End ∷ []) ∷ []) refl (
        examines posts,
        refl,
        reclaims (record {
          base = 0x2000;
          freed = [];
          condemned = refl;
          in_turn = refl;
          ascending = refl;
          in_segment = refl;
          whole = refl;
        }),
      ) refl refl;
      exact = record {
        posts = 0 ∷ [];
        posted = refl;
        exact = inl ((λ path. false_is_not_true (PathLeads-closed _ _ (1 ∷ []) refl refl path)), (refl, refl));
        survivors = (begins {id = 0} refl, (begins {id = 1} refl, tt));
      };
    }))
    refl tt refl refl refl refl refl refl

pub registered_without_post : RegisteredWithoutPost
registered_without_post = record {
  refused =
      cannot_follow_from registered_world registered (collect_nothing 14) registered_leaves
      (λ s. unposted_full (full_alone registered_world _ s.moves_are_due.earlier s.moves_are_due.full s.moves_are_due.earlier_ends
      s.moves_are_due.both s.moves_are_due.is_full));
  legal =
      IsLegalFrom-then empty_world registered_world registered (collect_and_post ∷ []) registered_leaves registered_is_legal
      (posted_is_legal, tt);
}

-- ---- the dead block

abbrev dead_world : World
dead_world = record weak_world { graph = record weak_world.graph { tables = Some (None ∷ Some 1 ∷ None ∷ []) ∷ [] } }

dead_leaves : world_after_steps empty_world dead ≡ dead_world
dead_leaves =
    world_after_steps-append empty_world weakly_linked (drop_block 12 ∷ [])
    ∙ ap (λ left. world_after_steps left (drop_block 12 ∷ [])) weak_leaves

dead_is_legal : IsLegalHistory dead
dead_is_legal =
    IsLegalFrom-then empty_world weak_world weakly_linked (drop_block 12 ∷ []) weak_leaves weak_is_legal
    (legal_step tt refl refl tt refl refl refl refl refl refl, tt)

-- the block is reached in no way, so it has to go
abbrev dead_flipped : World
dead_flipped = world_at_flip dead_world Everything

abbrev dead_after : World
dead_after = world_after_moves dead_world (collect_nothing 13).moves

stays : (posted : List ℕ) → [] ≡ posted → AreExactSurvivors dead_flipped dead_after posted → ⊥
stays [] e exact = false_is_not_true (PathLeads-closed _ _ (1 ∷ []) refl refl exact.0)
stays (p ∷ ps) e exact = absurd cc

stays_full : IsFullCollection dead_world (collect_nothing 13).moves → ⊥
stays_full full = stays full.exact.posts full.exact.posted full.exact.survivors

collected_is_legal : IsLegalStep dead_world collect_dead
collected_is_legal =
    legal_step (
      record { none_runs = refl; of_zones = refl },
      (
        record {
          phase = refl;
          weak = refl;
          scanned = inr (refl, begins refl);
          target_is_gone = record {
            condemned = refl;
            not_settled = refl;
            lost = λ path. false_is_not_true (PathLeads-closed _ _ (1 ∷ []) refl refl path);
          };
        },
        (
          record {
            gone = record {
              condemned = refl;
              not_settled = refl;
              lost = λ path. false_is_not_true (PathLeads-closed _ _ (1 ∷ []) refl refl path);
            };
            not_registered = refl;
          },
          (
            record { empty = refl; condemned = refl },
            (record { survivors = (inr (begins refl), tt); copied = refl; segments = refl }, tt),
          ),
        ),
      ),
    )
    (at_rest refl (record {
      later = moves.Splat (address 0x2000) 1 ∷ moves.Free (address 0x1000) ∷ moves.Unseg (address 0x1000) ∷ moves.End ∷ [];
      whole = refl;
      later_ends =
          to_end
          ((moves.Splat (address 0x2000) 1 ∷ [])
          ∷ (moves.Free (address 0x1000) ∷ moves.Unseg (address 0x1000) ∷ [])
          ∷ (moves.End ∷ [])
          ∷ [])
          refl (
            splats (address 0x2000) (1 ∷ []) refl,
            refl,
            (
              reclaims (record {
                base = 0x1000;
                freed = 0x1000 ∷ [];
                condemned = refl;
                in_turn = refl;
                ascending = refl;
                in_segment = refl;
                whole = refl;
              }),
              refl,
              reclaims (record {
                base = 0x2000;
                freed = [];
                condemned = refl;
                in_turn = refl;
                ascending = refl;
                in_segment = refl;
                whole = refl;
              }),
            ),
          )
          refl refl;
      exact = record {
        posts = [];
        posted = refl;
        exact = refl;
        survivors = ((λ path. false_is_not_true (PathLeads-closed _ _ (1 ∷ []) refl refl path)), (begins {id = 1} refl, tt));
      };
    }))
    refl tt refl refl refl refl refl refl

pub dead_block_stays : DeadBlockStays
dead_block_stays = record {
  refused =
      cannot_follow_from dead_world dead (collect_nothing 13) dead_leaves
      (λ s. stays_full (full_alone dead_world _ s.moves_are_due.earlier s.moves_are_due.full s.moves_are_due.earlier_ends
      s.moves_are_due.both s.moves_are_due.is_full));
  legal = IsLegalFrom-then empty_world dead_world dead (collect_dead ∷ []) dead_leaves dead_is_legal (collected_is_legal, tt);
}
