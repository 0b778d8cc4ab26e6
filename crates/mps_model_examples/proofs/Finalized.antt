use Rattle.std.proofs.Common.{◌≡◌, inr, refl, [], ◌∷◌, ◌++◌, inl, true, false, List, ℕ}
use Rattle.mps_base.specs.declared.moves.Move.TheVariants as moves
use Rattle.mps_model.specs.World.{World, Parked, empty_run, empty_world}
use Rattle.mps_model.specs.History.{IsLegalFrom, IsLegalHistory, world_after_steps}
use Rattle.mps_model.specs.Reachable.{begins}
use Rattle.mps_model.specs.Posts.{AreWholePosts, IsWidelyReachableWith}
use Rattle.mps_model.proofs.Reaching.{PathLeads-closed}
use Rattle.mps_model.specs.Units.{examines, reclaims, moves_to_segment_and_posts}
use Rattle.mps_model.proofs.Appending.{IsLegalFrom-then}
use Rattle.mps_model_examples.specs.Script.{address}
use Rattle.mps_model_examples.specs.Finalized.{twice_registered, PostsAreExact, waiting, FinalizedIsLegal, registering, first_message, second_message, freeing, dropped_block, tail_after}
use Rattle.mps_model_examples.proofs.Units.{to_end, at_rest}
use Rattle.mps_model_examples.proofs.Steps.{legal_step}

false_is_not_true : false ≡ true → ⊥
false_is_not_true h = absurd cc

-- registered twice; registered once more, after one message; and no more
abbrev world_1 : World
world_1 = twice_registered

abbrev world_2 : World
world_2 = dropped_block (0 ∷ []) [] 0x2000 empty_run (tail_after 0x2000) (2 ∷ []) (Parked [])

abbrev world_3 : World
world_3 = dropped_block [] [] 0x1000 empty_run (tail_after 0x1000) (2 ∷ 4 ∷ []) (Parked [])

leaves_1 : world_after_steps empty_world registering ≡ world_1
leaves_1 = refl

leaves_2 : world_after_steps world_1 first_message ≡ world_2
leaves_2 = refl

leaves_3 : world_after_steps world_2 second_message ≡ world_3
leaves_3 = refl

-- one message waits
abbrev pub waiting_world : World
waiting_world = dropped_block (0 ∷ []) (0 ∷ []) 0x2000 empty_run (tail_after 0x2000) (2 ∷ []) (Parked [])

pub waiting_leaves : world_after_steps empty_world waiting ≡ waiting_world
waiting_leaves = refl

registering_is_legal : IsLegalHistory registering
registering_is_legal = (
  legal_step tt refl refl tt refl refl refl refl refl refl,
  (
    legal_step tt refl refl tt refl refl refl refl refl refl,
    (
      legal_step tt refl refl tt refl refl refl refl refl refl,
      (
        legal_step tt refl refl tt refl refl refl refl refl refl,
        (
          legal_step tt
              (record { poll = refl; segment = refl }) refl tt refl refl refl refl refl refl,
          (
            legal_step tt refl refl tt refl refl refl refl refl refl,
            (
              legal_step tt refl refl tt refl refl refl refl refl refl,
              (
                legal_step tt refl refl tt refl refl refl refl refl refl,
                (legal_step tt refl refl tt refl refl refl refl refl refl, tt),
              ),
            ),
          ),
        ),
      ),
    ),
  ),
)

first_message_is_legal : IsLegalFrom world_1 first_message
first_message_is_legal = (
  legal_step (
    record { none_runs = refl; of_zones = refl },
    (
      record { first = refl; placement = (refl, refl); of_pool = refl; of_generation = refl },
      (
        record { tracing = refl; condemned = refl; not_settled = refl; copying = refl; at_placement = refl },
        (
          record {
            tracing = refl;
            condemned = refl;
            lost = λ path. false_is_not_true (PathLeads-closed _ _ [] refl refl path);
            registered = refl;
            just_found = refl;
          },
          (
            record { empty = refl; condemned = refl },
            (record { survivors = (inl refl, tt); copied = refl; segments = refl }, tt),
          ),
        ),
      ),
    ),
  )
      (at_rest refl (
      record {
        later = moves.Seg (address 0x2000) 1 0 0 ∷ moves.Moved (address 0x1000) (address 0x2000) ∷ moves.Post (address 0x2000)
            ∷ moves.Unseg (address 0x1000) ∷ moves.End ∷ [];
        whole = refl;
        later_ends = to_end ((moves.Seg (address 0x2000) 1 0 0 ∷ moves.Moved (address 0x1000) (address 0x2000)
            ∷ moves.Post (address 0x2000) ∷ [])
            ∷ (moves.Unseg (address 0x1000) ∷ moves.End ∷ [])
            ∷ []) refl
            ((
              examines moves_to_segment_and_posts,
              refl,
              reclaims (record {
                base = 0x1000;
                freed = [];
                condemned = refl;
                in_turn = refl;
                ascending = refl;
                in_segment = refl;
                whole =
                    refl;
              }),
            )) refl refl;
        exact = record {
          posts = 0 ∷ [];
          posted = refl;
          exact = inl ((λ path. false_is_not_true (PathLeads-closed _ _ ([]) refl refl path)), (refl, inr (begins {id = 0} refl, refl)));
          survivors = (begins {id = 0} refl, tt);
        };
      }))
      refl tt refl refl refl refl refl refl,
  (
    legal_step tt refl refl tt refl refl refl refl refl refl,
    (
      legal_step tt refl refl tt refl refl refl refl refl refl,
      (legal_step tt refl refl tt refl refl refl refl refl refl, tt),
    ),
  ),
)

second_message_is_legal : IsLegalFrom world_2 second_message
second_message_is_legal = (
  legal_step (
    record { none_runs = refl; of_zones = refl },
    (
      record { first = refl; placement = (refl, refl); of_pool = refl; of_generation = refl },
      (
        record { tracing = refl; condemned = refl; not_settled = refl; copying = refl; at_placement = refl },
        (
          record {
            tracing = refl;
            condemned = refl;
            lost = λ path. false_is_not_true (PathLeads-closed _ _ [] refl refl path);
            registered = refl;
            just_found = refl;
          },
          (
            record { empty = refl; condemned = refl },
            (record { survivors = (inl refl, tt); copied = refl; segments = refl }, tt),
          ),
        ),
      ),
    ),
  )
      (at_rest refl (
      record {
        later = moves.Seg (address 0x1000) 1 0 0 ∷ moves.Moved (address 0x2000) (address 0x1000) ∷ moves.Post (address 0x1000)
            ∷ moves.Unseg (address 0x2000) ∷ moves.End ∷ [];
        whole = refl;
        later_ends = to_end ((moves.Seg (address 0x1000) 1 0 0 ∷ moves.Moved (address 0x2000) (address 0x1000)
            ∷ moves.Post (address 0x1000) ∷ [])
            ∷ (moves.Unseg (address 0x2000) ∷ moves.End ∷ [])
            ∷ []) refl
            ((
              examines moves_to_segment_and_posts,
              refl,
              reclaims (record {
                base = 0x2000;
                freed = [];
                condemned = refl;
                in_turn = refl;
                ascending = refl;
                in_segment = refl;
                whole =
                    refl;
              }),
            )) refl refl;
        exact = record {
          posts = 0 ∷ [];
          posted = refl;
          exact = inl ((λ path. false_is_not_true (PathLeads-closed _ _ ([]) refl refl path)), (refl, refl));
          survivors = (begins {id = 0} refl, tt);
        };
      }))
      refl tt refl refl refl refl refl refl,
  (
    legal_step tt refl refl tt refl refl refl refl refl refl,
    (legal_step tt refl refl tt refl refl refl refl refl refl, tt),
  ),
)

freeing_is_legal : IsLegalFrom world_3 freeing
freeing_is_legal = (
  legal_step (
    record { none_runs = refl; of_zones = refl },
    (
      record {
        gone = record {
          condemned = refl;
          not_settled = refl;
          lost =
              λ path. false_is_not_true (PathLeads-closed _ _ [] refl refl path);
        };
        not_registered = refl;
      },
      (
        record { empty = refl; condemned = refl },
        (record { survivors = tt; copied = refl; segments = refl }, tt),
      ),
    ),
  )
      (at_rest refl (
      record {
        later = moves.Free (address 0x1000) ∷ moves.Unseg (address 0x1000) ∷ moves.End ∷ [];
        whole = refl;
        later_ends = to_end ((moves.Free (address 0x1000) ∷ moves.Unseg (address 0x1000) ∷ moves.End ∷ []) ∷ []) refl
            (reclaims (record {
              base = 0x1000;
              freed = 0x1000 ∷ [];
              condemned = refl;
              in_turn = refl;
              ascending = refl;
              in_segment =
                  refl;
              whole = refl;
            })) refl refl;
        exact = record {
          posts = [];
          posted = refl;
          exact = refl;
          survivors = ((λ path. false_is_not_true (PathLeads-closed _ _ ([]) refl refl path)), tt);
        };
      }))
      refl tt refl refl refl refl refl refl,
  (
    legal_step tt refl refl tt refl refl refl refl refl refl,
    (legal_step tt refl refl tt refl refl refl refl refl refl, tt),
  ),
)

pub finalized_is_legal : FinalizedIsLegal
finalized_is_legal =
    IsLegalFrom-then empty_world world_1 registering (first_message ++ (second_message ++ freeing)) leaves_1 registering_is_legal
    (IsLegalFrom-then world_1 world_2 first_message (second_message ++ freeing) leaves_2 first_message_is_legal
    (IsLegalFrom-then world_2 world_3 second_message freeing leaves_3 second_message_is_legal freeing_is_legal))

-- nothing reaches the block before it is posted, and its message does afterwards
not_reached : ¬ IsWidelyReachableWith twice_registered [] 0
not_reached path = false_is_not_true (PathLeads-closed _ _ [] refl refl path)

reached : IsWidelyReachableWith twice_registered (0 ∷ []) 0
reached = begins {id = 0} refl

twice_refused : ¬ AreWholePosts twice_registered (0 ∷ 0 ∷ [])
twice_refused (inl (unreached, (first, inl (again, rest)))) = again reached
twice_refused (inl (unreached, (first, inr (here, rest)))) = absurd (let e : ◌≡◌ {A = List ℕ} (0 ∷ []) [] = rest in cc)
twice_refused (inr (here, rest)) = not_reached here

never_refused : ¬ AreWholePosts twice_registered []
never_refused (inl (unreached, none)) = none
never_refused (inr (here, rest)) = not_reached here

pub posts_are_exact : PostsAreExact
posts_are_exact = record { once = inl (not_reached, (refl, inr (reached, refl))); not_twice = twice_refused; not_never = never_refused }
