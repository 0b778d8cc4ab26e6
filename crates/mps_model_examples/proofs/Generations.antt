use Rattle.std.proofs.Common.{◌≡◌, refl, [], ◌∷◌, ◌++◌, inl, Some, None}
use Rattle.mps_base.specs.declared.moves.Move.TheVariants as moves
use Rattle.mps_model.specs.World.{World, Unclamped, Parked, empty_run, empty_world}
use Rattle.mps_model.specs.History.{IsLegalFrom, IsLegalHistory, world_after_steps}
use Rattle.mps_model.specs.Units.{scans, scans_no_more, reclaims}
use Rattle.mps_model.proofs.Appending.{IsLegalFrom-then}
use Rattle.mps_model.specs.Reachable.{begins}
use Rattle.mps_model_examples.specs.Script.{address, words}
use Rattle.mps_model_examples.specs.Generations.{in_generation_zero, first_collected, second_begun, third_collected, segment_of, generations_world, tail_of_last, collection_of_both, GenerationsIsLegal}
use Rattle.mps_model_examples.proofs.Units.{to_end}
use Rattle.mps_model_examples.proofs.Steps.{legal_step}

-- before the first collection, after it, and after the flip of the second
abbrev young : World
young = generations_world (segment_of 0x1000 0 ∷ []) 0x1000 (words 514 510) [] Unclamped [] None

abbrev old : World
old = generations_world (segment_of 0x2000 1 ∷ []) 0x2000 empty_run (tail_of_last 1026) (Parked []) (2 ∷ []) None

abbrev begun : World
begun =
    generations_world (segment_of 0x1000 1 ∷ segment_of 0x2000 1 ∷ []) 0x1000 empty_run (tail_of_last 514) Unclamped (2 ∷ 0 ∷ 4 ∷ [])
    (Some collection_of_both)

young_leaves : world_after_steps empty_world in_generation_zero ≡ young
young_leaves = refl

old_leaves : world_after_steps young first_collected ≡ old
old_leaves = refl

begun_leaves : world_after_steps old second_begun ≡ begun
begun_leaves = refl

young_is_legal : IsLegalHistory in_generation_zero
young_is_legal = (
  legal_step tt refl refl tt refl refl refl refl refl refl,
  (
    legal_step tt refl refl tt refl refl refl refl refl refl,
    (
      legal_step tt refl refl tt refl refl refl refl refl refl,
      (
        legal_step tt refl refl tt refl refl refl refl refl refl,
        (
          legal_step tt refl refl tt refl refl refl refl refl refl,
          (
            legal_step tt
                (record { poll = refl; segment = refl }) refl tt refl refl refl refl refl refl,
            (
              legal_step tt refl refl tt refl refl refl refl refl refl,
              tt,
            ),
          ),
        ),
      ),
    ),
  ),
)

first_is_legal : IsLegalFrom young first_collected
first_is_legal = (
  legal_step (
    record { none_runs = refl; of_zones = refl },
    (
      record { first = refl; placement = (refl, refl); of_pool = refl; of_generation = refl },
      (record { tracing = refl; condemned = refl; not_settled = refl; copying = refl; at_placement = refl }, tt),
    ),
  ) refl refl tt refl refl refl refl refl refl,
  (
    legal_step tt refl refl tt refl refl refl refl refl refl,
    (
      legal_step (
        record { empty = refl; condemned = refl },
        (record { survivors = (inl refl, tt); copied = refl; segments = refl }, tt),
      )
          (to_end ([]
          ∷ (moves.Unseg (address 0x1000) ∷ moves.End ∷ [])
          ∷ []) refl
          ((
            scans 0 (record { live = refl; not_weak = refl; may_be_scanned = inl refl }) scans_no_more,
            refl,
            reclaims (record {
              base = 0x1000;
              freed = [];
              condemned = refl;
              in_turn = refl;
              ascending = refl;
              in_segment = refl;
              whole =
                  refl;
            }),
          )) refl refl)
          refl tt refl refl refl refl refl refl,
      tt,
    ),
  ),
)

second_is_legal : IsLegalFrom old second_begun
second_is_legal = (
  legal_step (
    record { none_runs = refl; of_zones = refl },
    (record { survivors = tt; copied = refl; segments = refl }, tt),
  ) refl refl tt refl refl refl refl refl refl,
  (
    legal_step tt refl refl tt refl refl refl refl refl refl,
    (
      legal_step (
        record { none_runs = refl; of_zones = refl },
        (
          record { first = refl; placement = (refl, refl); of_pool = refl; of_generation = refl },
          (record { tracing = refl; condemned = refl; not_settled = refl; copying = refl; at_placement = refl }, tt),
        ),
      ) refl refl tt refl refl refl refl refl refl,
      tt,
    ),
  ),
)

third_is_legal : IsLegalFrom begun third_collected
third_is_legal = (
  legal_step (
    record { empty = refl; condemned = refl },
    (
      record { survivors = (inl refl, tt); copied = refl; segments = refl },
      (
        record { none_runs = refl; of_zones = refl },
        (
          record { first = refl; placement = (refl, refl); of_pool = refl; of_generation = refl },
          (
            record { tracing = refl; condemned = refl; not_settled = refl; copying = refl; at_placement = refl },
            (
              record { empty = refl; condemned = refl },
              (record { survivors = (inl refl, tt); copied = refl; segments = refl }, tt),
            ),
          ),
        ),
      ),
    ),
  )
      (record {
        earlier = moves.Unseg (address 0x2000) ∷ moves.End ∷ [];
        full = _;
        both = refl;
        earlier_ends = to_end ([]
            ∷ (moves.Unseg (address 0x2000) ∷ moves.End ∷ [])
            ∷ []) refl
            ((
              scans 0 (record { live = refl; not_weak = refl; may_be_scanned = inl refl }) scans_no_more,
              refl,
              reclaims (record {
                base = 0x2000;
                freed = [];
                condemned = refl;
                in_turn = refl;
                ascending = refl;
                in_segment = refl;
                whole =
                    refl;
              }),
            )) refl refl;
        is_full = record {
          later = moves.Unseg (address 0x1000) ∷ moves.End ∷ [];
          whole = refl;
          later_ends = to_end ([]
              ∷ (moves.Unseg (address 0x1000) ∷ moves.End ∷ [])
              ∷ []) refl
              ((
                scans 0 (record { live = refl; not_weak = refl; may_be_scanned = inl refl }) scans_no_more,
                refl,
                reclaims (record {
                  base = 0x1000;
                  freed = [];
                  condemned = refl;
                  in_turn = refl;
                  ascending = refl;
                  in_segment = refl;
                  whole =
                      refl;
                }),
              )) refl refl;
          exact = record { posts = []; posted = refl; exact = refl; survivors = (begins {id = 0} refl, tt) };
        };
      })
      refl tt refl refl refl refl refl refl,
  (
    legal_step tt refl refl tt refl refl refl refl refl refl,
    tt,
  ),
)

pub generations_is_legal : GenerationsIsLegal
generations_is_legal =
    IsLegalFrom-then empty_world young in_generation_zero (first_collected ++ (second_begun ++ third_collected)) young_leaves young_is_legal
    (IsLegalFrom-then young old first_collected (second_begun ++ third_collected) old_leaves first_is_legal
    (IsLegalFrom-then old begun second_begun third_collected begun_leaves second_is_legal third_is_legal))
