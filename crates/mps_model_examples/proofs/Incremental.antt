use Rattle.std.proofs.Common.{◌≡◌, refl, [], ◌∷◌, inl, Some, None, arith}
use Rattle.mps_base.specs.declared.moves.Move.TheVariants as moves
use Rattle.mps_model.specs.World.{World, empty_run, empty_world}
use Rattle.mps_model.specs.History.{IsLegalFrom, IsLegalHistory, world_after_steps}
use Rattle.mps_model.specs.Units.{scans, scans_no_more, moves_target, reclaims}
use Rattle.mps_model.proofs.Appending.{IsLegalFrom-then}
use Rattle.mps_model_examples.specs.Script.{address, grain_segment, words, tail}
use Rattle.mps_model_examples.specs.Incremental.{linked, start_step, get_with_barrier, last_steps, linked_world, collection_of_linked, IncrementalIsLegal}
use Rattle.mps_model_examples.proofs.Units.{at_most}
use Rattle.mps_model_examples.proofs.Steps.{legal_step}

-- before the collection, after its flip, and with both blocks moved
abbrev resting : World
resting = linked_world None (grain_segment 0x1000 0 ∷ []) 0x1000 0x1018 (words 518 506) [] [] None

abbrev started : World
started =
    linked_world None (grain_segment 0x1000 0 ∷ grain_segment 0x2000 0 ∷ []) 0x1000 0x2000 empty_run (tail 1027 509) (2 ∷ [])
    (Some (collection_of_linked (1 ∷ []) (1 ∷ [])))

abbrev both_moved : World
both_moved =
    linked_world (Some 0) (grain_segment 0x1000 0 ∷ grain_segment 0x2000 0 ∷ []) 0x2018 0x2000 empty_run (tail 1030 506) (2 ∷ [])
    (Some (collection_of_linked (0 ∷ 1 ∷ []) (1 ∷ 0 ∷ 1 ∷ [])))

linked_leaves : world_after_steps empty_world linked ≡ resting
linked_leaves = refl

start_leaves : world_after_steps resting (start_step ∷ []) ≡ started
start_leaves = refl

get_leaves : world_after_steps started (get_with_barrier ∷ []) ≡ both_moved
get_leaves = refl

linked_is_legal : IsLegalHistory linked
linked_is_legal = (
  legal_step tt refl refl tt refl refl refl refl refl refl,
  (
    legal_step tt refl refl tt refl refl refl refl refl refl,
    (
      legal_step tt refl refl tt refl refl refl refl refl refl,
      (
        legal_step tt refl refl tt refl refl refl refl refl refl,
        (
          legal_step tt
              (record { poll = refl; segment = refl }) refl tt refl refl refl refl refl refl,
          (
            legal_step tt refl refl tt refl refl refl refl refl refl,
            (
              legal_step tt (record { poll = refl; segment = refl }) refl tt refl refl refl refl refl refl,
              (
                legal_step tt refl refl tt refl refl refl refl refl refl,
                (
                  legal_step tt refl refl tt refl refl refl refl refl refl,
                  (legal_step tt refl refl tt refl refl refl refl refl refl, tt),
                ),
              ),
            ),
          ),
        ),
      ),
    ),
  ),
)

start_is_legal : IsLegalFrom resting (start_step ∷ [])
start_is_legal = (
  legal_step (
    record { none_runs = refl; of_zones = refl },
    (
      record { first = refl; placement = (refl, refl); of_pool = refl; of_generation = refl },
      (record { tracing = refl; condemned = refl; not_settled = refl; copying = refl; at_placement = refl }, tt),
    ),
  ) refl refl tt refl refl refl refl refl refl,
  tt,
)

get_is_legal : IsLegalFrom started (get_with_barrier ∷ [])
get_is_legal = (
  legal_step (record { tracing = refl; condemned = refl; not_settled = refl; copying = refl; at_placement = refl }, tt)
      (inl (moves_target (record { holder = 1; scanned = record { in_segment = refl; may_be_scanned = inl refl }; refers = refl })
      scans_no_more))
      refl tt refl refl refl refl refl refl,
  tt,
)

last_is_legal : IsLegalFrom both_moved last_steps
last_is_legal = (
  legal_step (
    record { empty = refl; condemned = refl },
    (record { survivors = (inl refl, (inl refl, tt)); copied = refl; segments = refl }, tt),
  )
      (at_most ([] ∷ [] ∷ (moves.Unseg (address 0x1000) ∷ moves.End ∷ []) ∷ []) refl
      ((
        scans 1 (record { live = refl; not_weak = refl; may_be_scanned = inl refl }) scans_no_more,
        refl,
        (
          scans 0 (record { live = refl; not_weak = refl; may_be_scanned = inl refl }) scans_no_more,
          refl,
          reclaims (record {
            base = 0x1000;
            freed = [];
            condemned = refl;
            in_turn = refl;
            ascending = refl;
            in_segment = refl;
            whole =
                refl;
          }),
        ),
      )) refl (omega arith) refl)
      refl tt refl refl refl refl refl refl,
  (legal_step tt refl refl tt refl refl refl refl refl refl, tt),
)

pub incremental_is_legal : IncrementalIsLegal
incremental_is_legal =
    IsLegalFrom-then empty_world resting linked (start_step ∷ get_with_barrier ∷ last_steps) linked_leaves linked_is_legal
    (IsLegalFrom-then resting started (start_step ∷ []) (get_with_barrier ∷ last_steps) start_leaves start_is_legal
    (IsLegalFrom-then started both_moved (get_with_barrier ∷ []) last_steps get_leaves get_is_legal last_is_legal))
