use Rattle.std.proofs.Common.{◌≡◌, refl, [], ◌∷◌, ◌++◌, inl, false, List, Some, None, arith}
use Rattle.mps_base.specs.declared.moves.Move.TheVariants as moves
use Rattle.mps_base.specs.Segment.{Segment}
use Rattle.mps_model.specs.World.{World, Tail, Unclamped, Clamped, empty_world}
use Rattle.mps_model.specs.History.{IsLegalFrom, IsLegalHistory, world_after_steps}
use Rattle.mps_model.specs.Units.{scans, scans_no_more, reclaims}
use Rattle.mps_model.proofs.Appending.{IsLegalFrom-then}
use Rattle.mps_model.proofs.Reaching.{PathLeads-closed}
use Rattle.mps_model_examples.specs.Script.{address, grain_segment, words, tail}
use Rattle.mps_model_examples.specs.Polled.{clamped, released, flip_polled, grain_committed, units_polled, grain_of_cells, large_block, grain_block, small_block, large_segment, polled_graph, polled_world, polled_collection, PolledIsLegal}
use Rattle.mps_model_examples.proofs.Refusing.{false_is_not_true}
use Rattle.mps_model_examples.proofs.Units.{at_most}
use Rattle.mps_model_examples.proofs.Steps.{legal_step}

-- the arena clamped; unclamped again; with a collection and an open reservation; and with that committed
abbrev held : World
held =
    polled_world (polled_graph (large_block ∷ []) 0 None) (large_segment ∷ []) (Some 0x1000 ∷ [])
    (record { reserved_at = 0x1000; buffer = words 1536 0 }) [] Clamped [] None

abbrev unclamped : World
unclamped =
    polled_world (polled_graph (large_block ∷ small_block ∷ []) 1 None) (large_segment ∷ grain_segment 0x3000 0 ∷ [])
    (Some 0x1000 ∷ Some 0x3000 ∷ [])
    (record { reserved_at = 0x3000; buffer = words 1538 510 }) [] Unclamped [] None

abbrev four_segments : List Segment
four_segments = large_segment ∷ grain_segment 0x3000 0 ∷ grain_segment 0x4000 0 ∷ grain_segment 0x5000 0 ∷ []

abbrev after_small : List Tail
after_small = tail 2050 510

abbrev flipped : World
flipped =
    polled_world
    (polled_graph (large_block ∷ small_block ∷ []) 1 (Some (record { head = 0x20003; cells = grain_of_cells; is_doomed = false })))
    four_segments (Some 0x1000 ∷ Some 0x4000 ∷ [])
    (record { reserved_at = 0x5000; buffer = words 3072 0 }) after_small Unclamped (14 ∷ []) (Some (polled_collection (1 ∷ [])))

abbrev committed : World
committed =
    polled_world (polled_graph (large_block ∷ small_block ∷ grain_block ∷ []) 2 None)
    four_segments (Some 0x1000 ∷ Some 0x4000 ∷ Some 0x5000 ∷ [])
    (record { reserved_at = 0x5000; buffer = words 3072 0 }) after_small Unclamped (14 ∷ []) (Some (polled_collection (2 ∷ 1 ∷ [])))

clamped_leaves : world_after_steps empty_world clamped ≡ held
clamped_leaves = refl

released_leaves : world_after_steps held released ≡ unclamped
released_leaves = refl

flip_leaves : world_after_steps unclamped (flip_polled ∷ []) ≡ flipped
flip_leaves = refl

commit_leaves : world_after_steps flipped (grain_committed ∷ []) ≡ committed
commit_leaves = refl

clamped_is_legal : IsLegalHistory clamped
clamped_is_legal = (
  legal_step tt refl refl tt refl refl refl refl refl refl,
  (
    legal_step tt refl refl tt refl refl refl refl refl refl,
    (
      legal_step tt refl refl tt refl refl refl refl refl refl,
      (
        legal_step tt refl refl tt refl refl refl refl refl refl,
        (
          legal_step tt refl refl tt refl refl refl refl refl refl,
          (
            legal_step tt
                (record { poll = refl; segment = refl }) refl tt refl refl refl refl refl refl,
            (
              legal_step tt refl refl tt refl refl refl refl refl refl,
              (legal_step tt refl refl tt refl refl refl refl refl refl, tt),
            ),
          ),
        ),
      ),
    ),
  ),
)

released_is_legal : IsLegalFrom held released
released_is_legal = (
  legal_step tt
      (record { poll = refl; segment = refl }) refl tt refl refl refl refl refl refl,
  (
    legal_step tt refl refl tt refl refl refl refl refl refl,
    (legal_step tt refl refl tt refl refl refl refl refl refl, tt),
  ),
)

flip_is_legal : IsLegalFrom unclamped (flip_polled ∷ [])
flip_is_legal = (
  legal_step (
    record { none_runs = refl; of_zones = refl },
    (
      record { first = refl; placement = (refl, refl); of_pool = refl; of_generation = refl },
      (
        record { tracing = refl; condemned = refl; not_settled = refl; copying = refl; at_placement = refl },
        tt,
      ),
    ),
  )
      (record { poll = refl; segment = refl }) refl tt refl refl refl refl refl refl,
  tt,
)

commit_is_legal : IsLegalFrom flipped (grain_committed ∷ [])
commit_is_legal = (
  legal_step tt refl refl tt refl refl refl refl refl refl,
  tt,
)

units_are_legal : IsLegalFrom committed units_polled
units_are_legal = (
  legal_step (
    record {
      gone = record {
        condemned = refl;
        not_settled = refl;
        lost =
            λ path. false_is_not_true (PathLeads-closed _ _ (1 ∷ 2 ∷ []) refl refl path);
      };
      not_registered = refl;
    },
    (
      record { empty = refl; condemned = refl },
      (
        record { empty = refl; condemned = refl },
        (
          record { survivors = (inl refl, tt); copied = refl; segments = refl },
          tt,
        ),
      ),
    ),
  )
      (record {
        poll = at_most ([]
            ∷ []
            ∷ (moves.Free (address 0x1000) ∷ moves.Unseg (address 0x1000) ∷ [])
            ∷ (moves.Unseg (address 0x3000) ∷ moves.End ∷ [])
            ∷ []) refl
            ((
              scans 1 (record { live = refl; not_weak = refl; may_be_scanned = inl refl }) scans_no_more,
              refl,
              (
                scans 2 (record { live = refl; not_weak = refl; may_be_scanned = inl refl }) scans_no_more,
                refl,
                (
                  reclaims (record {
                    base = 0x1000;
                    freed = 0x1000 ∷ [];
                    condemned = refl;
                    in_turn = refl;
                    ascending = refl;
                    in_segment =
                        refl;
                    whole = refl;
                  }),
                  refl,
                  reclaims (record {
                    base = 0x3000;
                    freed = [];
                    condemned = refl;
                    in_turn = refl;
                    ascending = refl;
                    in_segment = refl;
                    whole = refl;
                  }),
                ),
              ),
            )) refl (omega arith) refl;
        segment = refl;
      })
      refl tt refl refl refl refl refl refl,
  (legal_step tt refl refl tt refl refl refl refl refl refl, tt),
)

pub polled_is_legal : PolledIsLegal
polled_is_legal =
    IsLegalFrom-then empty_world held clamped (released ++ (flip_polled ∷ grain_committed ∷ units_polled)) clamped_leaves clamped_is_legal
    (IsLegalFrom-then held unclamped released (flip_polled ∷ grain_committed ∷ units_polled) released_leaves released_is_legal
    (IsLegalFrom-then unclamped flipped (flip_polled ∷ []) (grain_committed ∷ units_polled) flip_leaves flip_is_legal
    (IsLegalFrom-then flipped committed (grain_committed ∷ []) units_polled commit_leaves commit_is_legal units_are_legal)))
