use Rattle.std.proofs.Common.{◌≡◌, refl, [], ◌∷◌, Some, None}
use Rattle.mps_base.specs.declared.moves.Move.TheVariants as moves
use Rattle.mps_base.specs.declared.names.Kind.TheVariants as kind
use Rattle.mps_base.specs.declared.names.Rank.TheVariants as rank
use Rattle.mps_model.specs.Graph.{TableThing, PoolThing, PointThing}
use Rattle.mps_model.specs.Collection.{Tracing}
use Rattle.mps_model.specs.World.{World, Collected, empty_run, empty_world}
use Rattle.mps_model.specs.History.{IsLegalFrom, IsLegalHistory, world_after_steps}
use Rattle.mps_model.specs.Units.{reclaims}
use Rattle.mps_model.specs.Graph.{Graph, empty_graph}
use Rattle.mps_model.proofs.Appending.{IsLegalFrom-then}
use Rattle.mps_model.proofs.Reaching.{PathLeads-closed}
use Rattle.mps_model_examples.specs.Script.{p, q, t, v, w, x, y, address, grain_segment}
use Rattle.mps_model_examples.specs.Reclaiming.{dropped}
use Rattle.mps_model_examples.specs.WrongUnits.{three_to_reclaim, middle_reclaimed, middle_first}
use Rattle.mps_model_examples.proofs.Refusing.{false_is_not_true}
use Rattle.mps_model_examples.proofs.Units.{exactly}
use Rattle.mps_model_examples.proofs.Steps.{legal_step}

-- the graph of the three blocks
abbrev three_dropped : Graph
three_dropped = record empty_graph {
  objects = dropped 0 ∷ dropped 1 ∷ dropped 2 ∷ [];
  tables = Some (None ∷ []) ∷ [];
  points =
      Some (record { pool = 0; rank = rank.Exact; reservation = None })
      ∷ Some (record { pool = 1; rank = rank.Exact; reservation = None })
      ∷ Some (record { pool = 2; rank = rank.Exact; reservation = None })
      ∷ [];
  names =
      record { name = t; thing = TableThing 0 }
      ∷ record { name = p; thing = PoolThing 0 }
      ∷ record { name = q; thing = PoolThing 1 }
      ∷ record { name = v; thing = PoolThing 2 }
      ∷ record { name = x; thing = PointThing 0 }
      ∷ record { name = y; thing = PointThing 1 }
      ∷ record { name = w; thing = PointThing 2 }
      ∷ [];
}

-- the world after the flip
abbrev begun : World
begun = record empty_world {
  graph = three_dropped;
  grains = 8;
  limit = 8;
  pools =
      record { kind = Collected kind.Ams; format = 1; chain = None }
      ∷ record { kind = Collected kind.Ams; format = 1; chain = None }
      ∷ record { kind = Collected kind.Ams; format = 1; chain = None }
      ∷ [];
  segments = grain_segment 0x1000 0 ∷ grain_segment 0x2000 1 ∷ grain_segment 0x3000 2 ∷ [];
  addresses = Some 0x1000 ∷ Some 0x2000 ∷ Some 0x3000 ∷ [];
  point_memories =
      record { reserved_at = 0x1000; buffer = empty_run }
      ∷ record { reserved_at = 0x2000; buffer = empty_run }
      ∷ record { reserved_at = 0x3000; buffer = empty_run }
      ∷ [];
  flips = 0 ∷ [];
  collection = Some (record {
    condemned_segments = 0x1000 ∷ 0x2000 ∷ 0x3000 ∷ [];
    condemned = 0 ∷ 1 ∷ 2 ∷ [];
    pinned = [];
    placed = [];
    had = [];
    graph_at_flip = three_dropped;
    origins = [];
    registered_before = 0;
    examined = 0;
    phase = Tracing;
    reclaimed_to = 0;
    units = 6;
    spent = 0;
  });
}

begin_leaves : world_after_steps empty_world three_to_reclaim ≡ begun
begin_leaves = refl

begin_is_legal : IsLegalHistory three_to_reclaim
begin_is_legal = (
  legal_step tt refl refl tt refl refl refl refl refl refl,
  (
    legal_step tt refl refl tt refl refl refl refl refl refl,
    (
      legal_step tt refl refl tt refl refl refl refl refl refl,
      (
        legal_step tt refl refl tt refl refl refl refl refl refl,
        (
          legal_step tt refl refl tt refl refl refl refl refl refl,
          (
            legal_step tt refl refl tt refl refl refl refl refl refl,
            (
              legal_step tt refl refl tt refl refl refl refl refl refl,
              (
                legal_step tt refl refl tt refl refl refl refl refl refl,
                (
                  legal_step tt (record { poll = refl; segment = refl }) refl tt refl refl refl refl refl refl,
                  (
                    legal_step tt refl refl tt refl refl refl refl refl refl,
                    (
                      legal_step tt (record { poll = refl; segment = refl }) refl tt refl refl refl refl refl refl,
                      (
                        legal_step tt refl refl tt refl refl refl refl refl refl,
                        (
                          legal_step tt (record { poll = refl; segment = refl }) refl tt refl refl refl refl refl refl,
                          (
                            legal_step tt refl refl tt refl refl refl refl refl refl,
                            (
                              legal_step tt refl refl tt refl refl refl refl refl refl,
                              (
                                legal_step (record { none_runs = refl; of_zones = refl }, tt) refl refl tt refl refl refl refl refl refl,
                                tt,
                              ),
                            ),
                          ),
                        ),
                      ),
                    ),
                  ),
                ),
              ),
            ),
          ),
        ),
      ),
    ),
  ),
)

middle_is_legal : IsLegalFrom begun (middle_reclaimed ∷ [])
middle_is_legal = (
  legal_step (
    record {
      gone = record {
        condemned = refl;
        not_settled = refl;
        lost = λ path. false_is_not_true (PathLeads-closed _ _ [] refl refl path);
      };
      not_registered = refl;
    },
    (record { empty = refl; condemned = refl }, tt),
  ) (exactly ((moves.Free (address 0x2000) ∷ moves.Unseg (address 0x2000) ∷ []) ∷ []) refl (reclaims (record {
    base = 0x2000;
    freed = 0x2000 ∷ [];
    condemned = refl;
    in_turn = refl;
    ascending = refl;
    in_segment = refl;
    whole = refl;
  })) refl refl) refl tt refl refl refl refl refl refl,
  tt,
)

pub middle_first_is_legal : IsLegalHistory middle_first
middle_first_is_legal =
    IsLegalFrom-then empty_world begun three_to_reclaim (middle_reclaimed ∷ []) begin_leaves begin_is_legal middle_is_legal
