use Rattle.std.proofs.Common.{refl, [], ◌∷◌, inl, Some, None, false}
use Rattle.mps_base.specs.declared.moves.Move.TheVariants as moves
use Rattle.mps_base.specs.declared.names.Kind.TheVariants as kind
use Rattle.mps_base.specs.declared.names.Rank.TheVariants as rank
use Rattle.mps_model.specs.declared.call.Call.TheVariants as call
use Rattle.mps_model.specs.declared.reply.Reply.TheVariants as reply
use Rattle.mps_model.specs.Step.{History}
use Rattle.mps_model.specs.Graph.{HeadCell, NumberCell, Automatic, Hold, TableThing, PoolThing, PointThing, AreaThing}
use Rattle.mps_model.specs.World.{World, Collected, Unclamped, empty_world}
use Rattle.mps_model.specs.History.{IsLegalFrom}
use Rattle.mps_model.specs.Units.{scans, scans_no_more, reclaims}
use Rattle.mps_model.specs.Reachable.{begins}
use Rattle.mps_model_examples.specs.Script.{a, p, t, x, at_index, zones, step, grain_segment, words}
use Rattle.mps_model_examples.specs.Pinned.{PinnedIsLegal}
use Rattle.mps_model_examples.proofs.Steps.{legal_step}
use Rattle.mps_model_examples.proofs.Units.{to_end, at_rest}

-- before the collection
abbrev held : World
held = record {
  graph = record {
    objects = record { pool = 0; body = Automatic 0x403 (HeadCell ∷ NumberCell 0 ∷ NumberCell 0 ∷ NumberCell 0 ∷ []) false } ∷ [];
    tables = Some (None ∷ []) ∷ [];
    areas = Some (Hold 0 8 ∷ []) ∷ [];
    blocks = [];
    points = Some (record { pool = 0; rank = rank.Exact; reservation = None }) ∷ [];
    registered = [];
    messages = [];
    labels = [];
    dependents = [];
    transforms = [];
    caches = [];
    frames = [];
    names =
        record { name = t; thing = TableThing 0 }
        ∷ record { name = a; thing = AreaThing 0 }
        ∷ record { name = p; thing = PoolThing 0 }
        ∷ record { name = x; thing = PointThing 0 }
        ∷ [];
  };
  grains = 8;
  limit = 8;
  formats = empty_world.formats;
  pools = record { kind = Collected kind.Amc; format = 3; chain = None } ∷ [];
  chains = [];
  segments = grain_segment 0x1000 0 ∷ [];
  addresses = Some 0x1000 ∷ [];
  point_memories = record { reserved_at = 0x1000; buffer = words 516 508 } ∷ [];
  tails = [];
  state = Unclamped;
  flips = [];
  dependencies = [];
  collection = None;
}

abbrev collected : History
collected =
    step 10 call.Collect (moves.Flip (zones 2) 16 0 ∷ moves.End ∷ []) reply.Ok
    ∷ step 11 (call.Peek (at_index a 0)) [] (reply.Word 0x1008)
    ∷ step 12 (call.Take (at_index t 0) (at_index a 0)) [] reply.Ok
    ∷ step 13 (call.Address (at_index t 0)) [] (reply.Word 0x1000)
    ∷ []

collected_is_legal : IsLegalFrom held collected
collected_is_legal = (
  legal_step (
    record { none_runs = refl; of_zones = refl },
    (record { survivors = (inl refl, tt); copied = refl; segments = refl }, tt),
  )
      (at_rest refl (
      record {
        later = moves.End ∷ [];
        whole = refl;
        later_ends = to_end ([] ∷ (moves.End ∷ []) ∷ []) refl
            ((
              scans 0 (record { live = refl; not_weak = refl; may_be_scanned = inl refl }) scans_no_more,
              refl,
              reclaims (record {
                base = 0x1000;
                freed = [];
                condemned = refl;
                in_turn = refl;
                ascending = refl;
                in_segment = refl;
                whole = refl;
              }),
            )) refl refl;
        exact = record { posts = []; posted = refl; exact = refl; survivors = (begins {id = 0} refl, tt) };
      }))
      refl tt refl refl refl refl refl refl,
  (
    legal_step tt refl refl tt refl refl refl refl refl refl,
    (
      legal_step tt refl refl tt refl refl refl refl refl refl,
      (legal_step tt refl refl tt refl refl refl refl refl refl, tt),
    ),
  ),
)

pub pinned_is_legal : PinnedIsLegal
pinned_is_legal = (
  legal_step tt refl refl tt refl refl refl refl refl refl,
  (
    legal_step tt refl refl tt refl refl refl refl refl refl,
    (
      legal_step tt refl refl tt refl refl refl refl refl refl,
      (
        legal_step tt refl refl tt refl refl refl refl refl refl,
        (
          legal_step tt refl refl tt refl refl refl refl refl refl,
          (
            legal_step tt
                (record { poll = refl; segment = refl }) refl tt refl refl refl refl refl refl,
            (
              legal_step tt refl refl tt refl refl refl refl refl refl,
              (
                legal_step tt refl refl tt refl refl refl refl refl refl,
                (
                  legal_step tt refl refl tt refl refl refl refl refl refl,
                  collected_is_legal,
                ),
              ),
            ),
          ),
        ),
      ),
    ),
  ),
)
