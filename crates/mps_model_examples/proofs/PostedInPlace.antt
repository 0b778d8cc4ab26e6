use Rattle.std.proofs.Common.{refl, [], ◌∷◌, inl, Some, None, false}
use Rattle.mps_base.specs.declared.moves.Move.TheVariants as moves
use Rattle.mps_base.specs.declared.names.Kind.TheVariants as kind
use Rattle.mps_base.specs.declared.names.Rank.TheVariants as rank
use Rattle.mps_model.specs.declared.call.Call.TheVariants as call
use Rattle.mps_model.specs.declared.reply.Reply.TheVariants as reply
use Rattle.mps_model.specs.Step.{History}
use Rattle.mps_model.specs.Graph.{HeadCell, NumberCell, Automatic, TableThing, PoolThing, PointThing}
use Rattle.mps_model.specs.World.{World, Collected, Unclamped, empty_run, empty_world}
use Rattle.mps_model.specs.History.{IsLegalFrom}
use Rattle.mps_model.specs.Units.{examines, posts, reclaims}
use Rattle.mps_model.proofs.Reaching.{PathLeads-closed}
use Rattle.mps_model.specs.Reachable.{begins}
use Rattle.mps_model_examples.specs.Script.{p, t, x, at_index, step, grain_segment, address}
use Rattle.mps_model_examples.specs.PostedInPlace.{PostedInPlaceIsLegal, posting_in_place}
use Rattle.mps_model_examples.proofs.Refusing.{false_is_not_true}
use Rattle.mps_model_examples.proofs.Steps.{legal_step}
use Rattle.mps_model_examples.proofs.Units.{to_end, at_rest}

-- the block is registered and dropped
abbrev dropped : World
dropped = record {
  graph = record {
    objects = record { pool = 0; body = Automatic 0x201 (HeadCell ∷ NumberCell 0 ∷ []) false } ∷ [];
    tables = Some (None ∷ None ∷ []) ∷ [];
    areas = [];
    blocks = [];
    points = Some (record { pool = 0; rank = rank.Exact; reservation = None }) ∷ [];
    registered = 0 ∷ [];
    messages = [];
    labels = [];
    dependents = [];
    transforms = [];
    caches = [];
    frames = [];
    names =
        record { name = t; thing = TableThing 0 }
        ∷ record { name = p; thing = PoolThing 0 }
        ∷ record { name = x; thing = PointThing 0 }
        ∷ [];
  };
  grains = 8;
  limit = 8;
  formats = empty_world.formats;
  pools = record { kind = Collected kind.Ams; format = 1; chain = None } ∷ [];
  chains = [];
  segments = grain_segment 0x1000 0 ∷ [];
  addresses = Some 0x1000 ∷ [];
  point_memories = record { reserved_at = 0x1000; buffer = empty_run } ∷ [];
  tails = [];
  state = Unclamped;
  flips = [];
  dependencies = [];
  collection = None;
}

abbrev collected : History
collected =
    step 9 call.Collect posting_in_place reply.Ok
    ∷ step 10 (call.Message (at_index t 0)) [] reply.Ok
    ∷ step 11 (call.Message (at_index t 1)) [] reply.None_
    ∷ step 12 (call.Address (at_index t 0)) [] (reply.Word 0x1000)
    ∷ []

collected_is_legal : IsLegalFrom dropped collected
collected_is_legal = (
  legal_step (
    record { none_runs = refl; of_zones = refl },
    (
      record {
        tracing = refl;
        condemned = refl;
        lost = λ path. false_is_not_true (PathLeads-closed _ _ [] refl refl path);
        registered = refl;
        just_found = refl;
      },
      (record { survivors = (inl refl, tt); copied = refl; segments = refl }, tt),
    ),
  )
      (at_rest refl (
      record {
        later = moves.Post (address 0x1000) ∷ moves.End ∷ [];
        whole = refl;
        later_ends = to_end ((moves.Post (address 0x1000) ∷ [])
            ∷ (moves.End ∷ [])
            ∷ []) refl
            ((
              examines posts,
              refl,
              reclaims (record {
                base = 0x1000;
                freed = [];
                condemned = refl;
                in_turn = refl;
                ascending = refl;
                in_segment =
                    refl;
                whole = refl;
              }),
            )) refl refl;
        exact = record {
          posts = 0 ∷ [];
          posted = refl;
          exact = inl ((λ path. false_is_not_true (PathLeads-closed _ _ ([]) refl refl path)), (refl, refl));
          survivors = (begins {id = 0} refl, tt);
        };
      }))
      refl tt refl refl refl refl refl refl,
  (
    legal_step tt refl refl tt refl refl refl refl refl refl,
    (
      legal_step tt refl refl tt refl refl refl refl refl refl,
      (
        legal_step tt refl refl tt refl refl refl refl refl refl,
        tt,
      ),
    ),
  ),
)

pub posted_in_place_is_legal : PostedInPlaceIsLegal
posted_in_place_is_legal = (
  legal_step tt refl refl tt refl refl refl refl refl refl,
  (
    legal_step tt refl refl tt refl refl refl refl refl refl,
    (
      legal_step tt refl refl tt refl refl refl refl refl refl,
      (
        legal_step tt refl refl tt refl refl refl refl refl refl,
        (
          legal_step tt
              (record { poll = refl; segment = refl }) refl tt refl refl refl refl refl refl,
          (
            legal_step tt refl refl tt refl refl refl refl refl refl,
            (
              legal_step tt refl refl tt refl refl refl refl refl refl,
              (
                legal_step tt refl refl tt refl refl refl refl refl refl,
                collected_is_legal,
              ),
            ),
          ),
        ),
      ),
    ),
  ),
)
