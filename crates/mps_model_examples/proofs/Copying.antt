use Rattle.std.proofs.Common.{refl, [], ◌∷◌, inl, Some, None, false}
use Rattle.mps_base.specs.declared.moves.Move.TheVariants as moves
use Rattle.mps_base.specs.declared.names.Kind.TheVariants as kind
use Rattle.mps_base.specs.declared.names.Rank.TheVariants as rank
use Rattle.mps_model.specs.Graph.{HeadCell, NumberCell, ReferenceCell, Automatic, TableThing, PoolThing, PointThing}
use Rattle.mps_model.specs.World.{World, Collected, Unclamped}
use Rattle.mps_model.specs.History.{IsLegalFrom}
use Rattle.mps_model.specs.Units.{reclaims}
use Rattle.mps_model.specs.Reachable.{begins}
use Rattle.mps_model_examples.specs.Script.{p, t, x, grain_segment, words, address}
use Rattle.mps_model_examples.specs.Copying.{copying_steps, CopyingIsLegal, CopyingIsReplayed}
use Rattle.mps_model_examples.proofs.OneBlock.{one_block_is_legal}
use Rattle.mps_model_examples.proofs.Steps.{legal_step}
use Rattle.mps_model.proofs.Appending.{IsLegalFrom-append}
use Rattle.mps_model.specs.World.{empty_world}
use Rattle.mps_model_examples.specs.OneBlock.{one_block, pair_head}
use Rattle.mps_model_examples.proofs.Units.{to_end, at_rest}

-- before the collection
abbrev one_held : World
one_held = record {
  graph = record {
    objects = record { pool = 0; body = Automatic pair_head (HeadCell ∷ ReferenceCell None 0 ∷ NumberCell 7 ∷ []) false } ∷ [];
    tables = Some (Some 0 ∷ None ∷ None ∷ None ∷ []) ∷ [];
    areas = [];
    blocks = [];
    points = Some (record { pool = 0; rank = rank.Exact; reservation = None }) ∷ [];
    registered = [];
    messages = [];
    labels = [];
    dependents = [];
    transforms = [];
    caches = [];
    frames = [];
    names =
        record { name = t; thing = TableThing 0 }
        ∷ record { name = p; thing = PoolThing 0 }
        ∷ record { name = x; thing = PointThing 0 }
        ∷ [];
  };
  grains = 8;
  limit = 8;
  formats = empty_world.formats;
  pools = record { kind = Collected kind.Amc; format = 1; chain = None } ∷ [];
  chains = [];
  segments = grain_segment 0x1000 0 ∷ [];
  addresses = Some 0x1000 ∷ [];
  point_memories = record { reserved_at = 0x1000; buffer = words 515 509 } ∷ [];
  tails = [];
  state = Unclamped;
  flips = [];
  dependencies = [];
  collection = None;
}

steps_are_legal : IsLegalFrom one_held copying_steps
steps_are_legal = (
  legal_step tt refl refl tt refl refl refl refl refl refl,
  (
    legal_step (
      record { none_runs = refl; of_zones = refl },
      (
        record { first = refl; placement = (refl, refl); of_pool = refl; of_generation = refl },
        (
          record { tracing = refl; condemned = refl; not_settled = refl; copying = refl; at_placement = refl },
          (
            record { empty = refl; condemned = refl },
            (record { survivors = (inl refl, tt); copied = refl; segments = refl }, tt),
          ),
        ),
      ),
    )
        (at_rest refl (
        record {
          later = moves.Unseg (address 0x1000) ∷ moves.End ∷ [];
          whole = refl;
          later_ends = to_end ((moves.Unseg (address 0x1000) ∷ moves.End ∷ []) ∷ []) refl
              (reclaims (record {
                base = 0x1000;
                freed = [];
                condemned = refl;
                in_turn = refl;
                ascending = refl;
                in_segment = refl;
                whole = refl;
              })) refl refl;
          exact = record { posts = []; posted = refl; exact = refl; survivors = (begins {id = 0} refl, tt) };
        }))
        refl tt refl refl refl refl refl refl,
    (
      legal_step tt refl refl tt refl refl refl refl refl refl,
      (
        legal_step tt refl refl tt refl refl refl refl refl refl,
        (legal_step tt refl refl tt refl refl refl refl refl refl, tt),
      ),
    ),
  ),
)

pub copying_is_legal : CopyingIsLegal
copying_is_legal =
    IsLegalFrom-append empty_world one_block copying_steps one_block_is_legal steps_are_legal

pub copying_is_replayed : CopyingIsReplayed
copying_is_replayed = record { bytes = refl; replayed = refl; live = refl }
