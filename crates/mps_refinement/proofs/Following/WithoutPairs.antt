-- A heap and a world without their pairs: the parts of the one represent the other as they did, and what its collector does leaves the
-- same.
use Rattle.std.proofs.Common.{refl, ap, []}
use Rattle.mps_base.specs.Trail.{Moves}
use Rattle.mps_format.specs.Layout.{Layout}
use Rattle.mps_model.specs.World.{World}
use Rattle.mps_trace.specs.declared.condemn.Condemn.{Condemn}
use Rattle.mps_heap_spec.specs.Collecting.{IsCollected, IsStarted}
use Rattle.mps_heap_spec.specs.Following.{with_dependents}
use Rattle.mps_heap_spec.specs.State.{HeapState}
use Rattle.mps_refinement.specs.Following.{unpaired}
use Rattle.mps_refinement.specs.StandsFor.{AreParts, Past}

-- a heap that has no pair
abbrev pub alone : {F : Type 0} → HeapState F → HeapState F
alone h = with_dependents h []

module _ {F : Type 0} {layout : F → Layout} where
  pub parts_alone : {past : Past} {h : HeapState F} {w : World} → AreParts layout past h w → AreParts layout past (alone h) (unpaired w)
  parts_alone p = record {
    grains = p.grains;
    limit = p.limit;
    segments = p.segments;
    image = p.image;
    arena = p.arena;
    summed = p.summed;
    tables = p.tables;
    ordered = p.ordered;
    areas = p.areas;
    blocks = p.blocks;
    roots_counted = p.roots_counted;
    slots_counted = p.slots_counted;
    points = p.points;
    points_counted = p.points_counted;
    registered = p.registered;
    messages = p.messages;
    flips = p.flips;
    point_flips = p.point_flips;
    dependencies = p.dependencies;
    lawful = p.lawful;
    pools = p.pools;
    sizes = p.sizes;
    chains = p.chains;
    names = record {
      named = p.names.named;
      there = p.names.there;
      unique = p.names.unique;
      once = p.names.once;
      label_count = p.names.label_count;
      cache_count = p.names.cache_count;
      label_numbers = p.names.label_numbers;
      transform_count = p.names.transform_count;
    };
    state = p.state;
    beside = record { dependents = refl; caches = p.beside.caches };
    transforms = p.transforms;
    framed = p.framed;
  }

  -- a flip
  pub started_without : {what : Condemn} {h h' : HeapState F} {m m' : Moves} → IsStarted layout what h m h' m'
      → IsStarted layout what (alone h) m (alone h') m'
  started_without s = record { begun = s.begun; ended = s.ended; state = ap alone s.state }

  -- a full collection
  pub collected_without : {h h' : HeapState F} {m m' : Moves} → IsCollected layout h m h' m' → IsCollected layout (alone h) m (alone h') m'
  collected_without c = record {
    before = c.before;
    after = c.after;
    of_pools = c.of_pools;
    collects = c.collects;
    state = ap alone c.state;
  }
