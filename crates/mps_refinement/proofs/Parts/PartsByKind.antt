-- The parts of a heap and of a world by what they speak of. A lemma of a change names the kinds that it changes; the others are those
-- that stood before.
use Rattle.std.proofs.Common.{◌≡◌, ℕ, length, map}
use Rattle.mps_format.specs.Layout.{Layout, IsLawful}
use Rattle.mps_buffer.specs.Points.{point_at}
use Rattle.mps_ld.specs.Flips.{AreFlips}
use Rattle.mps_model.specs.Making.{live_roots, live_slots, live_points}
use Rattle.mps_model.specs.World as world
use Rattle.mps_model.specs.World.{World}
use Rattle.mps_root.specs.State.{kept}
use Rattle.mps_heap_spec.specs.State.{HeapState}
use Rattle.mps_format.specs.Pools.{policy_of_pool, size_of_pool}
use Rattle.mps_trace_laws.specs.Summaries.Summed.{AreWordsSummed}
use Rattle.mps_refinement.specs.Beside.{IsBeside}
use Rattle.mps_refinement.specs.Framed.{AreFramed}
use Rattle.mps_refinement.specs.Numbering.{AreNumbered, AreOrdered}
use Rattle.mps_refinement.specs.Transforms.{AreTransforms}
use Rattle.mps_refinement.specs.StandsFor.{AreChains, AreNamed, AreParts, ArePools, AreSlots, AreWords, IsArena, IsPoint, Past, address_of_id, address_of_target, kept_of, state_of, AreRegisteredAt, StandsAt}

module _ {F : Type 0} (layout : F → Layout) (past : Past) (h : HeapState F) (w : World) where
  -- the arena's size, its limit and its segments
  abbrev pub ArenaParts : Type 0
  ArenaParts = (h.segs.grains ≡ w.grains) × (h.segs.limit ≡ w.limit) × (h.segs.segments ≡ w.segments)

  -- words, marks and runs, and what is summed of words
  abbrev pub ImageParts : Type 0
  ImageParts =
      StandsAt past.time h.segs w × IsArena h.segs.grains h.points × AreWordsSummed layout (map policy_of_pool h.pools) h.segs

  abbrev pub RootParts : Type 0
  RootParts = AreNumbered (AreSlots w.addresses) past.table_number (kept h.roots.tables) w.graph.tables
      × AreOrdered past.table_number h.roots.order (kept h.roots.tables) w.graph.tables
      × AreNumbered (AreWords w.addresses) past.area_number (kept h.roots.areas) w.graph.areas
      × (h.roots.blocks ≡ map (map (address_of_target w.addresses)) w.graph.blocks) × (h.live_roots ≡ live_roots w.graph)
      × (h.live_slots ≡ live_slots w.graph)

  abbrev pub PointParts : Type 0
  PointParts =
      AreNumbered (IsPoint (length w.flips) (world.is_copying_pool w) w.point_memories) past.point_number (point_at h.points)
      w.graph.points × (h.live_points ≡ live_points w.graph)

  -- registrations and messages
  abbrev pub FinalParts : Type 0
  FinalParts =
      AreRegisteredAt past.time w.addresses h.finals.registered w.graph.registered
      × (h.finals.messages ≡ map (address_of_id w.addresses) w.graph.messages)

  abbrev pub DependencyParts : Type 0
  DependencyParts = h.dependencies ≡ map kept_of w.dependencies

  -- formats, pools and chains
  abbrev pub PoolParts : Type 0
  PoolParts =
      ((number : ℕ) → IsLawful (w.formats number)) × ArePools layout w.formats h.pools w.pools × (h.sizes ≡ map size_of_pool h.pools)
      × AreChains h.chains w.chains w.pools

  -- flips, the arena's state, what stands beside the blocks, transforms, and pools of frames
  abbrev pub StateParts : Type 0
  StateParts =
      AreFlips h.epochs w.flips × (h.points.flips ≡ length w.flips) × (w.state ≡ state_of h.arena (world.pairs_in w.state))
      × IsBeside h.beside w.addresses w.graph.caches w.graph.dependents
      × AreTransforms past.transform_number (world.is_copying_object w) w.addresses h.beside.transforms w.graph.transforms
      (world.pairs_in w.state)
      × AreFramed h.beside.frames h.roots.blocks w.graph.blocks w.pools w.graph.frames

module _ {F : Type 0} {layout : F → Layout} {past : Past} {h : HeapState F} {w : World} where
  pub parts_of_kinds : ArenaParts layout past h w → ImageParts layout past h w → RootParts layout past h w → PointParts layout past h w
      → FinalParts layout past h w → DependencyParts layout past h w → PoolParts layout past h w → AreNamed past h w.graph.names
      w.graph.labels
      → StateParts layout past h w → AreParts layout past h w
  parts_of_kinds arena image roots points finals dependencies pools names state = record {
    grains = arena.0;
    limit = arena.1;
    segments = arena.2;
    image = image.0;
    arena = image.1;
    summed = image.2;
    tables = roots.0;
    ordered = roots.1;
    areas = roots.2;
    blocks = roots.3;
    roots_counted = roots.4;
    slots_counted = roots.5;
    points = points.0;
    points_counted = points.1;
    registered = finals.0;
    messages = finals.1;
    flips = state.0;
    point_flips = state.1;
    dependencies = dependencies;
    lawful = pools.0;
    pools = pools.1;
    sizes = pools.2;
    chains = pools.3;
    names = names;
    state = state.2;
    beside = state.3;
    transforms = state.4;
    framed = state.5;
  }

module _ {F : Type 0} {layout : F → Layout} {past : Past} {h : HeapState F} {w : World} (parts : AreParts layout past h w) where
  pub arena_of : ArenaParts layout past h w
  arena_of = (parts.grains, parts.limit, parts.segments)

  pub image_of : ImageParts layout past h w
  image_of = (parts.image, parts.arena, parts.summed)

  pub roots_of : RootParts layout past h w
  roots_of = (parts.tables, parts.ordered, parts.areas, parts.blocks, parts.roots_counted, parts.slots_counted)

  pub points_of : PointParts layout past h w
  points_of = (parts.points, parts.points_counted)

  pub finals_of : FinalParts layout past h w
  finals_of = (parts.registered, parts.messages)

  pub pools_of : PoolParts layout past h w
  pools_of = (parts.lawful, parts.pools, parts.sizes, parts.chains)

  pub states_of : StateParts layout past h w
  states_of = (parts.flips, parts.point_flips, parts.state, parts.beside, parts.transforms, parts.framed)
