-- The parts of a heap still stand for those of a world after blocks were changed in both: the segments, what objects there are and
-- where they lie, and the places of tables of blocks.
use Rattle.std.proofs.Common.{◌≡◌, ◌∙◌, ℕ, ◌+◌, refl, sym, ap, subst, List, [], map, length, Option, arith}
use Rattle.std.specs.Prelude.{sum_by, count_by, is_some}
use Rattle.mps_base.specs.Address.{Address, Id}
use Rattle.mps_base.specs.Segment.{Segment}
use Rattle.mps_format.specs.Layout.{Layout}
use Rattle.mps_model.specs.Graph.{Object, PoolFrames, Slots}
use Rattle.mps_model.specs.Making.{length_of}
use Rattle.mps_model.specs.World.{World, is_copying_object, pairs_in}
use Rattle.mps_root.specs.State.{kept}
use Rattle.mps_seg.specs.Segs.{SegsState}
use Rattle.mps_snc.specs.State.{Pools}
use Rattle.mps_heap_spec.specs.Framing.{with_frames}
use Rattle.mps_heap_spec.specs.State.{HeapState}
use Rattle.mps_heap_spec.specs.declared.arena.ArenaState.{ArenaState}
use Rattle.mps_heap_spec.specs.declared.arena.ArenaState.TheVariants as arena
use Rattle.mps_refinement.specs.Framed.{AreFramed}
use Rattle.mps_refinement.specs.Numbering.{AreNumbered}
use Rattle.mps_refinement.specs.StandsFor.{Past, AreParts, AreSlots, AreWords, IsArena, address_of_id, address_of_target, StandsAt, AreRegisteredAt, state_of}
use Rattle.mps_refinement.proofs.Parts.Named.{named_alike}
use Rattle.mps_refinement.proofs.Parts.BesideParts.{beside_framed, beside_still}
use Rattle.mps_refinement.proofs.Parts.TransformParts.{KeepsPaired, transforms_still}
use Rattle.mps_refinement.proofs.Parts.PartsByKind.{arena_of, finals_of, image_of, parts_of_kinds, points_of, pools_of, roots_of}
use Rattle.mps_trace_laws.specs.Summaries.Summed.{AreWordsSummed}
use Rattle.mps_format.specs.Pools.{policy_of_pool}
use Rattle.mps_refinement.specs.Beside.{kept_cache}
use Rattle.mps_refinement.specs.Dependents.{kept_pair}

module _ {F : Type 0} (h : HeapState F) (segs : SegsState) (blocks : List (List ℕ)) where
  -- the state with these segments and places
  abbrev pub with_blocks : HeapState F
  with_blocks = record h { segs = segs; roots = record h.roots { blocks = blocks } }

-- the world with these objects at these addresses, places and segments
abbrev pub world_with_blocks : World → List Object → List (Option Address) → List Slots → List Segment → World
world_with_blocks w objects addresses places segments =
    record w { graph = record w.graph { objects = objects; blocks = places }; addresses = addresses; segments = segments }

-- what is shown of the change
pub record AreBlocks {F : Type 0} (layout : F → Layout) (past : Past) (h : HeapState F) (w : World) (segs : SegsState)
    (blocks : List (List ℕ)) (objects : List Object) (addresses : List (Option Address)) (places : List Slots)
    (segments : List Segment) : Type 0 where
  pub grains : segs.grains ≡ h.segs.grains
  pub limit : segs.limit ≡ h.segs.limit
  pub segments_are : segs.segments ≡ segments
  pub image : StandsAt past.time segs (world_with_blocks w objects addresses places segments)
  pub arena : IsArena segs.grains h.points
  pub summed : AreWordsSummed layout (map policy_of_pool h.pools) segs
  pub tables : AreNumbered (AreSlots addresses) past.table_number (kept h.roots.tables) w.graph.tables
  pub areas : AreNumbered (AreWords addresses) past.area_number (kept h.roots.areas) w.graph.areas
  pub blocks_are : blocks ≡ map (map (address_of_target addresses)) places
  pub cached : map (kept_cache w.addresses) w.graph.caches ≡ map (kept_cache addresses) w.graph.caches
  pub depending : map (kept_pair w.addresses) w.graph.dependents ≡ map (kept_pair addresses) w.graph.dependents
  pub count : length places ≡ length w.graph.blocks
  pub counted : sum_by length places ≡ sum_by length w.graph.blocks
  pub registered : AreRegisteredAt past.time addresses h.finals.registered w.graph.registered
  pub messages : h.finals.messages ≡ map (address_of_id addresses) w.graph.messages
  pub there : length blocks ≡ length h.roots.blocks
  pub framed : AreFramed h.beside.frames blocks places w.pools w.graph.frames
  -- objects in pairs of transforms are what they were, where they were
  pub paired : KeepsPaired (is_copying_object w) (is_copying_object (world_with_blocks w objects addresses places segments)) w.addresses
      addresses (pairs_in w.state)

pub blocks_changed : {F : Type 0} (layout : F → Layout) (past : Past) (h : HeapState F) (w : World) (segs : SegsState)
    (blocks : List (List ℕ)) (objects : List Object) (addresses : List (Option Address)) (places : List Slots) (segments : List Segment)
    → AreParts layout past h w → AreBlocks layout past h w segs blocks objects addresses places segments
    → AreParts layout past (with_blocks h segs blocks) (world_with_blocks w objects addresses places segments)
blocks_changed layout past h w segs blocks objects addresses places segments parts are =
    parts_of_kinds (are.grains ∙ parts.grains, are.limit ∙ parts.limit, are.segments_are) (are.image, are.arena, are.summed) (
      are.tables,
      parts.ordered,
      are.areas,
      are.blocks_are,
      parts.roots_counted ∙ ap (λ n. count_by is_some w.graph.tables + count_by is_some w.graph.areas + n) (sym are.count),
      parts.slots_counted ∙ ap (λ n. sum_by length_of w.graph.tables + sum_by length_of w.graph.areas + n) (sym are.counted),
    )
    (points_of parts) (are.registered, are.messages) parts.dependencies (pools_of parts)
    (named_alike h (with_blocks h segs blocks) past w.graph.names w.graph.labels parts.names (λ name. refl) refl (record {
      pools = λ n low. low;
      caches = omega arith;
      tables = λ key some. some;
      areas = λ key some. some;
      blocks = λ n low. let same = are.there in omega (arith, low, same);
      points = λ key some. some;
      dependencies = λ n low. low;
      chains = λ n low. low;
      transforms = refl;
    })) (
      parts.flips,
      parts.point_flips,
      parts.state,
      beside_still _ _ _ _ parts.beside _ _ _ are.cached are.depending,
      transforms_still past.transform_number (is_copying_object w)
          (is_copying_object (world_with_blocks w objects addresses places segments))
          w.addresses addresses h.beside.transforms w.graph.transforms (pairs_in w.state) are.paired parts.transforms,
      are.framed,
    )

-- an arena has no pairs of transforms but those that are given
pub unpaired : (a : ArenaState) → pairs_in (state_of a []) ≡ []
unpaired arena.Unclamped = refl
unpaired arena.Clamped = refl
unpaired arena.Parked = refl

-- a world with other pairs of dependents
abbrev pub world_with_pairs : World → List (Id × Id) → World
world_with_pairs w pairs = record w { graph = record w.graph { dependents = pairs } }

-- they are those that it has
pub parts_with_pairs : {F : Type 0} (layout : F → Layout) (past : Past) (h : HeapState F) (w : World) (pairs : List (Id × Id))
    → pairs ≡ w.graph.dependents → AreParts layout past h w → AreParts layout past h (world_with_pairs w pairs)
parts_with_pairs layout past h w pairs same parts = subst (λ ps. AreParts layout past h (world_with_pairs w ps)) (sym same) parts

-- a world with other frames of pools
abbrev pub world_with_frames : World → List PoolFrames → World
world_with_frames w frames = record w { graph = record w.graph { frames = frames } }

pub parts_with_frames : {F : Type 0} (layout : F → Layout) (past : Past) (h : HeapState F) (w : World) (ours : Pools)
    (frames : List PoolFrames) → AreFramed ours h.roots.blocks w.graph.blocks w.pools frames → AreParts layout past h w
    → AreParts layout past (with_frames h ours) (world_with_frames w frames)
parts_with_frames layout past h w ours frames framed p =
    parts_of_kinds (arena_of p) (image_of p) (roots_of p) (points_of p) (finals_of p) p.dependencies (pools_of p)
    (named_alike h (with_frames h ours) past w.graph.names w.graph.labels p.names (λ name. refl) refl (record {
      pools = λ n low. low;
      caches = omega arith;
      tables = λ key some. some;
      areas = λ key some. some;
      blocks = λ n low. low;
      points = λ key some. some;
      dependencies = λ n low. low;
      chains = λ n low. low;
      transforms = refl;
    }))
    (p.flips, p.point_flips, p.state, beside_framed _ _ _ _ p.beside ours, p.transforms, framed)
