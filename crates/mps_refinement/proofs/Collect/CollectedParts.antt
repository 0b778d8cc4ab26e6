-- The parts of a heap after a flip, and what follows of its collection in the same call, stand for the world after them.
use Rattle.std.proofs.Common.{◌≡◌, ◌∙◌, ℕ, ◌+◌, ◌≤◌, ◌<◌, true, false, refl, sym, ap, subst, length, map, Option, Some, None, IsSome, is_some, List, [], arith}
use Rattle.std.proofs.lemmas.Bool.{false≢true}
use Rattle.std.specs.Prelude.{Bool, option_map, not}
use Rattle.std.specs.Option.{option_map_or}
use Rattle.mps_base.specs.Address.{Id, max_grains, word_of}
use Rattle.mps_buffer.specs.Points.{PointsState, WereMadeBefore, point_at, without_free_words}
use Rattle.mps_buffer.proofs.MadeBefore.{point_at-flipped, was_point}
use Rattle.mps_buffer.specs.declared.point.Point.{Point}
use Rattle.mps_format.specs.Layout.{Layout}
use Rattle.mps_trace_laws.specs.Image.Memory.{words_of_arena}
use Rattle.mps_ld.proofs.Flips.{flips_after}
use Rattle.mps_ld.specs.Flips.{AreFlips}
use Rattle.mps_model.specs.Graph.{ids_in_caches, ids_in_places, Object, contains, ids_in_blocks, ids_in_slots, is_automatic, object_at}
use Rattle.mps_model.specs.World as world
use Rattle.mps_model.specs.World.{World, object_is, pairs_in}
use Rattle.mps_model.specs.WellFormed.{IsWellFormed}
use Rattle.mps_model.specs.Effect.{world_flipped}
use Rattle.mps_model.proofs.Reaching.{list_all-contains}
use Rattle.mps_root.specs.State.{kept}
use Rattle.mps_abstract.proofs.Lists.{contains_left, contains_right}
use Rattle.mps_abstract.specs.Collecting.{Collecting}
use Rattle.mps_names.specs.State.{NamesState, thing_named}
use Rattle.mps_heap_spec.specs.State.{HeapState}
use Rattle.mps_format.specs.Pools.{size_of_pool, policy_of_pool}
use Rattle.mps_trace.specs.GenState.{ChainsState}
use Rattle.mps_refinement.specs.StandsFor.{AreChains, AreParts, AreRegisteredAt, ArePools, IsPoint, Past, StandsAt, Time, address_of_id, state_of}
use Rattle.mps_refinement.specs.Transforms.{AreTransforms}
use Rattle.mps_neighbours.specs.Beside.{BesideState}
use Rattle.mps_refinement.specs.Beside.{IsBeside}
use Rattle.mps_refinement.specs.Dependents.{kept_pair}
use Rattle.mps_refinement.specs.Framed.{AreFramed}
use Rattle.mps_refinement.proofs.Parts.BesideParts.{beside_others, beside_still}
use Rattle.mps_neighbours.specs.Transforms.{emptied}
use Rattle.mps_refinement.proofs.Parts.BlockParts.{unpaired}
use Rattle.mps_refinement.proofs.Parts.TransformParts.{transforms_emptied}
use Rattle.mps_refinement.specs.Numbering.{AreNumbered}
use Rattle.mps_refinement.proofs.Parts.Named.{ThingsStay, named_alike, named_at}
use Rattle.mps_refinement.proofs.Parts.Numbering.{kept_alike}
use Rattle.mps_refinement.proofs.Parts.Ordering.{ordered_alike}
use Rattle.mps_abstract.specs.Leaving.{IsButCollected}
use Rattle.mps_refinement.specs.Collect.Leaving.{AreInPlace}
use Rattle.mps_refinement.specs.Collect.Standing.{IsFlippedHeap}
use Rattle.mps_refinement.proofs.Collect.SameAddresses.{same_places, tables_same, areas_same}
use Rattle.mps_refinement.proofs.Collect.FlippedPoints.{points_counted, points_flipped, one_flip_more}
use Rattle.mps_trace_laws.specs.Summaries.Summed.{AreWordsSummed}
use Rattle.mps_format.specs.declared.pool.Pool.{Pool}
use Rattle.mps_refinement.proofs.Parts.CachesStill.{same_caches}

-- what is in tables of blocks is manual
pub blocks_are_manual : (w : World) → IsWellFormed w → (id : Id) → contains (ids_in_blocks w.graph) id ≡ true
    → object_is is_automatic w id ≡ false
blocks_are_manual w formed id there =
    manual_is (object_at w.graph id)
    (list_all-contains (object_is (λ o. not (is_automatic o)) w) (ids_in_blocks w.graph) id formed.blocks there)
  where
    not_true : (b : Bool) → not b ≡ true → b ≡ false
    not_true true e = absurd (false≢true e)
    not_true false e = refl

    manual_is : (o : Option Object)
        → option_map_or (λ o. not (is_automatic o)) o false ≡ true
        → option_map_or is_automatic o false ≡ false
    manual_is None e = refl
    manual_is (Some o) e = not_true (is_automatic o) e

module _ {F : Type 0} (layout : F → Layout) (past : Past) (h after : HeapState F) (w : World) (parts : AreParts layout past h w)
    (formed : IsWellFormed w) (none : w.graph.dependents ≡ []) (made : WereMadeBefore (length w.flips) h.points) (acted : Collecting)
    (u : World) (zones : ℕ) (left : IsButCollected (world_flipped w zones) u) (state : world.ArenaState) where
  -- the world after it, with the arena in another state
  abbrev pub there : World
  there = record u { state = state }

  abbrev v : World
  v = record (world_flipped w zones) {
    graph =
        record (world_flipped w zones).graph {
          objects = left.objects;
          registered = left.registered;
          messages = left.messages;
          dependents = left.dependents;
        };
    addresses = left.addresses;
    segments = left.segments;
    tails = left.tails;
    state = state;
    collection = left.collection;
  }

  same : there ≡ v
  same = ap (λ (x : World). record x { state = state }) left.world

  module _ (t : Time) (flipped : IsFlippedHeap past w zones h after acted.world.addresses there) (in_place : AreInPlace w acted there)
      (image : StandsAt t after.segs there)
      (registered : AreRegisteredAt t there.addresses after.finals.registered there.graph.registered)
      (messages : after.finals.messages ≡ map (address_of_id there.addresses) there.graph.messages)
      (summed : AreWordsSummed layout (map policy_of_pool h.pools) after.segs) where
    heap : IsFlippedHeap past w zones h after acted.world.addresses v
    heap = subst (IsFlippedHeap past w zones h after acted.world.addresses) same flipped

    places : AreInPlace w acted v
    places = subst (AreInPlace w acted) same in_place

    points_stay : (key : ℕ) → IsSome (point_at h.points key) → IsSome (point_at after.points key)
    points_stay key there = of_point (point_at h.points key) refl there
      where
        of_point : (o : Option Point) → point_at h.points key ≡ o → IsSome o → IsSome (point_at after.points key)
        of_point None e some = absurd (false≢true some)
        of_point (Some p) e some =
            ap is_some (ap (λ s. point_at s key) heap.points ∙ point_at-flipped h.points key ∙ ap (option_map without_free_words) e)

    stay : ThingsStay h after
    stay = record {
      pools = λ n less. subst (λ ps. n < length ps) (sym heap.pools) less;
      caches = let beside = ap (λ (b : BesideState). length b.caches) heap.beside in omega (arith, beside);
      tables = heap.tables_there;
      areas = λ key there. ap (λ rows. is_some (kept rows key)) heap.areas ∙ there;
      blocks = λ n less. subst (λ rows. n < length rows) (sym heap.blocks) less;
      points = points_stay;
      dependencies = λ n less. subst (λ ds. n < length ds) (sym heap.dependencies) less;
      chains = λ n less. subst (λ (c : ChainsState). n < length c.chains) (sym heap.chains) less;
      transforms = ap (λ (b : BesideState). b.transforms.live) heap.beside;
    }

    points_now : AreNumbered (IsPoint (length v.flips) (world.is_copying_pool v) v.point_memories) past.point_number (point_at after.points)
        v.graph.points
    points_now = subst (λ n. AreNumbered (IsPoint n (world.is_copying_pool v) v.point_memories) past.point_number (point_at after.points)
        v.graph.points) (sym (one_flip_more w.flips zones))
        (subst (λ s. AreNumbered (IsPoint (length w.flips + 1) (world.is_copying_pool w) v.point_memories) past.point_number (point_at s)
        v.graph.points) (sym heap.points)
        (points_flipped (length w.flips) (world.is_copying_pool w) w.point_memories past.point_number h.points w.graph.points made
        parts.points))

    no_pairs : pairs_in v.state ≡ []
    no_pairs = ap pairs_in heap.state ∙ unpaired after.arena

    -- at this time
    abbrev then : Past
    then = record past { time = t }

    parts_then : AreParts layout then after v
    parts_then = record {
      grains = heap.grains ∙ parts.grains;
      limit = heap.limit ∙ parts.limit;
      segments = heap.segments;
      image = subst (StandsAt t after.segs) same image;
      arena = record {
        nonzero = subst (λ n. 0 < n) (sym heap.grains) parts.arena.nonzero;
        at_most = subst (λ n. n ≤ max_grains) (sym heap.grains) parts.arena.at_most;
        within = λ key p held is reserved.
            let was = was_point h.points key p (sym (ap (λ s. point_at s key) heap.points) ∙ is) in
            subst (λ n. word_of held.at.0 + held.words ≤ words_of_arena n) (sym heap.grains)
            (parts.arena.within key was.0 held was.1 (ap (λ (q : Point). q.reservation) was.2 ∙ reserved));
        aligned = λ key p held is reserved.
            let was = was_point h.points key p (sym (ap (λ s. point_at s key) heap.points) ∙ is) in
            parts.arena.aligned key was.0 held was.1 (ap (λ (q : Point). q.reservation) was.2 ∙ reserved);
      };
      summed = subst (λ (ps : List (Pool F)). AreWordsSummed layout (map policy_of_pool ps) after.segs) (sym heap.pools) summed;
      tables = tables_same acted.world.addresses left.addresses past.table_number (kept after.roots.tables) w.graph.tables
          (λ id there. places.held id (contains_left (ids_in_slots w.graph) w.graph.messages id there)) heap.tables;
      ordered = ordered_alike parts.ordered after.roots.order heap.order heap.tables_there;
      areas = areas_same w.addresses left.addresses past.area_number (kept after.roots.areas) w.graph.areas
          (λ id there. places.holds id there) (kept_alike parts.areas (λ key. ap (λ rows. kept rows key) heap.areas));
      blocks = heap.blocks ∙ (parts.blocks ∙ same_places w.addresses left.addresses w.graph.blocks
          (λ id there. places.manual id (blocks_are_manual w formed id
          (contains_left (ids_in_places w.graph) (ids_in_caches w.graph) id there))));
      roots_counted = heap.live_roots ∙ parts.roots_counted;
      slots_counted = heap.live_slots ∙ parts.slots_counted;
      points = points_now;
      points_counted = heap.live_points ∙ (parts.points_counted ∙ sym (points_counted w.graph.points));
      registered = subst (λ (x : World). AreRegisteredAt t x.addresses after.finals.registered x.graph.registered) same registered;
      messages = messages ∙ ap (λ (x : World). map (address_of_id x.addresses) x.graph.messages) same;
      flips = subst (λ e. AreFlips e v.flips) (sym heap.epochs) (flips_after h.epochs w.flips zones parts.flips);
      point_flips = ap (λ (s : PointsState). s.flips) heap.points
          ∙ (ap (λ n. n + 1) parts.point_flips ∙ sym (one_flip_more w.flips zones));
      dependencies = heap.dependencies ∙ parts.dependencies;
      lawful = parts.lawful;
      pools = subst (λ ps. ArePools layout w.formats ps w.pools) (sym heap.pools) parts.pools;
      sizes = heap.sizes ∙ (parts.sizes ∙ ap (map size_of_pool) (sym heap.pools));
      chains = subst (λ (c : ChainsState). AreChains c w.chains w.pools) (sym heap.chains) parts.chains;
      names =
          named_at past t after w.graph.names w.graph.labels
          (named_alike h after past w.graph.names w.graph.labels parts.names (λ name. ap (λ ns. thing_named ns name) heap.names)
          (ap (λ (ns : NamesState). ns.counts) heap.names) stay);
      state = heap.state ∙ ap (state_of after.arena) (sym no_pairs);
      beside = subst (λ (b : BesideState). IsBeside b v.addresses v.graph.caches v.graph.dependents)
          (sym heap.beside) (beside_others _ _ _ _ (emptied h.beside.transforms)
          (beside_still _ _ _ _ parts.beside _ _ _
          (same_caches w.addresses left.addresses w.graph.caches (λ id there. places.manual id (blocks_are_manual w formed id
          (contains_right (ids_in_places w.graph) (ids_in_caches w.graph) id there))))
          (ap (map (kept_pair w.addresses)) none
          ∙ sym (ap (map (kept_pair left.addresses)) (left.unpaired none)))));
      transforms = subst (λ (b : BesideState). AreTransforms past.transform_number (world.is_copying_object v) v.addresses b.transforms
          v.graph.transforms (pairs_in v.state)) (sym heap.beside)
          (transforms_emptied past.transform_number (world.is_copying_object w) (world.is_copying_object v) w.addresses v.addresses
          h.beside.transforms w.graph.transforms (pairs_in w.state) (pairs_in v.state) no_pairs parts.transforms);
      framed = subst (λ (b : BesideState). AreFramed b.frames after.roots.blocks w.graph.blocks w.pools w.graph.frames) (sym heap.beside)
          (subst (λ bs. AreFramed h.beside.frames bs w.graph.blocks w.pools w.graph.frames) (sym heap.blocks) parts.framed);
    }

    pub flipped_parts : AreParts layout then after there
    flipped_parts = subst (AreParts layout then after) (sym same) parts_then
