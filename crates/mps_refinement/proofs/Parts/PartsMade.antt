-- The parts of a heap that stand for those of a world, after things were made or dropped: a lemma for each kind of thing, over the
-- facts that change.
use Rattle.std.proofs.Common.{◌≡◌, ℕ, ◌<◌, Bool, refl, sym, ap, subst, List, length, map, Option, IsSome, arith}
use Rattle.mps_base.specs.declared.names.Name.{Name}
use Rattle.mps_buffer.specs.declared.point.Point.{Point}
use Rattle.mps_format.specs.Layout.{Layout}
use Rattle.mps_ld.specs.State.{LdState}
use Rattle.mps_model.specs.Graph as graph
use Rattle.mps_model.specs.Graph.{AreaWord, NamedThing, PoolFrames, Slots}
use Rattle.mps_model.specs.Making.{live_points, live_roots, live_slots}
use Rattle.mps_model.specs.World as world
use Rattle.mps_model.specs.World.{World, Dependency, PointMemory}
use Rattle.mps_model.specs.Checked.{with_graph}
use Rattle.mps_names.specs.State.{NamesState, IsSameMap}
use Rattle.mps_neighbours.specs.Beside.{BesideState}
use Rattle.mps_root.specs.State.{RootsState, kept}
use Rattle.mps_snc.specs.State.{Pools}
use Rattle.mps_heap_spec.specs.Making.{IsUntouched}
use Rattle.mps_heap_spec.specs.State.{HeapState}
use Rattle.mps_heap_spec.specs.Transforming.{with_transforms}
use Rattle.mps_neighbours.specs.Beside.{BesideState}
use Rattle.mps_neighbours.specs.Transforms.{TransformsState}
use Rattle.mps_format.specs.Pools.{size_of_pool, policy_of_pool}
use Rattle.mps_heap_spec.specs.declared.arena.ArenaState.{ArenaState}
use Rattle.mps_format.specs.declared.pool.Pool.{Pool}
use Rattle.mps_trace.specs.AmcState.{with_pool}
use Rattle.mps_trace.specs.GenState.{ChainsState}
use Rattle.mps_pools.specs.Pools.{tails_on, with_pool_on}
use Rattle.mps_refinement.specs.Framed.{AreFramed}
use Rattle.mps_refinement.specs.Numbering.{AreNumbered, AreOrdered}
use Rattle.mps_refinement.specs.Transforms.{AreTransforms}
use Rattle.mps_refinement.specs.StandsFor.{AreChains, AreNamed, AreParts, ArePools, AreSlots, AreWords, IsPoint, Past, StandsFor, address_of_target, kept_of, state_of, IsArena, IsInTime, StandsAt, collector_of}
use Rattle.mps_refinement.proofs.Parts.Named.{ThingsStay, named_alike}
use Rattle.mps_refinement.proofs.Parts.BesideParts.{beside_framed, beside_others}
use Rattle.mps_refinement.proofs.Parts.PartsByKind.{parts_of_kinds, arena_of, finals_of, image_of, points_of, pools_of, roots_of, states_of}
use Rattle.mps_trace_laws.specs.Summaries.Summed.{AreWordsSummed}

-- where the things are those of another state, all stay
pub all_stay : {F : Type 0} (h after : HeapState F) → after.pools ≡ h.pools → after.roots ≡ h.roots → after.points ≡ h.points
    → after.dependencies ≡ h.dependencies → after.chains ≡ h.chains → after.beside ≡ h.beside → ThingsStay h after
all_stay h after pools roots points dependencies chains beside = record {
  pools = λ n low. subst (λ ps. n < length ps) (sym pools) low;
  caches = let same = ap (λ (b : BesideState). length b.caches) beside in omega (arith, same);
  tables = λ key some. subst (λ (r : RootsState). IsSome (kept r.tables key)) (sym roots) some;
  areas = λ key some. subst (λ (r : RootsState). IsSome (kept r.areas key)) (sym roots) some;
  blocks = λ n low. subst (λ (r : RootsState). n < length r.blocks) (sym roots) low;
  points = λ key some. subst (λ ps. IsSome (Rattle.mps_buffer.specs.Points.point_at ps key)) (sym points) some;
  dependencies = λ n low. subst (λ ds. n < length ds) (sym dependencies) low;
  chains = λ n low. subst (λ (c : ChainsState). n < length c.chains) (sym chains) low;
  transforms = ap (λ (b : BesideState). b.transforms.live) beside;
}

module _ {F : Type 0} (layout : F → Layout) (past : Past) (h : HeapState F) (w : World) (parts : AreParts layout past h w) where
  -- ---- roots

  -- the state with other roots, and the world with other tables, areas, tables of blocks and names
  abbrev pub state_of_roots : RootsState → (roots_live slots_live : ℕ) → NamesState → HeapState F
  state_of_roots roots roots_live slots_live names =
      record h { roots = roots; live_roots = roots_live; live_slots = slots_live; names = names }

  abbrev pub world_of_roots : List (Option Slots) → List (Option (List AreaWord)) → List Slots → List NamedThing → World
  world_of_roots tables areas blocks named =
      with_graph w (record w.graph { tables = tables; areas = areas; blocks = blocks; names = named })

  abbrev pub past_of_roots : (tables areas : ℕ → ℕ) → Past
  past_of_roots tables areas = record past { table_number = tables; area_number = areas }

  -- the facts of other roots
  pub record AreOtherRoots (table_number area_number : ℕ → ℕ) (roots : RootsState) (roots_live slots_live : ℕ) (names : NamesState)
      (tables : List (Option Slots)) (areas : List (Option (List AreaWord))) (blocks : List Slots) (named : List NamedThing) : Type 0 where
    pub tables_are : AreNumbered (AreSlots w.addresses) table_number (kept roots.tables) tables
    pub ordered : AreOrdered table_number roots.order (kept roots.tables) tables
    pub areas_are : AreNumbered (AreWords w.addresses) area_number (kept roots.areas) areas
    pub blocks_are : roots.blocks ≡ map (map (address_of_target w.addresses)) blocks
    pub roots_counted : roots_live ≡ live_roots (record w.graph { tables = tables; areas = areas; blocks = blocks })
    pub slots_counted : slots_live ≡ live_slots (record w.graph { tables = tables; areas = areas; blocks = blocks })
    pub framed_are : AreFramed h.beside.frames roots.blocks blocks w.pools w.graph.frames
    pub names_are : AreNamed (past_of_roots table_number area_number) (state_of_roots roots roots_live slots_live names) named
        w.graph.labels

  pub roots_changed : (table_number area_number : ℕ → ℕ) (roots : RootsState) (roots_live slots_live : ℕ) (names : NamesState)
      (tables : List (Option Slots)) (areas : List (Option (List AreaWord))) (blocks : List Slots) (named : List NamedThing)
      → AreOtherRoots table_number area_number roots roots_live slots_live names tables areas blocks named
      → AreParts layout (past_of_roots table_number area_number) (state_of_roots roots roots_live slots_live names)
      (world_of_roots tables areas blocks named)
  roots_changed table_number area_number roots roots_live slots_live names tables areas blocks named are =
      parts_of_kinds (arena_of parts) (image_of parts)
      (are.tables_are, are.ordered, are.areas_are, are.blocks_are, are.roots_counted, are.slots_counted) (points_of parts)
      (finals_of parts) parts.dependencies (pools_of parts) are.names_are
      (parts.flips, parts.point_flips, parts.state, parts.beside, parts.transforms, are.framed_are)

  -- ---- points

  abbrev pub state_of_points : List (Option Point) → (points_live : ℕ) → NamesState → HeapState F
  state_of_points points points_live names =
      record h { points = record h.points { points = points }; live_points = points_live; names = names }

  abbrev pub world_of_points : List (Option graph.Point) → List PointMemory → List NamedThing → World
  world_of_points points memories named =
      record w { graph = record w.graph { points = points; names = named }; point_memories = memories }

  pub record AreOtherPoints (point_number : ℕ → ℕ) (points : List (Option Point)) (points_live : ℕ) (names : NamesState)
      (numbered : List (Option graph.Point)) (memories : List PointMemory) (named : List NamedThing) : Type 0 where
    pub points_are : AreNumbered (IsPoint (length w.flips) (world.is_copying_pool w) memories) point_number (kept points) numbered
    pub points_counted : points_live ≡ live_points (record w.graph { points = numbered })
    pub image_stands : StandsAt past.time h.segs (world_of_points numbered memories w.graph.names)
    pub open_still : IsArena h.segs.grains (record h.points { points = points })
    pub names_are : AreNamed (record past { point_number = point_number }) (state_of_points points points_live names) named w.graph.labels

  pub points_changed : (point_number : ℕ → ℕ) (points : List (Option Point)) (points_live : ℕ) (names : NamesState)
      (numbered : List (Option graph.Point)) (memories : List PointMemory) (named : List NamedThing)
      → AreOtherPoints point_number points points_live names numbered memories named
      → AreParts layout (record past { point_number = point_number }) (state_of_points points points_live names)
      (world_of_points numbered memories named)
  points_changed point_number points points_live names numbered memories named are =
      parts_of_kinds (arena_of parts) (are.image_stands, are.open_still, parts.summed) (roots_of parts) (are.points_are, are.points_counted)
      (finals_of parts) parts.dependencies (pools_of parts) are.names_are (states_of parts)

  -- ---- chains

  abbrev pub state_of_chains : ChainsState → NamesState → HeapState F
  state_of_chains chains names = record h { chains = chains; names = names }

  abbrev pub world_of_chains : List (List ℕ) → List NamedThing → World
  world_of_chains chains named = record w { graph = record w.graph { names = named }; chains = chains }

  pub chains_changed : (kept : ChainsState) (names : NamesState) (chains : List (List ℕ)) (named : List NamedThing)
      → AreChains kept chains w.pools → AreNamed past (state_of_chains kept names) named w.graph.labels
      → AreParts layout past (state_of_chains kept names) (world_of_chains chains named)
  chains_changed kept names chains named are names_are =
      parts_of_kinds (arena_of parts) (image_of parts) (roots_of parts) (points_of parts) (finals_of parts) parts.dependencies
      (parts.lawful, parts.pools, parts.sizes, are) names_are (states_of parts)

  -- ---- pools

  -- the state with other pools, some of them of frames
  abbrev pub state_of_pools : List (Pool F) → (sizes : List ℕ) → (chain : Option ℕ) → Pools → NamesState → HeapState F
  state_of_pools pools sizes chain frames names = record h {
    pools = pools;
    sizes = sizes;
    chains = with_pool_on h.chains chain;
    tails = with_pool h.tails (tails_on h.chains chain);
    names = names;
    beside = record h.beside { frames = frames };
  }

  abbrev pub world_of_pools : List world.Pool → List PoolFrames → List NamedThing → World
  world_of_pools pools framed named = record w { graph = record w.graph { names = named; frames = framed }; pools = pools }

  pub record AreOtherPools (pools : List (Pool F)) (sizes : List ℕ) (chain : Option ℕ) (frames : Pools) (names : NamesState)
      (numbered : List world.Pool) (framed : List PoolFrames) (named : List NamedThing) : Type 0 where
    pub pools_are : ArePools layout w.formats pools numbered
    pub sizes_are : sizes ≡ map size_of_pool pools
    pub chains_are : AreChains (with_pool_on h.chains chain) w.chains numbered
    pub points_are : AreNumbered
        (IsPoint (length w.flips) (world.is_copying_pool (world_of_pools numbered framed w.graph.names)) w.point_memories)
        past.point_number (kept h.points.points) w.graph.points
    pub image_stands : StandsAt past.time h.segs (world_of_pools numbered framed w.graph.names)
    pub words_summed : AreWordsSummed layout (map policy_of_pool pools) h.segs
    pub transforms_are : AreTransforms past.transform_number (world.is_copying_object (world_of_pools numbered framed w.graph.names))
        w.addresses h.beside.transforms w.graph.transforms (world.pairs_in w.state)
    pub framed_are : AreFramed frames h.roots.blocks w.graph.blocks numbered framed
    pub names_are : AreNamed past (state_of_pools pools sizes chain frames names) named w.graph.labels

  pub pools_changed : (pools : List (Pool F)) (sizes : List ℕ) (chain : Option ℕ) (frames : Pools) (names : NamesState)
      (numbered : List world.Pool) (framed : List PoolFrames) (named : List NamedThing)
      → AreOtherPools pools sizes chain frames names numbered framed named
      → AreParts layout past (state_of_pools pools sizes chain frames names) (world_of_pools numbered framed named)
  pools_changed pools sizes chain frames names numbered framed named are =
      parts_of_kinds (arena_of parts) (are.image_stands, parts.arena, are.words_summed) (roots_of parts)
      (are.points_are, parts.points_counted)
      (finals_of parts) parts.dependencies (parts.lawful, are.pools_are, are.sizes_are, are.chains_are) are.names_are
      (parts.flips, parts.point_flips, parts.state, beside_framed _ _ _ _ parts.beside frames, are.transforms_are, are.framed_are)

  -- ---- dependencies

  abbrev pub state_of_dependencies : List LdState → NamesState → HeapState F
  state_of_dependencies dependencies names = record h { dependencies = dependencies; names = names }

  abbrev pub world_of_dependencies : List Dependency → List NamedThing → World
  world_of_dependencies dependencies named = record w { graph = record w.graph { names = named }; dependencies = dependencies }

  pub dependencies_changed : (states : List LdState) (names : NamesState) (dependencies : List Dependency) (named : List NamedThing)
      → states ≡ map kept_of dependencies → AreNamed past (state_of_dependencies states names) named w.graph.labels
      → AreParts layout past (state_of_dependencies states names) (world_of_dependencies dependencies named)
  dependencies_changed states names dependencies named are names_are =
      parts_of_kinds (arena_of parts) (image_of parts) (roots_of parts) (points_of parts) (finals_of parts) are (pools_of parts) names_are
      (states_of parts)

  -- ---- labels

  -- the world with other names and labels
  abbrev pub world_of_labels : List NamedThing → List Name → World
  world_of_labels named labels = with_graph w (record w.graph { names = named; labels = labels })

  pub labels_changed : (names : NamesState) (named : List NamedThing) (labels : List Name)
      → AreNamed past (record h { names = names }) named labels
      → AreParts layout past (record h { names = names }) (world_of_labels named labels)
  labels_changed names named labels names_are =
      parts_of_kinds (arena_of parts) (image_of parts) (roots_of parts) (points_of parts) (finals_of parts) parts.dependencies
      (pools_of parts) names_are (states_of parts)

  -- ---- transforms

  -- the state with other transforms and names
  abbrev pub state_of_transforms : TransformsState → NamesState → HeapState F
  state_of_transforms transforms names = record (with_transforms h transforms) { names = names }

  -- the world with other transforms, names and pairs
  abbrev pub world_of_transforms : List Bool → List NamedThing → world.ArenaState → World
  world_of_transforms transforms named state =
      record w { graph = record w.graph { names = named; transforms = transforms }; state = state }

  pub transforms_changed : (number : ℕ → ℕ) (transforms : TransformsState) (names : NamesState) (theirs : List Bool)
      (named : List NamedThing) (state : world.ArenaState) → state ≡ state_of h.arena (world.pairs_in state)
      → AreTransforms number (world.is_copying_object w) w.addresses transforms theirs (world.pairs_in state)
      → AreNamed (record past { transform_number = number }) (state_of_transforms transforms names) named w.graph.labels
      → AreParts layout (record past { transform_number = number }) (state_of_transforms transforms names)
      (world_of_transforms theirs named state)
  transforms_changed number transforms names theirs named state is are names_are =
      parts_of_kinds (arena_of parts) (image_of parts) (roots_of parts) (points_of parts) (finals_of parts) parts.dependencies
      (pools_of parts) names_are (
        parts.flips,
        parts.point_flips,
        is,
        beside_others _ _ _ _ transforms parts.beside,
        are,
        parts.framed,
      )

  -- ---- the arena's limit and state, pairs of transforms, and names in another order

  pub arena_changed : (limit : ℕ) (arena : ArenaState) (transforms : TransformsState) (state : world.ArenaState) (names : NamesState)
      → state ≡ state_of arena (world.pairs_in state)
      → AreTransforms past.transform_number (world.is_copying_object w) w.addresses transforms w.graph.transforms (world.pairs_in state)
      → transforms.live ≡ h.beside.transforms.live → IsSameMap h.names names → names.counts ≡ h.names.counts
      → AreParts layout past (record (with_transforms h transforms) {
        segs = record h.segs { limit = limit };
        arena = arena;
        names = names;
      }) (record w { limit = limit; state = state })
  arena_changed limit arena transforms state names is are live same counts =
      let after = record (with_transforms h transforms) { segs = record h.segs { limit = limit }; arena = arena; names = names } in
      parts_of_kinds (parts.grains, refl, parts.segments)
      (parts.image, parts.arena, record { sized = parts.summed.sized; each = parts.summed.each }) (roots_of parts) (points_of parts)
      (finals_of parts)
      parts.dependencies (pools_of parts)
      (named_alike h after past w.graph.names w.graph.labels parts.names same counts (record {
        pools = λ n low. low;
        caches = omega arith;
        tables = λ key some. some;
        areas = λ key some. some;
        blocks = λ n low. low;
        points = λ key some. some;
        dependencies = λ n low. low;
        chains = λ n low. low;
        transforms = live;
      })) (
        parts.flips,
        parts.point_flips,
        is,
        beside_others _ _ _ _ transforms parts.beside,
        are,
        parts.framed,
      )

  -- what stands for the world stands for it with other names of the same meaning
  pub untouched_parts : (names : NamesState) → IsSameMap h.names names → names.counts ≡ h.names.counts
      → AreParts layout past (record h { names = names }) w
  untouched_parts names same counts =
      subst (λ (v : World). AreParts layout past (record h { names = names }) v)
      (ap (λ (l : ℕ). record w { limit = l }) parts.limit)
      (arena_changed h.segs.limit h.arena h.beside.transforms w.state names parts.state parts.transforms refl same counts)

-- a call that changed nothing that can be seen
pub untouched_stands : {F : Type 0} (layout : F → Layout) (h after : HeapState F) (w : World) → IsUntouched h after → StandsFor layout h w
    → StandsFor layout after w
untouched_stands {F} layout h after w untouched st = record {
  past = st.past;
  parts = subst (λ s. AreParts layout st.past s w) (sym untouched.state)
      (untouched_parts layout st.past h w st.parts after.names untouched.names untouched.counts);
  time = subst (λ (s : HeapState F). IsInTime st.past.time (collector_of s) w) (sym untouched.state) st.time;
  reached = st.reached;
}
