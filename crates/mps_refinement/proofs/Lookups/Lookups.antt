-- What a call of a heap at rest finds by its words, against what the model finds: each check of the one and the other come to the same,
-- with the same refusals, over the parts of a heap that stands for a world (`parts`).
--
-- chain_same, pool_same, point_same, dependency_same: the thing that a name stands for, kept under a key that has its number (`IsKept`).
-- slot_same, word_same, place_same: a slot, a word of an area, a place of a table of blocks (`IsEntry`), and the equations of both rows
-- (`AreFound`).
use Rattle.std.proofs.Common.{◌≡◌, ◌∙◌, ℕ, ◌<◌, refl, sym, ap, subst, List, length, map, Option, Some, None, IsSome, is_some}
use Rattle.std.proofs.lemmas.Option.{none-some, same_Some, slice_get-map}
use Rattle.std.specs.Prelude.{slice_get, option_and_then, option_map}
use Rattle.mps_base.specs.Address.{Address}
use Rattle.mps_base.specs.declared.names.Name.{Name}
use Rattle.mps_base.specs.declared.names.Slot.{Slot}
use Rattle.mps_base.specs.declared.refusal.Refusal.TheVariants as refusal
use Rattle.mps_buffer.specs.declared.point.Point.{Point}
use Rattle.mps_buffer.specs.Points.{point_at}
use Rattle.mps_format.specs.Layout.{Layout}
use Rattle.mps_laws.proofs.Lookups.{there_is}
use Rattle.mps_laws.proofs.Same.{Same, BothOrNeither, both, neither, same_then, same_required}
use Rattle.mps_ld.specs.State.{LdState}
use Rattle.mps_model.specs.Checked as model
use Rattle.mps_model.specs.Checked.{Numbered, Found, required, number_named}
use Rattle.mps_model.specs.Graph as graph
use Rattle.mps_model.specs.Graph.{AreaWord, entry_at}
use Rattle.mps_model.specs.World as world
use Rattle.mps_model.specs.World.{World, Dependency}
use Rattle.mps_names.specs.State.{thing_named}
use Rattle.mps_names.specs.declared.names.Thing.{Thing}
use Rattle.mps_names.specs.declared.names.Thing.TheVariants as thing
use Rattle.mps_root.specs.State.{kept}
use Rattle.mps_root.specs.declared.roots.Stored.{Stored}
use Rattle.mps_heap_spec.specs.Finding.{as_chain, as_pool, as_table, as_area, as_blocks, as_point, as_dependency, key_named, chain_named, pool_named, point_named, dependency_named, slot_in, word_in, block_place_in}
use Rattle.mps_heap_spec.specs.declared.found.Entry.{Entry}
use Rattle.mps_heap_spec.specs.declared.found.Kept.{Kept}
use Rattle.mps_heap_spec.specs.State.{HeapState}
use Rattle.mps_trace.specs.GenState.{ChainsState}
use Rattle.mps_format.specs.declared.pool.Pool.{Pool}
use Rattle.mps_refinement.specs.StandsFor.{Past, AreParts, AreNamed, IsPoint, IsPool, IsThere, numbered_thing, address_of_target, stored_word, kept_of}
use Rattle.mps_refinement.proofs.Lookups.Found.{AreFound, same_found, mapped_some, IsKept, AreThere, under_same, IsEntry, AreMapped, entry_same}

-- ---- the kinds of things

module _ (past : Past) where
  pub chains_numbered : (t : Thing) → model.as_chain (numbered_thing past t) ≡ option_map (λ (n : ℕ). n) (as_chain t)
  chains_numbered (thing.Chain number) = refl
  chains_numbered _ = refl

  pub pools_numbered : (t : Thing) → model.as_pool (numbered_thing past t) ≡ option_map (λ (n : ℕ). n) (as_pool t)
  pools_numbered (thing.Pool number) = refl
  pools_numbered _ = refl

  pub tables_numbered : (t : Thing) → model.as_table (numbered_thing past t) ≡ option_map past.table_number (as_table t)
  tables_numbered (thing.Table key) = refl
  tables_numbered _ = refl

  pub areas_numbered : (t : Thing) → model.as_area (numbered_thing past t) ≡ option_map past.area_number (as_area t)
  areas_numbered (thing.Area key) = refl
  areas_numbered _ = refl

  pub blocks_numbered : (t : Thing) → model.as_blocks (numbered_thing past t) ≡ option_map (λ (n : ℕ). n) (as_blocks t)
  blocks_numbered (thing.Blocks number) = refl
  blocks_numbered _ = refl

  pub points_numbered : (t : Thing) → model.as_point (numbered_thing past t) ≡ option_map past.point_number (as_point t)
  points_numbered (thing.Point key) = refl
  points_numbered _ = refl

  pub dependencies_numbered : (t : Thing) → model.as_dependency (numbered_thing past t) ≡ option_map (λ (n : ℕ). n) (as_dependency t)
  dependencies_numbered (thing.Dependency number) = refl
  dependencies_numbered _ = refl

within_some : {A : Type 0} (xs : List A) (i : ℕ) → i < length xs → IsSome (slice_get xs i)
within_some xs i low = ap is_some (there_is xs i low).1

-- how many generations a chain of a heap has
abbrev pub generations_in : {F : Type 0} → HeapState F → (number : ℕ) → Option ℕ
generations_in h number = option_map length (slice_get h.chains.chains number)

module _ {F : Type 0} (h : HeapState F) where
  chains_there : (t : Thing) (key : ℕ) → as_chain t ≡ Some key → IsThere h t → IsSome (generations_in h key)
  chains_there (thing.Chain number) key e there =
      subst (λ n. IsSome (generations_in h n)) (same_Some number key e)
      (ap (λ (o : Option (List ℕ)). is_some (option_map length o)) (there_is h.chains.chains number there).1)
  chains_there _ key e there = absurd (none-some key e)

  pools_there : (t : Thing) (key : ℕ) → as_pool t ≡ Some key → IsThere h t → IsSome (slice_get h.pools key)
  pools_there (thing.Pool number) key e there =
      subst (λ n. IsSome (slice_get h.pools n)) (same_Some number key e) (within_some h.pools number there)
  pools_there _ key e there = absurd (none-some key e)

  tables_there : (t : Thing) (key : ℕ) → as_table t ≡ Some key → IsThere h t → IsSome (kept h.roots.tables key)
  tables_there (thing.Table number) key e there = subst (λ n. IsSome (kept h.roots.tables n)) (same_Some number key e) there
  tables_there _ key e there = absurd (none-some key e)

  areas_there : (t : Thing) (key : ℕ) → as_area t ≡ Some key → IsThere h t → IsSome (kept h.roots.areas key)
  areas_there (thing.Area number) key e there = subst (λ n. IsSome (kept h.roots.areas n)) (same_Some number key e) there
  areas_there _ key e there = absurd (none-some key e)

  blocks_there : (t : Thing) (key : ℕ) → as_blocks t ≡ Some key → IsThere h t → IsSome (slice_get h.roots.blocks key)
  blocks_there (thing.Blocks number) key e there =
      subst (λ n. IsSome (slice_get h.roots.blocks n)) (same_Some number key e) (within_some h.roots.blocks number there)
  blocks_there _ key e there = absurd (none-some key e)

  points_there : (t : Thing) (key : ℕ) → as_point t ≡ Some key → IsThere h t → IsSome (point_at h.points key)
  points_there (thing.Point number) key e there = subst (λ n. IsSome (point_at h.points n)) (same_Some number key e) there
  points_there _ key e there = absurd (none-some key e)

  dependencies_there : (t : Thing) (key : ℕ) → as_dependency t ≡ Some key → IsThere h t → IsSome (slice_get h.dependencies key)
  dependencies_there (thing.Dependency number) key e there =
      subst (λ n. IsSome (slice_get h.dependencies n)) (same_Some number key e) (within_some h.dependencies number there)
  dependencies_there _ key e there = absurd (none-some key e)

-- ---- names

-- the key of a thing that has a name, and its number in the model
pub record IsKey {F : Type 0} (h : HeapState F) (name : Name) (as_ours : Thing → Option ℕ) (numbers : ℕ → ℕ) (key n : ℕ) : Type 0 where
  pub number : n ≡ numbers key
  pub named : option_and_then as_ours (thing_named h.names name) ≡ Some key

module _ {F : Type 0} (past : Past) (h : HeapState F) (w : World) (names : AreNamed past h w.graph.names w.graph.labels)
    (as_ours : Thing → Option ℕ)
    (as_models : graph.Thing → Option ℕ) (numbers : ℕ → ℕ)
    (numbered_as : (t : Thing) → as_models (numbered_thing past t) ≡ option_map numbers (as_ours t)) where
  through : (o : Option Thing) → option_and_then as_models (option_map (numbered_thing past) o)
      ≡ option_map numbers (option_and_then as_ours o)
  through None = refl
  through (Some t) = numbered_as t

  pub key_same : (name : Name)
      → Same (IsKey h name as_ours numbers) (key_named h name as_ours) (required (number_named w name as_models) refusal.BadName)
  key_same name =
      same_required refusal.BadName
      (subst (BothOrNeither (IsKey h name as_ours numbers) (option_and_then as_ours (thing_named h.names name)))
      (sym (ap (option_and_then as_models) (names.named name) ∙ through (thing_named h.names name)))
      (of_key (option_and_then as_ours (thing_named h.names name)) refl))
    where
      of_key : (o : Option ℕ) → option_and_then as_ours (thing_named h.names name) ≡ o
          → BothOrNeither (IsKey h name as_ours numbers) o (option_map numbers o)
      of_key None e = neither
      of_key (Some key) e = both (record { number = refl; named = e })

  -- so it is there
  pub key_there : (Holds : ℕ → Type 0) → ((t : Thing) (key : ℕ) → as_ours t ≡ Some key → IsThere h t → Holds key) → (name : Name)
      (key : ℕ) → option_and_then as_ours (thing_named h.names name) ≡ Some key → Holds key
  key_there Holds there name key named = of_thing (thing_named h.names name) refl named
    where
      of_thing : (o : Option Thing) → thing_named h.names name ≡ o → option_and_then as_ours o ≡ Some key → Holds key
      of_thing None e k = absurd (none-some key k)
      of_thing (Some t) e k = there t key k (names.there name t e)

-- the number of what is kept by its number
abbrev pub own_number : ℕ → ℕ
own_number number = number

-- ---- things, slots, words and places

-- what fits of chains, pools, points and dependencies
abbrev pub FitChains : ℕ → ℕ → List ℕ → Type 0
FitChains number generations capacities = generations ≡ length capacities

abbrev pub FitPools : {F : Type 0} (layout : F → Layout) (w : World) → ℕ → Pool F → world.Pool → Type 0
FitPools layout w number p q = IsPool layout w.formats p q

abbrev pub FitDependencies : ℕ → LdState → Dependency → Type 0
FitDependencies number d e = d ≡ kept_of e

abbrev pub FitPoints : (w : World) → ℕ → Point → graph.Point → Type 0
FitPoints w = IsPoint (length w.flips) (world.is_copying_pool w) w.point_memories

abbrev pub IsChainFound : {F : Type 0} → HeapState F → World → Kept ℕ → Numbered (List ℕ) → Type 0
IsChainFound h w = IsKept FitChains own_number (generations_in h) (slice_get w.chains)

abbrev pub IsPoolFound : {F : Type 0} → (layout : F → Layout) → HeapState F → World → Kept (Pool F) → Numbered world.Pool → Type 0
IsPoolFound layout h w = IsKept (FitPools layout w) own_number (slice_get h.pools) (slice_get w.pools)

module _ {F : Type 0} (past : Past) (h : HeapState F) (w : World) where
  abbrev pub IsPointFound : Kept Point → Numbered graph.Point → Type 0
  IsPointFound = IsKept (FitPoints w) past.point_number (point_at h.points) (entry_at w.graph.points)

  abbrev pub IsDependencyFound : Kept LdState → Numbered Dependency → Type 0
  IsDependencyFound = IsKept FitDependencies own_number (slice_get h.dependencies) (slice_get w.dependencies)

  -- a slot that was found in both, and the equations of both rows
  abbrev pub IsSlotEntry : (index : ℕ) → Entry Address → Found (Option ℕ) → Type 0
  IsSlotEntry = IsEntry (address_of_target w.addresses) past.table_number (kept h.roots.tables) (entry_at w.graph.tables)

  abbrev pub IsSlotFound : Slot → Entry Address → Found (Option ℕ) → Type 0
  IsSlotFound slot = AreFound (IsSlotEntry slot.index) (slot_in h slot) (model.slot_in w slot)

  -- a word of an area
  abbrev pub IsWordEntry : (index : ℕ) → Entry Stored → Found AreaWord → Type 0
  IsWordEntry = IsEntry (stored_word w.addresses) past.area_number (kept h.roots.areas) (entry_at w.graph.areas)

  abbrev pub IsWordFound : Slot → Entry Stored → Found AreaWord → Type 0
  IsWordFound place = AreFound (IsWordEntry place.index) (word_in h place) (model.word_in w place)

  -- a place of a table of blocks
  abbrev pub IsPlaceEntry : (index : ℕ) → Entry Address → Found (Option ℕ) → Type 0
  IsPlaceEntry = IsEntry (address_of_target w.addresses) own_number (slice_get h.roots.blocks) (slice_get w.graph.blocks)

  abbrev pub IsPlaceFound : Slot → Entry Address → Found (Option ℕ) → Type 0
  IsPlaceFound place = AreFound (IsPlaceEntry place.index) (block_place_in h place) (model.block_place_in w place)

module _ {F : Type 0} (layout : F → Layout) (past : Past) (h : HeapState F) (w : World) (parts : AreParts layout past h w) where
  dependencies_fit : AreThere FitDependencies own_number (slice_get h.dependencies) (slice_get w.dependencies)
  dependencies_fit key d e =
      let found = mapped_some kept_of (slice_get w.dependencies key) d
      (sym (ap (λ ds. slice_get ds key) parts.dependencies ∙ slice_get-map kept_of w.dependencies key) ∙ e) in
      (found.0, found.1, sym found.2)

  chains_fit : AreThere FitChains own_number (generations_in h) (slice_get w.chains)
  chains_fit key generations e =
      let found = mapped_some length (slice_get h.chains.chains key) generations e in
      (found.0, sym (ap (λ (c : ChainsState). slice_get c.chains key) parts.chains.same) ∙ found.1, sym found.2)

  pub chain_same : (name : Name) → Same (IsChainFound h w) (chain_named h name) (model.chain_named w name)
  chain_same name =
      same_then (key_same past h w parts.names as_chain model.as_chain own_number (chains_numbered past) name) (λ key number k.
      under_same FitChains own_number (generations_in h) (slice_get w.chains) chains_fit key number k.number
      (key_there past h w parts.names as_chain model.as_chain own_number (chains_numbered past) (λ n. IsSome (generations_in h n))
      (chains_there h) name key k.named))

  pub pool_same : (name : Name) → Same (IsPoolFound layout h w) (pool_named h name) (model.pool_named w name)
  pool_same name =
      same_then (key_same past h w parts.names as_pool model.as_pool own_number (pools_numbered past) name) (λ key number k.
      under_same (FitPools layout w) own_number (slice_get h.pools) (slice_get w.pools) parts.pools.each key number k.number
      (key_there past h w parts.names as_pool model.as_pool own_number (pools_numbered past) (λ n. IsSome (slice_get h.pools n))
      (pools_there h) name key k.named))

  pub point_same : (name : Name) → Same (IsPointFound past h w) (point_named h name) (model.point_named w name)
  point_same name =
      same_then (key_same past h w parts.names as_point model.as_point past.point_number (points_numbered past) name) (λ key number k.
      under_same (FitPoints w) past.point_number (point_at h.points) (entry_at w.graph.points) parts.points.there key number k.number
      (key_there past h w parts.names as_point model.as_point past.point_number (points_numbered past) (λ n. IsSome (point_at h.points n))
      (points_there h) name key k.named))

  pub dependency_same : (name : Name) → Same (IsDependencyFound past h w) (dependency_named h name) (model.dependency_named w name)
  dependency_same name =
      same_then (key_same past h w parts.names as_dependency model.as_dependency own_number (dependencies_numbered past) name)
      (λ key number k.
      under_same FitDependencies own_number (slice_get h.dependencies) (slice_get w.dependencies) dependencies_fit key number k.number
      (key_there past h w parts.names as_dependency model.as_dependency own_number (dependencies_numbered past)
      (λ n. IsSome (slice_get h.dependencies n)) (dependencies_there h) name key k.named))

  pub slot_same : (slot : Slot) → Same (IsSlotFound past h w slot) (slot_in h slot) (model.slot_in w slot)
  slot_same slot =
      same_found
      (same_then (key_same past h w parts.names as_table model.as_table past.table_number (tables_numbered past) slot.name)
      (λ key number k.
      same_then (under_same (AreMapped (address_of_target w.addresses)) past.table_number (kept h.roots.tables) (entry_at w.graph.tables)
      parts.tables.there key number k.number
      (key_there past h w parts.names as_table model.as_table past.table_number (tables_numbered past)
      (λ n. IsSome (kept h.roots.tables n)) (tables_there h) slot.name key k.named))
      (λ x y is. entry_same (address_of_target w.addresses) past.table_number (kept h.roots.tables) (entry_at w.graph.tables) slot.index
      x y is)))

  pub word_same : (place : Slot) → Same (IsWordFound past h w place) (word_in h place) (model.word_in w place)
  word_same place =
      same_found
      (same_then (key_same past h w parts.names as_area model.as_area past.area_number (areas_numbered past) place.name)
      (λ key number k.
      same_then (under_same (AreMapped (stored_word w.addresses)) past.area_number (kept h.roots.areas) (entry_at w.graph.areas)
      parts.areas.there key number k.number
      (key_there past h w parts.names as_area model.as_area past.area_number (areas_numbered past) (λ n. IsSome (kept h.roots.areas n))
      (areas_there h) place.name key k.named))
      (λ x y is. entry_same (stored_word w.addresses) past.area_number (kept h.roots.areas) (entry_at w.graph.areas) place.index x y is)))

  places_fit : AreThere (AreMapped (address_of_target w.addresses)) own_number (slice_get h.roots.blocks) (slice_get w.graph.blocks)
  places_fit key places e =
      let found = mapped_some (map (address_of_target w.addresses)) (slice_get w.graph.blocks key) places
      (sym (ap (λ bs. slice_get bs key) parts.blocks ∙ slice_get-map (map (address_of_target w.addresses)) w.graph.blocks key) ∙ e) in
      (found.0, found.1, sym found.2)

  pub place_same : (place : Slot) → Same (IsPlaceFound past h w place) (block_place_in h place) (model.block_place_in w place)
  place_same place =
      same_found
      (same_then (key_same past h w parts.names as_blocks model.as_blocks own_number (blocks_numbered past) place.name)
      (λ key number k.
      same_then (under_same (AreMapped (address_of_target w.addresses)) own_number (slice_get h.roots.blocks) (slice_get w.graph.blocks)
      places_fit key number k.number
      (key_there past h w parts.names as_blocks model.as_blocks own_number (blocks_numbered past)
      (λ n. IsSome (slice_get h.roots.blocks n)) (blocks_there h) place.name key k.named))
      (λ x y is. entry_same (address_of_target w.addresses) own_number (slice_get h.roots.blocks) (slice_get w.graph.blocks) place.index
      x y is)))
