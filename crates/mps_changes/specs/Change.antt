-- What a call of the client may change of a world, as data: one case for each way, with what the call's checks found. Which call makes
-- which change is said by one walk over all calls (`ActChanges`); facts of the worlds after calls then go by cases over changes.
use Rattle.std.specs.Prelude.{◌≡◌, ◌⊎◌, ℕ, Bool, true, false, nat_le, nat_lt, length, List, [], ◌∷◌, Option, Some, None, option_map, Ok, Err, slice_set, ◌&&◌, map, slice_get}
use Rattle.mps_base.specs.declared.refusal.Refusal.{Refusal}
use Rattle.mps_model.specs.Reply.{act}
use Rattle.mps_base.specs.Address.{Address}
use Rattle.mps_base.specs.declared.names.Name.{Name}
use Rattle.mps_base.specs.declared.names.Rank.{Rank}
use Rattle.mps_base.specs.declared.names.Slot.{Slot}
use Rattle.mps_model.specs.declared.call.Call.{Call}
use Rattle.mps_model.specs.declared.call.Call.TheVariants as call
use Rattle.mps_model.specs.Graph.{ChainThing, TableThing, AreaThing, DependencyThing, TransformThing, thing_named, is_taken, with_tag_cell, without_holder, Object, Cell, NumberCell, AreaWord, PlainWord, Hold, Point, Reservation, with_last, with_target_cell, graph_with_cells, position_of_first, without_first, without_name, Cache, CacheClass, PoolFrames}
use Rattle.mps_model.specs.World.{World, committed, Pool, PoolKind, Collected, OneSize, AnySize, Frames, ArenaState, Parked, Dependency, is_automatic_kind, is_parked, is_parked_state, pairs_in, block_of_word, pool_of, pool_is, has_frames}
use Rattle.mps_model.specs.Checked.{Act, Checked, Found, Numbered, block_place_in, cells_of_body, named, number_at, object_in, point_named, pool_named, reference_at, slot_in, with_graph, word_in, cache_named}
use Rattle.mps_model.specs.Making.{graph_with_area, graph_with_blocks, graph_with_table, is_block_size, may_have_point, with_point, with_pool, without_point}
use Rattle.mps_model.specs.Allocating.{Reserving, allows_size, check_reserve, graph_allocated, graph_with_word, with_block_place, with_reservation, with_reserved, with_slot, world_committed}
use Rattle.mps_model.specs.Accessing.{AsBlock, held_in, hold_of, poked, with_word}
use Rattle.mps_model.specs.Tagging.{tag_count}
use Rattle.mps_model.specs.Labelling.{graph_with_label}
use Rattle.mps_model.specs.Dependents.{graph_with_dependents, may_depend, with_dependent}
use Rattle.mps_model.specs.Transforms.{graph_with_transform, with_pair, without_transform, world_substituted}
use Rattle.mps_model.specs.Caches.{emptied, graph_cached, graph_uncached, graph_with_cache, kept_by, may_have_cache, taken_from, with_classes}
use Rattle.mps_model.specs.Frames.{frames_of, graph_popped, graph_pushed}
use Rattle.mps_model.specs.Dependency.{with_dependency}
use Rattle.mps_model.specs.Collecting.{with_state, without_registration}

-- a fact of the world of an act, unless it is refused
pub data ForAct (P : World → Type 0) : Checked Act → Type 0 where
  accepted : {a : Act} → P a.world → ForAct P (Ok a)
  refused : {why : Refusal} → ForAct P (Err why)

-- whether a call makes the arena
abbrev pub makes_arena : Call → Bool
makes_arena (call.Arena grains limit) = true
makes_arena _ = false

-- whether a call may reserve, make a block, free one, or make the arena
abbrev pub is_placing : Call → Bool
is_placing (call.Arena grains limit) = true
is_placing (call.Reserve point head) = true
is_placing (call.Commit point target) = true
is_placing (call.Alloc pool words place) = true
is_placing (call.CacheAlloc cache words place) = true
is_placing _ = false

-- whether a call may make a manual block
abbrev pub allocates : Call → Bool
allocates (call.Alloc pool words place) = true
allocates (call.CacheAlloc cache words place) = true
allocates _ = false

-- whether a call may free the block in a place
abbrev pub frees : Call → Bool
frees (call.Free place) = true
frees (call.CacheFree cache place) = true
frees _ = false

abbrev pub changes_dependencies : Call → Bool
changes_dependencies (call.Dependency dependency) = true
changes_dependencies (call.DependencyReset dependency) = true
changes_dependencies (call.DependencyAdd dependency slot) = true
changes_dependencies (call.DependencyMerge dependency source) = true
changes_dependencies _ = false

-- a call that makes, drops or writes a point
abbrev pub changes_points : Call → Bool
changes_points (call.Point point pool rank) = true
changes_points (call.DropPoint point) = true
changes_points (call.Reserve point head) = true
changes_points (call.InitNumber point cell value) = true
changes_points (call.InitReference point cell source) = true
changes_points (call.Commit point target) = true
changes_points _ = false

-- a world with what no object, root or collection of another knows of
abbrev pub with_aside : (v u : World) → World
with_aside v u = record v {
  graph = record v.graph {
    names = u.graph.names;
    labels = u.graph.labels;
    dependents = u.graph.dependents;
    transforms = u.graph.transforms;
  };
  grains = u.grains;
  limit = u.limit;
  chains = u.chains;
  state = u.state;
  dependencies = u.dependencies;
}

-- an entry that a call found, in the world in which it takes effect or in the one in which it was judged
pub data IsFoundBy {A : Type 0} (look : World → Slot → Checked (Found A)) (judged v : World) (found : Found A) : Type 0 where
  Now : (slot : Slot) → look v slot ≡ Ok found → IsFoundBy look judged v found
  Before : (slot : Slot) → look judged slot ≡ Ok found → IsFoundBy look judged v found

-- an object to which a slot refers
pub record IsInSlot (v : World) (object : Numbered Object) : Type 0 where
  pub slot : Slot
  pub from : Found (Option ℕ)
  pub there : slot_in v slot ≡ Ok from
  pub is : object_in v from.value ≡ Ok object

-- an allocation cache over a pool
pub record HasCacheOver (v : World) (pool : ℕ) : Type 0 where
  pub cache : Numbered Cache
  pub there : slice_get v.graph.caches cache.number ≡ Some cache.value
  pub is : pool ≡ cache.value.pool

-- a name that represents nothing
pub record FreeName (v : World) : Type 0 where
  pub name : Name
  pub is_free : is_taken v.graph name ≡ false

-- an epoch of a dependency: it is of now, or no later than that of a dependency that there is
pub data IsDatedIn (v : World) : (epoch : ℕ) → Type 0 where
  OfNow : IsDatedIn v (length v.flips)
  NoLater : (old : Numbered Dependency) (epoch : ℕ) → slice_get v.dependencies old.number ≡ Some old.value
      → nat_le epoch old.value.epoch ≡ true → IsDatedIn v epoch

abbrev pub is_empty_list : List ℕ → Bool
is_empty_list [] = true
is_empty_list (id ∷ ids) = false

-- whether nothing lies in some classes
abbrev pub are_empty_classes : List CacheClass → Bool
are_empty_classes [] = true
are_empty_classes (k ∷ ks) = is_empty_list k.cached && are_empty_classes ks

-- a call that makes a pool
abbrev pub makes_pool : Call → Bool
makes_pool (call.Pool pool kind format) = true
makes_pool (call.PoolOnChain pool kind format chain) = true
makes_pool (call.PoolMfs pool words) = true
makes_pool (call.PoolMvff pool) = true
makes_pool (call.PoolFrames pool) = true
makes_pool _ = false

-- a kind of pool that calls make
abbrev pub is_kind_made : PoolKind → Bool
is_kind_made (Collected kind) = true
is_kind_made (OneSize words) = is_block_size words
is_kind_made AnySize = true
is_kind_made Frames = true

module _ (marked : Bool) (c : Call) (judged v : World) where
  -- where the client has from what it writes
  pub data IsGot : Option ℕ → Type 0 where
    GotNull : IsGot None
    FromSlot : (slot : Slot) (from : Found (Option ℕ)) → slot_in v slot ≡ Ok from → IsGot from.value
    FromCell : (target source : Slot) (cell : ℕ) (from : Found (Option ℕ)) (now : Numbered Object) (read : Option ℕ)
        → c ≡ call.Get target source cell → slot_in judged source ≡ Ok from → object_in v from.value ≡ Ok now
        → reference_at (cells_of_body now.value.body) cell ≡ Ok read → IsGot read
    FromWord : (place : Slot) (at : Found AreaWord) (id : ℕ) → word_in v place ≡ Ok at → held_in at.value ≡ Ok id → IsGot (Some id)
    FromMessage : (id : ℕ) (ids : List ℕ) → v.graph.messages ≡ id ∷ ids → IsGot (Some id)

  -- what the client writes into an area
  pub data IsShown : AreaWord → Type 0 where
    ShownPlain : (number : ℕ) → IsShown (PlainWord number)
    ShownPinned : (object : Numbered Object) → IsInSlot v object → IsShown (Hold object.number 0)
    ShownPoked : (place : Slot) (id word : ℕ) → c ≡ call.Poke place word → block_of_word v word ≡ Some id
        → (poked v id ≡ AsBlock) ⊎ (marked ≡ true) → IsShown (hold_of v id word)

  -- a change of one cell
  pub data IsWritten (cells : List Cell) : (List Cell → List Cell) → Type 0 where
    WritesTag : (k tag : ℕ) → nat_lt tag tag_count ≡ true → IsWritten cells (λ old. with_tag_cell old k tag)
    WritesReference : (k : ℕ) (source : Slot) (from : Found (Option ℕ)) → slot_in v source ≡ Ok from
        → IsWritten cells (λ old. with_target_cell old k from.value)
    WritesNumber : (k was value : ℕ) → number_at cells k ≡ Ok was → IsWritten cells (λ old. slice_set old k (NumberCell value))

  -- a change of what no object, root or collection knows of
  pub data AsideIs : World → Type 0 where
    ArenaMade : (grains limit : ℕ) → makes_arena c ≡ true → AsideIs (record v { grains = grains; limit = limit })
    LimitIs : (limit : ℕ) → nat_lt limit (committed v) ≡ false → AsideIs (record v { limit = limit })
    ChainMade : (name : FreeName v) (capacities : List ℕ) → AsideIs (record v {
      graph = named v.graph name.name (ChainThing (length v.chains));
      chains = with_last v.chains capacities;
    })
    StateIs : (state : ArenaState) → is_parked_state state ≡ false → AsideIs (with_state v state)
    ParkedAnew : c ≡ call.Collect → AsideIs (with_state v (Parked []))
    ParkedOn : c ≡ call.Park → AsideIs (with_state v (Parked (pairs_in v.state)))
    DependencyMade : (name : FreeName v) (d : Dependency) → changes_dependencies c ≡ true → IsDatedIn v d.epoch → AsideIs (record v {
      graph = named v.graph name.name (DependencyThing (length v.dependencies));
      dependencies = with_last v.dependencies d;
    })
    DependencyIs : (number : ℕ) (d : Dependency) → changes_dependencies c ≡ true → IsDatedIn v d.epoch
        → AsideIs (with_dependency v number d)
    LabelMade : (name : Name) → c ≡ call.Intern name → is_taken v.graph name ≡ false
        → AsideIs (with_graph v (graph_with_label v.graph name))
    Linked : (holder dependent : Numbered Object) → IsInSlot v holder → IsInSlot v dependent
        → may_depend v holder.value dependent.value ≡ true
        → AsideIs (with_graph v (graph_with_dependents v.graph (with_dependent v.graph.dependents holder.number dependent.number)))
    Unlinked : (holder : ℕ) → AsideIs (with_graph v (graph_with_dependents v.graph (without_holder v.graph.dependents holder)))
    TransformMade : (name : FreeName v) → AsideIs (with_graph v (graph_with_transform v.graph name.name))
    PairAdded : (transform : ℕ) (old new : Numbered Object) → IsInSlot v old → IsInSlot v new → is_parked v ≡ true
        → AsideIs (with_state v (Parked (with_pair (pairs_in v.state) transform old.number new.number)))
    TransformDropped : (name : Name) (transform : ℕ) → thing_named v.graph name ≡ Some (TransformThing transform)
        → AsideIs (without_transform v name transform)

  -- the worlds that the call may leave
  pub data Change : World → Type 0 where
    Unchanged : Change v
    Aside : (u : World) → AsideIs u → Change (with_aside v u)
    -- roots
    SlotIs : (into : Found (Option ℕ)) (target : Option ℕ) → IsFoundBy slot_in judged v into → IsGot target
        → Change (with_graph v (with_slot v.graph into target))
    WordIs : (place : Slot) (at : Found AreaWord) (word : AreaWord) → word_in v place ≡ Ok at → IsShown word
        → Change (with_graph v (with_word v.graph at word))
    MessageTaken : (slot : Slot) (into : Found (Option ℕ)) (id : ℕ) (ids : List ℕ) → slot_in v slot ≡ Ok into
        → v.graph.messages ≡ id ∷ ids → Change (with_graph v (with_slot (record v.graph { messages = ids }) into (Some id)))
    TableMade : (name : FreeName v) (slots : ℕ) → Change (with_graph v (graph_with_table v.graph name.name slots))
    AreaMade : (name : FreeName v) (words : ℕ) → Change (with_graph v (graph_with_area v.graph name.name words))
    BlocksMade : (name : FreeName v) (places : ℕ) → c ≡ call.Blocks name.name places
        → Change (with_graph v (graph_with_blocks v.graph name.name places))
    TableDropped : (name : Name) (n : ℕ) → thing_named v.graph name ≡ Some (TableThing n)
        → Change (with_graph v (record v.graph { tables = slice_set v.graph.tables n None; names = without_name v.graph.names name }))
    AreaDropped : (name : Name) (n : ℕ) → thing_named v.graph name ≡ Some (AreaThing n)
        → Change (with_graph v (record v.graph { areas = slice_set v.graph.areas n None; names = without_name v.graph.names name }))
    -- objects
    CellsAre : (object : Numbered Object) (change : List Cell → List Cell) → IsInSlot v object
        → IsWritten (cells_of_body object.value.body) change → Change (with_graph v (graph_with_cells v.graph object.number change))
    BlockWordIs : (id k value : ℕ) → Change (with_graph v (graph_with_word v.graph id k value))
    PlaceEmptied : (from : Slot) (place : Found (Option ℕ)) (id : ℕ) → frees c ≡ true → block_place_in v from ≡ Ok place
        → place.value ≡ Some id → (pool_is has_frames v (pool_of v id) ≡ false) ⊎ HasCacheOver v (pool_of v id)
        → Change (with_graph v (with_block_place v.graph place None))
    Allocated : (p : Numbered Pool) (words : ℕ) (place : Found (Option ℕ)) (at : Address)
        → allocates c ≡ true → slice_get judged.pools p.number ≡ Some p.value → is_automatic_kind p.value.kind ≡ false
        → allows_size p.value.kind words ≡ true → IsFoundBy block_place_in judged v place → place.value ≡ None
        → Change (record v { graph = graph_allocated v.graph p.number words place; addresses = with_last v.addresses (Some at) })
    -- caches
    CacheMade : (name : FreeName v) (pool : Name) (of : Numbered Pool) (classes : List CacheClass) → pool_named v pool ≡ Ok of
        → may_have_cache of.value.kind ≡ true → are_empty_classes classes ≡ true
        → Change (with_graph v (graph_with_cache v.graph name.name (record { pool = of.number; classes = classes })))
    BlockUncached : (name : Name) (cache : Numbered Cache) (words : ℕ) (into : Slot) (place : Found (Option ℕ)) (id : ℕ)
        (classes : List CacheClass) → c ≡ call.CacheAlloc name words into → cache_named v name ≡ Ok cache
        → taken_from cache.value.classes words ≡ Some (id, classes) → block_place_in v into ≡ Ok place → place.value ≡ None
        → Change (with_graph v (graph_uncached v.graph cache classes place id))
    BlockCached : (name : Name) (cache : Numbered Cache) (from : Slot) (place : Found (Option ℕ)) (id : ℕ) (classes : List CacheClass)
        → c ≡ call.CacheFree name from → cache_named v name ≡ Ok cache → block_place_in v from ≡ Ok place → place.value ≡ Some id
        → pool_of v id ≡ cache.value.pool → kept_by v cache.value id ≡ Some classes
        → Change (with_graph v (graph_cached v.graph cache classes place))
    CacheFlushed : (name : Name) (cache : Numbered Cache) → c ≡ call.CacheFlush name → cache_named v name ≡ Ok cache
        → Change (with_graph v (with_classes v.graph cache (map emptied cache.value.classes)))
    -- frames
    FramePushed : (name : Name) (f : PoolFrames) → c ≡ call.Push name → frames_of v.graph f.pool ≡ Some f
        → Change (with_graph v (graph_pushed v.graph f.pool))
    FramesPopped : (name : Name) (f : PoolFrames) (frame before : ℕ) → c ≡ call.Pop name frame → frames_of v.graph f.pool ≡ Some f
        → slice_get f.opened frame ≡ Some before → Change (with_graph v (graph_popped v.graph f frame before))
    -- pools and points
    PoolMade : (name : FreeName v) (p : Pool) → makes_pool c ≡ true → is_kind_made p.kind ≡ true → Change (with_pool v name.name p)
    PointMade : (name : FreeName v) (pool : Name) (of : Numbered Pool) (at_rank : Rank) → c ≡ call.Point name.name pool at_rank
        → pool_named v pool ≡ Ok of
        → may_have_point of.value.kind at_rank ≡ true → Change (with_point v name.name of.number at_rank)
    PointDropped : (name : Name) (p : Numbered Point) → c ≡ call.DropPoint name → point_named v name ≡ Ok p
        → p.value.reservation ≡ None → Change (without_point v name p.number)
    Opened : (name : Name) (head : ℕ) (reserving : Reserving) (p : Numbered Point) (at : Address) → c ≡ call.Reserve name head
        → check_reserve judged name head ≡ Ok reserving → point_named v name ≡ Ok p
        → Change (with_reserved v p (record { head = head; cells = reserving.cells; is_doomed = false }) at)
    Written : (name : Name) (p : Numbered Point) (r : Reservation) (change : List Cell → List Cell) → changes_points c ≡ true
        → point_named v name ≡ Ok p → p.value.reservation ≡ Some r → r.is_doomed ≡ false → IsWritten r.cells change
        → Change (with_graph v (with_reservation v.graph p (Some (record r { cells = change r.cells }))))
    Closed : (name : Name) (target : Slot) (p : Numbered Point) (r : Reservation) → c ≡ call.Commit name target
        → point_named v name ≡ Ok p → p.value.reservation ≡ Some r → r.is_doomed ≡ true
        → Change (with_graph v (with_reservation v.graph p None))
    Committed : (name : Name) (target : Slot) (p : Numbered Point) (r : Reservation) (slot : Found (Option ℕ))
        → c ≡ call.Commit name target → point_named v name ≡ Ok p → slot_in v target ≡ Ok slot → p.value.reservation ≡ Some r
        → r.is_doomed ≡ false → Change (world_committed v p r slot)
    -- transforms
    Substituted : (name : Name) (transform : ℕ) → c ≡ call.TransformApply name
        → thing_named v.graph name ≡ Some (TransformThing transform) → is_parked v ≡ true → Change (world_substituted v name transform)
    -- finalization
    Registered : (object : Numbered Object) (held : IsInSlot v object) → c ≡ call.Finalize held.slot
        → Change (with_graph v (record v.graph { registered = with_last v.graph.registered object.number }))
    Unregistered : (slot : Slot) (from : Found (Option ℕ)) (object : Numbered Object) (position : ℕ) → c ≡ call.Definalize slot
        → slot_in v slot ≡ Ok from → object_in v from.value ≡ Ok object
        → position_of_first v.graph.registered object.number ≡ Some position
        → Change (record v {
          graph = record v.graph { registered = without_first v.graph.registered object.number };
          collection = option_map (without_registration position) v.collection;
        })

-- each call that isn't refused leaves one of these worlds
abbrev pub EachCallChanges : Type 0
EachCallChanges = (marked : Bool) (judged v : World) (c : Call) → ForAct (Change marked c judged v) (act marked judged v c)
