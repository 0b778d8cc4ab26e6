-- The commands on allocation caches: a cache keeps freed blocks of some sizes for the next allocation of their size.
use Rattle.std.specs.Prelude.{◌≡◌, ℕ, suc, Bool, true, false, not, ◌&&◌, ◌==◌, nat_lt, if◌then◌else◌, Option, Some, None, option_map, is_some, List, [], ◌∷◌, map, length, replicate, slice_set, refl}
use Rattle.std.proofs.Common.{ap}
use Rattle.std.specs.List.{flat_map}
use Rattle.std.specs.Option.{option_map_or}
use Rattle.mps_base.specs.Address.{Id}
use Rattle.mps_base.specs.declared.names.Name.{Name}
use Rattle.mps_base.specs.declared.names.Slot.{Slot}
use Rattle.mps_base.specs.declared.refusal.Refusal.TheVariants as refusal
use Rattle.mps_model.specs.Graph.{Graph, Body, Automatic, Manual, Cache, CacheClass, CacheThing, for_object, from_last, with_last}
use Rattle.mps_model.specs.World.{World, PoolKind, AnySize, pool_at, pool_of, words_of}
use Rattle.mps_model.specs.Placement.{ForAlloc, placement_of}
use Rattle.mps_model.specs.Making.{is_block_size, most_caches, refuse_at_limit, refuse_taken}
use Rattle.mps_model.specs.Allocating.{allows_size, block_in, refuse_without_place, with_block_place, world_allocated}
use Rattle.mps_model.specs.Checked.{Act, Checked, Found, Numbered, ◌>>=◌, ◌>>◌, block_place_in, cache_named, done, named, pool_named, refuse_when, required, with_graph}

-- ---- classes

-- whether a cache may stand over a pool of this kind
abbrev pub may_have_cache : PoolKind → Bool
may_have_cache AnySize = true
may_have_cache _ = false

-- n classes of these sizes and limits, in which nothing lies
abbrev pub new_classes : (count : ℕ) → (sizes limits : List ℕ) → List CacheClass
new_classes (suc count) (size ∷ sizes) (limit ∷ limits) =
    record { words = size; limit = limit; cached = [] } ∷ new_classes count sizes limits
new_classes _ _ _ = []

-- whether sizes rise from above this one, and are those of blocks
abbrev pub are_class_sizes : (above : ℕ) → List CacheClass → Bool
are_class_sizes above [] = true
are_class_sizes above (k ∷ ks) = nat_lt above k.words && (is_block_size k.words && are_class_sizes k.words ks)

-- the last of some ids, and those before it
abbrev pub last_of : List Id → Option ℕ
last_of [] = None
last_of (id ∷ []) = Some id
last_of (id ∷ next ∷ ids) = last_of (next ∷ ids)

abbrev pub without_last : List Id → List Id
without_last [] = []
without_last (id ∷ []) = []
without_last (id ∷ next ∷ ids) = id ∷ without_last (next ∷ ids)

-- the block that was cached last in the class of n words, and the classes without it: none if the class is missing or empty
abbrev pub taken_from : List CacheClass → (words : ℕ) → Option (Id × List CacheClass)
taken_from [] words = None
taken_from (k ∷ ks) words =
    if k.words == words then option_map (λ id. (id, record k { cached = without_last k.cached } ∷ ks)) (last_of k.cached)
    else option_map (λ taken. (taken.0, k ∷ taken.1)) (taken_from ks words)

-- the classes with a block of n words, the last of its class: none if the class is missing or full
abbrev pub kept_in : List CacheClass → (words : ℕ) → (block : Id) → Option (List CacheClass)
kept_in [] words block = None
kept_in (k ∷ ks) words block =
    if k.words == words
    then (if nat_lt (length k.cached) k.limit then Some (record k { cached = with_last k.cached block } ∷ ks) else None)
    else option_map (λ rest. k ∷ rest) (kept_in ks words block)

-- a class in which nothing lies
abbrev pub emptied : CacheClass → CacheClass
emptied k = record k { cached = [] }

-- the blocks in a cache in the order in which they are freed: class by class, the last cached first
abbrev pub flushed : Cache → List Id
flushed q = flat_map (λ (k : CacheClass). from_last k.cached) q.classes

-- ---- graphs

-- one more cache
abbrev pub graph_with_cache : Graph → Name → Cache → Graph
graph_with_cache g name q = record (named g name (CacheThing (length g.caches))) { caches = with_last g.caches q }

-- a cache has these classes
abbrev pub with_classes : Graph → Numbered Cache → List CacheClass → Graph
with_classes g cache classes = record g { caches = slice_set g.caches cache.number (record cache.value { classes = classes }) }

-- a manual block whose words are 0
abbrev pub body_cleared : Body → Body
body_cleared (Automatic head cells is_weak) = Automatic head cells is_weak
body_cleared (Manual words) = Manual (replicate (length words) 0)

abbrev pub graph_cleared : Graph → (id : Id) → Graph
graph_cleared g id = record g {
  objects = for_object g id (λ o. slice_set g.objects id (record o { body = body_cleared o.body })) g.objects;
}

-- a cached block goes into a place, with all words 0; the cache has the other classes
abbrev pub graph_uncached : Graph → Numbered Cache → List CacheClass → Found (Option ℕ) → (id : Id) → Graph
graph_uncached g cache classes place id = with_block_place (graph_cleared (with_classes g cache classes) id) place (Some id)

-- the block in a place goes into a cache, which has then these classes
abbrev pub graph_cached : Graph → Numbered Cache → List CacheClass → Found (Option ℕ) → Graph
graph_cached g cache classes place = with_classes (with_block_place g place None) cache classes

-- ---- the commands

abbrev pub act_cache : World → Name → (pool : Name) → (count : ℕ) → (sizes limits : List ℕ) → Checked Act
act_cache w name pool count sizes limits = do
  refuse_taken w name
  of ← pool_named w pool
  refuse_when (not (may_have_cache of.value.kind)) refusal.WrongPool
  refuse_when (not (are_class_sizes 0 (new_classes count sizes limits))) refusal.BadSize
  refuse_at_limit (length w.graph.caches) most_caches
  done (with_graph w (graph_with_cache w.graph name (record { pool = of.number; classes = new_classes count sizes limits })))

-- the cached block that was taken, or else a new one
abbrev pub act_taken : (judged after : World) → Numbered Cache → (words : ℕ) → Found (Option ℕ) → Option (Id × List CacheClass)
    → Checked Act
act_taken judged after cache words place (Some taken) = done (with_graph after (graph_uncached after.graph cache taken.1 place taken.0))
act_taken judged after cache words place None = do
  refuse_without_place (placement_of judged (ForAlloc cache.value.pool words))
  done (world_allocated judged after cache.value.pool words place)

abbrev pub act_cache_alloc : (judged after : World) → (cache : Name) → (words : ℕ) → Slot → Checked Act
act_cache_alloc judged after cache words into = do
  from ← cache_named after cache
  pool ← required (pool_at judged from.value.pool) refusal.BadName
  place ← block_place_in after into
  refuse_when (not (allows_size pool.kind words)) refusal.BadSize
  refuse_when (is_some place.value) refusal.NameTaken
  act_taken judged after from words place (taken_from from.value.classes words)

-- the block is kept in these classes, or freed
abbrev pub act_kept : World → Numbered Cache → Found (Option ℕ) → Option (List CacheClass) → Checked Act
act_kept w cache place (Some classes) = done (with_graph w (graph_cached w.graph cache classes place))
act_kept w cache place None = done (with_graph w (with_block_place w.graph place None))

-- what becomes of the classes of a cache if a block is freed into it
abbrev pub kept_by : World → Cache → (block : Id) → Option (List CacheClass)
kept_by w q block = kept_in q.classes (words_of w block) block

abbrev pub act_cache_free : World → (cache : Name) → Slot → Checked Act
act_cache_free w cache from = do
  into ← cache_named w cache
  place ← block_place_in w from
  id ← block_in place
  refuse_when (not (pool_of w id == into.value.pool)) refusal.WrongPool
  act_kept w into place (kept_by w into.value id)

abbrev pub act_cache_flush : World → (cache : Name) → Checked Act
act_cache_flush w cache = do
  from ← cache_named w cache
  done (with_graph w (with_classes w.graph from (map emptied from.value.classes)))

-- ---- vectors

-- classes of 4 and of 16 words; of the second two are cached, the block 7 first
abbrev two_classes : (cached : List Id) → List CacheClass
two_classes cached = record { words = 4; limit = 1; cached = [] } ∷ record { words = 16; limit = 3; cached = cached } ∷ []

pub the_last_cached_comes_first : taken_from (two_classes (7 ∷ 9 ∷ [])) 16 ≡ Some (9, two_classes (7 ∷ []))
the_last_cached_comes_first = refl

pub the_first_cached_stays : taken_from (two_classes (7 ∷ 9 ∷ [])) 16 ≡ Some (7, two_classes (9 ∷ [])) → ⊥
the_first_cached_stays e =
    let ids : ◌≡◌ {A = ℕ} 9 7 = ap (λ taken. option_map_or (λ (t : Id × List CacheClass). t.0) taken 0) e in absurd cc

pub none_of_a_class_that_is_empty : taken_from (two_classes (7 ∷ 9 ∷ [])) 4 ≡ None
none_of_a_class_that_is_empty = refl

pub none_of_a_size_without_a_class : taken_from (two_classes (7 ∷ 9 ∷ [])) 8 ≡ None
none_of_a_size_without_a_class = refl

pub a_block_is_kept_last : kept_in (two_classes (7 ∷ 9 ∷ [])) 16 8 ≡ Some (two_classes (7 ∷ 9 ∷ 8 ∷ []))
a_block_is_kept_last = refl

pub none_is_kept_where_the_class_is_full : kept_in (two_classes (7 ∷ 9 ∷ 8 ∷ [])) 16 5 ≡ None
none_is_kept_where_the_class_is_full = refl

pub one_more_than_the_limit : kept_in (two_classes (7 ∷ 9 ∷ 8 ∷ [])) 16 5 ≡ Some (two_classes (7 ∷ 9 ∷ 8 ∷ 5 ∷ [])) → ⊥
one_more_than_the_limit e = absurd cc

pub a_flush_goes_class_by_class :
    flushed (record { pool = 0; classes = record { words = 2; limit = 1; cached = 3 ∷ [] } ∷ two_classes (7 ∷ 9 ∷ []) }) ≡ 3 ∷ 9 ∷ 7 ∷ []
a_flush_goes_class_by_class = refl

pub sizes_that_rise : are_class_sizes 0 (new_classes 2 (4 ∷ 16 ∷ []) (1 ∷ 3 ∷ [])) ≡ true
sizes_that_rise = refl

pub a_size_twice : are_class_sizes 0 (new_classes 2 (4 ∷ 4 ∷ []) (1 ∷ 3 ∷ [])) ≡ false
a_size_twice = refl

pub blocks_of_no_words : are_class_sizes 0 (new_classes 1 (0 ∷ []) (1 ∷ [])) ≡ false
blocks_of_no_words = refl

pub blocks_that_are_too_long : are_class_sizes 0 (new_classes 1 (65537 ∷ []) (1 ∷ [])) ≡ false
blocks_that_are_too_long = refl

-- only the classes that count
pub the_first_classes_count : new_classes 1 (4 ∷ 16 ∷ []) (1 ∷ 3 ∷ []) ≡ record { words = 4; limit = 1; cached = [] } ∷ []
the_first_classes_count = refl

pub a_block_comes_back_with_zeros : body_cleared (Manual (5 ∷ 7 ∷ [])) ≡ Manual (0 ∷ 0 ∷ [])
a_block_comes_back_with_zeros = refl

pub old_words_are_gone : body_cleared (Manual (5 ∷ 7 ∷ [])) ≡ Manual (5 ∷ 7 ∷ []) → ⊥
old_words_are_gone e = absurd cc
