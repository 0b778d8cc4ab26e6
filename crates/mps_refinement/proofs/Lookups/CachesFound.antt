-- A cache that a name stands for in both, and what is taken from its classes and kept in them.
use Rattle.std.proofs.Common.{◌≡◌, ◌∙◌, ℕ, suc, ◌-◌, Bool, true, false, refl, sym, ap, List, [], ◌∷◌, ◌++◌, length, map, take, Option, Some, None, IsSome, is_some, arith}
use Rattle.std.proofs.lemmas.List.{length-map, map-append}
use Rattle.std.proofs.lemmas.Option.{get_or_from_slice_get, none-some, same_Some, slice_get-map}
use Rattle.std.specs.Prelude.{◌==◌, if◌then◌else◌, nat_lt, option_map, slice_get, slice_set}
use Rattle.mps_base.specs.Address.{Address, Id}
use Rattle.mps_base.specs.declared.names.Name.{Name}
use Rattle.mps_laws.proofs.Lookups.{map-slice_set, there_is}
use Rattle.mps_laws.proofs.Same.{Same, same_then}
use Rattle.mps_model.specs.Caches as models
use Rattle.mps_model.specs.Caches.{kept_in, taken_from}
use Rattle.mps_model.specs.Checked as model
use Rattle.mps_model.specs.Checked.{Numbered}
use Rattle.mps_model.specs.Graph.{Cache, CacheClass, with_last}
use Rattle.mps_model.specs.World.{World}
use Rattle.mps_names.specs.State.{as_cache}
use Rattle.mps_names.specs.declared.names.Thing.{Thing}
use Rattle.mps_names.specs.declared.names.Thing.TheVariants as thing
use Rattle.mps_neighbours.specs.Caches.{CacheState, ClassState, blocks_of_size, blocks_where, classes_of, is_of_size, keeps_size, keeps_where, last_of, no_cache, with_blocks_where, with_classes, with_last_of_size, without_last, without_last_of_size}
use Rattle.mps_heap_spec.specs.Caching.{cache_named}
use Rattle.mps_heap_spec.specs.State.{HeapState}
use Rattle.mps_heap_spec.specs.declared.found.Kept.{Kept}
use Rattle.mps_refinement.specs.Beside.{kept_cache, kept_class}
use Rattle.mps_refinement.specs.StandsFor.{AreParts, IsThere, Past, address_of_id, numbered_thing}
use Rattle.mps_refinement.proofs.Lookups.Found.{AreThere, IsKept, mapped_some, under_same}
use Rattle.mps_refinement.proofs.Lookups.Lookups.{key_same, key_there, own_number}

-- ---- a cache by its name

caches_numbered : (past : Past) (t : Thing) → model.as_cache (numbered_thing past t) ≡ option_map (λ (n : ℕ). n) (as_cache t)
caches_numbered past (thing.Cache number) = refl
caches_numbered past _ = refl

-- the number of the pool of a cache
abbrev pub pool_of_cache : {F : Type 0} → HeapState F → (number : ℕ) → Option ℕ
pool_of_cache h number = option_map (λ (q : CacheState). q.pool) (slice_get h.beside.caches number)

caches_there : {F : Type 0} (h : HeapState F) (t : Thing) (key : ℕ) → as_cache t ≡ Some key → IsThere h t → IsSome (pool_of_cache h key)
caches_there h (thing.Cache number) key e there =
    Rattle.std.proofs.Common.subst (λ n. IsSome (pool_of_cache h n)) (same_Some number key e)
    (ap (λ (o : Option CacheState). is_some (option_map (λ (q : CacheState). q.pool) o)) (there_is h.beside.caches number there).1)
caches_there h _ key e there = absurd (none-some key e)

abbrev pub FitCaches : ℕ → ℕ → Cache → Type 0
FitCaches number pool q = pool ≡ q.pool

abbrev pub IsCacheFound : {F : Type 0} → HeapState F → World → Kept ℕ → Numbered Cache → Type 0
IsCacheFound h w = IsKept FitCaches own_number (pool_of_cache h) (slice_get w.graph.caches)

pools_alike : (addresses : List (Option Address)) (o : Option Cache)
    → option_map (λ (q : CacheState). q.pool) (option_map (kept_cache addresses) o) ≡ option_map (λ (q : Cache). q.pool) o
pools_alike addresses None = refl
pools_alike addresses (Some q) = refl

module _ {F : Type 0} (layout : F → Rattle.mps_format.specs.Layout.Layout) (past : Past) (h : HeapState F) (w : World)
    (parts : AreParts layout past h w) where
  caches_fit : AreThere FitCaches own_number (pool_of_cache h) (slice_get w.graph.caches)
  caches_fit key pool e =
      let found = mapped_some (λ (q : Cache). q.pool) (slice_get w.graph.caches key) pool
      (sym (ap (λ qs. option_map (λ (q : CacheState). q.pool) (slice_get qs key)) parts.beside.caches
      ∙ ap (option_map (λ (q : CacheState). q.pool)) (slice_get-map (kept_cache w.addresses) w.graph.caches key)
      ∙ pools_alike w.addresses (slice_get w.graph.caches key)) ∙ e) in
      (found.0, found.1, sym found.2)

  pub cache_same : (name : Name) → Same (IsCacheFound h w) (cache_named h name) (model.cache_named w name)
  cache_same name =
      same_then (key_same past h w parts.names as_cache model.as_cache own_number (caches_numbered past) name) (λ key number k.
      under_same FitCaches own_number (pool_of_cache h) (slice_get w.graph.caches) caches_fit key number k.number
      (key_there past h w parts.names as_cache model.as_cache own_number (caches_numbered past) (λ n. IsSome (pool_of_cache h n))
      (caches_there h) name key k.named))

  module _ (number : ℕ) (q : Cache) (has : slice_get w.graph.caches number ≡ Some q) where
    -- the cache in the heap
    pub cache_kept : Rattle.mps_neighbours.specs.Caches.cache_at h.beside.caches number ≡ kept_cache w.addresses q
    cache_kept =
        ap (λ qs. Rattle.mps_neighbours.specs.Caches.cache_at qs number) parts.beside.caches
        ∙ get_or_from_slice_get (map (kept_cache w.addresses) w.graph.caches) number (kept_cache w.addresses q) no_cache
        (slice_get-map (kept_cache w.addresses) w.graph.caches number ∙ ap (option_map (kept_cache w.addresses)) has)

    pub classes_kept : classes_of h.beside.caches number ≡ map (kept_class w.addresses) q.classes
    classes_kept = ap (λ (c : CacheState). c.classes) cache_kept

    -- other classes of it
    pub classes_written : (ours : List ClassState) (classes : List CacheClass) → ours ≡ map (kept_class w.addresses) classes
        → with_classes h.beside.caches number ours
        ≡ map (kept_cache w.addresses) (slice_set w.graph.caches number (record q { classes = classes }))
    classes_written ours classes are =
        ap (λ (c : CacheState). slice_set h.beside.caches number (record c { classes = ours })) cache_kept
        ∙ ap (λ ks. slice_set h.beside.caches number (record { pool = q.pool; classes = ks })) are
        ∙ ap (λ qs. slice_set qs number (kept_cache w.addresses (record q { classes = classes }))) parts.beside.caches
        ∙ sym (map-slice_set (kept_cache w.addresses) w.graph.caches number (record q { classes = classes }))

-- ---- the last of a list

module _ (f : Id → Address) where
  last_alike : (ids : List Id) → last_of (map f ids) ≡ option_map f (models.last_of ids)
  last_alike [] = refl
  last_alike (id ∷ []) = refl
  last_alike (id ∷ next ∷ ids) =
      ap (λ n. slice_get (f id ∷ f next ∷ map f ids) n)
      (let e : length (f id ∷ f next ∷ map f ids) - 1 ≡ suc (length (f next ∷ map f ids) - 1) = omega arith in e)
      ∙ last_alike (next ∷ ids)

  before_alike : (ids : List Id) → without_last (map f ids) ≡ map f (models.without_last ids)
  before_alike [] = refl
  before_alike (id ∷ []) = refl
  before_alike (id ∷ next ∷ ids) =
      ap (λ n. take n (f id ∷ f next ∷ map f ids))
      (let e : length (f id ∷ f next ∷ map f ids) - 1 ≡ suc (length (f next ∷ map f ids) - 1) = omega arith in e)
      ∙ ap (λ rest. f id ∷ rest) (before_alike (next ∷ ids))

-- ---- a block is taken from its class

module _ (addresses : List (Option Address)) (words : ℕ) where
  abbrev f : Id → Address
  f id = address_of_id addresses id

  abbrev ours : List CacheClass → List ClassState
  ours ks = map (kept_class addresses) ks

  abbrev test : ClassState → Bool
  test c = is_of_size words c

  -- the blocks of the size, where the first class is of it or not
  blocks_here : (k : CacheClass) (ks : List CacheClass) → (k.words == words) ≡ true → blocks_of_size (ours (k ∷ ks)) words ≡ map f k.cached
  blocks_here k ks e = ap (λ b. if b then map f k.cached else blocks_where test (ours ks)) e

  blocks_later : (k : CacheClass) (ks : List CacheClass) → (k.words == words) ≡ false
      → blocks_of_size (ours (k ∷ ks)) words ≡ blocks_of_size (ours ks) words
  blocks_later k ks e = ap (λ b. if b then map f k.cached else blocks_where test (ours ks)) e

  written_here : (k : CacheClass) (ks : List CacheClass) (blocks : List ℕ) → (k.words == words) ≡ true
      → with_blocks_where test (ours (k ∷ ks)) blocks ≡ record { words = k.words; limit = k.limit; blocks = blocks } ∷ ours ks
  written_here k ks blocks e =
      ap (λ b. if b then record { words = k.words; limit = k.limit; blocks = blocks } ∷ ours ks
      else kept_class addresses k ∷ with_blocks_where test (ours ks) blocks) e

  written_later : (k : CacheClass) (ks : List CacheClass) (blocks : List ℕ) → (k.words == words) ≡ false
      → with_blocks_where test (ours (k ∷ ks)) blocks ≡ kept_class addresses k ∷ with_blocks_where test (ours ks) blocks
  written_later k ks blocks e =
      ap (λ b. if b then record { words = k.words; limit = k.limit; blocks = blocks } ∷ ours ks
      else kept_class addresses k ∷ with_blocks_where test (ours ks) blocks) e

  abbrev pub IsTakenAlike : List CacheClass → Option (Id × List CacheClass) → Type 0
  IsTakenAlike ks None = last_of (blocks_of_size (ours ks) words) ≡ None
  IsTakenAlike ks (Some taken) =
      (last_of (blocks_of_size (ours ks) words) ≡ Some (f taken.0)) × (without_last_of_size (ours ks) words ≡ ours taken.1)

  pub taken_alike : (ks : List CacheClass) → IsTakenAlike ks (taken_from ks words)
  taken_alike [] = refl
  taken_alike (k ∷ ks) = of_test (k.words == words) refl (taken_alike ks)
    where
      of_last : (k.words == words) ≡ true → (o : Option ℕ) → models.last_of k.cached ≡ o
          → IsTakenAlike (k ∷ ks) (option_map (λ id. (id, record k { cached = models.without_last k.cached } ∷ ks)) o)
      of_last is None e = ap last_of (blocks_here k ks is) ∙ last_alike f k.cached ∙ ap (option_map f) e
      of_last is (Some id) e = (
        ap last_of (blocks_here k ks is) ∙ last_alike f k.cached ∙ ap (option_map f) e,
        ap (λ blocks. with_blocks_where test (ours (k ∷ ks)) (without_last blocks)) (blocks_here k ks is)
            ∙ written_here k ks (without_last (map f k.cached)) is
            ∙ ap (λ blocks. record { words = k.words; limit = k.limit; blocks = blocks } ∷ ours ks) (before_alike f k.cached),
      )

      of_rest : (k.words == words) ≡ false → (o : Option (Id × List CacheClass)) → IsTakenAlike ks o
          → IsTakenAlike (k ∷ ks) (option_map (λ taken. (taken.0, k ∷ taken.1)) o)
      of_rest isnt None later = ap last_of (blocks_later k ks isnt) ∙ later
      of_rest isnt (Some taken) later = (
        ap last_of (blocks_later k ks isnt) ∙ later.0,
        ap (λ blocks. with_blocks_where test (ours (k ∷ ks)) (without_last blocks)) (blocks_later k ks isnt)
            ∙ written_later k ks (without_last (blocks_of_size (ours ks) words)) isnt
            ∙ ap (λ rest. kept_class addresses k ∷ rest) later.1,
      )

      of_test : (b : Bool) → (k.words == words) ≡ b → IsTakenAlike ks (taken_from ks words)
          → IsTakenAlike (k ∷ ks) (if b then option_map (λ id. (id, record k { cached = models.without_last k.cached } ∷ ks))
          (models.last_of k.cached) else option_map (λ taken. (taken.0, k ∷ taken.1)) (taken_from ks words))
      of_test true is later = of_last is (models.last_of k.cached) refl
      of_test false isnt later = of_rest isnt (taken_from ks words) later

  -- ---- a block is kept in its class

  abbrev pub IsKeptAlike : List CacheClass → (block : Id) → Option (List CacheClass) → Type 0
  IsKeptAlike ks block None = keeps_size (ours ks) words ≡ false
  IsKeptAlike ks block (Some now) =
      (keeps_size (ours ks) words ≡ true) × (with_last_of_size (ours ks) words (f block) ≡ ours now)

  pub kept_alike : (ks : List CacheClass) (block : Id) → IsKeptAlike ks block (kept_in ks words block)
  kept_alike [] block = refl
  kept_alike (k ∷ ks) block = of_test (k.words == words) refl (kept_alike ks block)
    where
      keeps_here : (b : Bool) → (k.words == words) ≡ b
          → keeps_size (ours (k ∷ ks)) words
          ≡ (if b then nat_lt (length (map f k.cached)) k.limit else keeps_size (ours ks) words)
      keeps_here b e =
          ap (λ c. if c then nat_lt (length (map f k.cached)) k.limit else keeps_where test (ours ks)) e

      of_room : (k.words == words) ≡ true → (b : Bool) → nat_lt (length k.cached) k.limit ≡ b
          → IsKeptAlike (k ∷ ks) block (if b then Some (record k { cached = with_last k.cached block } ∷ ks) else None)
      of_room is true room = (
        keeps_here true is ∙ ap (λ n. nat_lt n k.limit) (length-map k.cached f) ∙ room,
        ap (λ blocks. with_blocks_where test (ours (k ∷ ks)) (blocks ++ f block ∷ [])) (blocks_here k ks is)
            ∙ written_here k ks (map f k.cached ++ f block ∷ []) is
            ∙ ap (λ blocks. record { words = k.words; limit = k.limit; blocks = blocks } ∷ ours ks)
            (sym (map-append f k.cached (block ∷ []))),
      )
      of_room is false full = keeps_here true is ∙ ap (λ n. nat_lt n k.limit) (length-map k.cached f) ∙ full

      of_rest : (k.words == words) ≡ false → (o : Option (List CacheClass)) → IsKeptAlike ks block o
          → IsKeptAlike (k ∷ ks) block (option_map (λ rest. k ∷ rest) o)
      of_rest isnt None later = keeps_here false isnt ∙ later
      of_rest isnt (Some now) later = (
        keeps_here false isnt ∙ later.0,
        ap (λ blocks. with_blocks_where test (ours (k ∷ ks)) (blocks ++ f block ∷ [])) (blocks_later k ks isnt)
            ∙ written_later k ks (blocks_of_size (ours ks) words ++ f block ∷ []) isnt
            ∙ ap (λ rest. kept_class addresses k ∷ rest) later.1,
      )

      of_test : (b : Bool) → (k.words == words) ≡ b → IsKeptAlike ks block (kept_in ks words block)
          → IsKeptAlike (k ∷ ks) block (if b
          then (if nat_lt (length k.cached) k.limit then Some (record k { cached = with_last k.cached block } ∷ ks) else None)
          else option_map (λ rest. k ∷ rest) (kept_in ks words block))
      of_test true is later = of_room is (nat_lt (length k.cached) k.limit) refl
      of_test false isnt later = of_rest isnt (kept_in ks words block) later
