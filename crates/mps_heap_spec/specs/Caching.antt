-- The outcomes of the calls on allocation caches.
use Rattle.std.specs.Prelude.{◌≡◌, ℕ, ◌+◌, ◌*◌, ◌==◌, ◌++◌, ◌||◌, ◌&&◌, nat_lt, nat_le, Bool, true, false, not, if◌then◌else◌, Option, Some, None, option_map, Ok, Err, List, [], ◌∷◌, map, length, slice_get, slice_index, Contains, refl}
use Rattle.std.proofs.Common.{ap, arith}
use Rattle.std.specs.List.{flat_map}
use Rattle.mps_base.specs.Address.{Address, word_of}
use Rattle.mps_base.specs.Segment.{segment_over}
use Rattle.mps_base.specs.Trail.{Moves}
use Rattle.mps_base.specs.declared.names.Name.{Name}
use Rattle.mps_base.specs.declared.names.Slot.{Slot}
use Rattle.mps_base.specs.declared.refusal.Refusal.{Refusal}
use Rattle.mps_base.specs.declared.refusal.Refusal.TheVariants as refusal
use Rattle.mps_manual.specs.Manual.{has_blocks_of, answer_of_alloc, segs_after_alloc, moves_allocated, segs_after_free, moves_freed}
use Rattle.mps_model.specs.Checked.{Checked, ◌>>=◌, ◌>>◌, required, refuse_when}
use Rattle.mps_model.specs.Graph.{from_last}
use Rattle.mps_model.specs.Making.{is_block_size, most_caches}
use Rattle.mps_names.specs.State.{Updates, as_cache, own_room}
use Rattle.mps_names.specs.declared.names.Thing.TheVariants as thing
use Rattle.mps_sac.specs.State.{CacheState, ClassState, blocks_of_size, classes_of, count_in, keeps_size, last_of, new_cache, with_classes, with_last_of_size, without_last_of_size}
use Rattle.mps_sac.specs.declared.class.ClassSize.{ClassSize}
use Rattle.mps_seg.specs.Arena.{cleared_words}
use Rattle.mps_format.specs.declared.pool.Pool.{Pool}
use Rattle.mps_format.specs.declared.pool.Pool.TheVariants as pool
use Rattle.mps_heap_spec.specs.State.{HeapState}
use Rattle.mps_heap_spec.specs.Coming.{ComesMoving, Moved}
use Rattle.mps_heap_spec.specs.Finding.{block_place_in, key_named, pool_named, under, with_words}
use Rattle.mps_heap_spec.specs.Framing.{has_frames}
use Rattle.mps_heap_spec.specs.Making.{refuse_taken}
use Rattle.mps_heap_spec.specs.Manual.{Freeing, block_in, row_freed, with_block_place}
use Rattle.mps_heap_spec.specs.declared.found.Entry.{Entry}
use Rattle.mps_heap_spec.specs.declared.found.Kept.{Kept}

-- ---- a cache is flushed

-- the blocks of some classes in the order in which a flush frees them: class by class, the last cached first
abbrev pub flushed : List ClassState → List Address
flushed classes = flat_map (λ (c : ClassState). from_last c.blocks) classes

-- a class without its blocks
abbrev pub emptied : ClassState → ClassState
emptied c = record c { blocks = [] }

-- ---- a cache is made

-- whether sizes rise from above this one, and are those of blocks
abbrev pub are_class_sizes : (above : ℕ) → List ClassSize → Bool
are_class_sizes above [] = true
are_class_sizes above (c ∷ cs) = nat_lt above c.words && (is_block_size c.words && are_class_sizes c.words cs)

-- whether a pool has blocks of any sizes
abbrev pub has_any_sizes : {F : Type 0} → Pool F → Bool
has_any_sizes pool.AnySize = true
has_any_sizes _ = false

-- whether a cache may stand over a pool: one of blocks of any sizes, which isn't one of frames
abbrev pub may_have_cache : {F : Type 0} → HeapState F → Kept (Pool F) → Bool
may_have_cache h of = has_any_sizes of.value && not (has_frames h of.key)

-- n words from an address on are 0, if the arena has them
abbrev pub words_cleared : List ℕ → (at : Address) → (n : ℕ) → List ℕ
words_cleared words at n = if nat_le (word_of at + n) (length words) then cleared_words words (word_of at) n else words

module _ {F : Type 0} where
  -- whether there are as many caches as there may be, or there is no room for the name of one more
  abbrev pub are_caches_full : HeapState F → Bool
  are_caches_full h =
      nat_le most_caches (length h.beside.caches)
      || not (nat_lt 0 (own_room h.names.counts (thing.Cache (length h.beside.caches))))

  -- the pool of a cache that may be made
  abbrev pub check_cache : HeapState F → (name pool : Name) → List ClassSize → Checked (Kept (Pool F))
  check_cache h name pool classes = do
    refuse_taken h name
    of ← pool_named h pool
    refuse_when (not (may_have_cache h of)) refusal.WrongPool
    refuse_when (not (are_class_sizes 0 classes)) refusal.BadSize
    refuse_when (are_caches_full h) (refusal.TooMany most_caches)
    Ok of

  -- a cache is made over a pool, all its classes empty, with the next number
  pub record MakesCache (h : HeapState F) (name : Name) (pool : ℕ) (classes : List ClassSize) (after : HeapState F) : Type 0 where
    pub names : Updates h.names after.names name (Some (thing.Cache (length h.beside.caches)))
    pub state : after ≡ record h {
      beside = record h.beside { caches = h.beside.caches ++ new_cache pool classes ∷ [] };
      names = after.names;
    }

  -- a call that makes a cache: it is refused, or the cache is made
  pub data IsCacheMaking (h : HeapState F) (name pool : Name) (classes : List ClassSize) : Checked (Unit {0}) → HeapState F → Type 0 where
    NoCache : {why : Refusal} → check_cache h name pool classes ≡ Err why → IsCacheMaking h name pool classes (Err why) h
    NewCache : {after : HeapState F} {of : Kept (Pool F)} → check_cache h name pool classes ≡ Ok of
        → MakesCache h name of.key classes after → IsCacheMaking h name pool classes (Ok tt) after

  -- ---- what a call finds

  -- a cache, with the number of its pool
  abbrev pub cache_named : HeapState F → Name → Checked (Kept ℕ)
  cache_named h name = do
    number ← key_named h name as_cache
    under number (option_map (λ (q : CacheState). q.pool) (slice_get h.beside.caches number))

  -- the classes of a cache are others
  abbrev pub with_cached : HeapState F → (cache : ℕ) → List ClassState → HeapState F
  with_cached h cache classes = record h { beside = record h.beside { caches = with_classes h.beside.caches cache classes } }

  -- ---- a block comes from a cache

  -- the block that was cached last in the class of n words goes into a place, and its words are 0
  abbrev pub with_block_taken : HeapState F → (cache words : ℕ) → Entry Address → Address → HeapState F
  with_block_taken h cache words into at =
      with_block_place (with_words (with_cached h cache (without_last_of_size (classes_of h.beside.caches cache) words))
      (words_cleared h.segs.words at words)) into at

  -- a block of the pool with a number is made, and put into a place
  abbrev pub block_made : HeapState F → Moves → (pool size words : ℕ) → Entry Address → Checked (Moved F (Unit {0}))
  block_made h trail pool size words into = do
    at ← answer_of_alloc size h.segs pool words
    Ok (record {
      answer = tt;
      state = with_block_place (record h { segs = segs_after_alloc h.segs pool words at }) into at.0;
      trail = moves_allocated h.segs trail pool words at;
    })

  -- the cached block, or else a new one
  abbrev pub block_taken : HeapState F → Moves → Kept ℕ → (size words : ℕ) → Entry Address → Option Address
      → Checked (Moved F (Unit {0}))
  block_taken h trail from size words into (Some at) =
      Ok (record { answer = tt; state = with_block_taken h from.key words into at; trail = trail })
  block_taken h trail from size words into None = block_made h trail from.value size words into

  abbrev pub taken_into : HeapState F → Moves → Kept ℕ → (words : ℕ) → Entry Address → Checked (Moved F (Unit {0}))
  taken_into h trail from words into = do
    size ← required (slice_get h.sizes from.value) refusal.BadName
    refuse_when (not (has_blocks_of size words)) refusal.BadSize
    refuse_when (not (into.value == 0)) refusal.NameTaken
    block_taken h trail from size words into (last_of (blocks_of_size (classes_of h.beside.caches from.key) words))

  abbrev pub block_from_cache : HeapState F → Moves → (cache : Name) → (words : ℕ) → Slot → Checked (Moved F (Unit {0}))
  block_from_cache h trail cache words place = do
    from ← cache_named h cache
    into ← block_place_in h place
    taken_into h trail from words into

  -- ---- a block goes to a cache

  -- a block of n words leaves its place, and is cached last in the class of its size
  abbrev pub with_block_kept : HeapState F → (cache words : ℕ) → Entry Address → Address → HeapState F
  with_block_kept h cache words from at =
      with_block_place (with_cached h cache (with_last_of_size (classes_of h.beside.caches cache) words at)) from 0

  -- a block leaves its place and is freed
  abbrev pub block_gone : HeapState F → Moves → (size : ℕ) → Entry Address → Address → Moved F (Unit {0})
  block_gone h trail size from at = record {
    answer = tt;
    state = with_block_place (record h { segs = segs_after_free size h.segs at }) from 0;
    trail = moves_freed size h.segs trail (record { 0 = at });
  }

  -- the block is kept if its class has room, and else freed
  abbrev pub block_kept : HeapState F → Moves → Kept ℕ → (size words : ℕ) → Entry Address → Address → (keeps : Bool)
      → Checked (Moved F (Unit {0}))
  block_kept h trail into size words from at true =
      Ok (record { answer = tt; state = with_block_kept h into.key words from at; trail = trail })
  block_kept h trail into size words from at false = Ok (block_gone h trail size from at)

  -- the block of n words at an address, which stands in a place
  abbrev pub kept_from : HeapState F → Moves → Kept ℕ → (words : ℕ) → Entry Address → Address → Checked (Moved F (Unit {0}))
  kept_from h trail into words from at = do
    s ← required (segment_over h.segs.segments at) refusal.NotABlock
    refuse_when (not (s.pool == into.value)) refusal.WrongPool
    size ← required (slice_get h.sizes s.pool) refusal.NotABlock
    block_kept h trail into size words from at (keeps_size (classes_of h.beside.caches into.key) words)

  -- where the block in the place has n words
  abbrev pub block_to_cache : HeapState F → Moves → (cache : Name) → Slot → (words : ℕ) → Checked (Moved F (Unit {0}))
  block_to_cache h trail cache place words = do
    into ← cache_named h cache
    from ← block_place_in h place
    at ← block_in h from
    kept_from h trail into words from at

  -- the call, with the number of words of the block in the place
  pub record IsCacheFree (h : HeapState F) (trail : Moves) (cache : Name) (place : Slot) (result : Checked (Unit {0}))
      (after : HeapState F) (trail_after : Moves) : Type 0 where
    pub words : ℕ
    pub block : (from : Entry Address) (at : Address) → block_place_in h place ≡ Ok from → block_in h from ≡ Ok at
        → Contains h.segs.blocks (record { from = word_of at; count = words })
    pub comes : ComesMoving h trail (block_to_cache h trail cache place words) result after trail_after

  -- ---- a cache is flushed

  -- a cache is empty, and the segments and the trail are these
  abbrev pub with_cache_flushed : HeapState F → (cache : ℕ) → Freeing → Moved F (Unit {0})
  with_cache_flushed h cache f = record {
    answer = tt;
    state = with_cached (record h { segs = f.segs }) cache (map emptied (classes_of h.beside.caches cache));
    trail = f.trail;
  }

  -- all blocks of a cache are freed
  abbrev pub cache_flushed : HeapState F → Moves → (cache : Name) → Checked (Moved F (Unit {0}))
  cache_flushed h trail cache = do
    of ← cache_named h cache
    size ← required (slice_get h.sizes of.value) refusal.BadName
    Ok (with_cache_flushed h of.key
        (row_freed size (record { segs = h.segs; trail = trail }) (flushed (classes_of h.beside.caches of.key))))

  -- two moves for each block of the cache that was found
  abbrev pub two_each : HeapState F → Checked (Kept ℕ) → ℕ
  two_each h (Ok of) = 2 * count_in (classes_of h.beside.caches of.key)
  two_each h (Err why) = 0

  -- the moves for which a flush needs room
  abbrev pub moves_of_flush : HeapState F → (cache : Name) → ℕ
  moves_of_flush h cache = two_each h (cache_named h cache)

-- ---- vectors

abbrev two_classes : List ClassState
two_classes = record { words = 2; limit = 2; blocks = 8 ∷ [] } ∷ record { words = 16; limit = 2; blocks = 256 ∷ 512 ∷ [] } ∷ []

pub class_by_class_the_last_cached_first : flushed two_classes ≡ 8 ∷ 512 ∷ 256 ∷ []
class_by_class_the_last_cached_first = refl

pub not_the_first_cached_first : flushed two_classes ≡ 8 ∷ 256 ∷ 512 ∷ [] → ⊥
not_the_first_cached_first e = absurd (let second : ◌≡◌ {A = ℕ} 512 256 = ap (λ ats. slice_index ats 1) e in omega (arith, second))

abbrev class_sizes : List ClassSize
class_sizes = record { words = 4; limit = 1 } ∷ record { words = 16; limit = 3 } ∷ []

pub sizes_that_rise : are_class_sizes 0 class_sizes ≡ true
sizes_that_rise = refl

pub a_size_that_is_not_above : are_class_sizes 4 class_sizes ≡ false
a_size_that_is_not_above = refl

pub a_size_that_is_too_large : are_class_sizes 0 (record { words = 65537; limit = 1 } ∷ []) ≡ false
a_size_that_is_too_large = refl

pub words_past_the_arena_stay : words_cleared (7 ∷ 8 ∷ []) 8 2 ≡ 7 ∷ 8 ∷ []
words_past_the_arena_stay = refl

pub words_of_the_arena_are_cleared : words_cleared (7 ∷ 8 ∷ 9 ∷ []) 8 2 ≡ 7 ∷ 0 ∷ 0 ∷ []
words_of_the_arena_are_cleared = refl
