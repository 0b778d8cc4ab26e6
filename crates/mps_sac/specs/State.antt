-- What a caller sees of the caches, and the results of their calls.
use Rattle.std.specs.Prelude.{ℕ, ◌≡◌, ◌-◌, ◌==◌, nat_lt, Bool, true, false, not, Option, Some, None, List, [], ◌∷◌, ◌++◌, length, take, map, sum_by, if◌then◌else◌, slice_get, slice_index_or, slice_set, refl}
use Rattle.mps_sac.specs.declared.class.ClassSize.{ClassSize}

-- the most caches, the most classes of one, and the most blocks of a class
abbrev pub max_caches : ℕ
max_caches = 16

abbrev pub max_classes : ℕ
max_classes = 8

abbrev pub max_cached : ℕ
max_cached = 64

-- the most blocks of a cache
abbrev pub max_cached_in_all : ℕ
max_cached_in_all = 512

-- The size of a class in words, how many blocks it keeps at most, and the addresses of those that it has, the one cached last at the
-- end.
pub record ClassState : Type 0 where
  pub words : ℕ
  pub limit : ℕ
  pub blocks : List ℕ

-- The number of the pool over which a cache stands, and its classes.
pub record CacheState : Type 0 where
  pub pool : ℕ
  pub classes : List ClassState

-- a class without blocks
abbrev pub new_class : ClassSize → ClassState
new_class size = record { words = size.words; limit = size.limit; blocks = [] }

-- a cache without blocks
abbrev pub new_cache : (pool : ℕ) → List ClassSize → CacheState
new_cache pool sizes = record { pool = pool; classes = map new_class sizes }

-- how many blocks some classes have
abbrev pub count_in : List ClassState → ℕ
count_in classes = sum_by (λ (c : ClassState). length c.blocks) classes

-- the last address of a list, and the rest
abbrev pub last_of : List ℕ → Option ℕ
last_of blocks = slice_get blocks (length blocks - 1)

abbrev pub without_last : List ℕ → List ℕ
without_last blocks = take (length blocks - 1) blocks

-- a class has a block; it has room for one more; it is of this size
abbrev pub has_block : ClassState → Bool
has_block c = not (length c.blocks == 0)

abbrev pub class_keeps : ClassState → Bool
class_keeps c = nat_lt (length c.blocks) c.limit

abbrev pub is_of_size : (words : ℕ) → ClassState → Bool
is_of_size words c = c.words == words

module _ (test : ClassState → Bool) where
  -- the blocks of the first class that passes a test, none where no class does
  abbrev pub blocks_where : List ClassState → List ℕ
  blocks_where [] = []
  blocks_where (c ∷ cs) = if test c then c.blocks else blocks_where cs

  -- the first class that passes a test has other blocks
  abbrev pub with_blocks_where : List ClassState → List ℕ → List ClassState
  with_blocks_where [] blocks = []
  with_blocks_where (c ∷ cs) blocks = if test c then record c { blocks = blocks } ∷ cs else c ∷ with_blocks_where cs blocks

  -- the first class that passes a test has room for one more
  abbrev pub keeps_where : List ClassState → Bool
  keeps_where [] = false
  keeps_where (c ∷ cs) = if test c then class_keeps c else keeps_where cs

-- The blocks of the first class of a size, the one cached last at the end; none where no class is of this size.
abbrev pub blocks_of_size : List ClassState → (words : ℕ) → List ℕ
blocks_of_size classes words = blocks_where (is_of_size words) classes

-- the first class of a size has other blocks
abbrev pub with_blocks_of_size : List ClassState → (words : ℕ) → List ℕ → List ClassState
with_blocks_of_size classes words blocks = with_blocks_where (is_of_size words) classes blocks

-- the first class of a size has room for one more block
abbrev pub keeps_size : List ClassState → (words : ℕ) → Bool
keeps_size classes words = keeps_where (is_of_size words) classes

-- without the block that was cached last in the first class of a size
abbrev pub without_last_of_size : List ClassState → (words : ℕ) → List ClassState
without_last_of_size classes words = with_blocks_of_size classes words (without_last (blocks_of_size classes words))

-- with one more block, cached last in the first class of a size
abbrev pub with_last_of_size : List ClassState → (words at : ℕ) → List ClassState
with_last_of_size classes words at = with_blocks_of_size classes words (blocks_of_size classes words ++ at ∷ [])

-- the blocks of the first class that has one
abbrev pub next_blocks : List ClassState → List ℕ
next_blocks classes = blocks_where has_block classes

-- without the block that was cached last in the first class that has one
abbrev pub without_next : List ClassState → List ClassState
without_next classes = with_blocks_where has_block classes (without_last (next_blocks classes))

-- a cache over the first pool that has no class
abbrev pub no_cache : CacheState
no_cache = record { pool = 0; classes = [] }

-- a cache, by its number
abbrev pub cache_at : List CacheState → (number : ℕ) → CacheState
cache_at caches number = slice_index_or caches number no_cache

-- the pool of a cache, and its classes
abbrev pub pool_of : List CacheState → (number : ℕ) → ℕ
pool_of caches number = (cache_at caches number).pool

abbrev pub classes_of : List CacheState → (number : ℕ) → List ClassState
classes_of caches number = (cache_at caches number).classes

-- a cache has other classes
abbrev pub with_classes : List CacheState → (number : ℕ) → List ClassState → List CacheState
with_classes caches number classes = slice_set caches number (record (cache_at caches number) { classes = classes })

-- classes of 2 and 16 words, the second with two blocks of at most two
abbrev example : List ClassState
example = record { words = 2; limit = 1; blocks = [] } ∷ record { words = 16; limit = 2; blocks = 8 ∷ 256 ∷ [] } ∷ []

pub the_last_cached_comes_back : last_of (blocks_of_size example 16) ≡ Some 256
the_last_cached_comes_back = refl

pub the_first_cached_stays : blocks_of_size (without_last_of_size example 16) 16 ≡ 8 ∷ []
the_first_cached_stays = refl

pub two_blocks_in_all : count_in example ≡ 2
two_blocks_in_all = refl

pub no_block_of_two_words : last_of (blocks_of_size example 2) ≡ None
no_block_of_two_words = refl

pub no_class_of_three_words : blocks_of_size example 3 ≡ []
no_class_of_three_words = refl

pub there_is_room_for_two_words : keeps_size example 2 ≡ true
there_is_room_for_two_words = refl

pub the_second_class_is_full : keeps_size example 16 ≡ false
the_second_class_is_full = refl

pub nothing_of_three_words_is_kept : keeps_size example 3 ≡ false
nothing_of_three_words_is_kept = refl

pub a_block_is_cached_last : with_last_of_size example 16 512
    ≡ record { words = 2; limit = 1; blocks = [] } ∷ record { words = 16; limit = 2; blocks = 8 ∷ 256 ∷ 512 ∷ [] } ∷ []
a_block_is_cached_last = refl

pub the_next_is_of_the_first_class_with_one : next_blocks example ≡ 8 ∷ 256 ∷ []
the_next_is_of_the_first_class_with_one = refl

pub an_empty_cache_has_no_next : last_of (next_blocks (record { words = 2; limit = 1; blocks = [] } ∷ [])) ≡ None
an_empty_cache_has_no_next = refl
