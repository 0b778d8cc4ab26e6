-- What a caller sees of the pools of frames, and the results of their calls.
use Rattle.std.specs.Prelude.{ℕ, ◌≡◌, ◌+◌, ◌-◌, ◌*◌, Bool, true, nat_lt, Option, Some, None, List, [], ◌∷◌, ◌++◌, length, take, replicate, slice_get, slice_index, slice_index_or, slice_set, refl}
use Rattle.std.specs.List.{sum_by}
use Rattle.std.specs.Option.{option_map_or}
use Rattle.mps_snc.specs.declared.pool.Block.{Block}

-- the most pools of an arena, the most blocks of all its pools of frames, and the most open frames of all
abbrev pub max_pools : ℕ
max_pools = 64

abbrev pub max_notes : ℕ
max_notes = 65536

abbrev pub max_frames : ℕ
max_frames = 4096

-- The blocks of a pool in the order of making, and its open frames, each the number of blocks at its opening, the latest last.
pub record PoolState : Type 0 where
  pub blocks : List Block
  pub frames : List ℕ

-- a pool without blocks and frames
abbrev pub new_pool : PoolState
new_pool = record { blocks = []; frames = [] }

-- the last block, where there is one
abbrev pub last_of : List Block → Option Block
last_of blocks = slice_get blocks (length blocks - 1)

-- with one more block, made last; without the block made last
abbrev pub with_block : PoolState → Block → PoolState
with_block p block = record p { blocks = p.blocks ++ block ∷ [] }

abbrev pub without_last_block : PoolState → PoolState
without_last_block p = record p { blocks = take (length p.blocks - 1) p.blocks }

-- with these open frames; with one more, opened now
abbrev pub with_frames : PoolState → List ℕ → PoolState
with_frames p frames = record p { frames = frames }

abbrev pub with_frame : PoolState → PoolState
with_frame p = with_frames p (p.frames ++ length p.blocks ∷ [])

-- how many blocks there were when a frame was opened
abbrev pub opened_at : PoolState → (frame : ℕ) → ℕ
opened_at p frame = slice_index p.frames frame

-- The pools of an arena by number, each with its state where it is a pool of frames.
abbrev pub Pools : Type 0
Pools = List (Option PoolState)

-- no pool is one of frames
abbrev pub no_pools : Pools
no_pools = replicate max_pools None

-- what a pool has, where it is one of frames
abbrev pub pool_at : Pools → (pool : ℕ) → Option PoolState
pool_at pools pool = slice_index_or pools pool None

-- the state of a pool of frames
abbrev pub state_of : Pools → (pool : ℕ) → PoolState
state_of pools pool = option_map_or (λ p. p) (pool_at pools pool) new_pool

-- a pool of frames has another state
abbrev pub with_pool : Pools → (pool : ℕ) → PoolState → Pools
with_pool pools pool state = slice_set pools pool (Some state)

-- whether one more block of a pool can be noted: nothing is noted of a pool that isn't one of frames
abbrev pub has_room : Option PoolState → Bool
has_room None = true
has_room (Some p) = nat_lt (length p.blocks) max_notes

-- a block of a pool is noted, its last, where the pool is one of frames
abbrev pub noted : Pools → (pool : ℕ) → Block → Pools
noted pools pool block = option_map_or (λ p. with_pool pools pool (with_block p block)) (pool_at pools pool) pools

-- how many blocks and open frames a pool has, none where it isn't one of frames
abbrev pub blocks_of : Option PoolState → ℕ
blocks_of o = option_map_or (λ p. length p.blocks) o 0

abbrev pub frames_of : Option PoolState → ℕ
frames_of o = option_map_or (λ p. length p.frames) o 0

-- how many blocks and open frames there are in all pools
abbrev pub notes_count : Pools → ℕ
notes_count pools = sum_by blocks_of pools

abbrev pub frames_count : Pools → ℕ
frames_count pools = sum_by frames_of pools

abbrev block_in : (index : ℕ) → Block
block_in index = record { at = record { 0 = 4096 + 8 * index }; place = record { table = 0; index = index } }

-- three blocks, of which the second came after a frame and the third after another
abbrev example : PoolState
example = record { blocks = block_in 0 ∷ block_in 1 ∷ block_in 2 ∷ []; frames = 1 ∷ 2 ∷ [] }

pub the_last_block_is_the_third : last_of example.blocks ≡ Some (block_in 2)
the_last_block_is_the_third = refl

pub two_are_left : (without_last_block example).blocks ≡ block_in 0 ∷ block_in 1 ∷ []
two_are_left = refl

pub the_first_frame_was_opened_at_one : opened_at example 0 ≡ 1
the_first_frame_was_opened_at_one = refl

pub a_frame_is_opened_at_three : (with_frame example).frames ≡ 1 ∷ 2 ∷ 3 ∷ []
a_frame_is_opened_at_three = refl

pub both_frames_are_closed : (with_frames example (take 0 example.frames)).frames ≡ []
both_frames_are_closed = refl

pub all_pools_are_counted : notes_count (Some example ∷ None ∷ Some example ∷ []) ≡ 6
all_pools_are_counted = refl

pub all_frames_are_counted : frames_count (None ∷ Some example ∷ Some example ∷ []) ≡ 4
all_frames_are_counted = refl

pub a_noted_block_is_the_last : noted (None ∷ Some example ∷ []) 1 (block_in 3) ≡ None ∷ Some (with_block example (block_in 3)) ∷ []
a_noted_block_is_the_last = refl

pub nothing_is_noted_of_another_pool : noted (None ∷ Some example ∷ []) 0 (block_in 3) ≡ None ∷ Some example ∷ []
nothing_is_noted_of_another_pool = refl

pub three_blocks_leave_room : has_room (Some example) ≡ true
three_blocks_leave_room = refl

pub another_pool_has_none : pool_at (Some example ∷ None ∷ []) 1 ≡ None
another_pool_has_none = refl
