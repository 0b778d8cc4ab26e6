-- What the words of an arena represent, and what the arena has of them: its words, its marks by word, and its runs.
use Rattle.std.specs.Prelude.{◌≡◌, ℕ, ◌+◌, ◌*◌, ◌<◌, Bool, true, false, ◌||◌, if◌then◌else◌, Option, Some, None, option_map, option_and_then, List, [], ◌∷◌, map, length, slice_get, refl}
use Rattle.std.specs.Option.{option_map_or}
use Rattle.mps_base.specs.Address.{Address, Id, Word, word_of, address_of_word, words_of_grain}
use Rattle.mps_base.specs.Run.{Run}
use Rattle.mps_base.specs.Segment.{segment_over}
use Rattle.mps_base.specs.declared.names.Rank.TheVariants as rank
use Rattle.mps_extents.specs.Table.{bit}
use Rattle.mps_format.specs.Layout.{Layout}
use Rattle.mps_seg.specs.Segs.{SegsState, new_segments}
use Rattle.mps_seg.specs.Collecting.{is_condemned_at, condemning, keeping, greying}
use Rattle.mps_model.specs.Graph.{Cell, HeadCell, NumberCell, Body, Automatic, Manual, Object, Point, Reservation, entry_at, size_of, is_live_reservation}
use Rattle.mps_model.specs.World.{World, PointMemory, pool_at}

-- ---- what the words represent

-- what a collector's fixes leave as it is
pub record Setting : Type 0 where
  pub objects : List Object
  pub points : List (Option Point)
  pub point_memories : List PointMemory
  -- the format of each pool's blocks
  pub layout : (pool : ℕ) → Layout
  -- the address that each object had at the flip; none if no collection runs, and once blocks are freed
  pub at_flip : List (Option Address)
  -- the objects that the flip condemned
  pub condemned : List Id
  -- whether an object's words are still read: those of all objects, and once blocks are freed of those that aren't white
  pub is_read : Id → Bool
  -- how many words the arena has
  pub size : ℕ
  -- the pool of the segment that is held over a word, and whether that segment is condemned
  pub pool_over : Word → Option ℕ
  pub is_condemned_over : Word → Bool

-- what fixes change
pub record Memory : Type 0 where
  pub words : List ℕ
  -- whether the block that begins at a word is kept, and whether it is grey
  pub kept : Word → Bool
  pub grey : Word → Bool
  pub blocks : List Run
  pub reservations : List Run
  -- blocks and reservations together
  pub covered : List Run

-- ---- as the segments have it

-- what the segments have
abbrev pub memory_in : SegsState → Memory
memory_in s = record {
  words = s.words;
  kept = λ n. bit s.marks.kept n;
  grey = λ n. bit s.marks.exact n || bit s.marks.weak n;
  blocks = s.blocks;
  reservations = s.reservations;
  covered = s.covered;
}

-- how many words an arena of n grains has
abbrev pub words_of_arena : (grains : ℕ) → ℕ
words_of_arena grains = words_of_grain * (grains + 1)

-- the pool of the segment that is held over a word
abbrev pub pool_over_word : SegsState → Word → Option ℕ
pool_over_word s n = option_map (λ t. t.pool) (segment_over s.segments (address_of_word n))

-- whether a condemned segment is held over a word
abbrev pub is_condemned_word : SegsState → Word → Bool
is_condemned_word s n = is_condemned_at s (address_of_word n)

-- the setting of objects, points and pools in an arena, where these are the addresses at the flip, the objects that it condemned, and
-- those whose words are read
abbrev pub setting_in : SegsState → List Object → List (Option Point) → List PointMemory → (layout : ℕ → Layout)
    → (at_flip : List (Option Address)) → (condemned : List Id) → (is_read : Id → Bool) → Setting
setting_in s objects points memories layout at_flip condemned is_read = record {
  objects = objects;
  points = points;
  point_memories = memories;
  layout = layout;
  at_flip = at_flip;
  condemned = condemned;
  is_read = is_read;
  size = words_of_arena s.grains;
  pool_over = pool_over_word s;
  is_condemned_over = is_condemned_word s;
}

-- the setting if no collection runs
abbrev pub setting_at_rest : SegsState → List Object → List (Option Point) → List PointMemory → (layout : ℕ → Layout) → Setting
setting_at_rest s objects points memories layout = setting_in s objects points memories layout [] [] (λ id. true)

-- the format of a pool's blocks in a world
abbrev pub pool_layout : World → (pool : ℕ) → Layout
pool_layout w pool = w.formats (option_map_or (λ p. p.format) (pool_at w pool) 0)

-- ---- cells

-- the cells of a body, where each word of a manual block counts as a number
abbrev pub all_cells : Body → List Cell
all_cells (Automatic head cells is_weak) = cells
all_cells (Manual words) = map NumberCell words

-- word n of the arena is word k of the object, which is live
pub record Lies (objects : List Object) (addresses : List (Option Address)) (id k : ℕ) (o : Object) (n : Word) : Type 0 where
  pub at : Address
  pub address : entry_at addresses id ≡ Some at
  pub object : slice_get objects id ≡ Some o
  pub within : k < size_of o
  pub is : n ≡ word_of at + k

-- the live reservation of a point
abbrev pub live_reservation : Option Point → Option Reservation
live_reservation None = None
live_reservation (Some p) = option_and_then (λ r. if is_live_reservation r then Some r else None) p.reservation

-- word n of the arena is word k of the live reservation of a point
pub record LiesReserved (points : List (Option Point)) (memories : List PointMemory) (point k : ℕ) (r : Reservation) (n : Word) : Type 0
  where
    pub memory : PointMemory
    pub reserved : live_reservation (entry_at points point) ≡ Some r
    pub has : slice_get memories point ≡ Some memory
    pub within : k < length r.cells
    pub is : n ≡ word_of memory.reserved_at + k

-- a block begins at a word
pub record BlockBegins (addresses : List (Option Address)) (n : Word) : Type 0 where
  pub id : Id
  pub at : Address
  pub address : entry_at addresses id ≡ Some at
  pub is : n ≡ word_of at

-- ---- vectors: one condemned segment at 0x1000, with a kept block at 0x1010 that is grey

abbrev example : SegsState
example = greying (keeping (condemning (record (new_segments 2 2) {
  segments = record { base = 0x1000; grains = 1; pool = 7; generation = 0; rank = rank.Exact } ∷ [];
}) 0x1000) 0x1010) 0x1010

pub a_pool_by_word : pool_over_word example 512 ≡ Some 7
a_pool_by_word = refl

pub no_segment_no_pool : pool_over_word example 1024 ≡ None
no_segment_no_pool = refl

pub the_last_word_of_a_segment_is_condemned : is_condemned_word example 1023 ≡ true
unfolding bit
the_last_word_of_a_segment_is_condemned = refl

pub no_other_word_is : is_condemned_word example 1024 ≡ false
no_other_word_is = refl

pub a_block_is_marked_where_it_begins : ((memory_in example).kept 514 ≡ true) × ((memory_in example).grey 514 ≡ true)
unfolding bit
a_block_is_marked_where_it_begins = (refl, refl)

pub no_other_is_marked : ((memory_in example).kept 512 ≡ false) × ((memory_in example).grey 515 ≡ false)
unfolding bit
no_other_is_marked = (refl, refl)

abbrev reserved : (is_doomed : Bool) → Option Point
reserved is_doomed = Some (record {
  pool = 0;
  rank = rank.Exact;
  reservation = Some (record { head = 0x201; cells = HeadCell ∷ NumberCell 0 ∷ []; is_doomed = is_doomed });
})

pub a_doomed_reservation_is_not_live : live_reservation (reserved true) ≡ None
a_doomed_reservation_is_not_live = refl

pub an_open_one_is : live_reservation (reserved false) ≡ Some
    (record { head = 0x201; cells = HeadCell ∷ NumberCell 0 ∷ []; is_doomed = false })
an_open_one_is = refl

pub words_of_a_manual_block_are_numbers : all_cells (Manual (5 ∷ 6 ∷ [])) ≡ NumberCell 5 ∷ NumberCell 6 ∷ []
words_of_a_manual_block_are_numbers = refl
