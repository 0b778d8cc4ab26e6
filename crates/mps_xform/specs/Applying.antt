-- What applying a transform makes of the references of a pool. `to` gives the new address of an old one.
use Rattle.std.specs.Prelude.{ℕ, zero, suc, ◌≡◌, ◌-◌, ◌<◌, ◌≤◌, ◌%◌, ◌==◌, Bool, false, ◌&&◌, Option, Some, None, List, [], ◌∷◌, if◌then◌else◌, length, slice_index, slice_set, Contains, IsTrue, refl}
use Rattle.std.specs.Option.{option_map_or}
use Rattle.mps_base.specs.Address.{Address, Word, word_of, address_of_word, bytes_of_word}
use Rattle.mps_base.specs.Run.{Run, IsAscending}
use Rattle.mps_base.specs.Segment.{Segment, segment_over, end_of_segment}
use Rattle.mps_base.specs.declared.names.Rank.TheVariants.{Exact}
use Rattle.mps_format.specs.Front.{front_layout}
use Rattle.mps_format.specs.Layout.{Layout}
use Rattle.mps_seg.specs.Collecting.{noting}
use Rattle.mps_seg.specs.Extents.{run_over, AreWhole}
use Rattle.mps_seg.specs.Segs.{SegsState, new_segments}
use Rattle.mps_xform.specs.State.{new_address, two_transforms as transforms}

-- a word lies in a segment of this pool
abbrev pub is_in_pool : SegsState → (pool : ℕ) → Word → Bool
is_in_pool s pool word = option_map_or (λ t. t.pool == pool) (segment_over s.segments (address_of_word word)) false

-- a word is a reference cell of the block over it, by the format of the block's head
abbrev pub is_reference_word : Layout → SegsState → Word → Bool
is_reference_word f s word =
    option_map_or (λ from. f.is_reference (slice_index s.words from) (word - from)) (run_over s.blocks word) false

-- The new address to which a word is to lead: it is a reference of a block of this pool, and leads to an old address.
abbrev pub replacement : Layout → (to : Address → Option Address) → SegsState → (pool : ℕ) → Word → Option Address
replacement f to s pool word =
    if is_in_pool s pool word && is_reference_word f s word then to (f.target (slice_index s.words word)) else None

-- A word after a transform was applied: it leads to the replacement of what it led to, once, and keeps its tag.
abbrev pub word_after_apply : Layout → (to : Address → Option Address) → SegsState → (pool : ℕ) → Word → ℕ
word_after_apply f to s pool word =
    option_map_or (λ at. f.retarget (slice_index s.words word) at) (replacement f to s pool word) (slice_index s.words word)

-- a word is written, if it has a replacement, and the summary of its segment has the zone of what it then leads to
abbrev pub after_replace : Layout → Word → (value : ℕ) → Option Address → SegsState → SegsState
after_replace f word value None s = s
after_replace f word value (Some at) s = noting (record s { words = slice_set s.words word (f.retarget value at) })
    (address_of_word word) at

-- the references below a word lead to their replacements, each judged by the state before all of them
abbrev pub after_apply_below : Layout → (to : Address → Option Address) → SegsState → (pool : ℕ) → Word → SegsState
after_apply_below f to s pool zero = s
after_apply_below f to s pool (suc word) =
    after_replace f word (slice_index s.words word) (replacement f to s pool word) (after_apply_below f to s pool word)

-- The segments after a transform was applied to a pool.
abbrev pub after_apply : Layout → (to : Address → Option Address) → SegsState → (pool : ℕ) → SegsState
after_apply f to s pool = after_apply_below f to s pool (length s.words)

-- segments in ascending order that don't overlap, from an address on; they begin and end with whole words
abbrev pub AreSegmentsApart : (low : Address) → List Segment → Type 0
AreSegmentsApart low [] = Unit {0}
AreSegmentsApart low (t ∷ ts) = (low ≤ t.base) × (t.base % bytes_of_word ≡ 0) × (0 < t.grains) × AreSegmentsApart (end_of_segment t) ts

-- a block of a pool, in a segment of that pool, has a head of the pool's format that says its size
abbrev pub AreOfFormat : Layout → SegsState → (pool : ℕ) → Type 0
AreOfFormat f s pool = (t : Segment) (r : Run) → Contains s.segments t → t.pool ≡ pool → Contains s.blocks r → word_of t.base ≤ r.from
    → r.from < word_of (end_of_segment t)
    → IsTrue (f.is_valid (slice_index s.words r.from)) × (f.size (slice_index s.words r.from) ≡ r.count)

-- A transform can be applied to a pool of this format: blocks and segments don't overlap, each block lies in one segment, and segments
-- and blocks lie in the arena.
pub record CanApply (f : Layout) (s : SegsState) (pool : ℕ) : Type 0 where
  pub blocks : IsAscending 0 (length s.words) s.blocks
  pub segments : AreSegmentsApart 0 s.segments
  pub in_arena : (t : Segment) → Contains s.segments t → word_of (end_of_segment t) ≤ length s.words
  pub whole : (t : Segment) → Contains s.segments t → AreWhole (word_of t.base) (word_of (end_of_segment t)) s.blocks
  pub heads : AreOfFormat f s pool

-- ---- vectors: a block of three words, whose first after the head is a reference to 8 with the tag 5

abbrev segment : Segment
segment = record { base = 0; grains = 1; pool = 1; generation = 0; rank = Exact }

abbrev one_block : SegsState
one_block = record (new_segments 0 0) {
  words = 0 ∷ 0x100000301 ∷ 13 ∷ 13 ∷ [];
  blocks = record { from = 1; count = 3 } ∷ [];
  segments = segment ∷ [];
}

pub a_reference_leads_to_the_new_address : (after_apply front_layout (new_address transforms 2) one_block 1).words
    ≡ 0 ∷ 0x100000301 ∷ 21 ∷ 13 ∷ []
a_reference_leads_to_the_new_address = refl

pub not_to_that_of_its_new_one : word_after_apply front_layout (new_address transforms 2) one_block 1 2 ≡ 21
not_to_that_of_its_new_one = refl

pub a_number_stays : word_after_apply front_layout (new_address transforms 2) one_block 1 3 ≡ 13
a_number_stays = refl

pub the_zone_is_noted : (after_apply front_layout (new_address transforms 2) one_block 1).summaries ≡ 1 ∷ []
the_zone_is_noted = refl

pub another_pool_stays : after_apply front_layout (new_address transforms 2) one_block 0 ≡ one_block
another_pool_stays = refl
