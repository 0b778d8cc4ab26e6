-- What the calls of manual pools do to the segments.
use Rattle.std.specs.Prelude.{ℕ, ◌≡◌, ◌==◌, ◌&&◌, ◌||◌, nat_le, Bool, true, false, if◌then◌else◌, Option, Some, None, Result, Err, List, [], ◌∷◌, refl}
use Rattle.mps_base.specs.Address.{Address, word_of, max_block_words}
use Rattle.mps_base.specs.Run.{Run, with_run, without_run, runs_within}
use Rattle.mps_base.specs.Segment.{Segment, end_of_segment, segment_over, without_segment}
use Rattle.mps_base.specs.Trail.{Moves, with_move}
use Rattle.mps_base.specs.declared.address.Addr.{Addr}
use Rattle.mps_base.specs.declared.moves.Move.TheVariants.{Alloc, Free, Unseg}
use Rattle.mps_base.specs.declared.names.Rank.TheVariants.{Exact}
use Rattle.mps_base.specs.declared.refusal.Refusal.{Refusal}
use Rattle.mps_base.specs.declared.refusal.Refusal.TheVariants.{BadSize}
use Rattle.mps_seg.specs.Arena.{answer_of_placement, cleared_words}
use Rattle.mps_seg.specs.Segs.{SegsState, segments_after, noted_for, moves_after}
use Rattle.mps_seg.specs.Marks.{without_marks}
use Rattle.mps_seg.specs.Placing.{placement_in_gaps}

-- in place of a size: blocks of any sizes
abbrev pub any_size : ℕ
any_size = 0

-- whether a pool whose blocks have this size has blocks of n words
abbrev pub has_blocks_of : (size words : ℕ) → Bool
has_blocks_of size words = nat_le 1 words && nat_le words max_block_words && (size == any_size || words == size)

-- ---- alloc

abbrev pub answer_of_alloc : (size : ℕ) → SegsState → (pool words : ℕ) → Result Addr Refusal
answer_of_alloc size s pool words =
    if has_blocks_of size words then answer_of_placement (placement_in_gaps s pool Exact words) else Err BadSize

-- the segments with a block at an address, which the placement gave; its words are 0
abbrev pub segs_after_alloc : SegsState → (pool words : ℕ) → Addr → SegsState
segs_after_alloc s pool words at = record s {
  segments = segments_after (placement_in_gaps s pool Exact words) pool 0 Exact s.segments;
  condemned = noted_for (placement_in_gaps s pool Exact words) false s.condemned;
  summaries = noted_for (placement_in_gaps s pool Exact words) 0 s.summaries;
  covered = with_run (record { from = word_of at.0; count = words }) s.covered;
  blocks = with_run (record { from = word_of at.0; count = words }) s.blocks;
  words = cleared_words s.words (word_of at.0) words;
}

-- a new segment, if the placement is one, and then the block
abbrev pub moves_allocated : SegsState → Moves → (pool words : ℕ) → Addr → Moves
moves_allocated s moves pool words at = with_move (moves_after (placement_in_gaps s pool Exact words) pool 0 moves) (Alloc at words pool)

-- ---- free

abbrev pub block_removed : SegsState → Address → SegsState
block_removed s at = record s {
  covered = without_run (word_of at) s.covered;
  blocks = without_run (word_of at) s.blocks;
  marks = without_marks (word_of at) s.marks;
}

abbrev pub is_none : List Run → Bool
is_none [] = true
is_none (r ∷ rs) = false

-- whether no block and no reservation lies in a segment
abbrev pub is_unused : (covered : List Run) → Segment → Bool
is_unused covered s = is_none (runs_within (word_of s.base) (word_of (end_of_segment s)) covered)

-- a segment is given back if nothing is left in it
abbrev pub given_back : SegsState → Option Segment → SegsState
given_back s None = s
given_back s (Some t) = if is_unused s.covered t then record s { segments = without_segment s.segments t.base } else s

abbrev pub moves_given_back : (covered : List Run) → Option Segment → Moves → Moves
moves_given_back covered None moves = moves
moves_given_back covered (Some t) moves =
    if is_unused covered t then with_move moves (Unseg (record { 0 = t.base })) else moves

-- a block is freed; a segment of a pool of any sizes is given back if nothing is left in it
abbrev pub segs_after_free : (size : ℕ) → SegsState → Address → SegsState
segs_after_free size s at =
    if size == any_size then given_back (block_removed s at) (segment_over s.segments at)
    else block_removed s at

abbrev pub moves_freed : (size : ℕ) → SegsState → Moves → Addr → Moves
moves_freed size s moves at =
    if size == any_size
    then moves_given_back (block_removed s at.0).covered (segment_over s.segments at.0) (with_move moves (Free at))
    else with_move moves (Free at)

pub another_size_is_refused : has_blocks_of 4 5 ≡ false
another_size_is_refused = refl

pub any_size_is_allowed : has_blocks_of any_size 5 ≡ true
any_size_is_allowed = refl

pub no_words_are_refused : has_blocks_of any_size 0 ≡ false
no_words_are_refused = refl
