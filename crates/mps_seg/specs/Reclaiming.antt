-- What a collection leaves of the blocks of a segment, whatever the policy of its pool.
use Rattle.std.specs.Prelude.{◌≡◌, ℕ, zero, suc, ◌+◌, ◌*◌, ◌%◌, ◌<◌, ◌≤◌, ◌⊎◌, Bool, true, false, not, Some, List, [], ◌∷◌, length, filter, slice_index, refl}
use Rattle.std.proofs.Common.{inl, arith}
use Rattle.mps_base.specs.Address.{Address, Word, word_of, words_of_grain, bytes_of_word}
use Rattle.mps_base.specs.Run.{Run, IsAscending, without_run, runs_within}
use Rattle.mps_base.specs.Segment.{Segment, segment_over, end_of_segment, without_segment}
use Rattle.mps_base.specs.Trail.{Moves, with_move}
use Rattle.mps_base.specs.declared.address.Addr.{Addr}
use Rattle.mps_base.specs.declared.moves.Move.TheVariants.{Free, Unseg}
use Rattle.mps_base.specs.declared.names.Rank.TheVariants.{Exact}
use Rattle.mps_bits.specs.Table.{bit}
use Rattle.mps_extents.specs.Extents.{is_covered}
use Rattle.mps_marks.specs.Marks.{without_marks}
use Rattle.mps_seg.specs.declared.segs.freeing.Hole.{Hole}
use Rattle.mps_seg.specs.Segs.{SegsState, new_segments, IsEmptyAt, IsUsed, at_word}
use Rattle.mps_seg.specs.Collecting.{keeping}

-- whether the block at a run isn't kept
abbrev pub is_lost : SegsState → Run → Bool
is_lost s r = not (bit s.marks.kept r.from)

-- the blocks that begin between two words and aren't kept, in ascending order
abbrev pub lost_between : (low high : Word) → SegsState → List Run
lost_between low high s = filter (is_lost s) (runs_within low high s.blocks)

-- the segments without the block that begins at a word, and without its marks
abbrev pub without_block : Run → SegsState → SegsState
without_block r s = record s {
  covered = without_run r.from s.covered;
  blocks = without_run r.from s.blocks;
  marks = without_marks r.from s.marks;
}

-- the segments without these blocks
abbrev pub without_blocks : List Run → SegsState → SegsState
without_blocks [] s = s
without_blocks (r ∷ rs) s = without_blocks rs (without_block r s)

-- a Free for each of these blocks
abbrev pub moves_freed : List Run → Moves → Moves
moves_freed [] moves = moves
moves_freed (r ∷ rs) moves = moves_freed rs (with_move moves (Free (at_word r.from)))

-- the words from one address to another are those of a segment of the arena, and the blocks are in order
pub record IsSpan (s : SegsState) (base end : Address) : Type 0 where
  pub segment : Segment
  pub over : segment_over s.segments base ≡ Some segment
  pub begins : segment.base ≡ base
  pub ends : word_of (end_of_segment segment) ≡ word_of end
  pub inside : word_of end ≤ words_of_grain * (s.grains + 1)
  pub ordered : IsAscending 0 (words_of_grain * (s.grains + 1)) s.blocks

-- the lowest hole between two words: words that none of the runs has, up to the next run or the second word
pub record IsNextHole (low high : Word) (runs : List Run) (hole : Hole) : Type 0 where
  pub above : low ≤ word_of hole.from.0
  pub nonempty : word_of hole.from.0 < word_of hole.to.0
  pub below : word_of hole.to.0 ≤ high
  pub aligned : (hole.from.0 % bytes_of_word ≡ 0) × (hole.to.0 % bytes_of_word ≡ 0)
  pub before : (word : Word) → low ≤ word → word < word_of hole.from.0 → is_covered runs word ≡ true
  pub inside : (word : Word) → word_of hole.from.0 ≤ word → word < word_of hole.to.0 → is_covered runs word ≡ false

-- a segment of the arena begins at an address, the blocks are in order, and there is room for a move for each block of it that isn't
-- kept, and one move more
pub record CanReclaim (s : SegsState) (base : Address) (spare : ℕ) : Type 0 where
  pub segment : Segment
  pub over : segment_over s.segments base ≡ Some segment
  pub begins : segment.base ≡ base
  pub inside : word_of (end_of_segment segment) ≤ words_of_grain * (s.grains + 1)
  pub ordered : IsAscending 0 (words_of_grain * (s.grains + 1)) s.blocks
  pub room : length (lost_between (word_of base) (word_of (end_of_segment segment)) s) < spare

-- the segments once the blocks of a segment that aren't kept are freed, and the moves then
abbrev pub lost_of : SegsState → Segment → List Run
lost_of s t = lost_between (word_of t.base) (word_of (end_of_segment t)) s

abbrev pub freed_in : SegsState → Segment → SegsState
freed_in s t = without_blocks (lost_of s t) s

abbrev pub moves_freed_in : SegsState → Segment → Moves → Moves
moves_freed_in s t moves = moves_freed (lost_of s t) moves

-- the words of the blocks of a segment and those outside it are as they were
pub record AreBlocksUnwritten (low high : Word) (blocks : List Run) (words words' : List ℕ) : Type 0 where
  pub long : length words' ≡ length words
  pub inside : (i : Word) → is_covered blocks i ≡ true → slice_index words' i ≡ slice_index words i
  pub outside : (i : Word) → (i < low) ⊎ (high ≤ i) → slice_index words' i ≡ slice_index words i

-- what becomes of the segment at an address, whatever the policy of its pool
pub data IsSwept (s : SegsState) (moves : Moves) (base : Addr) : SegsState → Moves → Type 0 where
  -- nothing is left in it: it is given back
  is_given : {s' : SegsState} {moves' : Moves} (t : Segment) → segment_over s.segments base.0 ≡ Some t
      → IsEmptyAt (freed_in s t) base.0 t
      → s' ≡ record (freed_in s t) { segments = without_segment s.segments base.0 }
      → moves' ≡ with_move (moves_freed_in s t moves) (Unseg base)
      → IsSwept s moves base s' moves'
  -- something is left: no word of a block has changed
  is_used : {s' : SegsState} {moves' : Moves} (t : Segment) → segment_over s.segments base.0 ≡ Some t
      → IsUsed (freed_in s t) t
      → s' ≡ record (freed_in s t) { words = s'.words }
      → AreBlocksUnwritten (word_of base.0) (word_of (end_of_segment t))
      (runs_within (word_of base.0) (word_of (end_of_segment t)) (freed_in s t).blocks) s.words s'.words
      → moves' ≡ moves_freed_in s t moves
      → IsSwept s moves base s' moves'

-- ---- vectors: a segment with two blocks, the second of which is kept

abbrev base_segment : Segment
base_segment = record { base = 0x1000; grains = 1; pool = 0; generation = 0; rank = Exact }

abbrev lost_block : Run
lost_block = record { from = 512; count = 2 }

abbrev kept_block : Run
kept_block = record { from = 514; count = 3 }

abbrev held : SegsState
held = keeping (record (new_segments 1 1) {
  segments = base_segment ∷ [];
  covered = lost_block ∷ kept_block ∷ [];
  blocks = lost_block ∷ kept_block ∷ [];
}) 0x1010

pub a_block_that_is_not_kept_is_lost : lost_of held base_segment ≡ lost_block ∷ []
unfolding bit
a_block_that_is_not_kept_is_lost = refl

pub a_kept_block_is_left : (freed_in held base_segment).blocks ≡ kept_block ∷ []
unfolding bit
a_kept_block_is_left = refl

pub a_free_for_each_lost_block : (moves_freed_in held base_segment (record { moves = []; spare = 2 })).moves
    ≡ Free (record { 0 = 0x1000 }) ∷ []
unfolding bit
a_free_for_each_lost_block = refl

-- a word of a block that is left was written
pub a_block_that_is_written : AreBlocksUnwritten 512 1024 (record { from = 0; count = 2 } ∷ []) (7 ∷ 8 ∷ []) (7 ∷ 9 ∷ []) → ⊥
a_block_that_is_written w = let e : 9 ≡ 8 = w.inside 1 refl in omega (arith, e)

-- a word outside the segment was written
pub a_word_of_another_segment : AreBlocksUnwritten 1 2 [] (7 ∷ 8 ∷ []) (5 ∷ 8 ∷ []) → ⊥
a_word_of_another_segment w = let e : 5 ≡ 7 = w.outside 0 (inl (omega arith)) in omega (arith, e)

-- ---- vectors: two words before a block of three

abbrev block_after : List Run
block_after = record { from = 2; count = 3 } ∷ []

two_words : (word : Word) → 0 ≤ word → word < 2 → is_covered block_after word ≡ false
two_words zero above below = refl
two_words (suc zero) above below = refl
two_words (suc (suc word)) above below = absurd (omega (arith, below))

pub a_hole_before_a_block : IsNextHole 0 8 block_after (record { from = record { 0 = 0 }; to = record { 0 = 0x10 } })
a_hole_before_a_block = record {
  above = omega arith;
  nonempty = omega arith;
  below = omega arith;
  aligned = (refl, refl);
  before = λ word above below. absurd (omega (arith, below));
  inside = two_words;
}

-- it ends in the block
pub a_hole_into_a_block : IsNextHole 0 8 block_after (record { from = record { 0 = 0 }; to = record { 0 = 0x18 } }) → ⊥
a_hole_into_a_block hole = let never : true ≡ false = hole.inside 2 (omega arith) (omega arith) in cc

-- words before it have no block either
pub a_hole_that_begins_late : IsNextHole 0 8 block_after (record { from = record { 0 = 8 }; to = record { 0 = 0x10 } }) → ⊥
a_hole_that_begins_late hole = let never : false ≡ true = hole.before 0 (omega arith) (omega arith) in cc
