-- What the copying pools leave of a segment that is reclaimed. Which blocks are freed is defined with the segments.
use Rattle.std.specs.Prelude.{◌≡◌, ℕ, zero, suc, ◌+◌, ◌<◌, ◌≤◌, ◌⊎◌, true, false, Some, List, [], ◌∷◌, length, slice_index, refl}
use Rattle.std.proofs.Common.{arith}
use Rattle.mps_base.specs.Address.{Word, word_of}
use Rattle.mps_base.specs.Run.{Run, runs_within}
use Rattle.mps_base.specs.Segment.{Segment, segment_over, end_of_segment, without_segment}
use Rattle.mps_base.specs.Trail.{Moves, with_move}
use Rattle.mps_base.specs.declared.address.Addr.{Addr}
use Rattle.mps_base.specs.declared.moves.Move.TheVariants.{Unseg}
use Rattle.mps_extents.specs.Extents.{is_covered}
use Rattle.mps_format.specs.Layout.{Layout, IsPadLength}
use Rattle.mps_format.specs.Front.{front_layout}
use Rattle.mps_seg.specs.Segs.{SegsState, IsEmptyAt, IsUsed}
pub use Rattle.mps_seg.specs.Reclaiming.{is_lost, lost_between, lost_of, without_block, without_blocks}
pub use Rattle.mps_seg.specs.Reclaiming.{moves_freed, moves_freed_in, freed_in, IsSpan, CanReclaim}

-- a word lies in a pad, which lies between two words
pub record LiesInPad (f : Layout) (low high : Word) (words : List ℕ) (i : Word) : Type 0 where
  pub at : Word
  pub count : ℕ
  pub in_range : IsPadLength count
  pub above : low ≤ at
  pub below : at + count ≤ high
  pub begins : at ≤ i
  pub ends : i < at + count
  pub whole : at + count ≤ length words
  pub head : slice_index words at ≡ f.pad_head count

-- a word lies in a pad, no word of which is in one of the runs
pub record LiesInOpenPad (f : Layout) (low : Word) (runs : List Run) (words : List ℕ) (i : Word) : Type 0 where
  pub high : Word
  pub pad : LiesInPad f low high words i
  pub open_words : (k : ℕ) → k < pad.count → is_covered runs (pad.at + k) ≡ false

-- between two words each word that is in none of the runs lies in a pad of such words, and no other word has changed
pub record ArePadded (f : Layout) (low high : Word) (runs : List Run) (words words' : List ℕ) : Type 0 where
  pub long : length words' ≡ length words
  pub pads : (i : Word) → low ≤ i → i < high → is_covered runs i ≡ false → LiesInOpenPad f low runs words' i
  pub inside : (i : Word) → is_covered runs i ≡ true → slice_index words' i ≡ slice_index words i
  pub outside : (i : Word) → (i < low) ⊎ (high ≤ i) → slice_index words' i ≡ slice_index words i

-- what becomes of the segment at an address
pub data IsReclaimed (f : Layout) (s : SegsState) (moves : Moves) (base : Addr) : SegsState → Moves → Type 0 where
  -- nothing is left in it: it is given back
  is_given : {s' : SegsState} {moves' : Moves} (t : Segment) → segment_over s.segments base.0 ≡ Some t
      → IsEmptyAt (freed_in s t) base.0 t
      → s' ≡ record (freed_in s t) { segments = without_segment s.segments base.0 }
      → moves' ≡ with_move (moves_freed_in s t moves) (Unseg base)
      → IsReclaimed f s moves base s' moves'
  -- something is left: the words around its blocks are pads
  is_padded : {s' : SegsState} {moves' : Moves} (t : Segment) → segment_over s.segments base.0 ≡ Some t
      → IsUsed (freed_in s t) t
      → s' ≡ record (freed_in s t) { words = s'.words }
      → ArePadded f (word_of base.0) (word_of (end_of_segment t))
      (runs_within (word_of base.0) (word_of (end_of_segment t)) (freed_in s t).blocks) s.words s'.words
      → moves' ≡ moves_freed_in s t moves
      → IsReclaimed f s moves base s' moves'

-- ---- vectors

-- five words, of which the first two are a pad and the others a block
abbrev five_words : List ℕ
five_words = 0x205 ∷ 9 ∷ 0x301 ∷ 7 ∷ 0 ∷ []

abbrev one_block : List Run
one_block = record { from = 2; count = 3 } ∷ []

no_block_there : (k : ℕ) → k < 2 → is_covered one_block (0 + k) ≡ false
no_block_there zero few = refl
no_block_there (suc zero) few = refl
no_block_there (suc (suc k)) few = absurd (omega (arith, few))

pub a_word_of_a_pad : LiesInOpenPad front_layout 0 one_block five_words 1
a_word_of_a_pad = record {
  high = 2;
  pad = record {
    at = 0;
    count = 2;
    in_range = (omega arith, omega arith);
    above = omega arith;
    below = omega arith;
    begins = omega arith;
    ends = omega arith;
    whole = let e : 2 ≤ 5 = omega arith in e;
    head = refl;
  };
  open_words = no_block_there;
}

-- a word of a block was written
pub a_block_that_is_padded : ArePadded front_layout 0 5 one_block five_words (0x205 ∷ 9 ∷ 0x305 ∷ 7 ∷ 0 ∷ []) → ⊥
a_block_that_is_padded p = let e : 0x305 ≡ 0x301 = p.inside 2 refl in omega (arith, e)
