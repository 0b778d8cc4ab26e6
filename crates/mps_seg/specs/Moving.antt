-- A block that moves, or is kept where it lies: what the segments have of it then.
use Rattle.std.specs.Prelude.{◌≡◌, ℕ, if◌then◌else◌, [], ◌∷◌, Contains, refl}
use Rattle.mps_base.specs.Address.{Address, word_of}
use Rattle.mps_base.specs.Run.{Run, with_run, without_run}
use Rattle.mps_marks.specs.Marks.{without_marks}
use Rattle.mps_seg.specs.Segs.{SegsState, new_segments}
use Rattle.mps_seg.specs.Collecting.{is_kept_at, keeping, greying}

-- n words from an address on
abbrev pub run_at : Address → (words : ℕ) → Run
run_at at words = record { from = word_of at; count = words }

-- a block of n words is one of the segments
pub record IsBlockOf (s : SegsState) (at : Address) (size : ℕ) : Type 0 where
  pub there : Contains s.blocks (run_at at size)
  pub covered : Contains s.covered (run_at at size)

-- the segments after a block of n words has moved: where it lies now it is grey, and where it was it has no mark. Their words are
-- not in this
abbrev pub moved_to : SegsState → (from to : Address) → (size : ℕ) → SegsState
moved_to s from to size = greying (record s {
  covered = with_run (run_at to size) (without_run (word_of from) s.covered);
  blocks = with_run (run_at to size) (without_run (word_of from) s.blocks);
  marks = without_marks (word_of from) s.marks;
}) to

-- the segments after a block was kept where it lies: it is grey
abbrev pub kept_in_place : SegsState → Address → SegsState
kept_in_place s at = greying (keeping s at) at

-- the segments after a block was kept where it lies, unless it was kept already
abbrev pub nailed : SegsState → Address → SegsState
nailed s at = if is_kept_at s at then s else kept_in_place s at

-- ---- vectors

-- a grain with two blocks, the first of which moves after the second
abbrev held : SegsState
held = record (new_segments 1 1) {
  covered = run_at 0x1000 2 ∷ run_at 0x1010 3 ∷ [];
  blocks = run_at 0x1000 2 ∷ run_at 0x1010 3 ∷ [];
}

pub a_block_that_moved : (moved_to held 0x1000 0x1028 2).blocks ≡ run_at 0x1010 3 ∷ run_at 0x1028 2 ∷ []
a_block_that_moved = refl

pub its_old_words_are_free : (moved_to held 0x1000 0x1028 2).covered ≡ run_at 0x1010 3 ∷ run_at 0x1028 2 ∷ []
its_old_words_are_free = refl

pub a_block_that_is_kept_stays : (kept_in_place held 0x1000).blocks ≡ held.blocks
a_block_that_is_kept_stays = refl
