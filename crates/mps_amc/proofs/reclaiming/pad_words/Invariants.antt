use Rattle.std.proofs.Common.{ℕ, ◌≡◌, ◌%◌, ◌-◌, ◌<◌, ◌≤◌, ◌⊎◌, length}
use Rattle.std.specs.Prelude.{slice_index}
use Rattle.mps_base.specs.Address.{word_of, bytes_of_word}
use Rattle.mps_amc.specs.Reclaiming.{LiesInPad}
use Rattle.mps_amc.proofs.reclaiming.pad_words.Given as goal

-- the words passed so far lie in pads, and no other has changed
abbrev pub invariant-loop-to : goal.invariant-loop-to
invariant-loop-to g l =
    (l.at.0 % bytes_of_word ≡ 0)
    × (word_of l.fn.from.0 ≤ word_of l.at.0)
    × (l.segs ≡ record l.initial.segs { words = l.segs.words })
    × (length l.segs.words ≡ length l.initial.segs.words)
    × ((i : ℕ) → word_of l.fn.from.0 ≤ i → i < word_of l.at.0
    → LiesInPad (g.F.Format.layout l.fn.format) (word_of l.fn.from.0) (word_of l.to.0) l.segs.words i)
    × ((i : ℕ) → (i < word_of l.fn.from.0) ⊎ (word_of l.to.0 ≤ i) → slice_index l.segs.words i ≡ slice_index l.initial.segs.words i)

abbrev pub decreases-loop-to : goal.decreases-loop-to
decreases-loop-to g l = word_of l.to.0 - word_of l.at.0
