use Rattle.std.proofs.Common.{◌≡◌, ◌≤◌, ◌%◌, ◌-◌}
use Rattle.mps_base.specs.Address.{word_of, bytes_of_word}
use Rattle.mps_extents.specs.Extents.{AreWhole}
use Rattle.mps_amc.specs.Reclaiming.{IsSpan}
use Rattle.mps_amc.proofs.Padding.{ArePaddedBelow}
use Rattle.mps_amc.proofs.reclaiming.pad_around.Given as goal

-- the words passed so far are padded
abbrev pub invariant-loop-hole : goal.invariant-loop-hole
invariant-loop-hole g l =
    (l.from.0 % bytes_of_word ≡ 0)
    × (l.segs ≡ record l.initial.segs { words = l.segs.words })
    × IsSpan l.segs l.base.0 l.end.0
    × (word_of l.from.0 ≤ word_of l.end.0)
    × AreWhole (word_of l.from.0) (word_of l.end.0) l.segs.covered
    × ArePaddedBelow (g.F.Format.layout l.format) (word_of l.base.0) (word_of l.end.0) l.initial.segs.blocks l.initial.segs.words
    l.segs.words (word_of l.from.0)

abbrev pub decreases-loop-hole : goal.decreases-loop-hole
decreases-loop-hole g l = word_of l.end.0 - word_of l.from.0
