use Rattle.std.proofs.Common.{ℕ, ◌≡◌, ◌+◌, ◌-◌, ◌≤◌, length}
use Rattle.mps_base.specs.Address.{word_of}
use Rattle.mps_seg.specs.Segs.{SegsState}
use Rattle.mps_xform.specs.Applying.{after_apply_below}
use Rattle.mps_xform.specs.Passing.{IsBlockOf, new_in}
use Rattle.mps_xform.proofs.applying.apply_to_block.Given as goal

-- the references before this cell lead to their replacements
abbrev pub invariant-loop-cell : goal.invariant-loop-cell
invariant-loop-cell g l =
    (length l.segs.words ≡ length l.initial.segs.words)
    × (l.from ≤ (g.F.Format.layout l.format).size l.head)
    × ((s : SegsState) (pool : ℕ)
    → l.initial.segs ≡ after_apply_below (g.F.Format.layout l.format) (new_in l.replacements) s pool (word_of l.at.0)
    → IsBlockOf (g.F.Format.layout l.format) s pool (word_of l.at.0) l.head
    → l.segs ≡ after_apply_below (g.F.Format.layout l.format) (new_in l.replacements) s pool (word_of l.at.0 + l.from))

abbrev pub decreases-loop-cell : goal.decreases-loop-cell
decreases-loop-cell g l = (g.F.Format.layout l.format).size l.head - l.from
