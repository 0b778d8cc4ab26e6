use Rattle.std.proofs.Common.{◌-◌}
use Rattle.mps_base.specs.Address.{word_of}
use Rattle.mps_xform.specs.Passing.{new_in}
use Rattle.mps_xform.proofs.Segments.{IsWalked}
use Rattle.mps_xform.proofs.applying.apply_to_segment.Given as goal

-- the blocks passed so far are done
abbrev pub invariant-loop-at : goal.invariant-loop-at
invariant-loop-at g l =
    IsWalked (g.F.Format.layout l.format) (new_in l.replacements) l.initial.segs l.segs l.base.0 l.fn.end.0 l.from.0

abbrev pub decreases-loop-at : goal.decreases-loop-at
decreases-loop-at g l = word_of l.fn.end.0 - word_of l.from.0
