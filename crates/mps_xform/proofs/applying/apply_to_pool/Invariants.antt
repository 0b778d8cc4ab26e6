use Rattle.std.proofs.Common.{◌+◌, ◌*◌, ◌-◌, length}
use Rattle.mps_xform.specs.Passing.{new_in}
use Rattle.mps_xform.proofs.Passed.{IsPassed}
use Rattle.mps_xform.proofs.applying.apply_to_pool.Given as goal

-- the segments passed so far are done
abbrev pub invariant-loop-base : goal.invariant-loop-base
invariant-loop-base g l =
    IsPassed (g.F.Format.layout l.format) (new_in l.replacements) l.pool l.initial.segs l.segs l.from.0

abbrev pub decreases-loop-base : goal.decreases-loop-base
decreases-loop-base g l = 8 * length l.initial.segs.words + 8 - l.from.0
