use Rattle.std.proofs.Common.{◌-◌, ◌<◌, ◌≤◌}
use Rattle.mps_bits.proofs.OneWord.{AreRunStarts}
use Rattle.mps_bits.proofs.word.run_starts.Given as goal

abbrev pub invariant-loop-length : goal.invariant-loop-length
invariant-loop-length l = (0 < l.length) × (l.length ≤ l.count) × AreRunStarts l.word l.starts l.length

abbrev pub decreases-loop-length : goal.decreases-loop-length
decreases-loop-length l = l.count - l.length
