use Rattle.std.proofs.Common.{◌+◌, ◌-◌, ◌<◌, ◌≤◌}
use Rattle.mps_bits.specs.Row.{IsClear, HasNoRun}
use Rattle.mps_bits.proofs.words.lowest_clear_run.Given as goal

abbrev pub invariant-loop-at : goal.invariant-loop-at
invariant-loop-at l = record {
  from_on : l.from ≤ l.start;
  ordered : l.start ≤ l.at;
  short : l.at < l.start + l.count;
  clear : IsClear l.words l.start l.at;
  none : HasNoRun l.words l.from l.start l.count;
}

abbrev pub decreases-loop-at : goal.decreases-loop-at
decreases-loop-at l = l.to - l.at
