use Rattle.std.proofs.Common.{◌-◌, ◌≤◌, length, take}
use Rattle.mps_gathering.proofs.Prefixes.{IsLogging}
use Rattle.mps_gathering.proofs.prefix.log_prefix.Given as goal

abbrev pub invariant-loop-at : goal.invariant-loop-at
invariant-loop-at g l = (l.at ≤ length l.bytes) × IsLogging (g.D.Desk.outside l.initial.desk) (g.D.Desk.outside l.desk) (take l.at l.bytes)

abbrev pub decreases-loop-at : goal.decreases-loop-at
decreases-loop-at g l = length l.bytes - l.at
