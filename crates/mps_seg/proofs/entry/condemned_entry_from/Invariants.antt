use Rattle.std.proofs.Common.{◌-◌, ◌≤◌, length}
use Rattle.mps_seg.specs.Table.{NoneCondemnedFirst}
use Rattle.mps_seg.proofs.entry.condemned_entry_from.Given as goal

-- no condemned segment begins from the start up to the grain
abbrev pub invariant-loop-grain : goal.invariant-loop-grain
invariant-loop-grain l = (l.start ≤ l.from) × NoneCondemnedFirst l.table l.condemned l.start l.from

abbrev pub decreases-loop-grain : goal.decreases-loop-grain
decreases-loop-grain l = length l.table - l.from
