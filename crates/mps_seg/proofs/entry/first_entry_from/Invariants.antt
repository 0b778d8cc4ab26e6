use Rattle.std.proofs.Common.{◌≡◌, drop}
use Rattle.mps_seg.specs.Table.{first_entry}
use Rattle.mps_seg.proofs.entry.first_entry_from.Given as goal

-- no segment begins from the start up to the grain
abbrev pub invariant-loop-grain : goal.invariant-loop-grain
invariant-loop-grain l = first_entry l.grain (drop l.grain l.table) ≡ first_entry l.start (drop l.start l.table)
