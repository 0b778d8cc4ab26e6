use Rattle.std.proofs.Common.{◌≡◌, ◌≤◌, ◌-◌}
use Rattle.mps_bits.specs.Table.{next_set_below}
use Rattle.mps_marks.proofs.grey_blocks.GreyBlocks.lowest_in.Given as goal

-- no block from the beginning up to here is grey
abbrev pub invariant-loop-at : goal.invariant-loop-at
invariant-loop-at l = record {
  above : l.from ≤ l.at;
  same : next_set_below l.self-inside.blocks l.at l.to ≡ next_set_below l.self-inside.blocks l.from l.to;
}

abbrev pub decreases-loop-at : goal.decreases-loop-at
decreases-loop-at l = l.to - l.at
