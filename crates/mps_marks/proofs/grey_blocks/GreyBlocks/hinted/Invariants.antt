use Rattle.std.proofs.Common.{◌≡◌, length}
use Rattle.std.specs.Vec.{vec_capacity}
use Rattle.mps_marks.proofs.grey_blocks.GreyBlocks.hinted.Given as goal

-- the hints alone change
abbrev pub invariant-loop-hint : goal.invariant-loop-hint
invariant-loop-hint l = record {
  blocks : l.self-inside.blocks ≡ l.initial.self-inside.blocks;
  grains : l.self-inside.grains ≡ l.initial.self-inside.grains;
  count : l.self-inside.count ≡ l.initial.self-inside.count;
  room : vec_capacity l.self-inside.hints ≡ vec_capacity l.initial.self-inside.hints;
}

abbrev pub decreases-loop-hint : goal.decreases-loop-hint
decreases-loop-hint l = length l.self-inside.hints.items
