use Rattle.std.proofs.Common.{◌≡◌, ◌≤◌, ◌<◌, ◌*◌, ◌-◌, ℕ, false, length}
use Rattle.std.specs.Vec.{vec_capacity}
use Rattle.mps_base.specs.Address.{words_of_grain}
use Rattle.mps_bits.specs.Table.{bit}
use Rattle.mps_marks.specs.Inside.{IsTallied}
use Rattle.mps_marks.proofs.grey_blocks.GreyBlocks.lowest_from.Given as goal

-- the bits of grains alone change; no block of a grain that was passed is grey
abbrev pub invariant-loop-grain : goal.invariant-loop-grain
invariant-loop-grain l = record {
  blocks : l.self-inside.blocks ≡ l.initial.self-inside.blocks;
  count : l.self-inside.count ≡ l.initial.self-inside.count;
  tally : IsTallied l.self-inside.blocks l.self-inside.grains l.self-inside.count;
  size : length l.self-inside.grains ≡ length l.initial.self-inside.grains;
  room : 1024 ≤ vec_capacity l.self-inside.hints;
  above : l.fn.first ≤ l.from;
  passed : (word : ℕ) → words_of_grain * l.fn.first ≤ word → word < words_of_grain * l.from → bit l.self-inside.blocks word ≡ false;
}

abbrev pub decreases-loop-grain : goal.decreases-loop-grain
decreases-loop-grain l = l.end - l.from
