use Rattle.std.proofs.Common.{◌*◌}
use Rattle.mps_bits.specs.Row.{IsSet}
use Rattle.mps_bits.proofs.words.are_full.Given as goal

abbrev pub invariant-loop-at : goal.invariant-loop-at
invariant-loop-at l = IsSet l.words (64 * l.from) (64 * l.at)
