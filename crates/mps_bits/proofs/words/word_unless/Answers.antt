use Rattle.std.proofs.Common.{arith}
use Rattle.mps_bits.proofs.Clearing.{unless_bit}
use Rattle.mps_bits.proofs.words.word_unless.Goals as goal

pub returns : goal.returns
returns c = λ i within. unless_bit c.args.words.now c.args.others.now c.args.at i within (omega (arith, c.type_inv.others c.args.at))
