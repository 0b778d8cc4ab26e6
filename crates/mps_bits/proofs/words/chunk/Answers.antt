use Rattle.std.proofs.Common.{◌∙◌, sym, arith}
use Rattle.mps_bits.proofs.Row.{bit_in_word}
use Rattle.mps_bits.proofs.words.chunk.Goals as goal

pub returns-clause-inside : goal.returns-clause-inside
returns-clause-inside c =
    λ i within. c.bits_from.ensures.inside i within ∙ sym (bit_in_word c.args.words.now c.args.at i (omega (arith, c.requires.in_word)))
