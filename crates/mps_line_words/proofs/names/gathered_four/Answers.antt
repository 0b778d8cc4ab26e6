use Rattle.std.proofs.Common.{arith}
use Rattle.mps_line_words.proofs.NameBytes.{four_at}
use Rattle.mps_line_words.proofs.names.gathered_four.Goals as goal

pub returns : goal.returns
returns c =
    omega (
      arith,
      four_at c.args.bytes.now c.args.at c.requires,
      c.from.ensures,
      c.from-2.ensures,
      c.from-3.ensures,
      c.from-4.ensures,
    )
