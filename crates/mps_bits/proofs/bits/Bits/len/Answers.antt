use Rattle.std.proofs.Common.{sym}
use Rattle.mps_bits.proofs.Tables.{length_of_table}
use Rattle.mps_bits.proofs.bits.Bits.len.Goals as goal

pub returns : goal.returns
returns c = sym (length_of_table c.self.inside.words.items c.self.inside.len c.args.self.now c.self.view_is)
