use Rattle.std.proofs.Common.{arith}
use Rattle.mps_line_words.proofs.NameTable.{name_byte_there}
use Rattle.mps_line_words.proofs.names.is_name_byte.Goals as goal

pub returns-then-byte-ge48 : goal.returns-then-byte-ge48
returns-then-byte-ge48 c = name_byte_there c.args.byte (omega arith)
