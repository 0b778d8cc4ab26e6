use Rattle.std.proofs.Common.{arith}
use Rattle.mps_xform.proofs.replacements.unmark_all.Goals as goal

pub returns-clause-whole : goal.returns-clause-whole
returns-clause-whole c = search arith
