-- After the second number the buffer is unchanged.
use Rattle.std.proofs.Common.{◌∙◌}
use Rattle.mps_format.proofs.Buffers.{same_from_later}
use Rattle.mps_format.proofs.put.put_pair.Goals as goal

pub returns-clause-unchanged : goal.returns-clause-unchanged
returns-clause-unchanged c = c.put_second.ensures.unchanged
    ∙ same_from_later c.put_single-at.new.out c.args.out.now c.put_single-at.result c.put_second.result c.put_second.ensures.at_least
    c.put_single-at.ensures.unchanged
