use Rattle.std.proofs.Common.{◌∙◌, ◌==◌, ap, length}
use Rattle.std.specs.Option.{unwrap_or}
use Rattle.mps_base.proofs.Positions.{position_or_length}
use Rattle.mps_base.proofs.bytes.length_before.Goals as goal

pub returns-clause-length : goal.returns-clause-length
returns-clause-length c = c.unwrap_or.ensures ∙ ap (λ o. unwrap_or o (length c.args.bytes.now)) c.find_byte.ensures.index
    ∙ position_or_length (λ other. other == c.args.byte) c.args.bytes.now
