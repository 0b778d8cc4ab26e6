use Rattle.std.proofs.Common.{sym, ◌∙◌}
use Rattle.mps_blocks.proofs.Entries.{made_twice, made}
use Rattle.mps_blocks.proofs.replay.make.Goals as goal

pub returns-in-Ok-None : goal.returns-in-Ok-None
returns-in-Ok-None c =
    made c.args.live.now c.insert.new.self c.args.at c.args.extent (sym c.in-Ok-None.ensures.old ∙ c.in-Ok-None.field-0-is)
    c.in-Ok-None.ensures.changes

pub returns-in-Ok-Some : goal.returns-in-Ok-Some
returns-in-Ok-Some c =
    made_twice c.args.live.now c.args.at c.args.extent.words c.args.extent.pool c.in-Ok-Some.field-0-0
    (sym c.in-Ok-Some.ensures.old ∙ c.in-Ok-Some.field-0-is)
