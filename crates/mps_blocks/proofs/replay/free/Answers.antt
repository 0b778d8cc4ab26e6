use Rattle.std.proofs.Common.{sym}
use Rattle.mps_blocks.proofs.Entries.{freed, freed_none}
use Rattle.mps_blocks.proofs.replay.free.Goals as goal

pub returns-in-Some : goal.returns-in-Some
returns-in-Some c = freed c.args.live.now c.remove.new.self c.args.at _
    (sym c.in-Some.ensures.value) c.remove.ensures.changes

pub returns-in-None : goal.returns-in-None
returns-in-None c = freed_none c.args.live.now c.args.at (sym c.in-None.ensures.value)
