use Rattle.std.proofs.Common.{sym, ap}
use Rattle.std.specs.Prelude.{is_some}
use Rattle.mps_blocks.proofs.Entries.{touched, touched_none}
use Rattle.mps_blocks.proofs.replay.touch.Goals as goal

pub returns-in-Some : goal.returns-in-Some
returns-in-Some c = touched c.args.live.now c.args.at (ap is_some (sym c.in-Some.ensures))

pub returns-in-None : goal.returns-in-None
returns-in-None c = touched_none c.args.live.now c.args.at (ap is_some (sym c.in-None.ensures))
