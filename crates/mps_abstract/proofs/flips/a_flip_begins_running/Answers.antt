use Rattle.mps_abstract.proofs.FlipActs.FlipBegins.{a_flip_begins_running as shown}
use Rattle.mps_abstract.proofs.flips.a_flip_begins_running.Goals as goal

pub returns : goal.returns
returns c = shown
