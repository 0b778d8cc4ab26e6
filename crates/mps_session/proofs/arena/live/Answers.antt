use Rattle.std.proofs.Common.{refl}
use Rattle.mps_session.proofs.Answering.{answered}
use Rattle.mps_session.proofs.arena.live.Goals as goal

pub returns : goal.returns
returns c = answered refl (record { told = λ arena. refl }) c.live-blocks.ensures.right
