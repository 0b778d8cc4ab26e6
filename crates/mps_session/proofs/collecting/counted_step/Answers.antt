use Rattle.std.proofs.Common.{refl}
use Rattle.mps_session.proofs.Answering.{answered_moving}
use Rattle.mps_session.proofs.collecting.counted_step.Goals as goal

pub returns-clause-right : goal.returns-clause-right
returns-clause-right g c = answered_moving refl c.requires.empty c.progress.ensures c.step.ensures.right
