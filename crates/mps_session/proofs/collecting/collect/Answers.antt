use Rattle.std.proofs.Common.{refl}
use Rattle.mps_session.specs.Told.{ok_tells_ok}
use Rattle.mps_session.proofs.Answering.{answered_moving}
use Rattle.mps_session.proofs.collecting.collect.Goals as goal

pub returns-clause-right : goal.returns-clause-right
returns-clause-right c = answered_moving refl c.requires.empty ok_tells_ok c.collect.ensures.right
