use Rattle.mps_session.proofs.Answering.{answered_dump, refused_dump}
use Rattle.mps_session.proofs.arena.dump.Goals as goal

pub returns-in-Ok : goal.returns-in-Ok
returns-in-Ok c = answered_dump c.args.heap.now c.args.at c.dump.result c.in-Ok.words c.in-Ok.is c.dump.ensures.right

pub returns-in-Err : goal.returns-in-Err
returns-in-Err c = refused_dump c.args.heap.now c.args.at c.dump.result c.in-Err.why c.in-Err.is c.dump.ensures.right
