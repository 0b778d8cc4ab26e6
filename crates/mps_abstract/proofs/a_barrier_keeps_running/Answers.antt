use Rattle.mps_abstract.proofs.Barrier.{barrier_is_done}
use Rattle.mps_abstract.proofs.a_barrier_keeps_running.Goals as goal

pub returns : goal.returns
returns c = barrier_is_done
