use Rattle.mps_run.proofs.Following.{runs_whole}
use Rattle.mps_run.proofs.laws.a_whole_run_leaves_one_history.Goals as goal

pub returns : goal.returns
returns c = λ takes_memory log script status old new r. runs_whole takes_memory log script status old new r
