use Rattle.mps_run.proofs.Following.{answers_whole}
use Rattle.mps_run.proofs.laws.answers_are_whole.Goals as goal

pub returns : goal.returns
returns c = λ takes_memory log script status old new r. answers_whole takes_memory log script status old new r
