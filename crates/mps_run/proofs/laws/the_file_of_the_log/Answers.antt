use Rattle.mps_run.proofs.Following.{log_in_its_file}
use Rattle.mps_run.proofs.laws.the_file_of_the_log.Goals as goal

pub returns : goal.returns
returns c = λ takes_memory log script status old new r. log_in_its_file takes_memory log script status old new r
