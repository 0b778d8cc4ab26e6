use Rattle.mps_run.proofs.OneOutput.{one_history}
use Rattle.mps_run.proofs.laws.a_run_is_its_output.Goals as goal

pub returns : goal.returns
returns c = λ ran these those runs runs' printed logged. one_history ran these those runs runs' printed logged
