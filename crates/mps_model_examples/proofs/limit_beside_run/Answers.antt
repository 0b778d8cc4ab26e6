use Rattle.mps_model_examples.proofs.WrongAnswers as history
use Rattle.mps_model_examples.proofs.limit_beside_run.Goals as goal

pub returns : goal.returns
returns c = history.limit_beside_run
