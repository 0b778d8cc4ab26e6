use Rattle.mps_model_examples.proofs.WrongAnswers as history
use Rattle.mps_model_examples.proofs.stale_without_flip.Goals as goal

pub returns : goal.returns
returns c = history.stale_without_flip
