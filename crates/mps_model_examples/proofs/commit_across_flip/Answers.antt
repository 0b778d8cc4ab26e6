use Rattle.mps_model_examples.proofs.WrongAnswers as history
use Rattle.mps_model_examples.proofs.commit_across_flip.Goals as goal

pub returns : goal.returns
returns c = history.commit_across_flip
