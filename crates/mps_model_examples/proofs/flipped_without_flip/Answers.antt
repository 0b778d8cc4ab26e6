use Rattle.mps_model_examples.proofs.WrongAnswers as history
use Rattle.mps_model_examples.proofs.flipped_without_flip.Goals as goal

pub returns : goal.returns
returns c = history.flipped_without_flip
