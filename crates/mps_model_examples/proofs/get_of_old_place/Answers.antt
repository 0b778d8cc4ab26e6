use Rattle.mps_model_examples.proofs.WrongAnswers as history
use Rattle.mps_model_examples.proofs.get_of_old_place.Goals as goal

pub returns : goal.returns
returns c = history.get_of_old_place
