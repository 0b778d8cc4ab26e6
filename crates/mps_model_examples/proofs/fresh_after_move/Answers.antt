use Rattle.mps_model_examples.proofs.WrongAnswers as history
use Rattle.mps_model_examples.proofs.fresh_after_move.Goals as goal

pub returns : goal.returns
returns c = history.fresh_after_move
