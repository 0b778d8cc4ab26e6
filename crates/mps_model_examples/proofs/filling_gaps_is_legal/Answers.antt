use Rattle.mps_model_examples.proofs.FillingGaps as history
use Rattle.mps_model_examples.proofs.filling_gaps_is_legal.Goals as goal

pub returns : goal.returns
returns c = history.filling_gaps_is_legal
