use Rattle.mps_model_examples.proofs.ReadingOn as history
use Rattle.mps_model_examples.proofs.reading_on_is_legal.Goals as goal

pub returns : goal.returns
returns c = history.reading_on_is_legal
