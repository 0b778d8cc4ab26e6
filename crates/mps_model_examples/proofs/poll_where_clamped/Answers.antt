use Rattle.mps_model_examples.proofs.WrongUnits as history
use Rattle.mps_model_examples.proofs.poll_where_clamped.Goals as goal

pub returns : goal.returns
returns c = history.poll_where_clamped
