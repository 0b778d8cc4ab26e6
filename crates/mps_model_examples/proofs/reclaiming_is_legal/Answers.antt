use Rattle.mps_model_examples.proofs.Reclaiming as history
use Rattle.mps_model_examples.proofs.reclaiming_is_legal.Goals as goal

pub returns : goal.returns
returns c = history.reclaiming_is_legal
