use Rattle.mps_model_examples.proofs.Framed as history
use Rattle.mps_model_examples.proofs.no_pop_keeps_a_segment.Goals as goal

pub returns : goal.returns
returns c = history.no_pop_keeps_a_segment
