use Rattle.mps_model_examples.proofs.Framed as history
use Rattle.mps_model_examples.proofs.frame_segments_is_legal.Goals as goal

pub returns : goal.returns
returns c = history.frame_segments_is_legal
