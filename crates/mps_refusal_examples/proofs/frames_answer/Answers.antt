use Rattle.mps_refusal_examples.proofs.Frames as history
use Rattle.mps_refusal_examples.proofs.frames_answer.Goals as goal

pub returns : goal.returns
returns c = history.frames_answer
