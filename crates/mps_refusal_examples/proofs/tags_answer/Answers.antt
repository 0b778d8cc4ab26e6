use Rattle.mps_refusal_examples.proofs.Labelling as history
use Rattle.mps_refusal_examples.proofs.tags_answer.Goals as goal

pub returns : goal.returns
returns c = history.tags_answer
