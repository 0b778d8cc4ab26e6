use Rattle.mps_refusal_examples.proofs.Labelling as history
use Rattle.mps_refusal_examples.proofs.labels_answer.Goals as goal

pub returns : goal.returns
returns c = history.labels_answer
