use Rattle.mps_refusal_examples.proofs.Caches as history
use Rattle.mps_refusal_examples.proofs.caches_answer.Goals as goal

pub returns : goal.returns
returns c = history.caches_answer
