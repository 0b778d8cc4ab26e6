use Rattle.mps_generated.proofs.Generated.{generated_is_grammatical}
use Rattle.mps_generated.proofs.laws.generated_scripts_are_grammatical.Goals as goal

pub returns : goal.returns
returns c = λ seed count fits. generated_is_grammatical seed count fits
