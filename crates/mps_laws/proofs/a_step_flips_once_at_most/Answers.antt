use Rattle.mps_laws.proofs.Flipping.{step_flips_once, no_more_than_steps}
use Rattle.mps_laws.proofs.a_step_flips_once_at_most.Goals as goal

pub returns : goal.returns
returns c = record { step = step_flips_once; history = no_more_than_steps }
