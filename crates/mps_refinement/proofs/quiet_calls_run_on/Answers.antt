use Rattle.mps_refinement.proofs.Worlds.RunningActs.{quiet_calls_run_on}
use Rattle.mps_refinement.proofs.quiet_calls_run_on.Goals as goal

pub returns : goal.returns
returns g = quiet_calls_run_on
