use Rattle.mps_trace_laws.proofs.Fix.EachFix.{fix_is_a_step}
use Rattle.mps_trace_laws.proofs.a_fix_is_a_step.Goals as goal

pub returns : goal.returns
returns g c = fix_is_a_step
