use Rattle.mps_trace_laws.proofs.Fix.Finding.{an_object_is_found}
use Rattle.mps_trace_laws.proofs.an_object_is_found.Goals as goal

pub returns : goal.returns
returns g c = an_object_is_found
