use Rattle.mps_trace_laws.proofs.Reclaim.Unit.{a_reclaim_is_a_unit}
use Rattle.mps_trace_laws.proofs.a_reclaim_is_a_unit.Goals as goal

pub returns : goal.returns
returns c = a_reclaim_is_a_unit
