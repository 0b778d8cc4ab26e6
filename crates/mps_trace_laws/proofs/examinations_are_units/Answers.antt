use Rattle.mps_trace_laws.proofs.Units.Examining.{examinations_are_units}
use Rattle.mps_trace_laws.proofs.examinations_are_units.Goals as goal

pub returns : goal.returns
returns g c = examinations_are_units
