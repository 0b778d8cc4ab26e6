use Rattle.mps_trace_laws.proofs.Units.Examining.{posts_are_units}
use Rattle.mps_trace_laws.proofs.posts_are_units.Goals as goal

pub returns : goal.returns
returns g c = posts_are_units
