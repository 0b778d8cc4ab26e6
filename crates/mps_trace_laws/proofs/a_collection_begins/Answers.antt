use Rattle.mps_trace_laws.proofs.Begin.FlipStands.{flip_stands}
use Rattle.mps_trace_laws.proofs.Begin.Acted.{a_collection_begins}
use Rattle.mps_trace_laws.proofs.a_collection_begins.Goals as goal

pub returns : goal.returns
returns g c = a_collection_begins flip_stands
