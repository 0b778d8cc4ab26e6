use Rattle.mps_trace_laws.proofs.Begin.MovesOfObjects.{room_is_enough}
use Rattle.mps_trace_laws.proofs.room_is_enough.Goals as goal

pub returns : goal.returns
returns c = room_is_enough
