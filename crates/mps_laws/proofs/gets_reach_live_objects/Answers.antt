use Rattle.mps_laws.proofs.Reading.{gets_reach_live_objects}
use Rattle.mps_laws.proofs.gets_reach_live_objects.Goals as goal

pub returns : goal.returns
returns c = gets_reach_live_objects
