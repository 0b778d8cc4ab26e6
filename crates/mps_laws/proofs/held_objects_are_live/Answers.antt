use Rattle.mps_laws.proofs.Held.{held_objects_are_live}
use Rattle.mps_laws.proofs.held_objects_are_live.Goals as goal

pub returns : goal.returns
returns c = λ formats steps later legal. held_objects_are_live formats steps later legal
