use Rattle.mps_laws.proofs.Positions.Homes.{fresh_dependencies_hold}
use Rattle.mps_laws.proofs.fresh_dependencies_hold.Goals as goal

pub returns : goal.returns
returns c = fresh_dependencies_hold
