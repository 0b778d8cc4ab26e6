use Rattle.mps_laws.proofs.Staying.{addresses_stay_right}
use Rattle.mps_laws.proofs.addresses_stay_right.Goals as goal

pub returns : goal.returns
returns c = addresses_stay_right
