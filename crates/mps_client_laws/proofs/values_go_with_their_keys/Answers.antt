use Rattle.mps_client_laws.proofs.Dependents.{values_go_with_their_keys}
use Rattle.mps_client_laws.proofs.values_go_with_their_keys.Goals as goal

pub returns : goal.returns
returns c = values_go_with_their_keys
