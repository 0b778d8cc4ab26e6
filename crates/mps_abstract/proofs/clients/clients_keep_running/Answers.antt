use Rattle.mps_abstract.proofs.Calls.ClientCalls.{clients_keep}
use Rattle.mps_abstract.proofs.clients.clients_keep_running.Goals as goal

pub returns : goal.returns
returns c = clients_keep
