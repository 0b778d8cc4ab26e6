use Rattle.mps_client_laws.proofs.SlotsStay.{slots_stay}
use Rattle.mps_client_laws.proofs.slots_stay.Goals as goal

pub returns : goal.returns
returns c = slots_stay
