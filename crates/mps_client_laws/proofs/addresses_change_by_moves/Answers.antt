use Rattle.mps_client_laws.proofs.Addresses.{objects_live_on, addresses_stay, no_two_have_one_address}
use Rattle.mps_client_laws.proofs.ManualBlocks.{manual_blocks_stay}
use Rattle.mps_client_laws.proofs.addresses_change_by_moves.Goals as goal

pub returns : goal.returns
returns c = record {
  live = objects_live_on;
  address = addresses_stay;
  different = no_two_have_one_address;
  manual = manual_blocks_stay;
}
