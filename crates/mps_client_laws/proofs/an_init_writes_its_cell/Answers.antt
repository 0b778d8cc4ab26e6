use Rattle.mps_client_laws.proofs.Initialising.{init_writes_the_number, init_writes_the_reference}
use Rattle.mps_client_laws.proofs.an_init_writes_its_cell.Goals as goal

pub returns : goal.returns
returns c = record {
  number = init_writes_the_number;
  reference = init_writes_the_reference;
}
