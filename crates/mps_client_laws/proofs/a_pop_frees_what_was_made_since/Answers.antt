use Rattle.mps_client_laws.proofs.Popping.{pop_frees_what_was_made_since}
use Rattle.mps_client_laws.proofs.a_pop_frees_what_was_made_since.Goals as goal

pub returns : goal.returns
returns c = pop_frees_what_was_made_since
