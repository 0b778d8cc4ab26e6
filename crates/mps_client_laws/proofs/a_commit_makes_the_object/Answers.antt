use Rattle.mps_client_laws.proofs.Committing.{commit_makes_the_object, flipped_makes_none}
use Rattle.mps_client_laws.proofs.a_commit_makes_the_object.Goals as goal

pub returns : goal.returns
returns c = record { made = commit_makes_the_object; flipped = flipped_makes_none }
