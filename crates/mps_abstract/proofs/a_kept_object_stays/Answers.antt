use Rattle.mps_abstract.proofs.KeptPlaces.{a_kept_object_stays}
use Rattle.mps_abstract.proofs.a_kept_object_stays.Goals as goal

pub returns : goal.returns
returns c = a_kept_object_stays
