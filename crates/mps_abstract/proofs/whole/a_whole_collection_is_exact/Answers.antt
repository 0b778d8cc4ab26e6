use Rattle.mps_abstract.proofs.WholeCollections.WholeEnds.{a_whole_collection}
use Rattle.mps_abstract.proofs.whole.a_whole_collection_is_exact.Goals as goal

pub returns : goal.returns
returns c = a_whole_collection
