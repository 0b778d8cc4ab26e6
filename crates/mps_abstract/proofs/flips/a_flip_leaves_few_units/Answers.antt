use Rattle.mps_abstract.proofs.FlipActs.FewUnits.{few_are_left}
use Rattle.mps_abstract.proofs.flips.a_flip_leaves_few_units.Goals as goal

pub returns : goal.returns
returns c = few_are_left
