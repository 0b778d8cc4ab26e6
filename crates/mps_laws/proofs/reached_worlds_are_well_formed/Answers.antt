use Rattle.mps_laws.proofs.MadeAgain.{leaves_segments}
use Rattle.mps_laws.proofs.WellFormedHistories.{reached_are_well_formed, worlds_in_steps_are_well_formed}
use Rattle.mps_laws.proofs.reached_worlds_are_well_formed.Goals as goal

pub returns : goal.returns
returns c = record {
  well_formed = reached_are_well_formed;
  in_steps = worlds_in_steps_are_well_formed;
  premise = leaves_segments;
}
