use Rattle.mps_client_laws.proofs.RefusedSteps.{refusals_are_listed, refused_steps_are_listed, none_is_out_of_memory}
use Rattle.mps_client_laws.proofs.refusals_are_listed.Goals as goal

pub returns : goal.returns
returns c = record { acts = refusals_are_listed; steps = refused_steps_are_listed; memory = none_is_out_of_memory }
