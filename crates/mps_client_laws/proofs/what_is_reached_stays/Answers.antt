use Rattle.mps_client_laws.proofs.Collecting.{collect_leaves_what_is_reached}
use Rattle.mps_client_laws.proofs.Gone.{what_dependents_reach_stays, what_is_not_reached_is_gone}
use Rattle.mps_client_laws.proofs.what_is_reached_stays.Goals as goal

pub returns : goal.returns
returns c = record {
  reached = collect_leaves_what_is_reached;
  dependents = what_dependents_reach_stays;
  gone = what_is_not_reached_is_gone;
}
