use Rattle.mps_client_laws.proofs.Reservations.{reserve_opens, init_of_doomed_leaves_the_graph, commit_answers_by_flips, commit_spends_the_reservation}
use Rattle.mps_client_laws.proofs.ReservationsStay.{reservations_stay}
use Rattle.mps_client_laws.proofs.a_commit_answers_by_flips.Goals as goal

pub returns : goal.returns
returns c = record {
  opened = reserve_opens;
  stays = reservations_stay;
  doomed = init_of_doomed_leaves_the_graph;
  answer = commit_answers_by_flips;
  spent = commit_spends_the_reservation;
}
