use Rattle.mps_client_laws.proofs.RefusedSteps.{refused_steps_make_no_moves, refused_steps_change_nothing, refused_steps_leave_their_moves, refused_polls_have_no_place}
use Rattle.mps_client_laws.proofs.a_refused_call_changes_nothing.Goals as goal

pub returns : goal.returns
returns c = record {
  moves = refused_steps_make_no_moves;
  world = refused_steps_change_nothing;
  polls = refused_polls_have_no_place;
  after_poll = refused_steps_leave_their_moves;
}
