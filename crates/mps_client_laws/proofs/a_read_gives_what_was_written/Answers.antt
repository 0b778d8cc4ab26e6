use Rattle.mps_client_laws.proofs.ReadingBack.{get_gives_what_was_put, num_answers_what_was_set, load_answers_what_was_stored}
use Rattle.mps_client_laws.proofs.a_read_gives_what_was_written.Goals as goal

pub returns : goal.returns
returns c = record { get = get_gives_what_was_put; num = num_answers_what_was_set; load = load_answers_what_was_stored }
