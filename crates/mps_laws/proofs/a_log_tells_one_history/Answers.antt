use Rattle.mps_laws.proofs.Replays.OneHistory.{told_from}
use Rattle.mps_laws.proofs.a_log_tells_one_history.Goals as goal

pub returns : goal.returns
returns c = λ these those ascend same logs. told_from 0 0 these those ascend same logs
