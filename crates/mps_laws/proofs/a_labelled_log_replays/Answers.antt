use Rattle.mps_laws.proofs.Replays.LabelledLogs.{labelled_log_replays}
use Rattle.mps_laws.proofs.a_labelled_log_replays.Goals as goal

pub returns : goal.returns
returns c = labelled_log_replays
