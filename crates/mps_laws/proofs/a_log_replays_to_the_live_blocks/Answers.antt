use Rattle.mps_laws.proofs.Replays.Replay.{log_replays, step_replays}
use Rattle.mps_laws.proofs.a_log_replays_to_the_live_blocks.Goals as goal

pub returns : goal.returns
returns c = record { step = step_replays; log = log_replays }
