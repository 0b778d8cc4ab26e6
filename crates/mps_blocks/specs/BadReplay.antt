-- What is reported of a log whose records are replayed.
use Rattle.std.specs.Prelude.{◌≡◌, ℕ, codes, decimal, List, ◌++◌, refl}
use Rattle.std.specs.Fmt.{digits}
use Rattle.mps_log_reader.specs.BadLog.{text_of_bad_log}
use Rattle.mps_blocks.specs.declared.bad_replay.BadReplay.{BadReplay}
use Rattle.mps_blocks.specs.declared.bad_replay.BadReplay.TheVariants as bad_replay

abbrev pub text_of_bad_replay : BadReplay → List ℕ
text_of_bad_replay (bad_replay.Log bad) = text_of_bad_log bad
text_of_bad_replay (bad_replay.Replay offset) = codes "mps: log offset " ++ decimal offset ++ codes ": bad replay\n"

pub a_bad_replay : text_of_bad_replay (bad_replay.Replay 208) ≡ codes "mps: log offset 208: bad replay\n"
unfolding digits
a_bad_replay = refl
