-- Where nothing waits to be written, nothing does after a call that takes nothing to be written.
use Rattle.std.proofs.Common.{◌∙◌}
use Rattle.mps_desk.specs.Desk.{Outside, NothingWaits, OnlyReports}

pub reports_written : (a b : Outside) → OnlyReports a b → NothingWaits a → NothingWaits b
reports_written a b o none = record { log = o.log_waits ∙ none.log; out = o.out_waits ∙ none.out }
