-- The cause of a stop.
use Rattle.mps_desk.specs.Desk.{Outside, HasRisen}
use Rattle.mps_report.specs.declared.stop.Stop.{Stop}
use Rattle.mps_report.specs.declared.stop.Stop.TheVariants as stop

-- a stop blames a side of the outside only where the count of the faults of that side rose
abbrev pub CauseOf : {E : Type 0} → (old new : Outside) → Stop E → Type 0
CauseOf old new stop.ReadFailed = HasRisen old.in_faults new.in_faults
CauseOf old new stop.WriteFailed = HasRisen old.out_faults new.out_faults
CauseOf old new stop.LogFailed = HasRisen old.log_faults new.log_faults
CauseOf old new why = Unit {0}
