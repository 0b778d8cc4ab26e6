-- A desk over real files knows how often each of its sides failed, and nothing else.
use Rattle.std.specs.Prelude.{ℕ}

-- faults at opening and reading, at the log, at printing and at reporting
pub record FaultCounts : Type 0 where
  pub in_faults : ℕ
  pub log_faults : ℕ
  pub out_faults : ℕ
  pub err_faults : ℕ

abbrev pub no_faults : FaultCounts
no_faults = record { in_faults = 0; log_faults = 0; out_faults = 0; err_faults = 0 }
