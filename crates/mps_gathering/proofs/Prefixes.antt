-- Bytes that a desk took before a call failed.
use Rattle.std.proofs.Common.{◌≡◌, ℕ, ◌+◌, ◌-◌, ◌≤◌, Option, Some, None, IsNone, List, [], length, take, drop, refl, sym, subst, ◌∙◌, arith}
use Rattle.std.specs.Option.{option_map}
use Rattle.mps_desk.specs.Desk.{Outside, Files, HasRisen, OnlyLogs, OnlyPrints, after_log}
use Rattle.mps_report.specs.Streams.{Logs, Prints}
use Rattle.mps_report.proofs.Logging.{logs_none, logs_more, only_logs_then}
use Rattle.mps_report.proofs.Outside.{prints_only-then}
use Rattle.mps_gathering.specs.Gathering.{LogsPrefix, PrintsPrefix}

-- files that aren't known stay so
stays_unknown : (known : Option Files) (piece : List ℕ) → IsNone known → IsNone (option_map (after_log piece) known)
stays_unknown None piece none = none
stays_unknown (Some files) piece none = none

-- all calls so far took their bytes
pub record IsLogging (old new : Outside) (prefix : List ℕ) : Type 0 where
  pub logs : Logs old new prefix
  pub text : IsNone old.files → new.text ≡ old.text

pub logging_none : (o : Outside) → IsLogging o o []
logging_none o = record { logs = logs_none o; text = λ none. refl }

text_then : (a b c : Outside) (prefix : List ℕ) → IsLogging a b prefix → (IsNone b.files → c.text ≡ b.text) → IsNone a.files
    → c.text ≡ a.text
text_then a b c prefix f next none =
    next (subst (λ (known : Option Files). IsNone known) (sym f.logs.filed) (stays_unknown a.files prefix none)) ∙ f.text none

pub logging_more : (a b c : Outside) (bytes : List ℕ) (at count : ℕ) → IsLogging a b (take at bytes)
    → Logs b c (take count (take (length bytes - at) (drop at bytes))) → (IsNone b.files → c.text ≡ b.text)
    → IsLogging a c (take (at + count) bytes)
logging_more a b c bytes at count before next text = record {
  logs = logs_more a b c bytes at count before.logs next;
  text = text_then a b c (take at bytes) before text;
}

-- a call failed after a prefix of the bytes
pub prefix_logged : (a b c : Outside) (bytes : List ℕ) (at : ℕ) → IsLogging a b (take at bytes) → c.logged ≡ b.logged → c.files ≡ b.files
    → c.text ≡ b.text → b.log_faults ≤ c.log_faults → OnlyLogs b c → HasRisen b.log_faults c.log_faults
    → LogsPrefix a c (take at bytes)
prefix_logged a b c bytes at before logged files text counted others fault = record {
  logged = logged ∙ before.logs.logged;
  filed = files ∙ before.logs.filed;
  text = text_then a b c (take at bytes) before (λ none. text);
  counted = omega (arith, before.logs.steady, counted);
  others = only_logs_then a b c before.logs.others others;
}

-- all was logged
pub whole_logged : (a b : Outside) (prefix : List ℕ) → IsLogging a b prefix → LogsPrefix a b prefix
whole_logged a b prefix l = record {
  logged = l.logs.logged;
  filed = l.logs.filed;
  text = l.text;
  counted = omega (arith, l.logs.steady);
  others = l.logs.others;
}

pub prefix_printed : (a b c : Outside) (bytes : List ℕ) (at : ℕ) → Prints a b (take at bytes) → c.printed ≡ b.printed
    → b.out_faults ≤ c.out_faults → OnlyPrints b c → HasRisen b.out_faults c.out_faults → PrintsPrefix a c (take at bytes)
prefix_printed a b c bytes at before printed counted others fault = record {
  printed = printed ∙ before.printed;
  counted = omega (arith, before.steady, counted);
  others = prints_only-then a b c before.others others;
}

pub whole_printed : (a b : Outside) (prefix : List ℕ) → Prints a b prefix → PrintsPrefix a b prefix
whole_printed a b prefix p = record { printed = p.printed; counted = omega (arith, p.steady); others = p.others }
