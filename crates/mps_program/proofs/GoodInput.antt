-- A reader of a good input, without a fault and with memory, ends with status 0.
use Rattle.std.proofs.Common.{◌≡◌, ◌≢◌, ℕ, true, Some, Ok, List, refl, sym, subst, inl, inr}
use Rattle.mps_desk.specs.Desk.{Outside}
use Rattle.mps_event.specs.declared.version.Version.{Version}
use Rattle.mps_base.specs.Record.{Record}
use Rattle.mps_run.specs.Causes.{IsStatus, StatusIsJustified}
use Rattle.mps_run.specs.LogReaderEnding.{is_input_verdict}
use Rattle.mps_run.specs.LogPrefix.{LogPrefix, LogEnds}
use Rattle.mps_tools.specs.Listed.{Lists}
use Rattle.mps_tools.specs.Text.{TextEndsWith}
use Rattle.mps_run.specs.Ending.{NoFaultRose}
use Rattle.mps_program.specs.Asked.{ConvertsLog, ReadsText, ListsBlocks}

module _ (status : ℕ) (old new : Outside) (none : NoFaultRose old new) (memory : status ≢ 8) where
  pub verdict : StatusIsJustified old new status → is_input_verdict status ≡ true
  verdict j = by_status j.known
    where
      this : (n : ℕ) → status ≡ n → is_input_verdict n ≡ true → is_input_verdict status ≡ true
      this n is whole = subst (λ (m : ℕ). is_input_verdict m ≡ true) (sym is) whole

      by_status : IsStatus status → is_input_verdict status ≡ true
      by_status (inl is) = this 0 is refl
      by_status (inr (inl is)) = absurd (none.reading (j.read_fault is))
      by_status (inr (inr (inl is))) = absurd (none.printing (j.write_fault is))
      by_status (inr (inr (inr (inl is)))) = this 6 is refl
      by_status (inr (inr (inr (inr (inl is))))) = this 7 is refl
      by_status (inr (inr (inr (inr (inr is))))) = absurd (memory is)

  pub converted_well : (log : List ℕ) (kinds : ℕ) → ConvertsLog log kinds status old new → (bytes : List ℕ) → old.text log ≡ Some bytes
      → (prefix : LogPrefix bytes) → LogEnds {T = Unit {0}} prefix (Ok tt) → status ≡ 0
  converted_well log kinds does bytes known prefix ends =
      ((does.unique (verdict does.justified) bytes known).with_header prefix (Ok tt) ends).status_is

  pub read_well : (text : List ℕ) → ReadsText text status old new → (bytes : List ℕ) → old.text text ≡ Some bytes
      → (version : Version) (records : List Record) → TextEndsWith version records (Ok tt) bytes → status ≡ 0
  read_well text does bytes known version records ends =
      ((does.unique (verdict does.justified) bytes known).with_first_line version records (Ok tt) ends).status_is

  pub listed_well : (log : List ℕ) → ListsBlocks log status old new → (bytes : List ℕ) → old.text log ≡ Some bytes
      → (lines : List ℕ) → Lists bytes (Ok tt) lines → status ≡ 0
  listed_well log does bytes known lines lists = (does.unique (verdict does.justified) bytes known (Ok tt) lines lists).status_is
