-- What printing the last two answers does.
use Rattle.std.specs.Prelude.{ℕ, ◌≡◌, ◌⊎◌, Ok, Err, List, take}
use Rattle.mps_desk.specs.Desk.{Outside}
use Rattle.mps_report.specs.Streams.{appended}
use Rattle.mps_report.specs.declared.stop.Stop.{Stop}
use Rattle.mps_report.specs.declared.stop.Stop.TheVariants as stop
use Rattle.mps_run.specs.declared.bad_script_line.BadScriptLine.{BadScriptLine}
use Rattle.mps_run.specs.Ending.{Ending}

-- a prefix of a text was printed, and printing failed, or the log, whose bytes are written before
pub record PrintsPartOf (text : List ℕ) (why : Stop BadScriptLine) (old new : Outside) : Type 0 where
  pub count : ℕ
  pub printed : new.printed ≡ appended old.printed (take count text)
  pub blames : (why ≡ stop.WriteFailed) ⊎ (why ≡ stop.LogFailed)

-- a text is printed, or a part of it; nothing is logged
abbrev pub PrintsOrFails : (text : List ℕ) → Ending → (old new : Outside) → Type 0
PrintsOrFails text (Ok done) old new = (new.printed ≡ appended old.printed text) × (new.logged ≡ old.logged)
PrintsOrFails text (Err why) old new = PrintsPartOf text why old new × (new.logged ≡ old.logged)
