-- How the printing of a generated script ends.
use Rattle.std.specs.Prelude.{◌≡◌, ℕ, codes, Result, Ok, Err, List}
use Rattle.mps_desk.specs.Desk.{Outside}
use Rattle.mps_report.specs.declared.stop.Stop.{Stop}
use Rattle.mps_report.specs.declared.stop.Stop.TheVariants as stop
use Rattle.mps_report.specs.declared.stop.NoBadPlace.{NoBadPlace}
use Rattle.mps_report.specs.Streams.{Prints, PrintsPart, Reports}

-- how the printing of a text ended: all was printed, or a write failed after a prefix of it, or there was no memory before
-- anything was printed
abbrev pub IsGenerated : (old new : Outside) → (text : List ℕ) → Result (Unit {0}) (Stop NoBadPlace) → Type 0
IsGenerated old new text (Ok value) = Prints old new text
IsGenerated old new text (Err stop.WriteFailed) = PrintsPart old new text
IsGenerated old new text (Err stop.OutOfMemory) = new ≡ old
IsGenerated old new text ending = ⊥

-- a prefix of a text was printed, a write failed, and that was reported
pub record FailsWithin (old new : Outside) (text : List ℕ) : Type 0 where
  pub failed : Outside
  pub part : PrintsPart old failed text
  pub reported : Reports failed new (codes "mps: write failed\n")
