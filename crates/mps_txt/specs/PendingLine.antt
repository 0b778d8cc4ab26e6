-- The line that is pending first, and how a line is put out.
use Rattle.std.specs.Prelude.{◌≡◌, ℕ, ◌+◌, ◌<◌, ◌≤◌, ◌⊎◌, true, false, List, ◌∷◌, ◌++◌, length, drop, Some}
use Rattle.mps_base.specs.Record.{Record}
use Rattle.mps_event.specs.declared.version.Version.{Version}
use Rattle.mps_report.specs.declared.stop.Stop.{Stop}
use Rattle.mps_report.specs.declared.stop.Stop.TheVariants as stop
use Rattle.mps_log_reader.specs.Input.{Buffered}
use Rattle.mps_txt.specs.declared.bad_text_line.BadTextLine.{BadTextLine}
use Rattle.mps_txt.specs.Separators.{Lacks}
use Rattle.mps_txt.specs.Line.{Spells, max_line_bytes}
use Rattle.mps_txt.specs.Labels.{Naming, after_record}
use Rattle.mps_txt.specs.Readable.{readable_line}

-- what is pending begins with this line and its line feed
pub record IsTerminatedLine (b : Buffered) (line : List ℕ) (size : ℕ) : Type 0 where
  pub lacks : Lacks 10 line
  pub front : b.pending ≡ line ++ 10 ∷ drop size b.pending
  pub sized : size ≡ length line + 1

-- this line is all that is pending: the last one, without a line feed
pub record IsLastLine (b : Buffered) (line : List ℕ) (size : ℕ) : Type 0 where
  pub lacks : Lacks 10 line
  pub all : b.pending ≡ line
  pub sized : size ≡ length line
  pub some : 0 < length line
  pub at_most : length line ≤ max_line_bytes
  pub whole : b.failed ≡ false

-- this line is pending first, and takes `size` bytes
abbrev pub IsPendingLine : Buffered → (line : List ℕ) → (size : ℕ) → Type 0
IsPendingLine b line size = IsTerminatedLine b line size ⊎ IsLastLine b line size

-- the line that is pending first is longer than any line of a record
pub record IsLongLine (b : Buffered) : Type 0 where
  pub front : List ℕ
  pub others : List ℕ
  pub pending : b.pending ≡ front ++ others
  pub lacks : Lacks 10 front
  pub long : max_line_bytes < length front

-- no line feed is pending, in no more bytes than a line may have
abbrev pub IsBrokenOff : Buffered → Type 0
IsBrokenOff b = Lacks 10 b.pending × (length b.pending ≤ max_line_bytes)

-- why no line is pending
abbrev pub HasNoLine : Buffered → (number : ℕ) → Stop BadTextLine → Type 0
HasNoLine b number (stop.Bad bad) = (bad.line ≡ number) × IsLongLine b
HasNoLine b number stop.ReadFailed = (b.failed ≡ true) × IsBrokenOff b
HasNoLine b number why = ⊥

-- the line spells a record, which has a meaning after the records before, and its readable line was put out
pub record PutsLine (version : Version) (line : List ℕ) (before after : Naming) (old new : List ℕ) : Type 0 where
  pub read : Record
  pub spells : Spells version line read
  pub taken : after_record version before read ≡ Some after
  pub put : new ≡ old ++ readable_line version before after read
