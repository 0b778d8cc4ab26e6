-- The reading of a text line by line.
use Rattle.std.specs.Prelude.{◌≡◌, ◌≢◌, ℕ, ◌<◌, ◌⊎◌, true, false, Option, Some, None, IfSome, Bool, Result, Ok, Err, List, [], ◌++◌, length, drop, All, codes}
use Rattle.std.specs.List.{flat_map}
use Rattle.std.specs.Option.{option_map}
use Rattle.mps_desk.specs.Desk.{Outside}
use Rattle.mps_base.specs.Record.{Record}
use Rattle.mps_event.specs.declared.version.Version.{Version}
use Rattle.mps_event.specs.declared.version.Version.TheVariants.{One, Two}
use Rattle.mps_event.specs.Grammar.{IsRecord}
use Rattle.mps_report.specs.declared.stop.Stop.{Stop}
use Rattle.mps_report.specs.declared.stop.Stop.TheVariants as stop
use Rattle.mps_log_reader.specs.Input.{Buffered, IsComplete}
use Rattle.mps_log_reader.specs.Left.{left_of}
use Rattle.mps_log_reader.specs.Opening.{first_line}
use Rattle.mps_log_reader.specs.PutOut.{put_out, PutsOut, PutsPart}
use Rattle.mps_log_reader.specs.RecordLine.{record_line}
use Rattle.mps_txt.specs.declared.bad_text_line.BadTextLine.{BadTextLine}
use Rattle.mps_txt.specs.Line.{record_text, Spells}
use Rattle.mps_txt.specs.PendingLine.{IsPendingLine, IsLongLine, IsBrokenOff}
use Rattle.mps_txt.specs.Labels.{Naming, no_names, after_record, after_records, record_takes_memory}
use Rattle.mps_txt.specs.Readable.{readable_line, readable}
use Rattle.mps_txt.specs.Text.{terminated, max_lines, HasNoFirstLine, IsWrongNext, IsNextToTakeMemory, TextEndsAt, BreaksOff}

-- ---- the pending line

-- a line is the one of no record that has a meaning here
abbrev pub IsWrongLine : Version → (before : Naming) → (line : List ℕ) → Type 0
IsWrongLine version before line = (r : Record) → Spells version line r → after_record version before r ≡ None

-- the pending line is wrong
abbrev pub IsWrongPending : Version → (before : Naming) → Buffered → Type 0
IsWrongPending version before b =
    ((line : List ℕ) × (size : ℕ) × IsPendingLine b line size × IsWrongLine version before line) ⊎ IsLongLine b

-- the pending line is that of a record that takes memory
pub record IsPendingToTakeMemory (version : Version) (before : Naming) (b : Buffered) : Type 0 where
  pub read : Record
  pub size : ℕ
  pub grammar : IsRecord version read
  pub front : IsPendingLine b (record_text read) size
  pub takes : record_takes_memory version before read ≡ true

-- the pending line, of a record, was put out in readable text
pub record ShowsPending (version : Version) (s t : Naming) (size : ℕ) (b : Buffered) (before after : List ℕ) : Type 0 where
  pub read : Record
  pub grammar : IsRecord version read
  pub meaning : after_record version s read ≡ Some t
  pub front : IsPendingLine b (record_text read) size
  pub put : after ≡ before ++ readable_line version s t read

-- what the pending line gave
abbrev pub PendingGives : Version → (number : ℕ) → (s t : Naming) → Buffered → (before after : List ℕ)
    → Result (Option ℕ) (Stop BadTextLine) → Type 0
PendingGives version number s t b before after (Ok (Some size)) = ShowsPending version s t size b before after
PendingGives version number s t b before after (Ok None) = (b.pending ≡ []) × (b.failed ≡ false) × (after ≡ before)
PendingGives version number s t b before after (Err (stop.Bad bad)) = (bad.line ≡ number) × IsWrongPending version s b × (after ≡ before)
PendingGives version number s t b before after (Err stop.ReadFailed) = IsBrokenOff b × (after ≡ before)
PendingGives version number s t b before after (Err stop.OutOfMemory) = IsPendingToTakeMemory version s b × (after ≡ before)
PendingGives version number s t b before after result = ⊥

-- ---- the next line of what is left

-- how far a text was read: the names and labels so far, what is left of the text, what of it is pending, and what was put out
pub record Progress : Type 0 where
  pub labels : Naming
  pub left : Option (List ℕ)
  pub buffer : Buffered
  pub put : Option (List ℕ)

abbrev pub progress : Naming → Outside → Buffered → (gathered : List ℕ) → Progress
progress labels o b gathered = record { labels = labels; left = left_of o b; buffer = b; put = put_out o gathered }

-- this text was taken, of lines each with its line feed; or all was read, and the last line may lack it, but no read can
-- fail any more
abbrev pub IsWholeOrLast : (text : List ℕ) → (left left_after : Option (List ℕ)) → Buffered → Type 0
IsWholeOrLast text left left_after b = (left ≡ option_map (λ rest. text ++ rest) left_after) ⊎ IsComplete b

-- the next line, of a record, was put out in readable text
pub record ShowsNext (version : Version) (before after : Progress) : Type 0 where
  pub read : Record
  pub grammar : IsRecord version read
  pub meaning : after_record version before.labels read ≡ Some after.labels
  pub front : option_map terminated before.left ≡ option_map (λ rest. record_line read ++ terminated rest) after.left
  pub whole : IsWholeOrLast (record_line read) before.left after.left after.buffer
  pub put : PutsOut before.put after.put (readable_line version before.labels after.labels read)

-- what the next line gave, where this is unread then; false at the end
abbrev pub NextGives : Version → (number : ℕ) → (before after : Progress) → (unread : Option (List ℕ))
    → Result Bool (Stop BadTextLine) → Type 0
NextGives version number before after unread (Ok true) = ShowsNext version before after
NextGives version number before after unread (Ok false) = IfSome before.left (λ bytes. bytes ≡ []) × (after.put ≡ before.put)
NextGives version number before after unread (Err (stop.Bad bad)) =
    (bad.line ≡ number) × IfSome before.left (λ bytes. (0 < length (terminated bytes))
    × IsWrongNext version before.labels (terminated bytes))
    × (after.put ≡ before.put)
NextGives version number before after unread (Err stop.ReadFailed) = IfSome before.left (λ bytes. BreaksOff bytes unread)
    × (after.put ≡ before.put)
NextGives version number before after unread (Err stop.WriteFailed) = Unit {0}
NextGives version number before after unread (Err stop.OutOfMemory) =
    IfSome before.left (λ bytes. IsNextToTakeMemory version before.labels (terminated bytes)) × (after.put ≡ before.put)
NextGives version number before after unread result = ⊥

-- ---- all lines

-- the lines of some records were read and put out, and this is left
pub record ShowsLines (version : Version) (bytes : List ℕ) (before after : Option (List ℕ)) : Type 0 where
  pub records : List Record
  pub named : Naming
  pub left : List ℕ
  pub each : All (IsRecord version) records
  pub meaning : after_records version no_names records ≡ Some named
  pub at_most : length records < max_lines
  pub spelled : terminated bytes ≡ flat_map record_line records ++ terminated left
  pub put : PutsOut before after (readable version records)

-- the lines were read and put out up to a rest at which the reading ends
pub record ShowsAll {T : Type 0} (version : Version) (bytes : List ℕ) (before after : Option (List ℕ))
    (ending : Result T (Stop BadTextLine)) : Type 0 where
  pub shown : ShowsLines version bytes before after
  pub ends_at : TextEndsAt version shown.named ending (length shown.records) (terminated shown.left)

-- the lines that had come whole were read and put out
pub record ShowsWholeLines (version : Version) (bytes : List ℕ) (unread before after : Option (List ℕ)) : Type 0 where
  pub shown : ShowsLines version bytes before after
  pub whole : bytes ≡ flat_map record_line shown.records ++ shown.left
  pub breaks : BreaksOff shown.left unread

-- lines were read and put out up to one that takes memory
pub record ShowsBeforeMemory (version : Version) (bytes : List ℕ) (before after : Option (List ℕ)) : Type 0 where
  pub shown : ShowsLines version bytes before after
  pub next : IsNextToTakeMemory version shown.named (terminated shown.left)

-- the same of every ending
abbrev pub AllGives : {T : Type 0} → Version → (bytes : List ℕ) → (unread before after : Option (List ℕ))
    → Result T (Stop BadTextLine) → Type 0
AllGives version bytes unread before after (Err stop.ReadFailed) = ShowsWholeLines version bytes unread before after
AllGives version bytes unread before after (Err stop.OutOfMemory) = ShowsBeforeMemory version bytes before after
AllGives version bytes unread before after (Err stop.WriteFailed) = Unit {0}
AllGives version bytes unread before after (Err stop.LogFailed) = ⊥
AllGives version bytes unread before after ending = ShowsAll version bytes before after ending

-- ---- where a write failed

-- the lines of some records were read, and a prefix of their readable text, after what was gathered, was printed
pub record ShowsPart (version : Version) (bytes gathered : List ℕ) (old new : Option (List ℕ)) : Type 0 where
  pub records : List Record
  pub named : Naming
  pub left : List ℕ
  pub each : All (IsRecord version) records
  pub meaning : after_records version no_names records ≡ Some named
  pub at_most : length records < max_lines
  pub spelled : terminated bytes ≡ flat_map record_line records ++ terminated left
  pub part : PutsPart old new (gathered ++ readable version records)

-- ---- the first line

-- the first line of a version, without its line feed
abbrev pub first_text : Version → List ℕ
first_text One = codes "mpslog 1"
first_text Two = codes "mpslog 2"

-- the first line of no version is pending: nothing is left, or there is another line, or a longer one
abbrev pub HasOtherLine : Buffered → Type 0
HasOtherLine b =
    ((b.pending ≡ []) × (b.failed ≡ false))
    ⊎ (((line : List ℕ) × (size : ℕ) × IsPendingLine b line size × ((version : Version) → line ≢ first_text version)) ⊎ IsLongLine b)

-- why the first line of no version was found
abbrev pub FindsNoVersion : Buffered → Stop BadTextLine → Type 0
FindsNoVersion b (stop.Bad bad) = (bad.line ≡ 1) × HasOtherLine b
FindsNoVersion b stop.ReadFailed = IsBrokenOff b
FindsNoVersion b why = ⊥

-- the first line of a version is pending, and its size with the line feed; or there is none
abbrev pub FindsVersion : Buffered → Result (Version × ℕ) (Stop BadTextLine) → Type 0
FindsVersion b (Ok found) = IsPendingLine b (first_text found.0) found.1
FindsVersion b (Err why) = FindsNoVersion b why

-- it was taken from what is pending
pub record TakesVersionLine (version : Version) (before after : Buffered) : Type 0 where
  pub size : ℕ
  pub front : IsPendingLine before (first_text version) size
  pub state : after ≡ record before { pending = drop size before.pending }

abbrev pub TakesFirstLine : (before after : Buffered) → Result Version (Stop BadTextLine) → Type 0
TakesFirstLine before after (Ok version) = TakesVersionLine version before after
TakesFirstLine before after (Err why) = FindsNoVersion before why × (after ≡ before)

-- a text of these bytes was opened in place of an input, and this is left after its first line, or it has none
abbrev pub OpensText : (bytes : List ℕ) → (left input unread : Option (List ℕ)) → Result Version (Stop BadTextLine) → Type 0
OpensText bytes left input unread (Ok version) = Some (terminated bytes) ≡ option_map (λ rest. first_line version ++ terminated rest) left
OpensText bytes left input unread (Err (stop.Bad bad)) = (bad.line ≡ 1) × HasNoFirstLine bytes
OpensText bytes left input unread (Err stop.ReadFailed) = (unread ≡ input) ⊎ BreaksOff bytes unread
OpensText bytes left input unread result = ⊥

-- the first line was taken with its line feed, or all was read
abbrev pub OpensWholeLine : (bytes : List ℕ) → (left : Option (List ℕ)) → Buffered → Result Version (Stop BadTextLine) → Type 0
OpensWholeLine bytes left b (Ok version) = IsWholeOrLast (first_line version) (Some bytes) left b
OpensWholeLine bytes left b (Err why) = Unit {0}
