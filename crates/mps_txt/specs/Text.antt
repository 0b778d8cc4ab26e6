-- A portable text, where the reading of its lines ends, and what is printed of it.
use Rattle.std.specs.Prelude.{◌≡◌, ◌≢◌, ℕ, ◌+◌, ◌<◌, ◌≤◌, ◌⊎◌, ◌==◌, if◌then◌else◌, codes, true, Option, Some, None, Result, Ok, Err, List, [], ◌∷◌, ◌++◌, length, take, All, refl}
use Rattle.std.specs.Fmt.{digits}
use Rattle.std.specs.List.{flat_map}
use Rattle.std.specs.Option.{option_map}
use Rattle.mps_desk.specs.Desk.{Outside, OnlyReports}
use Rattle.mps_base.specs.Record.{Record}
use Rattle.mps_event.specs.declared.version.Version.{Version}
use Rattle.mps_event.specs.declared.version.Version.TheVariants.{Two}
use Rattle.mps_event.specs.Grammar.{IsRecord}
use Rattle.mps_report.specs.declared.stop.Stop.{Stop}
use Rattle.mps_report.specs.declared.stop.Stop.TheVariants as stop
use Rattle.mps_log_reader.specs.Opening.{first_line}
use Rattle.mps_report.specs.Reports.{status_of_ending, HasReportedEnding, ProgramEnds}
use Rattle.mps_log_reader.specs.PutOut.{PrintsAsFar}
use Rattle.mps_log_reader.specs.RecordLine.{record_line}
use Rattle.mps_txt.specs.declared.bad_text_line.BadTextLine.{BadTextLine}
use Rattle.mps_txt.specs.BadTextLine.{bad_line, text_of_bad_line}
use Rattle.mps_txt.specs.Separators.{Lacks}
use Rattle.mps_txt.specs.Line.{max_line_bytes}
use Rattle.mps_txt.specs.Labels.{Naming, no_names, after_record, after_records, record_takes_memory}
use Rattle.mps_txt.specs.Readable.{readable}

-- the greatest number of lines, which 32 bits hold, and how many may follow the first
abbrev pub max_lines : ℕ
max_lines = 4294967295

abbrev pub max_record_lines : ℕ
max_record_lines = 4294967294

-- how the reading of a text ends
abbrev pub Ending : Type 0
Ending = Result (Unit {0}) (Stop BadTextLine)

-- the bytes of a text, with the line feed that its last line may lack
abbrev pub terminated : List ℕ → List ℕ
terminated [] = []
terminated (byte ∷ []) = byte ∷ (if byte == 10 then [] else 10 ∷ [])
terminated (byte ∷ next ∷ bytes) = byte ∷ terminated (next ∷ bytes)

-- the portable text of records
abbrev pub portable_text : Version → List Record → List ℕ
portable_text version records = first_line version ++ flat_map record_line records

-- the readable text of records
abbrev pub readable_text : Version → List Record → List ℕ
readable_text version records = first_line version ++ readable version records

-- the bytes begin with the first line of no version
abbrev pub HasNoFirstLine : List ℕ → Type 0
HasNoFirstLine bytes = (version : Version) (rest : List ℕ) → terminated bytes ≢ first_line version ++ rest

-- the next line is wrong: it is the line of no record of the version that has a meaning after the records before (lines of
-- records are short, so a line of more than 4,096 bytes is among the wrong ones)
abbrev pub IsWrongNext : Version → (before : Naming) → (rest : List ℕ) → Type 0
IsWrongNext version before rest =
    (r : Record) (following : List ℕ) → IsRecord version r → rest ≡ record_line r ++ following → after_record version before r ≡ None

-- why the reading of lines ends after the lines of n records, before this rest: nothing is left, or the next line is
-- wrong, whose number counts the first line of the text too, or there are as many lines as 32 bits count, and more
abbrev pub TextEndsAt : {T : Type 0} → Version → (before : Naming) → Result T (Stop BadTextLine) → (count : ℕ) → (rest : List ℕ) → Type 0
TextEndsAt version before (Ok value) count rest = rest ≡ []
TextEndsAt version before (Err (stop.Bad bad)) count rest =
    (bad.line ≡ count + 2) × (0 < length rest) × IsWrongNext version before rest × (count < max_record_lines)
TextEndsAt version before (Err stop.TooLong) count rest = (count ≡ max_record_lines) × (0 < length rest)
TextEndsAt version before ending count rest = ⊥

-- a text begins with the lines of these records, each of which has a meaning after those before it; after them the names
-- and labels are these
pub record BeginsWith (version : Version) (records : List Record) (named : Naming) (rest bytes : List ℕ) : Type 0 where
  pub each : All (IsRecord version) records
  pub meaning : after_records version no_names records ≡ Some named
  pub at_most : length records < max_lines
  pub spelled : terminated bytes ≡ portable_text version records ++ rest

-- the lines of a text were read up to a rest at which the reading ends, and what was printed after what stood there is the
-- readable text of exactly these records
pub record Reads {T : Type 0} (bytes : List ℕ) (ending : Result T (Stop BadTextLine)) (old new : Outside) : Type 0 where
  pub version : Version
  pub records : List Record
  pub named : Naming
  pub rest : List ℕ
  pub begins : BeginsWith version records named rest bytes
  pub ends_at : TextEndsAt version named ending (length records) rest
  pub printed : new.printed ≡ option_map (λ before. before ++ readable_text version records) old.printed

-- a text begins with the lines of these records, and this is left of it after them
pub record FirstLines (bytes : List ℕ) : Type 0 where
  pub version : Version
  pub records : List Record
  pub named : Naming
  pub left : List ℕ
  pub begins : BeginsWith version records named (terminated left) bytes

-- of these bytes a part of a line had come, of at most 4,096 bytes, and the others are still unread
pub record BreaksOff (bytes : List ℕ) (unread : Option (List ℕ)) : Type 0 where
  pub part : List ℕ
  pub others : List ℕ
  pub split : bytes ≡ part ++ others
  pub lacks : Lacks 10 part
  pub at_most : length part ≤ max_line_bytes
  pub still : unread ≡ Some others

-- a read failed before the whole first line had come, and nothing is printed
pub record FailsInFirstLine (bytes : List ℕ) (old new : Outside) : Type 0 where
  pub breaks : (new.input ≡ old.input) ⊎ BreaksOff bytes new.input
  pub printed : new.printed ≡ old.printed

-- a read failed after these lines had come whole, each with its line feed, and their readable text was printed; where a
-- write failed too, a prefix of it
pub record FailsAfterLines (bytes : List ℕ) (old new : Outside) : Type 0 where
  pub lines : FirstLines bytes
  pub whole : bytes ≡ portable_text lines.version lines.records ++ lines.left
  pub breaks : BreaksOff lines.left new.input
  pub printed : PrintsAsFar old new (readable_text lines.version lines.records)

-- the next line is that of a record that takes memory: it interns a name, sets a label, or moves one
pub record IsNextToTakeMemory (version : Version) (before : Naming) (rest : List ℕ) : Type 0 where
  pub next : Record
  pub following : List ℕ
  pub grammar : IsRecord version next
  pub front : rest ≡ record_line next ++ following
  pub takes : record_takes_memory version before next ≡ true

-- memory ran out at such a line of a text of version 2, and the readable text of the lines before it was printed
pub record RunsOutOfMemory (bytes : List ℕ) (old new : Outside) : Type 0 where
  pub lines : FirstLines bytes
  pub labelled : lines.version ≡ Two
  pub next : IsNextToTakeMemory lines.version lines.named (terminated lines.left)
  pub printed : new.printed ≡ option_map (λ before. before ++ readable_text lines.version lines.records) old.printed

-- a write failed: a prefix of the readable text of some records was printed, with whose lines the text begins
pub record IsCutShort (bytes : List ℕ) (old new : Outside) : Type 0 where
  pub version : Version
  pub records : List Record
  pub named : Naming
  pub rest : List ℕ
  pub begins : BeginsWith version records named rest bytes
  pub count : ℕ
  pub printed : new.printed ≡ option_map (λ before. before ++ take count (readable_text version records)) old.printed

-- without a first line nothing is printed
pub record FindsNoFirstLine (bytes : List ℕ) (bad : BadTextLine) (old new : Outside) : Type 0 where
  pub first : bad.line ≡ 1
  pub none : HasNoFirstLine bytes
  pub printed : new.printed ≡ old.printed

-- the same of every ending; where a read failed, the lines that had come whole are printed; out of memory, nothing had
-- happened yet or the lines before are printed
abbrev pub HasRead : {T : Type 0} → (bytes : List ℕ) → Result T (Stop BadTextLine) → (old new : Outside) → Type 0
HasRead bytes (Ok value) old new = Reads bytes (Ok value) old new
HasRead bytes (Err (stop.Bad bad)) old new =
    FindsNoFirstLine bytes bad old new ⊎ Reads {T = Unit {0}} bytes (Err (stop.Bad bad)) old new
HasRead bytes (Err stop.TooLong) old new = Reads {T = Unit {0}} bytes (Err stop.TooLong) old new
HasRead bytes (Err stop.ReadFailed) old new = FailsInFirstLine bytes old new ⊎ FailsAfterLines bytes old new
HasRead bytes (Err stop.OutOfMemory) old new = OnlyReports old new ⊎ RunsOutOfMemory bytes old new
HasRead bytes (Err stop.WriteFailed) old new = Unit {0}
HasRead bytes (Err stop.LogFailed) old new = ⊥

-- the status of a reading, by how it ended
pub record ReadWith (bytes : List ℕ) (status : ℕ) (old new : Outside) : Type 0 where
  pub ending : Ending
  pub status_is : status ≡ status_of_ending ending
  pub read : HasRead bytes ending old new
  pub reported : HasReportedEnding text_of_bad_line ending old new

-- the bytes are the lines of these records and a rest at which the reading ends so
pub record TextEndsWith (version : Version) (records : List Record) (ending : Ending) (bytes : List ℕ) : Type 0 where
  pub named : Naming
  pub rest : List ℕ
  pub begins : BeginsWith version records named rest bytes
  pub ends_at : TextEndsAt version named ending (length records) rest

-- in whatever way the bytes end, the program prints and reports just that; without a first line it prints nothing
pub record IsUniqueReading (bytes : List ℕ) (status : ℕ) (old new : Outside) : Type 0 where
  pub with_first_line : (version : Version) (records : List Record) (ending : Ending) → TextEndsWith version records ending bytes
      → ProgramEnds text_of_bad_line ending (readable_text version records) status old new
  pub without_first_line : HasNoFirstLine bytes → ProgramEnds text_of_bad_line (Err (stop.Bad (bad_line 1))) [] status old new

pub a_last_line_without_a_line_feed : terminated (codes "mpslog 1\n10 33") ≡ codes "mpslog 1\n10 33\n"
a_last_line_without_a_line_feed = refl

pub a_last_line_with_one : terminated (codes "mpslog 1\n10 33\n") ≡ codes "mpslog 1\n10 33\n"
a_last_line_with_one = refl

pub an_empty_line_is_kept : terminated (codes "mpslog 1\n\n") ≡ codes "mpslog 1\n\n"
an_empty_line_is_kept = refl

pub nothing_has_no_line : terminated [] ≡ []
nothing_has_no_line = refl

-- a block is made and labelled, and moves
abbrev example : List Record
example =
    record { line = 1; code = 1; fields = 8 ∷ 8 ∷ [] } ∷ record { line = 7; code = 80; fields = 0x1000 ∷ 3 ∷ 0 ∷ [] }
    ∷ record { line = 9; code = 96; fields = 0 ∷ 0x676e6972 ∷ 0 ∷ [] } ∷ record { line = 10; code = 97; fields = 0x1000 ∷ 0 ∷ [] }
    ∷ record { line = 11; code = 82; fields = 0x1000 ∷ 0x2000 ∷ [] } ∷ record { line = 11; code = 33; fields = [] } ∷ []

pub the_portable_text :
    portable_text Two example ≡ codes "mpslog 2\n1 1 8 8\n7 80 1000 3 0\n9 96 0 676e6972 0\n10 97 1000 0\n11 82 1000 2000\n11 33\n"
unfolding digits
the_portable_text = refl

pub the_readable_text :
    readable_text Two example
    ≡ codes "mpslog 2\n1 ArenaCreate grains=8 limit=8\n7 Commit at=0x1000 words=3 pool=0\n9 Intern id=0 name=ring\n"
    ++ codes "10 Label at=0x1000[ring] id=0\n11 Move from=0x1000[ring] to=0x2000[ring]\n11 End\n"
unfolding digits
the_readable_text = refl

pub a_prefix_of_the_readable_text : take 38 (readable_text Two example) ≡ codes "mpslog 2\n1 ArenaCreate grains=8 limit="
unfolding digits
a_prefix_of_the_readable_text = refl
