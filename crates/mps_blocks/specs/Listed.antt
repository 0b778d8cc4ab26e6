-- What is listed of a log, and how the program ends then.
use Rattle.std.specs.Prelude.{◌≡◌, ℕ, Result, Ok, Err, List, [], ◌++◌, take}
use Rattle.std.specs.Option.{option_map}
use Rattle.mps_desk.specs.Desk.{Outside}
use Rattle.mps_report.specs.declared.stop.Stop.{Stop}
use Rattle.mps_report.specs.declared.stop.Stop.TheVariants as stop
use Rattle.mps_report.specs.Reports.{ProgramEnds}
use Rattle.mps_log_reader.specs.declared.bad_log.BadLog.TheVariants as bad_log
use Rattle.mps_log_reader.specs.Opening.{HasNoHeader}
use Rattle.mps_blocks.specs.declared.bad_replay.BadReplay.{BadReplay}
use Rattle.mps_blocks.specs.declared.bad_replay.BadReplay.TheVariants as bad_replay
use Rattle.mps_blocks.specs.BadReplay.{text_of_bad_replay}
use Rattle.mps_blocks.specs.Ending.{Replays}
use Rattle.mps_blocks.specs.Listing.{listing}

-- the replay of these bytes ends so, and this is to be listed: the blocks that live at the end of a whole log, and nothing of
-- any other bytes
abbrev pub Lists : (bytes : List ℕ) → Result (Unit {0}) (Stop BadReplay) → (text : List ℕ) → Type 0
Lists bytes (Ok value) text = (whole : Replays bytes (Ok value)) × (text ≡ listing whole.state.blocks)
Lists bytes (Err (stop.Bad (bad_replay.Log bad_log.Header))) text = HasNoHeader bytes × (text ≡ [])
Lists bytes (Err why) text = Replays bytes (Err why) × (text ≡ [])

-- the replay of these bytes ends in some way, and the program ends so
pub record ListedWith (bytes : List ℕ) (status : ℕ) (old new : Outside) : Type 0 where
  pub ending : Result (Unit {0}) (Stop BadReplay)
  pub text : List ℕ
  pub lists : Lists bytes ending text
  pub ends : ProgramEnds text_of_bad_replay ending text status old new

-- in whatever way the replay of these bytes ends, the program ends so
abbrev pub IsUniqueList : (bytes : List ℕ) → (status : ℕ) → (old new : Outside) → Type 0
IsUniqueList bytes status old new =
    (ending : Result (Unit {0}) (Stop BadReplay)) (text : List ℕ) → Lists bytes ending text
    → ProgramEnds text_of_bad_replay ending text status old new

-- the bytes are a whole log, and a prefix of what is to be listed was printed
pub record ListsPart (bytes : List ℕ) (old new : Outside) : Type 0 where
  pub text : List ℕ
  pub lists : Lists bytes (Ok tt) text
  pub count : ℕ
  pub printed : new.printed ≡ option_map (λ before. before ++ take count text) old.printed

-- the same of an ending inside the program
abbrev pub HasListed : (bytes : List ℕ) → Result (Unit {0}) (Stop BadReplay) → (old new : Outside) → Type 0
HasListed bytes (Err stop.ReadFailed) old new = Unit {0}
HasListed bytes (Err stop.OutOfMemory) old new = Unit {0}
HasListed bytes (Err stop.WriteFailed) old new = ListsPart bytes old new
HasListed bytes ending old new =
    (text : List ℕ) × Lists bytes ending text × (new.printed ≡ option_map (λ before. before ++ text) old.printed)

-- an ending before which nothing is printed
abbrev pub IsSilent : {T : Type 0} → Result T (Stop BadReplay) → Type 0
IsSilent (Ok value) = ⊥
IsSilent (Err stop.WriteFailed) = ⊥
IsSilent (Err why) = Unit {0}
