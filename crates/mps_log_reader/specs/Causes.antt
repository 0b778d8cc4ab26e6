-- The causes of a reader's stop, and what its status says of the outside.
use Rattle.std.specs.Prelude.{◌≡◌, ◌≢◌, ℕ, ◌⊎◌, true, false, Result, Ok, Err, List, [], ◌∷◌}
use Rattle.mps_desk.specs.Desk.{Outside, HasRisen, IsSteady, NothingWaits, Asks, opening}
use Rattle.mps_report.specs.declared.stop.Stop.{Stop}
use Rattle.mps_report.specs.declared.stop.Stop.TheVariants as stop
use Rattle.mps_report.specs.Causes.{CauseOf}
use Rattle.mps_report.specs.Streams.{LeavesLogAlone}
use Rattle.mps_log_reader.specs.Input.{Buffered}
use Rattle.mps_log_reader.specs.Ending.{is_input_verdict}

-- a read failed before, or the count of such faults rose since
abbrev pub IsFaulty : (old new : Outside) → Buffered → Type 0
IsFaulty old new before = (before.failed ≡ true) ⊎ HasRisen old.in_faults new.in_faults

-- the cause of the stop of a reader, which writes no log
abbrev pub CauseOfReader : {E : Type 0} → (old new : Outside) → Stop E → Type 0
CauseOfReader old new stop.LogFailed = ⊥
CauseOfReader old new why = CauseOf old new why

-- an ending and its cause
abbrev pub IsCaused : {T E : Type 0} → (old new : Outside) → Result T (Stop E) → Type 0
IsCaused old new (Ok value) = Unit {0}
IsCaused old new (Err why) = CauseOfReader old new why

-- the same of what happens after an input was opened, with what was read before
abbrev pub CauseFrom : {E : Type 0} → (old new : Outside) → Buffered → Stop E → Type 0
CauseFrom old new before stop.ReadFailed = IsFaulty old new before
CauseFrom old new before why = CauseOfReader old new why

abbrev pub IsCausedFrom : {T E : Type 0} → (old new : Outside) → Buffered → Result T (Stop E) → Type 0
IsCausedFrom old new before (Ok value) = Unit {0}
IsCausedFrom old new before (Err why) = CauseFrom old new before why

-- no write of what is printed failed, and where nothing waited to be written, nothing does now
pub record PrintsSafely (old new : Outside) : Type 0 where
  pub steady : new.out_faults ≡ old.out_faults
  pub written : NothingWaits old → NothingWaits new

-- that holds, unless the ending says that a write failed, or a read had failed before
abbrev pub KeepsPrinting : {T E : Type 0} → (old new : Outside) → Result T (Stop E) → Type 0
KeepsPrinting old new (Err stop.WriteFailed) = Unit {0}
KeepsPrinting old new (Err stop.ReadFailed) = Unit {0}
KeepsPrinting old new ending = PrintsSafely old new

-- some work on an input: what it did to the outside, and why it stopped, if it did
pub record WorksOnInput {T E : Type 0} (old new : Outside) (before after : Buffered) (result : Result T (Stop E)) : Type 0 where
  pub runs : LeavesLogAlone old new
  pub fault : after.failed ≡ true → IsFaulty old new before
  pub cause : IsCausedFrom old new before result
  -- nothing was asked for by name
  pub asked : new.asked ≡ old.asked
  -- where no read failed so far, none failed meanwhile
  pub steady : after.failed ≡ false → (before.failed ≡ false) × (new.in_faults ≡ old.in_faults)
  pub printing : KeepsPrinting old new result

-- the input of this name was asked for, once, and nothing else; nothing at all only where memory had run out before
abbrev pub AsksForInput : {T E : Type 0} → (name : List ℕ) → (old new : Outside) → Result T (Stop E) → Type 0
AsksForInput name old new (Err stop.OutOfMemory) = Asks old new [] ⊎ Asks old new (opening name ∷ [])
AsksForInput name old new ending = Asks old new (opening name ∷ [])

-- the same by the status
pub record AsksWith (name : List ℕ) (old new : Outside) (status : ℕ) : Type 0 where
  pub whole : status ≢ 8 → Asks old new (opening name ∷ [])
  pub at_most : Asks old new [] ⊎ Asks old new (opening name ∷ [])

-- a step over what is pending blames only a read that failed before it
abbrev pub StopIsJustified : {T E : Type 0} → Buffered → Result T (Stop E) → Type 0
StopIsJustified b (Err stop.ReadFailed) = b.failed ≡ true
StopIsJustified b (Err stop.WriteFailed) = ⊥
StopIsJustified b (Err stop.LogFailed) = ⊥
StopIsJustified b result = Unit {0}

-- the statuses of a tool that reads
abbrev pub IsStatus : ℕ → Type 0
IsStatus status = (status ≡ 0) ⊎ (status ≡ 3) ⊎ (status ≡ 4) ⊎ (status ≡ 6) ⊎ (status ≡ 7) ⊎ (status ≡ 8)

-- what holds of the outside with a status
pub record StatusIsJustified (old new : Outside) (status : ℕ) : Type 0 where
  pub known : IsStatus status
  pub read_fault : status ≡ 3 → HasRisen old.in_faults new.in_faults
  pub write_fault : status ≡ 4 → HasRisen old.out_faults new.out_faults
  pub runs : LeavesLogAlone old new
  -- with status 0 no call failed but those that report
  pub steady : status ≡ 0 → IsSteady old new
  -- with 6 and 7 too no write failed; but a read may have, of what comes after the bad place
  pub printing : is_input_verdict status ≡ true → new.out_faults ≡ old.out_faults
  -- and all that was printed is written, where nothing waited before
  pub written : is_input_verdict status ≡ true → NothingWaits old → NothingWaits new
