-- What the readers make of the log of a run.
use Rattle.std.specs.Prelude.{ℕ, ◌≡◌, ◌≢◌, ◌<◌, ◌≤◌, Some, List, length}
use Rattle.mps_desk.specs.Desk.{Outside}
use Rattle.mps_event.specs.declared.version.Version.TheVariants.{Two}
use Rattle.mps_model.specs.Step.{History}
use Rattle.mps_model.specs.Log.{log_bytes, written_log}
use Rattle.mps_model.specs.History.{live_blocks, world_after_history}
use Rattle.mps_args.specs.Kinds.{all_kinds}
use Rattle.mps_args.specs.Meaning.{Converts, Lists, Reads}
use Rattle.mps_report.specs.Streams.{appended}
use Rattle.mps_run.specs.Ending.{NoFaultRose}
use Rattle.mps_run.specs.LogReaderEnding.{max_records}
use Rattle.mps_tools.specs.Listing.{listing}
use Rattle.mps_tools.specs.Portable.{portable}
use Rattle.mps_tools.specs.Text.{readable_text}
use Rattle.mps_program.specs.Asked.{DoesAsAsked}

-- `blocks` printed the blocks that live after a history, with their sizes and pools
pub record ListsLiveBlocks (history : History) (status : ℕ) (old new : Outside) : Type 0 where
  pub status_is : status ≡ 0
  pub printed : new.printed ≡ appended old.printed (listing (live_blocks (world_after_history history)))

-- `cnv` printed the portable text of a history's records of these kinds
pub record ConvertsRecords (kinds : ℕ) (history : History) (status : ℕ) (old new : Outside) : Type 0 where
  pub status_is : status ≡ 0
  pub printed : new.printed ≡ appended old.printed (portable Two kinds (written_log history))

-- `txt` printed the readable text of a history's records
pub record ReadsRecords (history : History) (status : ℕ) (old new : Outside) : Type 0 where
  pub status_is : status ≡ 0
  pub printed : new.printed ≡ appended old.printed (readable_text Two (written_log history))

-- The readers read the log of this history to its end, and the text of that log, on any desk that has it, without a fault and with
-- memory. A log of more records than 32 bits count is too long for them, and its text has one line more.
pub record IsReadBack (history : History) : Type 0 where
  pub listed : length (written_log history) ≤ max_records → (log : List ℕ) (status : ℕ) (old new : Outside)
      → old.text log ≡ Some (log_bytes history) → NoFaultRose old new → status ≢ 8
      → DoesAsAsked (Some (Lists log)) status old new → ListsLiveBlocks history status old new
  pub converted : length (written_log history) ≤ max_records → (log : List ℕ) (kinds status : ℕ) (old new : Outside)
      → old.text log ≡ Some (log_bytes history) → NoFaultRose old new → status ≢ 8
      → DoesAsAsked (Some (Converts log kinds)) status old new → ConvertsRecords kinds history status old new
  pub read : length (written_log history) < max_records → (text : List ℕ) (status : ℕ) (old new : Outside)
      → old.text text ≡ Some (portable Two all_kinds (written_log history)) → NoFaultRose old new → status ≢ 8
      → DoesAsAsked (Some (Reads text)) status old new → ReadsRecords history status old new
