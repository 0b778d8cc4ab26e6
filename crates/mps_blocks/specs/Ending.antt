-- Where the replay of a log ends.
use Rattle.std.specs.Prelude.{◌≡◌, ℕ, ◌<◌, true, Some, None, Result, Ok, Err, List, [], ◌++◌, length}
use Rattle.mps_base.specs.Record.{Record, record_bytes}
use Rattle.mps_event.specs.declared.version.Version.{Version}
use Rattle.mps_event.specs.Grammar.{IsRecord, log_bytes}
use Rattle.mps_event.specs.Reading.{first_of}
use Rattle.mps_report.specs.declared.stop.Stop.{Stop}
use Rattle.mps_report.specs.declared.stop.Stop.TheVariants as stop
use Rattle.mps_log_reader.specs.declared.bad_log.BadLog.TheVariants as bad_log
use Rattle.mps_log_reader.specs.Ending.{max_records}
use Rattle.mps_log_reader.specs.LogPrefix.{LogPrefix}
use Rattle.mps_blocks.specs.declared.bad_replay.BadReplay.{BadReplay}
use Rattle.mps_blocks.specs.declared.bad_replay.BadReplay.TheVariants as bad_replay
use Rattle.mps_model.specs.Replayed.{State, replayed_after, replayed}

-- the rest begins with a record of the grammar, and it is a bad replay
pub record IsBadReplay (version : Version) (state : State) (rest : List ℕ) : Type 0 where
  pub bad : Record
  pub others : List ℕ
  pub grammar : IsRecord version bad
  pub front : rest ≡ record_bytes bad ++ others
  pub refused : replayed_after state bad ≡ None

-- why the replay ends after n records, which gave this state, at this offset, before this rest: nothing is left, or the
-- first record of the rest is wrong or a bad replay, or there are as many records as 32 bits count, and more
abbrev pub StopsAt : Version → State → Result (Unit {0}) (Stop BadReplay) → (count offset : ℕ) → (rest : List ℕ) → Type 0
StopsAt version state (Ok value) count offset rest = rest ≡ []
StopsAt version state (Err (stop.Bad (bad_replay.Log (bad_log.Record at fault)))) count offset rest =
    (at ≡ offset) × (first_of version true rest ≡ Err fault) × (count < max_records)
StopsAt version state (Err (stop.Bad (bad_replay.Replay at))) count offset rest =
    (at ≡ offset) × IsBadReplay version state rest × (count < max_records)
StopsAt version state (Err stop.TooLong) count offset rest = (count ≡ max_records) × (0 < length rest)
StopsAt version state ending count offset rest = ⊥

-- the records of a prefix of a log can be replayed, and the replay ends at its rest
pub record Replays (bytes : List ℕ) (ending : Result (Unit {0}) (Stop BadReplay)) : Type 0 where
  pub prefix : LogPrefix bytes
  pub state : State
  pub replay : replayed prefix.records ≡ Some state
  pub ends_at : StopsAt prefix.version state ending (length prefix.records) (length (log_bytes prefix.version prefix.records)) prefix.rest
