-- The replay of a log step by step.
use Rattle.std.specs.Prelude.{◌≡◌, ℕ, ◌+◌, true, false, Option, Some, None, IfSome, Result, Ok, Err, List, [], ◌++◌, length, drop}
use Rattle.std.specs.Option.{option_map}
use Rattle.mps_base.specs.Record.{Record, record_bytes, records_bytes}
use Rattle.mps_event.specs.declared.version.Version.{Version}
use Rattle.mps_event.specs.Grammar.{IsRecord}
use Rattle.mps_event.specs.Reading.{first_of}
use Rattle.mps_report.specs.declared.stop.Stop.{Stop}
use Rattle.mps_report.specs.declared.stop.Stop.TheVariants as stop
use Rattle.mps_log_reader.specs.declared.bad_log.BadLog.TheVariants as bad_log
use Rattle.mps_log_reader.specs.Input.{Buffered}
use Rattle.mps_log_reader.specs.LogPrefix.{RecordsPrefix}
use Rattle.mps_log_reader.specs.Opening.{HasNoHeader}
use Rattle.mps_blocks.specs.declared.bad_replay.BadReplay.{BadReplay}
use Rattle.mps_blocks.specs.declared.bad_replay.BadReplay.TheVariants as bad_replay
use Rattle.mps_blocks.specs.declared.replay.ReplayFault.{ReplayFault}
use Rattle.mps_blocks.specs.declared.replay.ReplayFault.TheVariants as fault
use Rattle.mps_model.specs.Replayed.{State, replayed_after, replayed_from}
use Rattle.mps_blocks.specs.Ending.{IsBadReplay, StopsAt, Replays}

-- what a record gave: what it is to give, or a bad replay where it is to give none
abbrev pub Gives : {T : Type 0} → (due : Option T) → (new : T) → Result (Unit {0}) ReplayFault → Type 0
Gives due new (Ok value) = due ≡ Some new
Gives due new (Err fault.BadReplay) = due ≡ None
Gives due new (Err fault.OutOfMemory) = Unit {0}

-- a record at the front was replayed
pub record ReplaysOne (version : Version) (size : ℕ) (left left_after : Option (List ℕ)) (old new : State) : Type 0 where
  pub read : Record
  pub grammar : IsRecord version read
  pub sized : size ≡ length (record_bytes read)
  pub front : left ≡ option_map (λ rest. record_bytes read ++ rest) left_after
  pub replay : replayed_after old read ≡ Some new

-- what the record that is pending gave
abbrev pub PendingReplays : Version → (offset : ℕ) → Buffered → (old new : State) → Result (Option ℕ) (Stop BadReplay) → Type 0
PendingReplays version offset b old new (Ok (Some size)) =
    (r : Record) × IsRecord version r × (size ≡ length (record_bytes r)) × (b.pending ≡ record_bytes r ++ drop size b.pending)
    × (replayed_after old r ≡ Some new)
PendingReplays version offset b old new (Ok None) =
    (first_of version b.ended b.pending ≡ Ok None) × (b.failed ≡ false) × (new ≡ old)
PendingReplays version offset b old new (Err (stop.Bad (bad_replay.Log (bad_log.Record at fault)))) =
    (at ≡ offset) × (first_of version b.ended b.pending ≡ Err fault)
PendingReplays version offset b old new (Err (stop.Bad (bad_replay.Replay at))) =
    (at ≡ offset) × IsBadReplay version old b.pending
PendingReplays version offset b old new (Err stop.ReadFailed) = Unit {0}
PendingReplays version offset b old new (Err stop.OutOfMemory) = Unit {0}
PendingReplays version offset b old new result = ⊥

-- what the next record gave, of what was left
abbrev pub NextReplays : Version → (offset : ℕ) → (left left_after : Option (List ℕ)) → (old new : State)
    → Result (Option ℕ) (Stop BadReplay) → Type 0
NextReplays version offset left left_after old new (Ok (Some size)) = ReplaysOne version size left left_after old new
NextReplays version offset left left_after old new (Ok None) = IfSome left (λ bytes. bytes ≡ []) × (new ≡ old)
NextReplays version offset left left_after old new (Err (stop.Bad (bad_replay.Log (bad_log.Record at fault)))) =
    (at ≡ offset) × IfSome left (λ bytes. first_of version true bytes ≡ Err fault)
NextReplays version offset left left_after old new (Err (stop.Bad (bad_replay.Replay at))) =
    (at ≡ offset) × IfSome left (λ bytes. IsBadReplay version old bytes)
NextReplays version offset left left_after old new (Err stop.ReadFailed) = Unit {0}
NextReplays version offset left left_after old new (Err stop.OutOfMemory) = Unit {0}
NextReplays version offset left left_after old new result = ⊥

-- the records of what was left were replayed, up to a rest
pub record ReplaysAll (version : Version) (bytes : List ℕ) (old : State) (ending : Result (Unit {0}) (Stop BadReplay)) : Type 0 where
  pub prefix : RecordsPrefix version bytes
  pub state : State
  pub replay : replayed_from old prefix.records ≡ Some state
  pub ends_at : StopsAt version state ending (length prefix.records) (8 + length (records_bytes prefix.records)) prefix.rest

-- the same of every ending
abbrev pub AllReplay : Version → (bytes : List ℕ) → (old new : State) → Result (Unit {0}) (Stop BadReplay) → Type 0
AllReplay version bytes old new (Ok value) = (all : ReplaysAll version bytes old (Ok value)) × (all.state ≡ new)
AllReplay version bytes old new (Err stop.ReadFailed) = Unit {0}
AllReplay version bytes old new (Err stop.OutOfMemory) = Unit {0}
AllReplay version bytes old new (Err why) = ReplaysAll version bytes old (Err why)

-- a log of these bytes was replayed from its header on
abbrev pub HasReplayed : (bytes : List ℕ) → Result State (Stop BadReplay) → Type 0
HasReplayed bytes (Ok state) = (whole : Replays bytes (Ok tt)) × (whole.state ≡ state)
HasReplayed bytes (Err (stop.Bad (bad_replay.Log bad_log.Header))) = HasNoHeader bytes
HasReplayed bytes (Err stop.ReadFailed) = Unit {0}
HasReplayed bytes (Err stop.OutOfMemory) = Unit {0}
HasReplayed bytes (Err why) = Replays bytes (Err why)
