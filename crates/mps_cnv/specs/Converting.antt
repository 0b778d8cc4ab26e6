-- The conversion of a log step by step.
use Rattle.std.specs.Prelude.{◌≡◌, ℕ, true, false, Option, Some, None, IfSome, Result, Ok, Err, List, [], ◌++◌, length, drop}
use Rattle.std.specs.Option.{option_map}
use Rattle.mps_base.specs.Record.{Record, record_bytes}
use Rattle.mps_event.specs.declared.version.Version.{Version}
use Rattle.mps_event.specs.Grammar.{IsRecord}
use Rattle.mps_event.specs.Reading.{first_of}
use Rattle.std.specs.List.{flat_map}
use Rattle.mps_report.specs.declared.stop.Stop.{Stop}
use Rattle.mps_report.specs.declared.stop.Stop.TheVariants as stop
use Rattle.mps_log_reader.specs.Input.{Buffered}
use Rattle.mps_log_reader.specs.PutOut.{PutsOut, PutsPart}
use Rattle.mps_log_reader.specs.declared.bad_log.BadLog.{BadLog}
use Rattle.mps_log_reader.specs.declared.bad_log.BadLog.TheVariants as bad_log
use Rattle.mps_log_reader.specs.LogPrefix.{RecordsPrefix, RecordsEnd}
use Rattle.mps_cnv.specs.Portable.{line_of_kinds}
use Rattle.mps_cnv.specs.Converted.{IsCutRecord}

-- a record at the front was converted
pub record ConvertsOne (version : Version) (kinds size : ℕ) (left left_after before after : Option (List ℕ)) : Type 0 where
  pub read : Record
  pub grammar : IsRecord version read
  pub sized : size ≡ length (record_bytes read)
  pub front : left ≡ option_map (λ rest. record_bytes read ++ rest) left_after
  pub put : PutsOut before after (line_of_kinds version kinds read)

-- what the record that is pending gave
abbrev pub PendingConverts : Version → (kinds offset : ℕ) → Buffered → (before after : List ℕ) → Result (Option ℕ) (Stop BadLog) → Type 0
PendingConverts version kinds offset b before after (Ok (Some size)) =
    (r : Record) × IsRecord version r × (size ≡ length (record_bytes r)) × (b.pending ≡ record_bytes r ++ drop size b.pending)
    × (after ≡ before ++ line_of_kinds version kinds r)
PendingConverts version kinds offset b before after (Ok None) =
    (first_of version b.ended b.pending ≡ Ok None) × (b.failed ≡ false) × (after ≡ before)
PendingConverts version kinds offset b before after (Err (stop.Bad (bad_log.Record at fault))) =
    (at ≡ offset) × (first_of version b.ended b.pending ≡ Err fault) × (after ≡ before)
PendingConverts version kinds offset b before after (Err stop.ReadFailed) = Unit {0}
PendingConverts version kinds offset b before after result = ⊥

-- what the next record gave, of what was left
abbrev pub NextConverts : Version → (kinds offset : ℕ) → (left left_after before after : Option (List ℕ)) → Result (Option ℕ) (Stop BadLog)
    → Type 0
NextConverts version kinds offset left left_after before after (Ok (Some size)) =
    ConvertsOne version kinds size left left_after before after
NextConverts version kinds offset left left_after before after (Ok None) =
    IfSome left (λ bytes. bytes ≡ []) × (after ≡ before)
NextConverts version kinds offset left left_after before after (Err (stop.Bad (bad_log.Record at fault))) =
    (at ≡ offset) × IfSome left (λ bytes. first_of version true bytes ≡ Err fault) × (after ≡ before)
NextConverts version kinds offset left left_after before after (Err stop.ReadFailed) = Unit {0}
NextConverts version kinds offset left left_after before after (Err stop.WriteFailed) = Unit {0}
NextConverts version kinds offset left left_after before after result = ⊥

-- the lines of these records were put out
abbrev pub PutsLines : {version : Version} {bytes : List ℕ} → (kinds : ℕ) → RecordsPrefix version bytes → (before after : Option (List ℕ))
    → Type 0
PutsLines {version = version} kinds prefix before after = PutsOut before after (flat_map (line_of_kinds version kinds) prefix.records)

-- the records of what was left were converted, up to a rest
pub record ConvertsAll (version : Version) (kinds : ℕ) (bytes : List ℕ) (before after : Option (List ℕ))
    (ending : Result (Unit {0}) (Stop BadLog)) : Type 0 where
  pub prefix : RecordsPrefix version bytes
  pub ends_at : RecordsEnd prefix ending
  pub put : PutsLines kinds prefix before after

-- the whole records of what was left were converted before a read failed
pub record ConvertsFront (version : Version) (kinds : ℕ) (bytes : List ℕ) (unread before after : Option (List ℕ)) : Type 0 where
  pub prefix : RecordsPrefix version bytes
  pub cut : IsCutRecord version prefix.rest unread
  pub put : PutsLines kinds prefix before after

-- records at a prefix of what was left were converted, and a prefix of their lines, after what was gathered, was printed
pub record ConvertsPart (version : Version) (kinds : ℕ) (bytes : List ℕ) (gathered : List ℕ) (old new : Option (List ℕ)) : Type 0 where
  pub prefix : RecordsPrefix version bytes
  pub part : PutsPart old new (gathered ++ flat_map (line_of_kinds version kinds) prefix.records)

-- the same of every ending
abbrev pub AllGive : Version → (kinds : ℕ) → (bytes : List ℕ) → (before after : Option (List ℕ)) → Result (Unit {0}) (Stop BadLog) → Type 0
AllGive version kinds bytes before after (Err stop.ReadFailed) = Unit {0}
AllGive version kinds bytes before after (Err stop.WriteFailed) = Unit {0}
AllGive version kinds bytes before after ending = ConvertsAll version kinds bytes before after ending
