-- The record at the beginning of some bytes has at most four fields, and lies in them.
use Rattle.std.proofs.Common.{◌≡◌, ℕ, ◌≤◌, List, ◌++◌, length, drop, ap, arith}
use Rattle.std.proofs.lemmas.List.{length-append}
use Rattle.mps_base.specs.Record.{Record, record_bytes, fields_bytes}
use Rattle.mps_event.specs.declared.version.Version.{Version}
use Rattle.mps_event.specs.Grammar.{IsRecord}
use Rattle.mps_event.specs.Reading.{size_of_record}
use Rattle.mps_event.proofs.Records.{event_of_fields, count-le, length-fields_bytes}

pub at_most_four : (version : Version) (r : Record) → IsRecord version r → length r.fields ≤ 4
at_most_four version r h =
    let e = event_of_fields version r.code r.fields h.fields in
    omega (arith, e.count, count-le e.event)

pub length-record_bytes : (r : Record) → length (record_bytes r) ≡ size_of_record (length r.fields)
length-record_bytes r = omega (arith, length-fields_bytes r.fields)

pub lies_within : (r : Record) (pending rest : List ℕ) → pending ≡ record_bytes r ++ rest
    → size_of_record (length r.fields) ≤ length pending
lies_within r pending rest e = omega (arith, ap length e, length-append (fields_bytes r.fields) rest, length-fields_bytes r.fields)

-- the same where the bytes are equal
pub is_at_front : (r : Record) (bytes pending : List ℕ) (size : ℕ) → bytes ≡ pending → size ≡ size_of_record (length r.fields)
    → bytes ≡ record_bytes r ++ drop (size_of_record (length r.fields)) bytes → pending ≡ record_bytes r ++ drop size pending
is_at_front r bytes pending size same sized e = rw (sized, ← same) e
