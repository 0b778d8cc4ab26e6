use Rattle.std.proofs.Common.{◌≡◌, ◌++◌, ◌∙◌, length, drop, ap, sym, List, ℕ, arith}
use Rattle.mps_base.specs.Record.{record_bytes}
use Rattle.mps_event.specs.Grammar.{IsRecord}
use Rattle.mps_event.specs.Reading.{size_of_record}
use Rattle.mps_log_reader.proofs.FirstRecord.{at_most_four, lies_within, length-record_bytes, is_at_front}
use Rattle.mps_cnv.proofs.conversion.convert_record.Goals as goal

pub returns-in-Ok-Some-clause-size : goal.returns-in-Ok-Some-clause-size
returns-in-Ok-Some-clause-size c =
    let r = c.in-Ok-Some.entry in
    let bytes = c.pending.result.now in
    let found : IsRecord c.args.version r × (bytes ≡ record_bytes r ++ drop (size_of_record (length r.fields)) bytes) =
    rw c.in-Ok-Some.field-0-is at c.in-Ok-Some.ensures.sound in
    let count = at_most_four c.args.version r found.0 in
    let within = lies_within r bytes (drop (size_of_record (length r.fields)) bytes) found.1 in
    let same : length bytes ≡ length c.args.input.now.pending = ap (λ (x : List ℕ). length x) c.pending.ensures in
    (omega (arith, c.size.ensures, count), omega (arith, c.size.ensures, within, same))

pub returns-in-Ok-Some-clause-gives : goal.returns-in-Ok-Some-clause-gives
returns-in-Ok-Some-clause-gives c =
    let r = c.in-Ok-Some.entry in
    let bytes = c.pending.result.now in
    let found : IsRecord c.args.version r × (bytes ≡ record_bytes r ++ drop (size_of_record (length r.fields)) bytes) =
    rw c.in-Ok-Some.field-0-is at c.in-Ok-Some.ensures.sound in (
      r,
      found.0,
      c.size.ensures ∙ sym (length-record_bytes r),
      is_at_front r bytes c.args.input.now.pending c.size.result c.pending.ensures c.size.ensures found.1,
      c.put_wanted.ensures,
    )
