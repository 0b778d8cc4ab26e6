use Rattle.std.proofs.Common.{◌≡◌, ℕ, ◌+◌, ◌*◌, ◌∙◌, take, drop, sym, ap, arith}
use Rattle.std.proofs.lemmas.List.{take_rest}
use Rattle.byteorder.specs.Endian.{little_number}
use Rattle.mps_event.specs.Event.{field_count_of}
use Rattle.mps_event.specs.Reading.{record_in, whole_of}
use Rattle.mps_event.proofs.Records.{count_in_prefix, known_is}
use Rattle.mps_event.proofs.reading.record_of.Goals as goal

pub whole_record-requires-clause-count : goal.whole_record-requires-clause-count
whole_record-requires-clause-count c =
    let bytes = c.args.bytes.now in
    let read : c.read_u16.result ≡ little_number 2 (drop 2 bytes) = c.read_u16.ensures ∙ ap (little_number 2) (take_rest bytes 2) in
    count_in_prefix (8 + 8 * c.field_count-count.result) bytes (omega arith) ∙ sym read ∙ c.if-read_u16-count.false
    ∙ c.field_count-count.ensures

pub returns : goal.returns
returns c =
    let bytes = c.args.bytes.now in
    let read : c.read_u16.result ≡ little_number 2 (drop 2 bytes) = c.read_u16.ensures ∙ ap (little_number 2) (take_rest bytes 2) in
    let count : little_number 2 (drop 2 bytes) ≡ field_count_of c.args.event = sym read ∙ c.if-read_u16-count.false
    ∙ c.field_count-count.ensures in
    c.whole_record.ensures ∙ ap (λ (k : ℕ). whole_of c.args.event (record_in (take (8 + 8 * k) bytes))) c.field_count-count.ensures
    ∙ known_is c.args.event c.args.ended bytes count (omega (arith, c.field_count-count.ensures, c.if-bytes-size.false))
