use Rattle.std.proofs.Common.{◌≡◌, length, drop, ap, sym, ◌∙◌, arith}
use Rattle.byteorder.specs.Endian.{little_number}
use Rattle.mps_base.specs.Record.{Record}
use Rattle.std.proofs.lemmas.Grind.{common_steps}
use Rattle.mps_event.proofs.Fields.{length-fields_in, field_at}
use Rattle.mps_event.proofs.record.RecordRef.field.Goals as goal

pub slice_bounds-read_u64-count : goal.slice_bounds-read_u64-count
slice_bounds-read_u64-count c = grind (arith, common_steps, length-fields_in)

pub slice_bounds-read_u64-start : goal.slice_bounds-read_u64-start
slice_bounds-read_u64-start c = grind (arith, common_steps, length-fields_in)

pub read_u64-requires : goal.read_u64-requires
read_u64-requires c = grind (arith, common_steps, length-fields_in)

pub returns : goal.returns
returns c =
    let bytes = c.self.inside.bytes.now in
    let n = little_number 2 (drop 2 bytes) in
    let count : length c.args.self.now.fields ≡ n = ap (λ (r : Record). length r.fields) (sym c.self.view_is)
    ∙ length-fields_in n (drop 8 bytes) in
    rw (← c.self.view_is) (field_at bytes n c.args.i c.read_u64.result (omega (arith, count)) c.self.invariant c.read_u64.ensures)
