use Rattle.std.proofs.Common.{arith}
use Rattle.mps_event.proofs.Written.{next_field}
use Rattle.mps_event.proofs.writing.put_fields.Goals as goal

pub loop-field-preserved : goal.loop-field-preserved
loop-field-preserved c =
    let i = c.loop-field.invariant in (
      omega (arith, i.0),
      next_field c.args.fields.now c.args.out.now c.loop-field.out c.write_u64.new.buf c.loop-field.field-index c.loop-field.at
          c.loop-field-test.true i.0 i.1 c.write_u64.ensures,
    )
