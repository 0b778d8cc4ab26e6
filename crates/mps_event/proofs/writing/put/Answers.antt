use Rattle.std.proofs.Common.{◌*◌, ◌++◌, length, refl}
use Rattle.mps_base.specs.Record.{number_bytes, fields_bytes}
use Rattle.mps_event.proofs.Records.{length-fields_bytes}
use Rattle.mps_event.proofs.Written.{write_more}
use Rattle.mps_event.proofs.writing.put.Goals as goal

pub returns-clause-bytes : goal.returns-clause-bytes
returns-clause-bytes c =
    let old = c.args.out.now in
    let code = number_bytes 2 c.args.code in
    let count = number_bytes 2 (length c.args.fields.now) in
    let line = number_bytes 4 c.args.line in
    let fields = c.args.fields.now in
    let second = write_more code count old c.write_u16.new.buf c.write_u16-2.new.buf 2 2 refl refl c.write_u16.ensures
    c.write_u16-2.ensures in
    let third = write_more (code ++ count) line old _ c.write_u32.new.buf 4 4 refl refl second c.write_u32.ensures in
    write_more (code ++ count ++ line) (fields_bytes fields) old _ c.put_fields.new.out 8 (8 * length fields) refl
    (length-fields_bytes fields) third c.put_fields.ensures
