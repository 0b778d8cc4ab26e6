use Rattle.std.proofs.Common.{◌≡◌, ◌*◌, ◌++◌, take, drop}
use Rattle.mps_base.specs.Record.{fields_bytes}
use Rattle.mps_event.proofs.writing.put_fields.Given as goal

abbrev pub invariant-loop-field : goal.invariant-loop-field
invariant-loop-field l = (l.at ≡ 8 * l.field-index)
    × (l.out ≡ fields_bytes (take l.field-index l.fields) ++ drop (8 * l.field-index) l.initial.out)
