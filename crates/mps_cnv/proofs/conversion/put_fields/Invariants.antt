use Rattle.std.proofs.Common.{◌≡◌, ◌≤◌, ◌+◌, ◌*◌, ◌++◌, length, take}
use Rattle.std.specs.List.{flat_map}
use Rattle.mps_log_reader.specs.RecordLine.{field_text}
use Rattle.mps_cnv.proofs.conversion.put_fields.Given as goal

abbrev pub invariant-loop-i : goal.invariant-loop-i
invariant-loop-i l = record {
  text : l.output ≡ l.initial.output ++ flat_map field_text (take l.i l.entry.fields);
  size : length l.output ≤ length l.initial.output + 17 * l.i;
}
