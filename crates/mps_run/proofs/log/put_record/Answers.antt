use Rattle.std.proofs.Common.{◌≤◌, length, arith}
use Rattle.std.proofs.lemmas.Grind.{common_steps}
use Rattle.mps_run.proofs.RecordBytes.{prefix_is_record}
use Rattle.mps_run.proofs.log.put_record.Goals as goal

pub returns-clause-written : goal.returns-clause-written
returns-clause-written c =
    let fits : c.put.result ≤ length c.args.bytes.now = grind (arith, common_steps, c.put.ensures.size) in
    rw (← c.code.ensures)
    (prefix_is_record (record { line = c.args.line; code = c.code.result; fields = c.args.fields.now }) c.put.result
    c.put.new.out c.args.bytes.now (grind (arith, common_steps)) fits c.put.ensures.bytes)
