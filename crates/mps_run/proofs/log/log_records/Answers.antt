use Rattle.mps_run.proofs.Records.{at_error, ok_then, error_then}
use Rattle.mps_run.proofs.Pieces.{logs_all, part_in_moves, part_in_own}
use Rattle.mps_run.proofs.log.log_records.Goals as goal

pub returns-in_err-log_moves-clause-failed : goal.returns-in_err-log_moves-clause-failed
returns-in_err-log_moves-clause-failed g c =
    at_error c.from_residual.result
    (part_in_moves c.args.line c.args.pools c.args.moves.now c.args.call.now c.args.reply.now (g.D.Desk.outside c.args.desk.now)
    (g.D.Desk.outside c.log_moves.new.desk) (g.D.Desk.outside c.log_moves.new.desk) c.in_err-log_moves.ensures.failed)

pub returns-clause-logged : goal.returns-clause-logged
returns-clause-logged g c =
    ok_then c.log_command.result c.log_command.ensures.logged
    (logs_all c.args.line c.args.pools c.args.moves.now c.args.call.now c.args.reply.now (g.D.Desk.outside c.args.desk.now)
    (g.D.Desk.outside c.log_moves.new.desk) (g.D.Desk.outside c.log_command.new.desk) c.in_ok-log_moves.ensures.logged)

pub returns-clause-failed : goal.returns-clause-failed
returns-clause-failed g c =
    error_then c.log_command.result c.log_command.ensures.failed
    (part_in_own c.args.line c.args.pools c.args.moves.now c.args.call.now c.args.reply.now (g.D.Desk.outside c.args.desk.now)
    (g.D.Desk.outside c.log_moves.new.desk) (g.D.Desk.outside c.log_command.new.desk) c.in_ok-log_moves.ensures.logged)
