use Rattle.mps_report.proofs.Logging.{logs_none}
use Rattle.mps_run.proofs.Records.{accepted_alone, none_of_other}
use Rattle.mps_run.proofs.log.log_command.Goals as goal

pub returns-in-Ok-clause-logged : goal.returns-in-Ok-clause-logged
returns-in-Ok-clause-logged g c =
    rw (c.in-Ok.is, accepted_alone c.args.call.now c.args.pools c.args.line) c.log_accepted.ensures.logged

pub returns-in-Ok-clause-failed : goal.returns-in-Ok-clause-failed
returns-in-Ok-clause-failed g c =
    rw (c.in-Ok.is, accepted_alone c.args.call.now c.args.pools c.args.line) c.log_accepted.ensures.failed

pub returns-in-Ok-clause-recorded : goal.returns-in-Ok-clause-recorded
returns-in-Ok-clause-recorded g c =
    rw (c.in-Ok.is, accepted_alone c.args.call.now c.args.pools c.args.line) c.log_accepted.ensures.recorded

pub returns-in_default-clause-logged : goal.returns-in_default-clause-logged
returns-in_default-clause-logged g c =
    rw (none_of_other c.args.reply.now c.args.call.now c.args.pools c.args.line c.in_default.not-Ok c.in_default.not-Interned
    c.in_default.not-Labelled)
    (logs_none (g.D.Desk.outside c.args.desk.now))
