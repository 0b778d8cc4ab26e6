use Rattle.mps_report.proofs.Logging.{logs_none}
use Rattle.mps_run.proofs.Records.{none_of_another}
use Rattle.mps_run.proofs.log.log_accepted.Goals as goal

pub returns-in_default-clause-logged : goal.returns-in_default-clause-logged
returns-in_default-clause-logged g c =
    let d = c.in_default in
    rw (none_of_another c.args.call.now c.args.pools c.args.line d.not-Arena d.not-Limit d.not-Pool d.not-PoolOnChain d.not-PoolMfs
    d.not-PoolMvff d.not-PoolFrames)
    (logs_none (g.D.Desk.outside c.args.desk.now))
