use Rattle.std.proofs.Common.{append-nil}
use Rattle.mps_report.proofs.Logging.{logs_none}
use Rattle.mps_run.proofs.Records.{none_of_another}
use Rattle.mps_run.proofs.log.log_made.Goals as goal

pub returns-in-Arena-clause-logged : goal.returns-in-Arena-clause-logged
returns-in-Arena-clause-logged g c = rw c.in-Arena.is (simp append-nil c.log_record.ensures.logged)

pub returns-in-Limit-clause-logged : goal.returns-in-Limit-clause-logged
returns-in-Limit-clause-logged g c = rw c.in-Limit.is (simp append-nil c.log_record-in-Limit.ensures.logged)

pub returns-in-Pool-clause-logged : goal.returns-in-Pool-clause-logged
returns-in-Pool-clause-logged g c = rw c.in-Pool.is (rw c.kind_number.ensures at c.log_pool.ensures.logged)

pub returns-in-PoolOnChain-clause-logged : goal.returns-in-PoolOnChain-clause-logged
returns-in-PoolOnChain-clause-logged g c = rw c.in-PoolOnChain.is
    (rw c.kind_number-in-PoolOnChain.ensures at c.log_pool-in-PoolOnChain.ensures.logged)

pub returns-in-PoolMfs-clause-logged : goal.returns-in-PoolMfs-clause-logged
returns-in-PoolMfs-clause-logged g c = rw c.in-PoolMfs.is (simp append-nil c.log_pool-in-PoolMfs.ensures.logged)

pub returns-in-PoolMvff-clause-logged : goal.returns-in-PoolMvff-clause-logged
returns-in-PoolMvff-clause-logged g c = rw c.in-PoolMvff.is (simp append-nil c.log_pool-in-PoolMvff.ensures.logged)

pub returns-in-PoolFrames-clause-logged : goal.returns-in-PoolFrames-clause-logged
returns-in-PoolFrames-clause-logged g c = rw c.in-PoolFrames.is (simp append-nil c.log_pool-in-PoolFrames.ensures.logged)

pub returns-in-Arena-clause-failed : goal.returns-in-Arena-clause-failed
returns-in-Arena-clause-failed g c = rw c.in-Arena.is (simp append-nil c.log_record.ensures.failed)

pub returns-in-Limit-clause-failed : goal.returns-in-Limit-clause-failed
returns-in-Limit-clause-failed g c = rw c.in-Limit.is (simp append-nil c.log_record-in-Limit.ensures.failed)

pub returns-in-Pool-clause-failed : goal.returns-in-Pool-clause-failed
returns-in-Pool-clause-failed g c = rw c.in-Pool.is (rw c.kind_number.ensures at c.log_pool.ensures.failed)

pub returns-in-PoolOnChain-clause-failed : goal.returns-in-PoolOnChain-clause-failed
returns-in-PoolOnChain-clause-failed g c = rw c.in-PoolOnChain.is
    (rw c.kind_number-in-PoolOnChain.ensures at c.log_pool-in-PoolOnChain.ensures.failed)

pub returns-in-PoolMfs-clause-failed : goal.returns-in-PoolMfs-clause-failed
returns-in-PoolMfs-clause-failed g c = rw c.in-PoolMfs.is (simp append-nil c.log_pool-in-PoolMfs.ensures.failed)

pub returns-in-PoolMvff-clause-failed : goal.returns-in-PoolMvff-clause-failed
returns-in-PoolMvff-clause-failed g c = rw c.in-PoolMvff.is (simp append-nil c.log_pool-in-PoolMvff.ensures.failed)

pub returns-in-PoolFrames-clause-failed : goal.returns-in-PoolFrames-clause-failed
returns-in-PoolFrames-clause-failed g c = rw c.in-PoolFrames.is (simp append-nil c.log_pool-in-PoolFrames.ensures.failed)

pub returns-in_default-clause-logged : goal.returns-in_default-clause-logged
returns-in_default-clause-logged g c =
    let d = c.in_default in
    rw (none_of_another c.args.call.now c.args.pools c.args.line d.not-Arena d.not-Limit d.not-Pool d.not-PoolOnChain d.not-PoolMfs
    d.not-PoolMvff d.not-PoolFrames)
    (logs_none (g.D.Desk.outside c.args.desk.now))
