use Rattle.std.proofs.Common.{rules}
use Rattle.mps_gathering.specs.Gathering.{Gathered}
use Rattle.mps_gathering.proofs.Handing.{log_counted_on}
use Rattle.mps_gathering.proofs.gathering.Gathering.write_log.Goals as goal

pub returns-clause-kept : goal.returns-clause-kept
returns-clause-kept g c =
    let now : Gathered = record {
      log = c.self.inside.log;
      out = c.self.inside.out;
      requests_unknown = c.self.inside.requests_unknown;
      in_faults = c.self.inside.in_faults;
      log_faults = c.self.inside.log_faults;
      out_faults = c.self.inside.out_faults;
    } in
    log_counted_on (g.D.Desk.outside c.args.self.now.inner) (g.D.Desk.outside c.log_prefix-count.new.desk) c.args.self.now.gathered
    (record now { log = c.hand_on.new.self })
    c.log_prefix-count.result (search rules) (search rules) (search rules) (search rules)
