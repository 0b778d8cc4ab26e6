use Rattle.std.proofs.Common.{rules}
use Rattle.mps_gathering.specs.Gathering.{Gathered}
use Rattle.mps_gathering.proofs.Handing.{log_held_at}
use Rattle.mps_gathering.proofs.gathering.Gathering.hold_for_log.Goals as goal

pub returns-clause-took : goal.returns-clause-took
returns-clause-took g c = λ yes.
    let now : Gathered = record {
      log = c.self.inside.log;
      out = c.self.inside.out;
      requests_unknown = c.self.inside.requests_unknown;
      in_faults = c.self.inside.in_faults;
      log_faults = c.self.inside.log_faults;
      out_faults = c.self.inside.out_faults;
    } in
    log_held_at (g.D.Desk.outside c.args.self.now.inner) (g.D.Desk.outside c.self.inside.inner) c.args.self.now.gathered
    (record now { log = c.hold.new.self })
    c.args.piece.now (search rules) (search rules) (search rules)
