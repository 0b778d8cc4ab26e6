use Rattle.std.proofs.Common.{rules, refl, take}
use Rattle.mps_gathering.specs.Gathering.{Gathered, outside_with}
use Rattle.mps_gathering.proofs.Handing.{log_took_then, log_refused_then}
use Rattle.mps_gathering.proofs.gathering.Gathering.take_for_log.Goals as goal

pub returns-in-Ok-clause-took : goal.returns-in-Ok-clause-took
returns-in-Ok-clause-took g c =
    let now : Gathered = record {
      log = c.self.inside.log;
      out = c.self.inside.out;
      requests_unknown = c.self.inside.requests_unknown;
      in_faults = c.self.inside.in_faults;
      log_faults = c.self.inside.log_faults;
      out_faults = c.self.inside.out_faults;
    } in
    log_took_then (outside_with (g.D.Desk.outside c.args.self.now.inner) c.args.self.now.gathered)
    (outside_with (g.D.Desk.outside c.write_log.new.self.inner) c.write_log.new.self.gathered)
    (g.D.Desk.outside c.self.inside.inner) (g.D.Desk.outside c.log.new.self)
    now
    now
    (take c.in-Ok.count c.args.piece.now) c.if-not-write_log.ensures.kept (search rules) (record {
      logged = c.in-Ok.ensures.logged;
      filed = c.in-Ok.ensures.filed;
      text = c.in-Ok.ensures.text;
      steady = c.in-Ok.ensures.steady;
      others = c.in-Ok.ensures.others;
    }) (search rules) refl

pub returns-in-Err-clause-refused : goal.returns-in-Err-clause-refused
returns-in-Err-clause-refused g c =
    let now : Gathered = record {
      log = c.self.inside.log;
      out = c.self.inside.out;
      requests_unknown = c.self.inside.requests_unknown;
      in_faults = c.self.inside.in_faults;
      log_faults = c.self.inside.log_faults;
      out_faults = c.self.inside.out_faults;
    } in
    log_refused_then (outside_with (g.D.Desk.outside c.args.self.now.inner) c.args.self.now.gathered)
    (outside_with (g.D.Desk.outside c.write_log.new.self.inner) c.write_log.new.self.gathered)
    (g.D.Desk.outside c.self.inside.inner) (g.D.Desk.outside c.log.new.self)
    now
    (record now { log = c.fail.new.self })
    c.if-not-write_log.ensures.kept (search rules) (search rules) (search rules) (search rules) (search rules) (search rules) refl
