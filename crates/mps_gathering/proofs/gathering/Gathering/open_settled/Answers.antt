use Rattle.std.proofs.Common.{rules}
use Rattle.mps_gathering.specs.Gathering.{Gathered, outside_with}
use Rattle.mps_gathering.proofs.Names.{hands_to, opened}
use Rattle.mps_gathering.proofs.gathering.Gathering.open_settled.Goals as goal

pub returns-clause-input : goal.returns-clause-input
returns-clause-input g c = λ yes.
    let now : Gathered = record {
      log = c.self.inside.log;
      out = c.self.inside.out;
      requests_unknown = c.self.inside.requests_unknown;
      in_faults = c.self.inside.in_faults;
      log_faults = c.self.inside.log_faults;
      out_faults = c.self.inside.out_faults;
    } in
    opened (outside_with (g.D.Desk.outside c.args.self.now.inner) c.args.self.now.gathered)
    (g.D.Desk.outside c.self.inside.inner) (g.D.Desk.outside c.open.new.self)
    now
    now
    c.args.name.now
    (hands_to _ (outside_with (g.D.Desk.outside c.write_log.new.self.inner) c.write_log.new.self.gathered) _
    c.if-not-write_log.ensures.kept (search rules))
    (search rules) (g.met.D.Desk.text_of_files c.self.inside.inner c.args.name.now) (search rules)
