use Rattle.std.proofs.Common.{rules, refl}
use Rattle.mps_gathering.specs.Gathering.{Gathered, outside_with}
use Rattle.mps_gathering.proofs.Names.{hands_to, made, elsewhere}
use Rattle.mps_gathering.proofs.gathering.Gathering.create_settled.Goals as goal

pub returns-clause-made : goal.returns-clause-made
returns-clause-made g c = λ yes.
    let now : Gathered = record {
      log = c.self.inside.log;
      out = c.self.inside.out;
      requests_unknown = c.self.inside.requests_unknown;
      in_faults = c.self.inside.in_faults;
      log_faults = c.self.inside.log_faults;
      out_faults = c.self.inside.out_faults;
    } in
    made (outside_with (g.D.Desk.outside c.args.self.now.inner) c.args.self.now.gathered)
    (g.D.Desk.outside c.self.inside.inner) (g.D.Desk.outside c.create.new.self)
    now
    now
    c.args.name.now
    (hands_to _ (outside_with (g.D.Desk.outside c.write_log.new.self.inner) c.write_log.new.self.gathered) _
    c.if-not-write_log.ensures.kept (search rules))
    (search rules) refl (search rules)

pub returns-clause-elsewhere : goal.returns-clause-elsewhere
returns-clause-elsewhere g c =
    let now : Gathered = record {
      log = c.self.inside.log;
      out = c.self.inside.out;
      requests_unknown = c.self.inside.requests_unknown;
      in_faults = c.self.inside.in_faults;
      log_faults = c.self.inside.log_faults;
      out_faults = c.self.inside.out_faults;
    } in
    elsewhere (outside_with (g.D.Desk.outside c.args.self.now.inner) c.args.self.now.gathered)
    (g.D.Desk.outside c.self.inside.inner) (g.D.Desk.outside c.create.new.self)
    now
    now
    c.args.name.now
    (hands_to _ (outside_with (g.D.Desk.outside c.write_log.new.self.inner) c.write_log.new.self.gathered) _
    c.if-not-write_log.ensures.kept (search rules))
    (search rules) refl (λ other. g.met.D.Desk.text_of_files c.self.inside.inner other)
    (λ other. g.met.D.Desk.text_of_files c.create.new.self other)
    c.create.ensures.elsewhere
