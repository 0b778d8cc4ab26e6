use Rattle.std.proofs.Common.{rules}
use Rattle.mps_gathering.proofs.Settled.{taken_out_has_all}
use Rattle.mps_gathering.proofs.gathering.Gathering.into_inner.Goals as goal

pub returns-clause-all : goal.returns-clause-all
returns-clause-all g c =
    taken_out_has_all (g.D.Desk.outside c.args.self.inner) (g.D.Desk.outside c.self.inside.inner) c.args.self.gathered (search rules)
