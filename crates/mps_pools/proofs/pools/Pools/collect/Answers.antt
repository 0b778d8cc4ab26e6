use Rattle.std.proofs.Common.{refl}
use Rattle.mps_pools.proofs.Collecting.{can_trace, are_collected, are_flipped}
use Rattle.mps_pools.proofs.Rows.{collected}
use Rattle.mps_pools.proofs.Sound.{are_still_sound}
use Rattle.mps_pools.proofs.pools.Pools.collect.Goals as goal

pub collect-requires-clause-can : goal.collect-requires-clause-can
collect-requires-clause-can g c =
    can_trace g.F.Format.layout _ c.args.self.now c.self.view_is c.self.inside.trace refl c.self.invariant.trace c.args.points.now
    c.args.roots.now c.args.finals.now c.args.segs.now c.args.trail.now c.args.most c.requires.can

pub invariant_of-self : goal.invariant_of-self
invariant_of-self g c =
    are_still_sound c.self.inside.pools.items c.self.inside.generations.items c.self.inside.trace c.collect.new.self c.self.invariant
    c.collect.ensures.unchanged
    (collected g.F.Format.layout c.self.inside.trace.formats c.self.inside.trace.chains c.collect.ensures.collected)

pub returns-clause-collected : goal.returns-clause-collected
returns-clause-collected g c =
    are_collected g.F.Format.layout _ c.args.self.now c.self.view_is c.self.inside.trace refl c.self.invariant.trace c.args.points.now
    c.args.roots.now c.args.finals.now c.args.segs.now c.args.trail.now c.args.most c.collect.new.roots c.collect.new.finals
    c.collect.new.self c.collect.new.segs c.collect.new.trail c.collect.ensures.collected

pub returns-clause-epochs : goal.returns-clause-epochs
returns-clause-epochs g c =
    are_flipped g.F.Format.layout _ c.args.self.now c.self.view_is c.self.inside.trace refl c.self.invariant.trace c.args.segs.now
    c.args.epochs.now c.collect.new.epochs c.collect.ensures.epochs
