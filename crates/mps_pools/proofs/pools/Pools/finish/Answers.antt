use Rattle.std.proofs.Common.{refl, subst, sym}
use Rattle.std.specs.Prelude.{IfNone, IfSome}
use Rattle.mps_trace.specs.Trace.{TraceState, traced}
use Rattle.mps_trace.specs.Unit.{AreUnitsReady, EndsWithin, UnitsTo}
use Rattle.mps_pools.proofs.Rows.{after_units}
use Rattle.mps_pools.proofs.Sound.{are_still_sound, trace_seen}
use Rattle.mps_pools.proofs.pools.Pools.finish.Goals as goal

pub finish-requires : goal.finish-requires
finish-requires g c =
    let P : TraceState g.row.F.Denot → Type 0 = λ t. AreUnitsReady g.F.Format.layout t c.args.segs.now c.args.trail.now c.args.finals.now
    c.args.running c.args.most in
    subst P (sym (trace_seen _ c.args.self.now c.self.view_is c.self.inside.trace refl refl c.self.invariant.trace)) c.requires

pub invariant_of-self : goal.invariant_of-self
invariant_of-self g c =
    are_still_sound c.self.inside.pools.items c.self.inside.generations.items c.self.inside.trace c.finish.new.self c.self.invariant
    c.finish.ensures.unchanged
    (after_units g.F.Format.layout c.self.inside.trace.formats c.self.inside.trace.chains _ _ _ _ _ _ c.finish.result
    c.finish.ensures.goes_on
    c.finish.ensures.ended)

pub returns-clause-goes_on : goal.returns-clause-goes_on
returns-clause-goes_on g c =
    let after = traced c.finish.new.self c.finish.new.segs c.finish.new.trail in
    let P : TraceState g.row.F.Denot → Type 0 = λ t. IfSome c.finish.result (λ next. UnitsTo g.F.Format.layout t.formats t.chains
    (traced t c.args.segs.now c.args.trail.now) c.args.finals.now c.args.running c.args.most after c.finish.new.finals next) in
    subst P (trace_seen _ c.args.self.now c.self.view_is c.self.inside.trace refl refl c.self.invariant.trace) c.finish.ensures.goes_on

pub returns-clause-ended : goal.returns-clause-ended
returns-clause-ended g c =
    let after = traced c.finish.new.self c.finish.new.segs c.finish.new.trail in
    let P : TraceState g.row.F.Denot → Type 0 = λ t. IfNone c.finish.result (EndsWithin g.F.Format.layout t.formats t.chains
    (traced t c.args.segs.now c.args.trail.now) c.args.finals.now c.args.running c.args.most after c.finish.new.finals) in
    subst P (trace_seen _ c.args.self.now c.self.view_is c.self.inside.trace refl refl c.self.invariant.trace) c.finish.ensures.ended
