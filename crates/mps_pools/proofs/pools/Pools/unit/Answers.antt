use Rattle.std.proofs.Common.{refl, subst, sym}
use Rattle.std.specs.Prelude.{◌≡◌, IfNone, IfSome}
use Rattle.mps_trace.specs.Trace.{TraceState, traced}
use Rattle.mps_trace.specs.Unit.{CanUnit, LastUnitTo, UnitTo}
use Rattle.mps_pools.proofs.Rows.{after_unit}
use Rattle.mps_pools.proofs.Sound.{are_still_sound, trace_seen}
use Rattle.mps_pools.proofs.pools.Pools.unit.Goals as goal

pub unit-requires : goal.unit-requires
unit-requires g c =
    let P : TraceState g.row.F.Denot → Type 0 = λ t. CanUnit g.F.Format.layout t c.args.segs.now c.args.trail.now c.args.finals.now
    c.args.running in
    subst P (sym (trace_seen _ c.args.self.now c.self.view_is c.self.inside.trace refl refl c.self.invariant.trace)) c.requires

pub invariant_of-self : goal.invariant_of-self
invariant_of-self g c =
    are_still_sound c.self.inside.pools.items c.self.inside.generations.items c.self.inside.trace c.unit.new.self c.self.invariant
    c.unit.ensures.unchanged
    (after_unit g.F.Format.layout c.self.inside.trace.formats c.self.inside.trace.chains _ _ _ _ _ c.unit.result c.unit.ensures.goes_on
    c.unit.ensures.ended)

pub returns-clause-goes_on : goal.returns-clause-goes_on
returns-clause-goes_on g c =
    let after = traced c.unit.new.self c.unit.new.segs c.unit.new.trail in
    let P : TraceState g.row.F.Denot → Type 0 = λ t. IfSome c.unit.result (λ next. UnitTo g.F.Format.layout t.formats t.chains
    (traced t c.args.segs.now c.args.trail.now) c.args.finals.now c.args.running after c.unit.new.finals next) in
    subst P (trace_seen _ c.args.self.now c.self.view_is c.self.inside.trace refl refl c.self.invariant.trace) c.unit.ensures.goes_on

pub returns-clause-ended : goal.returns-clause-ended
returns-clause-ended g c =
    let after = traced c.unit.new.self c.unit.new.segs c.unit.new.trail in
    let P : TraceState g.row.F.Denot → Type 0 = λ t. IfNone c.unit.result (LastUnitTo g.F.Format.layout t.formats
    (traced t c.args.segs.now c.args.trail.now) c.args.running after × (c.unit.new.finals ≡ c.args.finals.now)) in
    subst P (trace_seen _ c.args.self.now c.self.view_is c.self.inside.trace refl refl c.self.invariant.trace) c.unit.ensures.ended
