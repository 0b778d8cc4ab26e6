use Rattle.std.proofs.Common.{◌≡◌, ◌∙◌, Option, None, Some, refl, ap, subst, sym}
use Rattle.mps_base.specs.Segment.{Segment, segment_over}
use Rattle.mps_trace.specs.Access.{AccessesTo, CanAccess}
use Rattle.mps_pools.specs.Inside.{rows_of}
use Rattle.mps_trace.specs.Trace.{TraceState, traced}
use Rattle.mps_pools.proofs.Rows.{accessed}
use Rattle.mps_pools.proofs.Sound.{are_still_sound, trace_seen}
use Rattle.mps_pools.proofs.pools.Pools.access.Goals as goal

pub access-requires : goal.access-requires
access-requires g c =
    let P : TraceState g.row.F.Denot → Type 0 = λ t. (u : Segment) → segment_over c.args.segs.now.segments c.args.at.0 ≡ Some u
    → CanAccess g.F.Format.layout c.args.band t c.args.segs.now c.args.trail.now u in
    subst P (sym (trace_seen _ c.args.self.now c.self.view_is c.self.inside.trace refl refl c.self.invariant.trace)) c.requires

pub invariant_of-self : goal.invariant_of-self
invariant_of-self g c =
    let rows : (o : Option Segment) → segment_over c.args.segs.now.segments c.args.at.0 ≡ o
    → rows_of c.access.new.self.amc ≡ rows_of c.self.inside.trace.amc =
    λ o over. elim o as (λ p. o ≡ p → rows_of c.access.new.self.amc ≡ rows_of c.self.inside.trace.amc) [
      | None ↦ (λ is. ap (λ (t : TraceState g.row.F.Denot). rows_of t.amc) (c.access.ensures.idle (over ∙ is)).2)
      | Some t ↦ (λ is. accessed g.F.Format.layout c.self.inside.trace.formats c.self.inside.trace.chains c.args.band t _ _
          (c.access.ensures.accessed t (over ∙ is)))
    ] refl in
    are_still_sound c.self.inside.pools.items c.self.inside.generations.items c.self.inside.trace c.access.new.self c.self.invariant
    c.access.ensures.unchanged
    (rows (segment_over c.args.segs.now.segments c.args.at.0) refl)

pub returns-clause-accessed : goal.returns-clause-accessed
returns-clause-accessed g c =
    let after = traced c.access.new.self c.access.new.segs c.access.new.trail in
    let P : TraceState g.row.F.Denot → Type 0 = λ t. (u : Segment) → segment_over c.args.segs.now.segments c.args.at.0 ≡ Some u
    → AccessesTo g.F.Format.layout t.formats t.chains c.args.band u (traced t c.args.segs.now c.args.trail.now) after in
    subst P (trace_seen _ c.args.self.now c.self.view_is c.self.inside.trace refl refl c.self.invariant.trace) c.access.ensures.accessed
