use Rattle.std.proofs.Common.{◌≡◌, Some, sym, subst, inl, inr}
use Rattle.mps_base.specs.Segment.{Segment, segment_over}
use Rattle.mps_trace.specs.Access.{CanAccess, AccessesTo}
use Rattle.mps_trace.specs.Trace.{traced}
use Rattle.mps_trace.specs.declared.running.Band.{Band}
use Rattle.mps_trace.proofs.trace.Trace.access.Goals as goal

pub scan_segment-requires : goal.scan_segment-requires
scan_segment-requires g c =
    let P : Band → Type 0 = λ b. (t : Segment) → segment_over c.args.segs.now.segments c.args.at.0 ≡ Some t
    → CanAccess g.F.Format.layout b c.args.self.now c.args.segs.now c.args.trail.now t
    in
    elim c.in-Exact.is [ inl exact ↦ subst P exact c.requires | inr final ↦ subst P final c.requires ]

pub splat_segment-requires : goal.splat_segment-requires
splat_segment-requires g c =
    let P : Band → Type 0 = λ b. (t : Segment) → segment_over c.args.segs.now.segments c.args.at.0 ≡ Some t
    → CanAccess g.F.Format.layout b c.args.self.now c.args.segs.now c.args.trail.now t
    in
    subst P c.in-Weak.is c.requires

pub returns-in-Exact-clause-accessed : goal.returns-in-Exact-clause-accessed
returns-in-Exact-clause-accessed g c =
    let x = traced c.args.self.now c.args.segs.now c.args.trail.now in
    let z = traced c.scan_segment.new.self c.scan_segment.new.segs c.scan_segment.new.trail in
    let P : Band → Type 0 = λ b. (t : Segment) → segment_over c.args.segs.now.segments c.args.at.0 ≡ Some t
    → AccessesTo g.F.Format.layout c.args.self.now.formats c.args.self.now.chains b t x z
    in
    elim c.in-Exact.is [
      | inl exact ↦ subst P (sym exact) c.scan_segment.ensures.scanned
      | inr final ↦ subst P (sym final) c.scan_segment.ensures.scanned
    ]

pub returns-in-Weak-clause-accessed : goal.returns-in-Weak-clause-accessed
returns-in-Weak-clause-accessed g c =
    let x = traced c.args.self.now c.args.segs.now c.args.trail.now in
    let z = traced c.args.self.now c.splat_segment.new.segs c.splat_segment.new.trail in
    let P : Band → Type 0 = λ b. (t : Segment) → segment_over c.args.segs.now.segments c.args.at.0 ≡ Some t
    → AccessesTo g.F.Format.layout c.args.self.now.formats c.args.self.now.chains b t x z
    in
    subst P (sym c.in-Weak.is) c.splat_segment.ensures.splatted
