use Rattle.std.proofs.Common.{ℕ, Bool, List, Contains, bit_or, sym, ap, ◌∙◌, subst, arith}
use Rattle.std.proofs.Math.Facts.{Fits-lt-pow}
use Rattle.mps_base.specs.Segment.{Segment}
use Rattle.mps_seg.specs.declared.segment_info.SegmentInfo.{SegmentInfo}
use Rattle.mps_trace.specs.Flip.{condemns}
use Rattle.mps_trace.proofs.Condemning.{next_found, none_found, none_yet, one_passed, one_condemned, zones_told, all_done, zones_done, count_done}
use Rattle.mps_trace.proofs.trace.Trace.condemn.Goals.{then-condemns, else-condemns}
use Rattle.mps_trace.proofs.trace.Trace.condemn.Goals as goal

pub loop-base-init : goal.loop-base-init
loop-base-init g c =
    let t = c.args.self.now in
    let p : Segment → Bool = λ u. condemns t.formats t.chains c.args.what u.pool u.generation in
    none_yet t.formats p c.args.segs.now c.requires.ascending

pub segment-segment-requires : goal.segment-segment-requires
segment-segment-requires g c =
    let before = c.args.segs.now in
    let so_far = c.loop-base.invariant in
    let l =
    next_found before c.loop-base.segs so_far.same c.loop-base.at.0 c.in-Some.base c.requires.ascending
    (sym c.in-Some.is ∙ c.next_segment.ensures)
    in
    let P : List Segment → Type 0 = λ ss. Contains ss l.segment in
    (l.segment, subst P (sym so_far.same) l.listed, l.begins)

pub condemn-requires : goal.condemn-requires
condemn-requires g c =
    let before = c.args.segs.now in
    let so_far = c.loop-base.invariant in
    let l =
    next_found before c.loop-base.segs so_far.same c.loop-base.at.0 c.in-Some.base c.requires.ascending
    (sym c.in-Some.is ∙ c.next_segment.ensures)
    in
    let P : List Segment → Type 0 = λ ss. Contains ss l.segment in
    (l.segment, subst P (sym so_far.same) l.listed, l.begins)

pub overflow_add-segments : goal.overflow_add-segments
overflow_add-segments g c =
    let before = c.args.segs.now in
    let so_far = c.loop-base.invariant in
    let l =
    next_found before c.loop-base.segs so_far.same c.loop-base.at.0 c.in-Some.base c.requires.ascending
    (sym c.in-Some.is ∙ c.next_segment.ensures)
    in
    omega (arith, so_far.few, l.above, l.begins, c.requires.small l.segment l.listed)

pub overflow_add-at : goal.overflow_add-at
overflow_add-at g c =
    let before = c.args.segs.now in
    let so_far = c.loop-base.invariant in
    let l =
    next_found before c.loop-base.segs so_far.same c.loop-base.at.0 c.in-Some.base c.requires.ascending
    (sym c.in-Some.is ∙ c.next_segment.ensures)
    in
    omega (arith, l.begins, c.requires.small l.segment l.listed)

pub loop-base-smaller : goal.loop-base-smaller
loop-base-smaller g c =
    let before = c.args.segs.now in
    let so_far = c.loop-base.invariant in
    let l =
    next_found before c.loop-base.segs so_far.same c.loop-base.at.0 c.in-Some.base c.requires.ascending
    (sym c.in-Some.is ∙ c.next_segment.ensures)
    in
    omega (arith, l.above, l.begins, c.requires.small l.segment l.listed)

pub loop-base-preserved : goal.loop-base-preserved
loop-base-preserved g c =
    let before = c.args.segs.now in
    let formats = c.args.self.now.formats in
    let so_far = c.loop-base.invariant in
    let l =
    next_found before c.loop-base.segs so_far.same c.loop-base.at.0 c.in-Some.base c.requires.ascending
    (sym c.in-Some.is ∙ c.next_segment.ensures)
    in
    let P : List Segment → Type 0 = λ ss. Contains ss l.segment in
    let info = c.segment-segment.ensures l.segment (subst P (sym so_far.same) l.listed) l.begins in
    let pool_is = ap (λ (i : SegmentInfo). i.pool) info in
    let chains = c.args.self.now.chains in
    let p : Segment → Bool = λ u. condemns formats chains c.args.what u.pool u.generation in
    let tested =
    c.condemns.ensures ∙ ap (λ (i : SegmentInfo). condemns formats chains c.args.what i.pool i.generation) info in
    let here = c.if-condemns in
    elim c.if-condemns.branch [
      | then-condemns w ↦
          one_condemned formats p before c.loop-base.at.0 c.in-Some.base.0 c.loop-base.segs c.loop-base.zones c.loop-base.segments so_far
          l.segment l.begins l.above l.rest here.segs here.zones here.segments (sym tested ∙ w.if-condemns.true)
          (w.segs-is ∙ w.condemn.ensures)
          (w.zones-is
          ∙ ap (λ (z : ℕ). bit_or c.loop-base.zones z)
          (w.moving_zones-zones.ensures.zones
          ∙ zones_told formats l.segment _ _ c.in-Some.base.0 pool_is (ap (λ (i : SegmentInfo). i.grains) info) l.begins))
          w.segments-is (Fits-lt-pow c.loop-base.auto.zones-fits)
      | else-condemns w ↦
          one_passed formats p before c.loop-base.at.0 c.in-Some.base.0 c.loop-base.segs c.loop-base.zones c.loop-base.segments so_far
          l.segment l.begins l.above l.rest here.segs here.zones here.segments (sym tested ∙ w.if-condemns.false)
          w.segs-is w.zones-is w.segments-is
    ]

pub returns-clause-count : goal.returns-clause-count
returns-clause-count g c =
    let so_far = c.loop-base.invariant in
    let none = none_found c.args.segs.now c.loop-base.segs so_far.same c.loop-base.at.0 (sym c.in_default.is ∙ c.next_segment.ensures) in
    let t = c.args.self.now in
    let p : Segment → Bool = λ u. condemns t.formats t.chains c.args.what u.pool u.generation in
    count_done t.formats p c.args.segs.now c.loop-base.at.0 c.loop-base.segs c.loop-base.zones c.loop-base.segments so_far
    none

pub returns-clause-zones : goal.returns-clause-zones
returns-clause-zones g c =
    let so_far = c.loop-base.invariant in
    let none = none_found c.args.segs.now c.loop-base.segs so_far.same c.loop-base.at.0 (sym c.in_default.is ∙ c.next_segment.ensures) in
    let t = c.args.self.now in
    let p : Segment → Bool = λ u. condemns t.formats t.chains c.args.what u.pool u.generation in
    zones_done t.formats p c.args.segs.now c.loop-base.at.0 c.loop-base.segs c.loop-base.zones c.loop-base.segments so_far
    none

pub returns-clause-state : goal.returns-clause-state
returns-clause-state g c =
    let so_far = c.loop-base.invariant in
    let none = none_found c.args.segs.now c.loop-base.segs so_far.same c.loop-base.at.0 (sym c.in_default.is ∙ c.next_segment.ensures) in
    let t = c.args.self.now in
    let p : Segment → Bool = λ u. condemns t.formats t.chains c.args.what u.pool u.generation in
    all_done t.formats p c.args.segs.now c.loop-base.at.0 c.loop-base.segs c.loop-base.zones c.loop-base.segments so_far
    none
