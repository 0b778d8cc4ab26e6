use Rattle.std.proofs.Common.{Bool, List, Contains, sym, ◌∙◌, subst, arith}
use Rattle.mps_base.specs.Segment.{Segment}
use Rattle.mps_trace.specs.Flip.{may_refer}
use Rattle.mps_trace.proofs.Condemning.{next_found, none_found}
use Rattle.mps_trace.proofs.Remembering.{none_grey, left_as_is, one_grey, all_grey_now, refers_still}
use Rattle.mps_trace.proofs.trace.Trace.grey_what_may_refer.Goals.{then-may_refer, else-may_refer}
use Rattle.mps_trace.proofs.trace.Trace.grey_what_may_refer.Goals as goal

pub loop-base-init : goal.loop-base-init
loop-base-init g c =
    let t = c.args.self.now in
    let p : Segment → Bool = λ u. may_refer t.formats t.chains c.args.what c.args.zones.0 c.args.segs.now u in
    none_grey p c.args.segs.now c.requires.ascending

pub may_refer-requires : goal.may_refer-requires
may_refer-requires g c =
    let before = c.args.segs.now in
    let so_far = c.loop-base.invariant in
    let l =
    next_found before c.loop-base.segs so_far.same c.loop-base.at.0 c.in-Some.base c.requires.ascending
    (sym c.in-Some.is ∙ c.next_segment.ensures)
    in
    let P : List Segment → Type 0 = λ ss. Contains ss l.segment in
    (l.segment, subst P (sym so_far.same) l.listed, l.begins)

pub grey_segment-requires : goal.grey_segment-requires
grey_segment-requires g c =
    let before = c.args.segs.now in
    let so_far = c.loop-base.invariant in
    let l =
    next_found before c.loop-base.segs so_far.same c.loop-base.at.0 c.in-Some.base c.requires.ascending
    (sym c.in-Some.is ∙ c.next_segment.ensures)
    in
    let P : List Segment → Type 0 = λ ss. Contains ss l.segment in
    (l.segment, subst P (sym so_far.same) l.listed, l.begins)

pub overflow_add-at : goal.overflow_add-at
overflow_add-at g c =
    let before = c.args.segs.now in
    let so_far = c.loop-base.invariant in
    let l =
    next_found before c.loop-base.segs so_far.same c.loop-base.at.0 c.in-Some.base c.requires.ascending
    (sym c.in-Some.is ∙ c.next_segment.ensures)
    in
    omega (arith, l.begins, c.requires.small l.segment l.listed)

pub loop-base-smaller : goal.loop-base-smaller
loop-base-smaller g c =
    let before = c.args.segs.now in
    let so_far = c.loop-base.invariant in
    let l =
    next_found before c.loop-base.segs so_far.same c.loop-base.at.0 c.in-Some.base c.requires.ascending
    (sym c.in-Some.is ∙ c.next_segment.ensures)
    in
    omega (arith, l.above, l.begins, c.requires.small l.segment l.listed)

pub loop-base-preserved : goal.loop-base-preserved
loop-base-preserved g c =
    let before = c.args.segs.now in
    let t = c.args.self.now in
    let so_far = c.loop-base.invariant in
    let l =
    next_found before c.loop-base.segs so_far.same c.loop-base.at.0 c.in-Some.base c.requires.ascending
    (sym c.in-Some.is ∙ c.next_segment.ensures)
    in
    let P : List Segment → Type 0 = λ ss. Contains ss l.segment in
    let listed = subst P (sym so_far.same) l.listed in
    let p : Segment → Bool = λ u. may_refer t.formats t.chains c.args.what c.args.zones.0 before u in
    let tested =
    c.may_refer.ensures l.segment listed l.begins
    ∙ refers_still t.formats t.chains c.args.what c.args.zones.0 before c.loop-base.segs l.segment so_far.summaries
    in
    elim c.if-may_refer.branch [
      | then-may_refer w ↦
          one_grey p before c.loop-base.at.0 c.in-Some.base.0 c.loop-base.segs so_far l.segment l.rest c.if-may_refer.segs
          (sym tested ∙ w.if-may_refer.true) (w.segs-is ∙ w.grey_segment.ensures.state l.segment listed l.begins)
      | else-may_refer w ↦
          left_as_is p before c.loop-base.at.0 c.in-Some.base.0 c.loop-base.segs so_far l.segment l.rest c.if-may_refer.segs
          (sym tested ∙ w.if-may_refer.false) w.segs-is
    ]

pub returns : goal.returns
returns g c =
    let t = c.args.self.now in
    let so_far = c.loop-base.invariant in
    let p : Segment → Bool = λ u. may_refer t.formats t.chains c.args.what c.args.zones.0 c.args.segs.now u in
    let none = none_found c.args.segs.now c.loop-base.segs so_far.same c.loop-base.at.0 (sym c.in_default.is ∙ c.next_segment.ensures) in
    all_grey_now p c.args.segs.now c.loop-base.at.0 c.loop-base.segs so_far none
