use Rattle.std.proofs.Common.{ℕ, ◌≡◌, ◌≢◌, ◌+◌, ◌*◌, ◌∙◌, sym, ap, arith}
use Rattle.mps_base.specs.Address.{word_of}
use Rattle.mps_base.specs.Segment.{end_of_segment}
use Rattle.mps_seg.specs.declared.segment_info.SegmentInfo.{SegmentInfo}
use Rattle.mps_xform.specs.Applying.{after_apply_below}
use Rattle.mps_xform.specs.Passing.{new_in}
use Rattle.mps_xform.proofs.Passed as passed
use Rattle.mps_xform.proofs.applying.apply_to_pool.Goals as goal

pub segment-segment-requires : goal.segment-segment-requires
segment-segment-requires g c =
    let f = g.F.Format.layout c.args.format.now in
    let to = new_in c.args.replacements.now in
    let s = c.args.segs.now in
    let l = c.loop-base in
    let base = c.in-Some.base in
    let is = sym c.in-Some.is ∙ c.next_segment.ensures in
    let t = (passed.next f to c.args.pool s c.requires.can l.segs l.from.0 l.invariant base is).segment in
    let begins = (passed.next f to c.args.pool s c.requires.can l.segs l.from.0 l.invariant base is).begins in
    let listed = passed.listed f to c.args.pool s c.requires.can l.segs l.from.0 l.invariant base is in
    (t, listed, begins)

pub overflow_add-end : goal.overflow_add-end
overflow_add-end g c =
    let f = g.F.Format.layout c.args.format.now in
    let to = new_in c.args.replacements.now in
    let s = c.args.segs.now in
    let l = c.loop-base in
    let base = c.in-Some.base in
    let is = sym c.in-Some.is ∙ c.next_segment.ensures in
    let t = (passed.next f to c.args.pool s c.requires.can l.segs l.from.0 l.invariant base is).segment in
    let begins = (passed.next f to c.args.pool s c.requires.can l.segs l.from.0 l.invariant base is).begins in
    let listed = passed.listed f to c.args.pool s c.requires.can l.segs l.from.0 l.invariant base is in
    let info = c.segment-segment.ensures t listed begins in
    let end : base.0 + 4096 * c.from.result ≡ end_of_segment t =
    omega (arith, c.from.ensures, ap (λ (i : SegmentInfo). i.grains) info, begins) in
    omega (
      arith,
      end,
      passed.in_arena f to c.args.pool s c.requires.can l.segs l.from.0 l.invariant base is,
      c.grains.ensures.at_most,
      c.grains.ensures.size,
    )

pub pass_segment-requires-clause-begun : goal.pass_segment-requires-clause-begun
pass_segment-requires-clause-begun g c =
    let f = g.F.Format.layout c.args.format.now in
    let to = new_in c.args.replacements.now in
    let s = c.args.segs.now in
    let l = c.loop-base in
    let base = c.in-Some.base in
    let is = sym c.in-Some.is ∙ c.next_segment.ensures in
    let t = (passed.next f to c.args.pool s c.requires.can l.segs l.from.0 l.invariant base is).segment in
    let begins = (passed.next f to c.args.pool s c.requires.can l.segs l.from.0 l.invariant base is).begins in
    let listed = passed.listed f to c.args.pool s c.requires.can l.segs l.from.0 l.invariant base is in
    let info = c.segment-segment.ensures t listed begins in
    let end : base.0 + 4096 * c.from.result ≡ end_of_segment t =
    omega (arith, c.from.ensures, ap (λ (i : SegmentInfo). i.grains) info, begins) in
    let of_pool = sym (ap (λ (i : SegmentInfo). i.pool) info) ∙ c.if-segment-pool.true in (
      s,
      c.args.pool,
      passed.begun f to c.args.pool s c.requires.can l.segs l.from.0 l.invariant base is c.requires.summed,
      passed.span f to c.args.pool s c.requires.can l.segs l.from.0 l.invariant base is (base.0 + 4096 * c.from.result) end of_pool,
    )

pub loop-base-smaller-then-segment-pool : goal.loop-base-smaller-then-segment-pool
loop-base-smaller-then-segment-pool g c =
    let f = g.F.Format.layout c.args.format.now in
    let to = new_in c.args.replacements.now in
    let s = c.args.segs.now in
    let l = c.loop-base in
    let base = c.in-Some.base in
    let is = sym c.in-Some.is ∙ c.next_segment.ensures in
    let t = (passed.next f to c.args.pool s c.requires.can l.segs l.from.0 l.invariant base is).segment in
    let begins = (passed.next f to c.args.pool s c.requires.can l.segs l.from.0 l.invariant base is).begins in
    let listed = passed.listed f to c.args.pool s c.requires.can l.segs l.from.0 l.invariant base is in
    let info = c.segment-segment.ensures t listed begins in
    let end : base.0 + 4096 * c.from.result ≡ end_of_segment t =
    omega (arith, c.from.ensures, ap (λ (i : SegmentInfo). i.grains) info, begins) in
    omega (
      arith,
      end,
      (passed.next f to c.args.pool s c.requires.can l.segs l.from.0 l.invariant base is).above,
      passed.is_long f to c.args.pool s c.requires.can l.segs l.from.0 l.invariant base is,
      passed.in_arena f to c.args.pool s c.requires.can l.segs l.from.0 l.invariant base is,
    )

pub loop-base-preserved-then-segment-pool : goal.loop-base-preserved-then-segment-pool
loop-base-preserved-then-segment-pool g c =
    let f = g.F.Format.layout c.args.format.now in
    let to = new_in c.args.replacements.now in
    let s = c.args.segs.now in
    let l = c.loop-base in
    let base = c.in-Some.base in
    let is = sym c.in-Some.is ∙ c.next_segment.ensures in
    let t = (passed.next f to c.args.pool s c.requires.can l.segs l.from.0 l.invariant base is).segment in
    let begins = (passed.next f to c.args.pool s c.requires.can l.segs l.from.0 l.invariant base is).begins in
    let listed = passed.listed f to c.args.pool s c.requires.can l.segs l.from.0 l.invariant base is in
    let info = c.segment-segment.ensures t listed begins in
    let end : base.0 + 4096 * c.from.result ≡ end_of_segment t =
    omega (arith, c.from.ensures, ap (λ (i : SegmentInfo). i.grains) info, begins) in
    let of_pool = sym (ap (λ (i : SegmentInfo). i.pool) info) ∙ c.if-segment-pool.true in
    passed.passed_on f to c.args.pool s c.requires.can l.segs l.from.0 l.invariant base is c.pass_segment.new.segs
    (base.0 + 4096 * c.from.result) end
    (c.pass_segment.ensures s c.args.pool
    (passed.begun f to c.args.pool s c.requires.can l.segs l.from.0 l.invariant base is c.requires.summed)
    (passed.span f to c.args.pool s c.requires.can l.segs l.from.0 l.invariant base is (base.0 + 4096 * c.from.result) end of_pool))

pub loop-base-smaller : goal.loop-base-smaller
loop-base-smaller g c =
    let f = g.F.Format.layout c.args.format.now in
    let to = new_in c.args.replacements.now in
    let s = c.args.segs.now in
    let l = c.loop-base in
    let base = c.in-Some.base in
    let is = sym c.in-Some.is ∙ c.next_segment.ensures in
    let t = (passed.next f to c.args.pool s c.requires.can l.segs l.from.0 l.invariant base is).segment in
    let begins = (passed.next f to c.args.pool s c.requires.can l.segs l.from.0 l.invariant base is).begins in
    let listed = passed.listed f to c.args.pool s c.requires.can l.segs l.from.0 l.invariant base is in
    let info = c.segment-segment.ensures t listed begins in
    let end : base.0 + 4096 * c.from.result ≡ end_of_segment t =
    omega (arith, c.from.ensures, ap (λ (i : SegmentInfo). i.grains) info, begins) in
    omega (
      arith,
      end,
      (passed.next f to c.args.pool s c.requires.can l.segs l.from.0 l.invariant base is).above,
      passed.is_long f to c.args.pool s c.requires.can l.segs l.from.0 l.invariant base is,
      passed.in_arena f to c.args.pool s c.requires.can l.segs l.from.0 l.invariant base is,
    )

pub loop-base-preserved : goal.loop-base-preserved
loop-base-preserved g c =
    let f = g.F.Format.layout c.args.format.now in
    let to = new_in c.args.replacements.now in
    let s = c.args.segs.now in
    let l = c.loop-base in
    let base = c.in-Some.base in
    let is = sym c.in-Some.is ∙ c.next_segment.ensures in
    let t = (passed.next f to c.args.pool s c.requires.can l.segs l.from.0 l.invariant base is).segment in
    let begins = (passed.next f to c.args.pool s c.requires.can l.segs l.from.0 l.invariant base is).begins in
    let listed = passed.listed f to c.args.pool s c.requires.can l.segs l.from.0 l.invariant base is in
    let info = c.segment-segment.ensures t listed begins in
    let end : base.0 + 4096 * c.from.result ≡ end_of_segment t =
    omega (arith, c.from.ensures, ap (λ (i : SegmentInfo). i.grains) info, begins) in
    let other : t.pool ≢ c.args.pool = λ same. c.if-segment-pool.false (ap (λ (i : SegmentInfo). i.pool) info ∙ same) in
    passed.passed_on f to c.args.pool s c.requires.can l.segs l.from.0 l.invariant base is l.segs (base.0 + 4096 * c.from.result) end
    (passed.another f to c.args.pool s c.requires.can l.segs l.from.0 l.invariant base is other
    ∙ ap (λ (a : ℕ). after_apply_below f to s c.args.pool (word_of a)) (sym end))

pub loop-base-init : goal.loop-base-init
loop-base-init g c = passed.none_yet (g.F.Format.layout c.args.format.now) (new_in c.args.replacements.now) c.args.pool
    c.args.segs.now c.requires.can

pub returns : goal.returns
returns g c =
    let l = c.loop-base in
    passed.rest_passed (g.F.Format.layout c.args.format.now) (new_in c.args.replacements.now) c.args.pool c.args.segs.now c.requires.can
    l.segs l.from.0 l.invariant (sym c.in_default.is ∙ c.next_segment.ensures)
