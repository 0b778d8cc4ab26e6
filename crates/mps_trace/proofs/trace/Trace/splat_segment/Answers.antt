use Rattle.std.proofs.Common.{sym, arith}
use Rattle.mps_base.specs.Segment.{segment_over}
use Rattle.mps_amc.proofs.Found.{over_is_there}
use Rattle.mps_trace.specs.Access.{splats_none, splats_one_more}
use Rattle.mps_trace.specs.Trace.{traced}
use Rattle.mps_trace.proofs.Accessed.{none_over, one_over}
use Rattle.mps_trace.proofs.Held.{held_splatted}
use Rattle.mps_trace.proofs.Known.{some_over, base_is}
use Rattle.mps_trace.proofs.trace.Trace.splat_segment.Goals as goal

pub returns-in_default-clause-splatted : goal.returns-in_default-clause-splatted
returns-in_default-clause-splatted g c = λ t over.
    absurd (none_over (segment_over c.args.segs.now.segments c.args.at.0) t c.in_default.ensures over)

pub loop-init : goal.loop-init
loop-init g c = λ t over. (splats_none, over_is_there c.args.segs.now.segments c.args.at.0 t over)

pub grey_in-requires : goal.grey_in-requires
grey_in-requires g c =
    let found = some_over (segment_over c.args.segs.now.segments c.args.at.0) c.in-Some.base c.in-Some.ensures in (
      found.0,
      (c.loop.invariant found.0 found.1).1,
      base_is (segment_over c.args.segs.now.segments c.args.at.0) c.in-Some.base found.0 c.in-Some.ensures found.1,
    )

pub returns-in_default-grey_in-clause-splatted : goal.returns-in_default-grey_in-clause-splatted
returns-in_default-grey_in-clause-splatted g c = λ t over.
    let so_far = c.loop.invariant t over in
    let begins = base_is (segment_over c.args.segs.now.segments c.args.at.0) c.in-Some.base t c.in-Some.ensures over in
    record { count = c.loop.counter; splats = so_far.0; drained = sym (c.in_default-grey_in.ensures t so_far.1 begins) }

pub returns-in_default-grey_in-clause-idle : goal.returns-in_default-grey_in-clause-idle
returns-in_default-grey_in-clause-idle g c = λ none.
    absurd (one_over (segment_over c.args.segs.now.segments c.args.at.0) c.in-Some.base c.in-Some.ensures none)

pub splat-requires : goal.splat-requires
splat-requires g c =
    let found = some_over (segment_over c.args.segs.now.segments c.args.at.0) c.in-Some.base c.in-Some.ensures in
    let begins = base_is (segment_over c.args.segs.now.segments c.args.at.0) c.in-Some.base found.0 c.in-Some.ensures found.1 in
    let so_far = c.loop.invariant found.0 found.1 in
    let y = traced c.args.self.now c.loop.segs c.loop.trail in
    (c.requires found.0 found.1).can c.loop.counter y c.in-Some-grey_in.grey so_far.0
    (sym (c.in-Some-grey_in.ensures found.0 so_far.1 begins))

pub loop-preserved : goal.loop-preserved
loop-preserved g c = λ t over.
    let y = traced c.args.self.now c.loop.segs c.loop.trail in
    let z = traced c.args.self.now c.splat.new.segs c.splat.new.trail in
    let at = c.in-Some-grey_in.grey in
    let begins = base_is (segment_over c.args.segs.now.segments c.args.at.0) c.in-Some.base t c.in-Some.ensures over in
    let so_far = c.loop.invariant t over in (
      splats_one_more c.loop.counter at so_far.0 (sym (c.in-Some-grey_in.ensures t so_far.1 begins)) c.splat.ensures,
      held_splatted g.F.Format.layout c.args.self.now.formats c.args.self.now.chains t y z at c.splat.ensures so_far.1,
    )

-- the loop never runs that often
pub returns-clause-splatted : goal.returns-clause-splatted
returns-clause-splatted g c = λ t over.
    let y = traced c.args.self.now c.loop.segs c.loop.trail in
    let few = (c.requires t over).few c.loop.counter y (c.loop.invariant t over).0 in
    absurd (omega (arith, few, c.loop-test.false))
