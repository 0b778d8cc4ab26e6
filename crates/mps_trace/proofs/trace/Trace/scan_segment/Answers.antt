use Rattle.std.proofs.Common.{refl, sym, ap, ◌∙◌, arith}
use Rattle.mps_base.specs.Segment.{segment_over}
use Rattle.mps_amc.proofs.Found.{over_is_there}
use Rattle.mps_trace.specs.Access.{scans_none, scans_one_more}
use Rattle.mps_trace.specs.Trace.{TraceState, traced}
use Rattle.mps_trace.proofs.Accessed.{none_over, one_over, scanned_still, can_scan_still}
use Rattle.mps_trace.proofs.Held.{held_scanned}
use Rattle.mps_trace.proofs.Known.{some_over, base_is}
use Rattle.mps_trace.proofs.trace.Trace.scan_segment.Goals as goal

pub returns-in_default-clause-scanned : goal.returns-in_default-clause-scanned
returns-in_default-clause-scanned g c = λ t over.
    absurd (none_over (segment_over c.args.segs.now.segments c.args.at.0) t c.in_default.ensures over)

pub loop-init : goal.loop-init
loop-init g c = ((λ t over. (scans_none, over_is_there c.args.segs.now.segments c.args.at.0 t over)), refl)

pub grey_in-requires : goal.grey_in-requires
grey_in-requires g c =
    let found = some_over (segment_over c.args.segs.now.segments c.args.at.0) c.in-Some.base c.in-Some.ensures in (
      found.0,
      (c.loop.invariant.0 found.0 found.1).1,
      base_is (segment_over c.args.segs.now.segments c.args.at.0) c.in-Some.base found.0 c.in-Some.ensures found.1,
    )

pub returns-in_default-grey_in-clause-scanned : goal.returns-in_default-grey_in-clause-scanned
returns-in_default-grey_in-clause-scanned g c = λ t over.
    let so_far = c.loop.invariant.0 t over in
    let begins = base_is (segment_over c.args.segs.now.segments c.args.at.0) c.in-Some.base t c.in-Some.ensures over in
    record { count = c.loop.counter; scans = so_far.0; drained = sym (c.in_default-grey_in.ensures t so_far.1 begins) }

pub returns-in_default-grey_in-clause-idle : goal.returns-in_default-grey_in-clause-idle
returns-in_default-grey_in-clause-idle g c = λ none.
    absurd (one_over (segment_over c.args.segs.now.segments c.args.at.0) c.in-Some.base c.in-Some.ensures none)

pub scan-requires : goal.scan-requires
scan-requires g c =
    let found = some_over (segment_over c.args.segs.now.segments c.args.at.0) c.in-Some.base c.in-Some.ensures in
    let begins = base_is (segment_over c.args.segs.now.segments c.args.at.0) c.in-Some.base found.0 c.in-Some.ensures found.1 in
    let so_far = c.loop.invariant.0 found.0 found.1 in
    let y = traced c.loop.self c.loop.segs c.loop.trail in
    can_scan_still g.F.Format.layout c.args.self.now c.loop.self c.loop.invariant.1 c.loop.segs c.loop.trail c.in-Some-grey_in.grey
    ((c.requires found.0 found.1).can c.loop.counter y c.in-Some-grey_in.grey so_far.0
    (sym (c.in-Some-grey_in.ensures found.0 so_far.1 begins)))

pub loop-preserved : goal.loop-preserved
loop-preserved g c =
    let y = traced c.loop.self c.loop.segs c.loop.trail in
    let z = traced c.scan.new.self c.scan.new.segs c.scan.new.trail in
    let at = c.in-Some-grey_in.grey in
    let Q : TraceState g.row.F.Denot → TraceState g.row.F.Denot = λ u. record u { amc = c.scan.new.self.amc } in (
      λ t over.
          let so_far = c.loop.invariant.0 t over in
          let begins = base_is (segment_over c.args.segs.now.segments c.args.at.0) c.in-Some.base t c.in-Some.ensures over in (
            scans_one_more c.loop.counter at so_far.0 (sym (c.in-Some-grey_in.ensures t so_far.1 begins))
                (scanned_still g.F.Format.layout c.args.self.now c.loop.self c.loop.invariant.1 y z at c.scan.ensures.scanned),
            held_scanned g.F.Format.layout c.loop.self.formats c.loop.self.chains t y z at c.scan.ensures.scanned so_far.1,
          ),
      c.scan.ensures.unchanged ∙ ap Q c.loop.invariant.1,
    )

-- the loop never runs that often
pub returns-clause-scanned : goal.returns-clause-scanned
returns-clause-scanned g c = λ t over.
    let y = traced c.loop.self c.loop.segs c.loop.trail in
    let few = (c.requires t over).few c.loop.counter y (c.loop.invariant.0 t over).0 in
    absurd (omega (arith, few, c.loop-test.false))
