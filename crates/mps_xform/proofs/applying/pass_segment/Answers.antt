use Rattle.mps_xform.specs.Passing.{new_in}
use Rattle.mps_xform.proofs.Skipped.{segment_passed}
use Rattle.mps_xform.proofs.applying.pass_segment.Goals as goal

pub may_refer_to_old-requires : goal.may_refer_to_old-requires
may_refer_to_old-requires g c =
    let span = c.requires.begun.3 in
    (span.segment, span.there, span.begins)

pub returns-else-may_refer_to_old : goal.returns-else-may_refer_to_old
returns-else-may_refer_to_old g c = λ s pool begun span.
    segment_passed (g.F.Format.layout c.args.format.now) (new_in c.args.replacements.now) s pool c.args.segs.now c.args.base.0
    c.args.end.0 begun span (c.may_refer_to_old.ensures.none c.if-may_refer_to_old.false)
