use Rattle.std.proofs.Common.{List, ap, ◌∙◌}
use Rattle.mps_base.specs.Segment.{Segment}
use Rattle.mps_ld.specs.State as ld
use Rattle.mps_trace.specs.Flip.{zones_of}
use Rattle.mps_trace.proofs.Condemning.{all_that_moves}
use Rattle.mps_trace.specs.Collect.{in_units}
use Rattle.mps_trace.specs.Trace.{traced}
use Rattle.mps_trace.proofs.Collected.{ends_still}
use Rattle.mps_trace.proofs.trace.Trace.collect.Goals as goal

pub returns-clause-collected : goal.returns-clause-collected
returns-clause-collected g c =
    let begun = traced c.begin.new.self c.begin.new.segs c.begin.new.trail in
    let after = traced c.finish.new.self c.finish.new.segs c.finish.new.trail in
    in_units c.in-Some.running c.in-Some.ensures.begun
    (ends_still g.F.Format.layout c.args.self.now c.begin.new.self c.begin.ensures.unchanged begun after c.begin.new.finals
    c.finish.new.finals
    c.in-Some.running c.args.most
    c.in-None.ensures.ended)

pub returns-clause-epochs : goal.returns-clause-epochs
returns-clause-epochs g c =
    c.begin.ensures.epochs
    ∙ ap (λ (ts : List Segment). ld.epochs_after_flip c.args.epochs.now (zones_of ts)) (all_that_moves _ c.args.segs.now.segments)

pub returns-in_default-clause-epochs : goal.returns-in_default-clause-epochs
returns-in_default-clause-epochs g c =
    c.begin.ensures.epochs
    ∙ ap (λ (ts : List Segment). ld.epochs_after_flip c.args.epochs.now (zones_of ts)) (all_that_moves _ c.args.segs.now.segments)
