use Rattle.std.proofs.Common.{refl, subst, sym}
use Rattle.std.specs.Prelude.{IfNone, IfSome}
use Rattle.mps_trace.specs.Begin.{Begins, EndsAtOnce}
use Rattle.mps_trace.specs.Trace.{TraceState, traced}
use Rattle.mps_pools.proofs.Collecting.{are_flipped_by}
use Rattle.mps_pools.specs.Collecting.{CanCondemn}
use Rattle.mps_pools.proofs.Rows.{after_begin}
use Rattle.mps_pools.proofs.Sound.{are_still_sound, trace_seen}
use Rattle.mps_pools.proofs.pools.Pools.begin.Goals as goal

pub begin-requires : goal.begin-requires
begin-requires g c =
    let P : TraceState g.row.F.Denot → Type 0 = λ t. CanCondemn g.F.Format.layout t c.args.what c.args.points.now c.args.roots.now
    c.args.finals.now c.args.segs.now c.args.trail.now in
    let can = subst P (sym (trace_seen _ c.args.self.now c.self.view_is c.self.inside.trace refl refl c.self.invariant.trace))
    c.requires.can
    in
    record {
      ordered = can.ordered;
      blocks = can.blocks;
      few_flips = c.requires.few_flips;
      few_epochs = c.requires.few_epochs;
      reserved = can.reserved;
      fits = can.fits;
      can = can.roots_ready;
    }

pub invariant_of-self : goal.invariant_of-self
invariant_of-self g c =
    are_still_sound c.self.inside.pools.items c.self.inside.generations.items c.self.inside.trace c.begin.new.self c.self.invariant
    c.begin.ensures.unchanged
    (after_begin g.F.Format.layout c.self.inside.trace.formats c.self.inside.trace.chains _ _ _ _ _ _ _ _ c.begin.result
    c.begin.ensures.begun c.begin.ensures.ended)

pub returns-clause-begun : goal.returns-clause-begun
returns-clause-begun g c =
    let after = traced c.begin.new.self c.begin.new.segs c.begin.new.trail in
    let P : TraceState g.row.F.Denot → Type 0 = λ t. IfSome c.begin.result (λ run. Begins g.F.Format.layout t.formats t.chains c.args.what
    c.args.points.now c.args.roots.now c.args.finals.now (traced t c.args.segs.now c.args.trail.now) c.begin.new.roots c.begin.new.finals
    after run) in
    subst P (trace_seen _ c.args.self.now c.self.view_is c.self.inside.trace refl refl c.self.invariant.trace) c.begin.ensures.begun

pub returns-clause-ended : goal.returns-clause-ended
returns-clause-ended g c =
    let after = traced c.begin.new.self c.begin.new.segs c.begin.new.trail in
    let P : TraceState g.row.F.Denot → Type 0 = λ t. IfNone c.begin.result (EndsAtOnce t.formats t.chains c.args.what c.args.points.now
    c.args.roots.now c.args.finals.now (traced t c.args.segs.now c.args.trail.now) c.begin.new.roots c.begin.new.finals after) in
    subst P (trace_seen _ c.args.self.now c.self.view_is c.self.inside.trace refl refl c.self.invariant.trace) c.begin.ensures.ended

pub returns-clause-epochs : goal.returns-clause-epochs
returns-clause-epochs g c =
    are_flipped_by g.F.Format.layout _ c.args.self.now c.self.view_is c.self.inside.trace refl c.self.invariant.trace c.args.what
    c.args.segs.now c.args.epochs.now c.begin.new.epochs c.begin.ensures.epochs
