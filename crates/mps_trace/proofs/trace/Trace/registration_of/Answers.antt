use Rattle.std.proofs.Common.{◌∙◌, ◌<◌, length, arith, subst}
use Rattle.mps_base.specs.Address.{Address}
use Rattle.mps_trace.specs.Registration.{LeadsTo}
use Rattle.mps_trace.proofs.Registrations.{listed_at, one_more_elsewhere}
use Rattle.mps_trace.proofs.trace.Trace.registration_of.Goals as goal

pub follow-requires : goal.follow-requires
follow-requires g c =
    let low : c.loop-position.position < length c.args.finals.now.registered =
    omega (arith, c.loop-position-test.true, c.registered-position-end.ensures) in
    c.requires c.loop-position.position c.at-from.result.0
    (listed_at c.args.finals.now c.loop-position.finals c.loop-position.position c.at-from.result.0 c.loop-position.invariant.0
    c.at-from.ensures.value low)

pub returns-then-follow-at-clause-found : goal.returns-then-follow-at-clause-found
returns-then-follow-at-clause-found g c =
    let low : c.loop-position.position < length c.args.finals.now.registered =
    omega (arith, c.loop-position-test.true, c.registered-position-end.ensures) in
    record {
      from = c.at-from.result.0;
      listed = listed_at c.args.finals.now c.loop-position.finals c.loop-position.position c.at-from.result.0 c.loop-position.invariant.0
          c.at-from.ensures.value low;
      leads = subst (λ (a : Address). LeadsTo g.F.Format.layout c.args.self.now.formats c.args.segs.now c.at-from.result.0 a)
          c.if-follow-at.true c.follow.ensures;
      earlier = c.loop-position.invariant.1;
    }

pub loop-position-preserved : goal.loop-position-preserved
loop-position-preserved g c =
    let low : c.loop-position.position < length c.args.finals.now.registered =
    omega (arith, c.loop-position-test.true, c.registered-position-end.ensures) in (
      c.at-from.ensures.unchanged ∙ c.loop-position.invariant.0,
      one_more_elsewhere g.F.Format.layout c.args.self.now.formats c.args.segs.now c.args.finals.now.registered c.args.at.0
          c.loop-position.position c.at-from.result.0 c.follow.result.0 c.loop-position.invariant.1
          (listed_at c.args.finals.now c.loop-position.finals c.loop-position.position c.at-from.result.0 c.loop-position.invariant.0
          c.at-from.ensures.value low)
          c.follow.ensures c.if-follow-at.false,
    )
