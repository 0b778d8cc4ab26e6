use Rattle.std.proofs.Common.{refl, subst, sym}
use Rattle.mps_trace.specs.Registration.{AreFindable, FindsRegistration}
use Rattle.mps_trace.specs.Trace.{TraceState}
use Rattle.mps_pools.proofs.Sound.{trace_seen}
use Rattle.mps_pools.proofs.pools.Pools.registration_of.Goals as goal

pub registration_of-requires : goal.registration_of-requires
registration_of-requires g c =
    let known = trace_seen _ c.args.self.now c.self.view_is c.self.inside.trace refl refl c.self.invariant.trace in
    subst (λ (t : TraceState g.row.F.Denot). AreFindable g.F.Format.layout t.formats c.args.segs.now c.args.finals.now.registered)
    (sym known) c.requires

pub returns-clause-found : goal.returns-clause-found
returns-clause-found g c =
    let known = trace_seen _ c.args.self.now c.self.view_is c.self.inside.trace refl refl c.self.invariant.trace in
    subst
    (λ (t : TraceState g.row.F.Denot). FindsRegistration g.F.Format.layout t.formats c.args.segs.now c.args.finals.now.registered
    c.args.at.0 c.registration_of.result)
    known c.registration_of.ensures.found
