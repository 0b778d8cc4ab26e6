use Rattle.mps_trace.proofs.Keeping.{marked}
use Rattle.mps_trace.proofs.Known.{policy_known}
use Rattle.mps_trace.proofs.trace.Trace.keep_as.Goals as goal

pub returns-clause-kept : goal.returns-clause-kept
returns-clause-kept g c =
    let s = c.args.segs.now in
    let t = c.args.self.now in
    let can = c.requires.can in
    let got_is =
    policy_known t.formats t.chains s c.args.at c.args.owner can.segment can.format can.over can.listed c.requires.owned c.args.policy
    c.requires.known
    in
    marked g.F.Format.layout t s c.args.trail.now c.args.at can c.args.policy got_is c.if-policy.false c.keep_in_place.new.self
    c.keep_in_place.ensures
