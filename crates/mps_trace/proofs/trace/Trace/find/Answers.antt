use Rattle.std.proofs.Common.{arith}
use Rattle.mps_trace.specs.Finding.{passes}
use Rattle.mps_trace.specs.Trace.{TraceState}
use Rattle.mps_trace.proofs.Known.{owner_within, has_policy, finds_to, finds_aligned}
use Rattle.mps_trace.proofs.trace.Trace.find.Goals as goal

pub returns-in_default-clause-found : goal.returns-in_default-clause-found
returns-in_default-clause-found g c = passes c.in_default.ensures.none

pub index-requires : goal.index-requires
index-requires g c =
    let t : TraceState g.row.F.Denot =
    record { formats = c.self.inside.formats.items; amc = c.self.inside.amc; chains = c.self.inside.chains }
    in
    omega (
      arith,
      owner_within g.F.Format.layout c.args.self.now t c.self.view_is c.args.segs.now c.args.at c.in-Some.owner c.requires
          c.in-Some.ensures.condemned c.in-Some.ensures.over,
      c.self.inside.formats.ok,
    )

pub unreachable-requires : goal.unreachable-requires
unreachable-requires g c =
    let t : TraceState g.row.F.Denot =
    record { formats = c.self.inside.formats.items; amc = c.self.inside.amc; chains = c.self.inside.chains }
    in
    let there =
    has_policy g.F.Format.layout c.args.self.now t c.self.view_is c.args.segs.now c.args.at c.in-Some.owner c.requires
    c.in-Some.ensures.condemned c.in-Some.ensures.over c.index.result.now c.index.ensures
    in
    c.in_default-index.not-Some there.0 there.1

pub returns-clause-found : goal.returns-clause-found
returns-clause-found g c =
    let t : TraceState g.row.F.Denot =
    record { formats = c.self.inside.formats.items; amc = c.self.inside.amc; chains = c.self.inside.chains }
    in
    finds_to g.F.Format.layout c.args.self.now t c.self.view_is c.args.segs.now c.args.at c.in-Some.owner c.requires
    c.in-Some.ensures.condemned c.in-Some.ensures.over c.index.result.now c.index.ensures c.in-Some-index.policy c.in-Some-index.is
    c.find_in.result c.find_in.ensures.found

pub returns-clause-aligned : goal.returns-clause-aligned
returns-clause-aligned g c =
    let t : TraceState g.row.F.Denot =
    record { formats = c.self.inside.formats.items; amc = c.self.inside.amc; chains = c.self.inside.chains }
    in
    finds_aligned g.F.Format.layout c.args.self.now t c.self.view_is c.args.segs.now c.args.at c.in-Some.owner c.requires
    c.in-Some.ensures.condemned c.in-Some.ensures.over c.index.result.now c.index.ensures c.in-Some-index.policy c.in-Some-index.is
    c.find_in.result c.find_in.ensures.found
