use Rattle.std.proofs.Common.{◌≡◌, Option, IfSome, subst, arith}
use Rattle.std.specs.Prelude.{◌%◌}
use Rattle.mps_base.specs.Address.{bytes_of_word}
use Rattle.mps_base.specs.declared.address.Addr.{Addr}
use Rattle.mps_trace.specs.Finding.{FindsTo, passes}
use Rattle.mps_trace.specs.Trace.{TraceState, finds, keeps}
use Rattle.mps_trace.proofs.Known.{owner_within, has_policy, owner_found, policy_listed, finds_to, finds_aligned}
use Rattle.mps_trace.proofs.trace.Trace.fix.Goals as goal

pub returns-in_default-clause-fixed : goal.returns-in_default-clause-fixed
returns-in_default-clause-fixed g c = finds c.args.at (passes c.in_default.ensures.none)

pub index-requires : goal.index-requires
index-requires g c =
    let t : TraceState g.row.F.Denot =
    record { formats = c.self.inside.formats.items; amc = c.self.inside.amc; chains = c.self.inside.chains }
    in
    omega (
      arith,
      owner_within g.F.Format.layout c.args.self.now t c.self.view_is c.args.segs.now c.args.at c.in-Some.owner c.requires.find
          c.in-Some.ensures.condemned c.in-Some.ensures.over,
      c.self.inside.formats.ok,
    )

pub unreachable-requires : goal.unreachable-requires
unreachable-requires g c =
    let t : TraceState g.row.F.Denot =
    record { formats = c.self.inside.formats.items; amc = c.self.inside.amc; chains = c.self.inside.chains }
    in
    let there = has_policy g.F.Format.layout c.args.self.now t c.self.view_is c.args.segs.now c.args.at c.in-Some.owner c.requires.find
    c.in-Some.ensures.condemned c.in-Some.ensures.over c.index.result.now c.index.ensures in
    c.in_default-index.not-Some there.0 there.1

pub keep_as-requires-clause-can : goal.keep_as-requires-clause-can
keep_as-requires-clause-can g c =
    let t : TraceState g.row.F.Denot =
    record { formats = c.self.inside.formats.items; amc = c.self.inside.amc; chains = c.self.inside.chains }
    in
    let P : Option Addr → Type 0 = λ o. FindsTo g.F.Format.layout c.args.self.now.formats c.args.segs.now c.args.at o in
    c.requires.keep (subst P c.in-None.is (finds_to g.F.Format.layout c.args.self.now t c.self.view_is c.args.segs.now c.args.at
    c.in-Some.owner c.requires.find
    c.in-Some.ensures.condemned c.in-Some.ensures.over c.index.result.now c.index.ensures c.in-Some-index.policy c.in-Some-index.is
    c.find_in.result c.find_in.ensures.found))

pub keep_as-requires-clause-owned : goal.keep_as-requires-clause-owned
keep_as-requires-clause-owned g c = owner_found c.args.segs.now c.args.at c.in-Some.owner c.in-Some.ensures.over

pub keep_as-requires-clause-known : goal.keep_as-requires-clause-known
keep_as-requires-clause-known g c =
    let t : TraceState g.row.F.Denot =
    record { formats = c.self.inside.formats.items; amc = c.self.inside.amc; chains = c.self.inside.chains }
    in
    policy_listed g.F.Format.layout c.args.self.now t c.self.view_is c.args.segs.now c.args.at c.in-Some.owner c.requires.find
    c.in-Some.ensures.condemned c.in-Some.ensures.over c.index.result.now c.index.ensures c.in-Some-index.policy c.in-Some-index.is

pub returns-in-Some-find_in-clause-fixed : goal.returns-in-Some-find_in-clause-fixed
returns-in-Some-find_in-clause-fixed g c =
    let t : TraceState g.row.F.Denot =
    record { formats = c.self.inside.formats.items; amc = c.self.inside.amc; chains = c.self.inside.chains }
    in
    let P : Option Addr → Type 0 = λ o. FindsTo g.F.Format.layout c.args.self.now.formats c.args.segs.now c.args.at o in
    finds c.in-Some-find_in.to (subst P c.in-Some-find_in.is
    (finds_to g.F.Format.layout c.args.self.now t c.self.view_is c.args.segs.now c.args.at c.in-Some.owner c.requires.find
    c.in-Some.ensures.condemned c.in-Some.ensures.over c.index.result.now c.index.ensures c.in-Some-index.policy c.in-Some-index.is
    c.find_in.result c.find_in.ensures.found))

pub returns-in-Some-find_in-clause-aligned : goal.returns-in-Some-find_in-clause-aligned
returns-in-Some-find_in-clause-aligned g c =
    let t : TraceState g.row.F.Denot =
    record { formats = c.self.inside.formats.items; amc = c.self.inside.amc; chains = c.self.inside.chains }
    in
    let Q : Option Addr → Type 0 = λ o. IfSome o (λ to. to.0 % bytes_of_word ≡ 0) in
    subst Q c.in-Some-find_in.is (finds_aligned g.F.Format.layout c.args.self.now t c.self.view_is c.args.segs.now c.args.at
    c.in-Some.owner c.requires.find
    c.in-Some.ensures.condemned c.in-Some.ensures.over c.index.result.now c.index.ensures c.in-Some-index.policy c.in-Some-index.is
    c.find_in.result c.find_in.ensures.found)

pub returns-in-None-clause-fixed : goal.returns-in-None-clause-fixed
returns-in-None-clause-fixed g c =
    let t : TraceState g.row.F.Denot =
    record { formats = c.self.inside.formats.items; amc = c.self.inside.amc; chains = c.self.inside.chains }
    in
    let P : Option Addr → Type 0 = λ o. FindsTo g.F.Format.layout c.args.self.now.formats c.args.segs.now c.args.at o in
    keeps c.keep_as.result (subst P c.in-None.is (finds_to g.F.Format.layout c.args.self.now t c.self.view_is c.args.segs.now
    c.args.at c.in-Some.owner c.requires.find
    c.in-Some.ensures.condemned c.in-Some.ensures.over c.index.result.now c.index.ensures c.in-Some-index.policy c.in-Some-index.is
    c.find_in.result c.find_in.ensures.found)) c.keep_as.ensures.kept
