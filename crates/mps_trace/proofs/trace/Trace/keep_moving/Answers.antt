use Rattle.std.proofs.Common.{◌≡◌, ◌∙◌, Some, length, ap, sym, subst, arith}
use Rattle.std.specs.Prelude.{slice_get}
use Rattle.mps_trace.specs.Trace.{TraceState, Traced, traced, KeepsTo}
use Rattle.mps_seg.specs.Segs.{SegsState}
use Rattle.mps_trace.proofs.Fixed.{fixed_aligned, fixed_long, stands_whole}
use Rattle.mps_trace.proofs.Keeping.{can_there, pool_known, can_move, has_tail, at_hand, moved}
use Rattle.mps_trace.proofs.Known.{policy_known}
use Rattle.mps_trace.proofs.trace.Trace.keep_moving.Goals as goal

pub target-generation-requires : goal.target-generation-requires
target-generation-requires g c =
    let s = c.args.segs.now in
    let m = c.args.trail.now in
    let t : TraceState g.row.F.Denot =
    record { formats = c.self.inside.formats.items; amc = c.self.inside.amc; chains = c.self.inside.chains }
    in
    let can = can_there g.F.Format.layout c.args.self.now t s m c.args.at c.self.view_is c.requires.can in
    let known = subst (λ (u : TraceState g.row.F.Denot). slice_get u.formats c.args.owner.pool ≡ Some (Some c.args.policy))
    (sym c.self.view_is)
    c.requires.known
    in
    let got_is =
    policy_known t.formats t.chains s c.args.at c.args.owner can.segment can.format can.over can.listed c.requires.owned c.args.policy known
    in
    pool_known g.F.Format.layout t s m c.args.at can c.args.policy got_is c.requires.moves c.args.owner c.requires.owned

pub keep-to-requires-clause-stands : goal.keep-to-requires-clause-stands
keep-to-requires-clause-stands g c =
    let s = c.args.segs.now in
    let m = c.args.trail.now in
    let t : TraceState g.row.F.Denot =
    record { formats = c.self.inside.formats.items; amc = c.self.inside.amc; chains = c.self.inside.chains }
    in
    let can = can_there g.F.Format.layout c.args.self.now t s m c.args.at c.self.view_is c.requires.can in
    let known = subst (λ (u : TraceState g.row.F.Denot). slice_get u.formats c.args.owner.pool ≡ Some (Some c.args.policy))
    (sym c.self.view_is)
    c.requires.known
    in
    let got_is =
    policy_known t.formats t.chains s c.args.at c.args.owner can.segment can.format can.over can.listed c.requires.owned c.args.policy known
    in
    (can_move g.F.Format.layout t s m c.args.at can c.args.policy got_is c.requires.moves c.args.owner c.requires.owned).stands

pub keep-to-requires-clause-block : goal.keep-to-requires-clause-block
keep-to-requires-clause-block g c =
    let s = c.args.segs.now in
    let m = c.args.trail.now in
    let t : TraceState g.row.F.Denot =
    record { formats = c.self.inside.formats.items; amc = c.self.inside.amc; chains = c.self.inside.chains }
    in
    let can = can_there g.F.Format.layout c.args.self.now t s m c.args.at c.self.view_is c.requires.can in
    let known = subst (λ (u : TraceState g.row.F.Denot). slice_get u.formats c.args.owner.pool ≡ Some (Some c.args.policy))
    (sym c.self.view_is)
    c.requires.known
    in
    let got_is =
    policy_known t.formats t.chains s c.args.at c.args.owner can.segment can.format can.over can.listed c.requires.owned c.args.policy known
    in
    (can_move g.F.Format.layout t s m c.args.at can c.args.policy got_is c.requires.moves c.args.owner c.requires.owned).block

pub keep-to-requires-clause-fits : goal.keep-to-requires-clause-fits
keep-to-requires-clause-fits g c =
    let s = c.args.segs.now in
    let m = c.args.trail.now in
    let t : TraceState g.row.F.Denot =
    record { formats = c.self.inside.formats.items; amc = c.self.inside.amc; chains = c.self.inside.chains }
    in
    let can = can_there g.F.Format.layout c.args.self.now t s m c.args.at c.self.view_is c.requires.can in
    let known = subst (λ (u : TraceState g.row.F.Denot). slice_get u.formats c.args.owner.pool ≡ Some (Some c.args.policy))
    (sym c.self.view_is)
    c.requires.known
    in
    let got_is =
    policy_known t.formats t.chains s c.args.at c.args.owner can.segment can.format can.over can.listed c.requires.owned c.args.policy known
    in
    (can_move g.F.Format.layout t s m c.args.at can c.args.policy got_is c.requires.moves c.args.owner c.requires.owned).room

pub keep-to-requires-clause-tail : goal.keep-to-requires-clause-tail
keep-to-requires-clause-tail g c =
    let s = c.args.segs.now in
    let m = c.args.trail.now in
    let t : TraceState g.row.F.Denot =
    record { formats = c.self.inside.formats.items; amc = c.self.inside.amc; chains = c.self.inside.chains }
    in
    let can = can_there g.F.Format.layout c.args.self.now t s m c.args.at c.self.view_is c.requires.can in
    let known = subst (λ (u : TraceState g.row.F.Denot). slice_get u.formats c.args.owner.pool ≡ Some (Some c.args.policy))
    (sym c.self.view_is)
    c.requires.known
    in
    let got_is =
    policy_known t.formats t.chains s c.args.at c.args.owner can.segment can.format can.over can.listed c.requires.owned c.args.policy known
    in
    has_tail g.F.Format.layout t s m c.args.at can c.args.policy got_is c.requires.moves c.args.owner c.requires.owned
    c.target-generation.result
    c.target-generation.ensures

pub keep-to-requires-clause-at_hand : goal.keep-to-requires-clause-at_hand
keep-to-requires-clause-at_hand g c =
    let s = c.args.segs.now in
    let m = c.args.trail.now in
    let t : TraceState g.row.F.Denot =
    record { formats = c.self.inside.formats.items; amc = c.self.inside.amc; chains = c.self.inside.chains }
    in
    let can = can_there g.F.Format.layout c.args.self.now t s m c.args.at c.self.view_is c.requires.can in
    let known = subst (λ (u : TraceState g.row.F.Denot). slice_get u.formats c.args.owner.pool ≡ Some (Some c.args.policy))
    (sym c.self.view_is)
    c.requires.known
    in
    let got_is =
    policy_known t.formats t.chains s c.args.at c.args.owner can.segment can.format can.over can.listed c.requires.owned c.args.policy known
    in
    at_hand g.F.Format.layout t s m c.args.at can c.args.policy got_is c.requires.moves c.args.owner c.requires.owned
    c.target-generation.result
    c.target-generation.ensures

pub returns-clause-kept : goal.returns-clause-kept
returns-clause-kept g c =
    let s = c.args.segs.now in
    let m = c.args.trail.now in
    let t : TraceState g.row.F.Denot =
    record { formats = c.self.inside.formats.items; amc = c.self.inside.amc; chains = c.self.inside.chains }
    in
    let can = can_there g.F.Format.layout c.args.self.now t s m c.args.at c.self.view_is c.requires.can in
    let known = subst (λ (u : TraceState g.row.F.Denot). slice_get u.formats c.args.owner.pool ≡ Some (Some c.args.policy))
    (sym c.self.view_is)
    c.requires.known
    in
    let got_is =
    policy_known t.formats t.chains s c.args.at c.args.owner can.segment can.format can.over can.listed c.requires.owned c.args.policy known
    in
    let y : Traced = record { amc = c.keep-to.new.self; segs = c.keep-to.new.segs; moves = c.keep-to.new.trail } in
    let z : Traced = record y { segs = c.note_copy.new.segs } in
    let P : TraceState g.row.F.Denot → Type 0 =
    λ u. KeepsTo g.F.Format.layout u.formats u.chains (traced u s m) c.args.at z c.keep-to.result
    in
    subst P c.self.view_is
    (moved g.F.Format.layout t s m c.args.at can c.args.policy got_is c.requires.moves c.args.owner c.requires.owned
    c.target-generation.result
    c.target-generation.ensures y z c.keep-to.result c.keep-to.ensures.kept
    (ap (λ (x : SegsState). let w : Traced = record y { segs = x } in w) c.note_copy.ensures.noted))

pub note_copy-requires-clause-aligned : goal.note_copy-requires-clause-aligned
note_copy-requires-clause-aligned g c = fixed_aligned c.keep-to.ensures.kept c.requires.can.aligned

pub note_copy-requires-clause-in_arena : goal.note_copy-requires-clause-in_arena
note_copy-requires-clause-in_arena g c =
    let long = fixed_long c.keep-to.ensures.kept in let within = c.requires.can.in_arena in omega (arith, long, within)

pub note_copy-requires-clause-stands : goal.note_copy-requires-clause-stands
note_copy-requires-clause-stands g c = stands_whole c.keep-to.ensures.stands

pub returns-clause-aligned : goal.returns-clause-aligned
returns-clause-aligned g c = fixed_aligned c.keep-to.ensures.kept c.requires.can.aligned

pub returns-clause-size : goal.returns-clause-size
returns-clause-size g c = ap (λ (x : SegsState). length x.words) c.note_copy.ensures.noted ∙ fixed_long c.keep-to.ensures.kept
