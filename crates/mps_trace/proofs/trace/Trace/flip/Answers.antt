use Rattle.std.proofs.Common.{ℕ, List, length, ap, ◌∙◌}
use Rattle.mps_base.specs.Segment.{Segment}
use Rattle.mps_base.specs.Trail.{Moves, with_move}
use Rattle.mps_base.specs.declared.moves.Move.TheVariants.{Flip}
use Rattle.mps_amc.specs.Amc.{AmcState, tails_after_flip}
use Rattle.mps_buffer.specs.Points.{after_all_end}
use Rattle.mps_ld.specs.State as ld
use Rattle.mps_seg.specs.Segs.{SegsState}
use Rattle.mps_trace.specs.Flip.{condemned_of, all_condemned, zones_at_flip, chain_of}
use Rattle.mps_trace.specs.Trace.{TraceState, Traced}
use Rattle.mps_trace.proofs.Ending.{segments_stay, in_order_still}
use Rattle.mps_trace.proofs.trace.Trace.flip.Goals as goal

pub condemn-condemned-requires : goal.condemn-condemned-requires
condemn-condemned-requires g c =
    let p = c.args.points.now in
    let same = ap (λ (s : SegsState). s.segments) c.flip.ensures.state ∙ segments_stay p.flips p.points c.args.segs.now in
    in_order_still c.args.segs.now c.flip.new.segs same c.requires.ordered

pub returns-clause-count : goal.returns-clause-count
returns-clause-count g c =
    let p = c.args.points.now in
    let t = c.args.self.now in
    let same = ap (λ (s : SegsState). s.segments) c.flip.ensures.state ∙ segments_stay p.flips p.points c.args.segs.now in
    c.condemn-condemned.ensures.count ∙ ap (λ (ts : List Segment). length (condemned_of t.formats t.chains c.args.what ts)) same

pub returns-clause-zones : goal.returns-clause-zones
returns-clause-zones g c =
    let p = c.args.points.now in
    let t = c.args.self.now in
    let same = ap (λ (s : SegsState). s.segments) c.flip.ensures.state ∙ segments_stay p.flips p.points c.args.segs.now in
    c.condemn-condemned.ensures.zones ∙ ap (λ (ts : List Segment). zones_at_flip t.formats t.chains c.args.what ts) same

pub returns-clause-flipped : goal.returns-clause-flipped
returns-clause-flipped g c =
    let p = c.args.points.now in
    let m = c.args.trail.now in
    let what = c.args.what in
    let formats = c.args.self.now.formats in
    let chains = c.args.self.now.chains in
    let same = ap (λ (s : SegsState). s.segments) c.flip.ensures.state ∙ segments_stay p.flips p.points c.args.segs.now in
    let zones_is = c.condemn-condemned.ensures.zones ∙ ap (λ (ts : List Segment). zones_at_flip formats chains what ts) same in
    let segs_is =
    c.condemn-condemned.ensures.state ∙ ap (λ (s : SegsState). all_condemned formats chains what s) c.flip.ensures.state in
    let numbered : ℕ → ℕ → ℕ → Moves = λ z chain generation. with_move m (Flip (record { 0 = z }) chain generation) in
    let moves_is =
    c.push.ensures ∙ ap (λ (z : ℕ). numbered z c.chain.result c.oldest.result) zones_is
    ∙ ap (λ (n : ℕ). numbered (zones_at_flip formats chains what c.args.segs.now.segments) n c.oldest.result) c.chain.ensures
    ∙ ap (λ (n : ℕ). numbered (zones_at_flip formats chains what c.args.segs.now.segments) (chain_of what) n) c.oldest.ensures
    in
    let amc_is = ap (λ (t : TraceState g.row.F.Denot). t.amc) c.drop_tails.ensures in
    let told = tails_after_flip c.args.self.now.amc in
    ap (λ (a : AmcState). let x : Traced = record { amc = a; segs = c.condemn-condemned.new.segs; moves = c.push.new.self } in x) amc_is
    ∙ ap (λ (s : SegsState). let x : Traced = record { amc = told; segs = s; moves = c.push.new.self } in x) segs_is
    ∙ ap
    (λ (n : Moves).
    let x : Traced =
    record { amc = told; segs = all_condemned formats chains what (after_all_end p.flips p.points c.args.segs.now); moves = n } in x)
    moves_is

pub returns-clause-epochs : goal.returns-clause-epochs
returns-clause-epochs g c =
    let p = c.args.points.now in
    let t = c.args.self.now in
    let same = ap (λ (s : SegsState). s.segments) c.flip.ensures.state ∙ segments_stay p.flips p.points c.args.segs.now in
    c.flip-2.ensures.state
    ∙ ap (λ (z : ℕ). ld.epochs_after_flip c.args.epochs.now z)
    (c.condemn-condemned.ensures.zones ∙ ap (λ (ts : List Segment). zones_at_flip t.formats t.chains c.args.what ts) same)
