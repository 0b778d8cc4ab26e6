use Rattle.std.proofs.Common.{ℕ, sym, ◌∙◌, subst}
use Rattle.mps_seg.specs.Buffer.{IsAtHand}
use Rattle.mps_amc.specs.Moving.{size_at}
use Rattle.mps_amc.specs.Amc.{HasTail, tail_of, IsFixed, forwards, is_kept, keeps}
use Rattle.mps_amc.proofs.amc.Amc.fix.Goals as goal

pub returns-in-Some-clause-fixed : goal.returns-in-Some-clause-fixed
returns-in-Some-clause-fixed g c = forwards c.in-Some.to c.in-Some.ensures.sound

pub returns-then-is_kept-clause-fixed : goal.returns-then-is_kept-clause-fixed
returns-then-is_kept-clause-fixed g c = is_kept c.in_default.ensures.complete (sym c.is_kept.ensures ∙ c.if-is_kept.true)

pub keep-requires-clause-stands : goal.keep-requires-clause-stands
keep-requires-clause-stands g c = (c.requires.block c.in_default.ensures.complete).0

pub keep-requires-clause-block : goal.keep-requires-clause-block
keep-requires-clause-block g c = (c.requires.block c.in_default.ensures.complete).1

pub keep-requires-clause-tail : goal.keep-requires-clause-tail
keep-requires-clause-tail g c =
    let there = c.requires.segment in
    let P : ℕ → Type 0 = λ p. HasTail c.args.self.now p c.args.generation in
    subst P (sym (c.pool_at-pool.ensures there.0 there.1)) there.2

pub keep-requires-clause-at_hand : goal.keep-requires-clause-at_hand
keep-requires-clause-at_hand g c =
    let there = c.requires.segment in
    let P : ℕ → Type 0 = λ p. IsAtHand c.args.segs.now (tail_of c.args.self.now p c.args.generation) in
    subst P (sym (c.pool_at-pool.ensures there.0 there.1)) there.3

pub returns-clause-fixed : goal.returns-clause-fixed
returns-clause-fixed g c =
    let there = c.requires.segment in
    let f = g.F.Format.layout c.args.format.now in
    let P : ℕ → Type 0 =
    λ p. IsFixed f c.args.self.now c.keep.new.self c.args.segs.now c.keep.new.segs c.args.trail.now c.keep.new.trail c.args.at p
    c.args.generation (size_at f c.args.segs.now.words c.args.at.0) c.keep.result
    in
    keeps there.0 c.keep.result c.in_default.ensures.complete (sym c.is_kept.ensures ∙ c.if-is_kept.false) there.1
    (subst P (c.pool_at-pool.ensures there.0 there.1) c.keep.ensures.kept)

pub returns-clause-at_hand : goal.returns-clause-at_hand
returns-clause-at_hand g c = λ t over.
    let P : ℕ → Type 0 = λ p. IsAtHand c.keep.new.segs (tail_of c.keep.new.self p c.args.generation) in
    subst P (c.pool_at-pool.ensures t over) c.keep.ensures.at_hand
