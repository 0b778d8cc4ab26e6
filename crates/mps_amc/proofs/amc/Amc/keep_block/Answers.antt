use Rattle.std.proofs.Common.{ℕ, ◌≡◌, List, sym, ap, ◌∙◌, subst, arith}
use Rattle.mps_seg.specs.Segs.{SegsState, CanCover, held_runs}
use Rattle.mps_seg.proofs.OpenWords.{open_bounds}
use Rattle.mps_amc.specs.Moving.{AreCopied, run_at}
use Rattle.mps_amc.proofs.Copying.{copy_stands}
use Rattle.mps_seg.specs.declared.buffer.Buffer.{Buffer}
use Rattle.mps_seg.specs.Buffer.{IsAtHand}
use Rattle.mps_amc.specs.Amc.{AmcState, tail_of}
use Rattle.mps_amc.proofs.Tails.{tail_written}
use Rattle.mps_amc.proofs.amc.Amc.keep_block.Goals as goal

pub returns-in-Ok-clause-at_hand : goal.returns-in-Ok-clause-at_hand
returns-in-Ok-clause-at_hand g c =
    let segs = c.move_block.new.segs in
    let tail = c.in-Ok.placed.rest in
    let written =
    ap (λ (x : AmcState). tail_of x c.args.pool c.args.generation) c.set_tail.ensures
    ∙ tail_written c.args.self.now c.args.pool c.args.generation tail c.requires.tail
    in
    let P : Buffer → Type 0 = λ b. IsAtHand segs b in
    let Q : ℕ → Type 0 = λ w. CanCover segs (record { from = w; count = tail.count }) in
    let rest : IsAtHand segs tail =
    λ some. subst Q (sym c.in-Ok.ensures.follows) (c.move_block.ensures.rest tail.count some c.in-Ok.ensures.all_free)
    in
    subst P (sym written) rest

pub returns-in-Ok-clause-stands : goal.returns-in-Ok-clause-stands
returns-in-Ok-clause-stands g c =
    let f = g.F.Format.layout c.args.format.now in
    let old = c.args.segs.now in
    let placed = c.place.new.segs in
    let n = c.args.words in
    let to = c.in-Ok.placed.at in
    let words : placed.words ≡ old.words = ap (λ (s : SegsState). s.words) c.place.ensures.state in
    let grains : placed.grains ≡ old.grains = ap (λ (s : SegsState). s.grains) c.place.ensures.state in
    let bounds = open_bounds placed.grains (held_runs placed) placed.covered (run_at to.0 n) c.in-Ok.ensures.free in
    let P : List ℕ → Type 0 = λ ws. AreCopied f ws c.move_block.new.segs.words c.args.at.0 to.0 n in
    copy_stands f old.words c.move_block.new.segs.words c.args.at.0 to.0 n c.requires.stands (subst P words c.move_block.ensures.words)
    (omega (arith, bounds, grains, c.grains.ensures.size))
