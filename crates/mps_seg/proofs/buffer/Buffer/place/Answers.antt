use Rattle.std.proofs.Common.{ℕ, ◌*◌, ◌<◌, ◌≡◌, sym, ap, subst, arith}
use Rattle.mps_base.specs.Address.{word_of, bytes_of_word}
use Rattle.mps_seg.specs.Segs.{SegsState, CanCover, held_runs}
use Rattle.mps_seg.proofs.PartCovered.{prefix_is_open}
use Rattle.mps_seg.specs.Buffer.{run_of}
use Rattle.mps_seg.proofs.OpenWords.{open_bounds}
use Rattle.mps_seg.proofs.buffer.Buffer.place.Goals as goal

pub overflow_add-result : goal.overflow_add-result
overflow_add-result c =
    let s = c.args.segs.now in
    let b = c.args.self in
    let some : 0 < b.count = omega (arith, c.if-words-self.true, c.requires.nonzero) in
    let bounds = open_bounds s.grains (held_runs s) s.covered (run_of b) (c.requires.at_hand some) in
    omega (arith, bounds, c.if-words-self.true, c.grains.ensures.at_most)

pub returns-then-words-self-clause-free : goal.returns-then-words-self-clause-free
returns-then-words-self-clause-free c =
    let s = c.args.segs.now in
    let b = c.args.self in
    let some : 0 < b.count = omega (arith, c.if-words-self.true, c.requires.nonzero) in
    let shifted : word_of (bytes_of_word * b.from) ≡ b.from = omega arith in
    let P : ℕ → Type 0 = λ w. CanCover s (record { from = w; count = c.args.words }) in
    subst P (sym shifted)
    (prefix_is_open (run_of b) c.args.words c.requires.nonzero s.grains (held_runs s) s.covered (c.requires.at_hand some)
    c.if-words-self.true)

pub overflow_cast-result-2 : goal.overflow_cast-result-2
overflow_cast-result-2 c =
    let s = c.take.new.self in
    let bounds = open_bounds s.grains (held_runs s) s.covered _ c.in_ok-at.ensures.free in
    let same = ap (λ (x : SegsState). x.grains) c.in_ok-at.ensures.state in
    omega (arith, bounds, same, c.grains.ensures.at_most, c.word.ensures)

pub overflow_add-result-2 : goal.overflow_add-result-2
overflow_add-result-2 c =
    let s = c.take.new.self in
    let bounds = open_bounds s.grains (held_runs s) s.covered _ c.in_ok-at.ensures.free in
    let same = ap (λ (x : SegsState). x.grains) c.in_ok-at.ensures.state in
    omega (arith, bounds, same, c.grains.ensures.at_most, c.word.ensures)
