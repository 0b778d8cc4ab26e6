use Rattle.std.proofs.Common.{ℕ, ◌+◌, ◌-◌, ◌*◌, ◌<◌, ◌≡◌, sym, subst, arith}
use Rattle.mps_base.specs.Address.{word_of, bytes_of_word}
use Rattle.mps_base.specs.Run.{Run}
use Rattle.mps_seg.specs.Segs.{CanCover, held_runs}
use Rattle.mps_seg.specs.Buffer.{run_of}
use Rattle.mps_seg.proofs.OpenWords.{open_bounds}
use Rattle.mps_seg.proofs.PartCovered.{prefix_is_open, rest_is_open}
use Rattle.mps_buffer.specs.Points.{CanCoverAfter}
use Rattle.mps_buffer.proofs.reserving.front.Goals as goal

pub overflow_add-result : goal.overflow_add-result
overflow_add-result c =
    let s = c.args.segs.now in
    let b = c.args.buffer in
    let some : 0 < b.count = omega (arith, c.requires.enough, c.requires.nonzero) in
    let bounds = open_bounds s.grains (held_runs s) s.covered (run_of b) (c.requires.at_hand some) in
    omega (arith, bounds, c.requires.enough, c.grains.ensures.at_most)

pub returns-clause-free : goal.returns-clause-free
returns-clause-free c =
    let s = c.args.segs.now in
    let b = c.args.buffer in
    let some : 0 < b.count = omega (arith, c.requires.enough, c.requires.nonzero) in
    let shifted : word_of (bytes_of_word * b.from) ≡ b.from = omega arith in
    let P : ℕ → Type 0 = λ w. CanCover s (record { from = w; count = c.args.words }) in
    subst P (sym shifted)
    (prefix_is_open (run_of b) c.args.words c.requires.nonzero s.grains (held_runs s) s.covered (c.requires.at_hand some)
    c.requires.enough)

pub returns-clause-rest : goal.returns-clause-rest
returns-clause-rest c = λ more.
    let s = c.args.segs.now in
    let b = c.args.buffer in
    let some : 0 < b.count = omega (arith, c.requires.enough, c.requires.nonzero) in
    let shifted : word_of (bytes_of_word * b.from) ≡ b.from = omega arith in
    let left : Run = record { from = b.from + c.args.words; count = b.count - c.args.words } in
    let P : ℕ → Type 0 = λ w. CanCoverAfter s (record { from = w; count = c.args.words }) left in
    subst P (sym shifted)
    (rest_is_open (run_of b) c.args.words c.requires.nonzero s.grains (held_runs s) s.covered (c.requires.at_hand some)
    (omega (arith, more)))
