use Rattle.std.proofs.Common.{ap, arith}
use Rattle.mps_seg.specs.Segs.{SegsState, held_runs}
use Rattle.mps_seg.proofs.OpenWords.{open_bounds}
use Rattle.mps_buffer.proofs.reserving.hold.Goals as goal

pub clear-requires : goal.clear-requires
clear-requires c =
    let s = c.args.segs.now in
    let bounds = open_bounds s.grains (held_runs s) s.covered _ c.requires.free in
    let same = ap (λ (x : SegsState). x.grains) c.cover.ensures in
    omega (arith, bounds, same, c.grains.ensures.size)

pub set_word-requires : goal.set_word-requires
set_word-requires c =
    let s = c.args.segs.now in
    let bounds = open_bounds s.grains (held_runs s) s.covered _ c.requires.free in
    let same = ap (λ (x : SegsState). x.grains) c.cover.ensures in
    let same' = ap (λ (x : SegsState). x.grains) c.clear.ensures in
    omega (arith, bounds, same, same', c.grains-2.ensures.size, c.requires.nonzero)
