use Rattle.std.proofs.Common.{ap, arith}
use Rattle.mps_seg.specs.Segs.{SegsState, held_runs}
use Rattle.mps_seg.proofs.OpenWords.{open_bounds}
use Rattle.mps_manual.proofs.manual.Manual.alloc.Goals as goal

pub clear-requires : goal.clear-requires
clear-requires c =
    let s = c.place.new.self in
    let bounds = open_bounds s.grains (held_runs s) s.covered _ c.in_ok-at.ensures.free in
    let same = ap (λ (x : SegsState). x.grains) c.commit_block.ensures in
    omega (arith, bounds, same, c.grains.ensures.size)
