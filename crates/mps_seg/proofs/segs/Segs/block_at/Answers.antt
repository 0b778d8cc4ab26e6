use Rattle.std.proofs.Common.{sym, arith}
use Rattle.mps_extents.proofs.RunOver.{run_over-le}
use Rattle.mps_seg.proofs.segs.Segs.block_at.Goals as goal
use Rattle.mps_base.specs.Address.{word_of}

pub overflow_mul-result : goal.overflow_mul-result
overflow_mul-result c =
    omega (arith, run_over-le c.self.inside.extents.blocks (word_of c.args.n) c.in_ok-word.word (sym c.in_ok-word.ensures), c.ranges.n)
