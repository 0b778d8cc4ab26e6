use Rattle.std.proofs.Common.{arith}
use Rattle.mps_bits.proofs.OneWord.{run_starts_more}
use Rattle.mps_bits.proofs.word.run_starts.Goals as goal

pub loop-length-preserved : goal.loop-length-preserved
loop-length-preserved c = (
  omega arith,
  omega arith,
  run_starts_more c.args.word c.loop-length.starts c.loop-length.length c.min-step.result (omega arith) c.loop-length.invariant.2,
)
