use Rattle.mps_buffer.specs.Tokens.{IsReady}
use Rattle.mps_memory_tests.proofs.points.compare_all.Given as goal

abbrev pub invariant-loop-case : goal.invariant-loop-case
invariant-loop-case g l = IsReady l.points l.segs l.key
