use Rattle.std.proofs.Common.{◌≡◌, replicate}
use Rattle.std.proofs.Math.Seq.{paste}
use Rattle.mps_arena.proofs.memory.write_run.Given as goal

-- the words so far are 0
abbrev pub invariant-loop-i : goal.invariant-loop-i
invariant-loop-i l = l.words ≡ paste l.initial.words l.from (replicate l.count 0) l.i
