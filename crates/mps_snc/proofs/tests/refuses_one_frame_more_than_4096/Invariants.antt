use Rattle.std.specs.Prelude.{IsSome}
use Rattle.mps_snc.specs.State.{pool_at}
use Rattle.mps_snc.proofs.tests.refuses_one_frame_more_than_4096.Given as goal

abbrev pub invariant-loop-number : goal.invariant-loop-number
invariant-loop-number g l = record { first : IsSome (pool_at l.frames 0); second : IsSome (pool_at l.frames 1) }
