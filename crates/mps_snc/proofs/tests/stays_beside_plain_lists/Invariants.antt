use Rattle.std.specs.Prelude.{IsSome}
use Rattle.mps_snc.specs.State.{pool_at}
use Rattle.mps_snc.proofs.tests.stays_beside_plain_lists.Given as goal

abbrev pub invariant-loop : goal.invariant-loop
invariant-loop g l = IsSome (pool_at l.frames 3)
