use Rattle.std.proofs.Common.{◌≡◌, None}
use Rattle.std.specs.Prelude.{replicate}
use Rattle.mps_snc.proofs.frames.Frames.new.Given as goal

abbrev pub invariant-loop : goal.invariant-loop
invariant-loop l = l.pools.items ≡ replicate l.counter None
