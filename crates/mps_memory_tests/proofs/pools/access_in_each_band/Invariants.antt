use Rattle.std.proofs.Common.{◌≡◌}
use Rattle.mps_seg.specs.Segs.{new_segments}
use Rattle.mps_memory_tests.proofs.pools.access_in_each_band.Given as goal

-- nothing has changed
abbrev pub invariant-loop-band : goal.invariant-loop-band
invariant-loop-band l = l.segs ≡ new_segments 8 8
