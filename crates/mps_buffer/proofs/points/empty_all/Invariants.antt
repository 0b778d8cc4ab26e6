use Rattle.std.proofs.Common.{◌≡◌, ◌++◌, map, option_map, take, drop}
use Rattle.mps_buffer.specs.Points.{without_free_words}
use Rattle.mps_buffer.proofs.points.empty_all.Given as goal

-- the points before this one have no words at hand, and the others are as they were
abbrev pub invariant-loop-i : goal.invariant-loop-i
invariant-loop-i l = l.points ≡ map (option_map without_free_words) (take l.i l.initial.points) ++ drop l.i l.initial.points
