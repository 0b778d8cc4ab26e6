use Rattle.std.proofs.Common.{◌-◌, ◌%◌, ◌≤◌, ◌≡◌, length}
use Rattle.mps_extents.specs.Lost.{freed_at, passing, begins_lost}
use Rattle.mps_extents.proofs.extents.sweeping.free_lost.Given as goal

abbrev pub invariant-loop-at : goal.invariant-loop-at
invariant-loop-at l = record {
  upto : l.at ≤ l.high;
  whole : l.at % 64 ≡ 0;
  to_go : freed_at (passing (begins_lost l.blocks l.kept) l.at (l.high - l.at)) l.trail
      ≡ freed_at (passing (begins_lost l.blocks l.kept) l.low (l.high - l.low)) l.initial.trail;
  room : length (passing (begins_lost l.blocks l.kept) l.at (l.high - l.at)) ≤ l.trail.spare;
}

abbrev pub decreases-loop-at : goal.decreases-loop-at
decreases-loop-at l = l.high - l.at
