use Rattle.std.proofs.Common.{◌-◌, ◌≤◌, ◌≡◌, length}
use Rattle.mps_bits.specs.OpenRuns.{is_one}
use Rattle.mps_extents.specs.Lost.{freed_at, passing}
use Rattle.mps_extents.proofs.extents.sweeping.free_in_word.Given as goal

abbrev pub invariant-loop-left : goal.invariant-loop-left
invariant-loop-left l = record {
  to_go : freed_at (passing (λ i. is_one l.left (i - l.from)) l.from 64) l.trail
      ≡ freed_at (passing (λ i. is_one l.lost (i - l.from)) l.from 64) l.initial.trail;
  room : length (passing (λ i. is_one l.left (i - l.from)) l.from 64) ≤ l.trail.spare;
}

abbrev pub decreases-loop-left : goal.decreases-loop-left
decreases-loop-left l = length (passing (λ i. is_one l.left (i - l.from)) l.from 64)
