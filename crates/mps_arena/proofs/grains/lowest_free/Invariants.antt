use Rattle.std.proofs.Common.{◌-◌, ◌≤◌, ◌≡◌}
use Rattle.mps_arena.specs.Inside.{AreHeldBelow}
use Rattle.mps_arena.proofs.Scan.{Scan}
use Rattle.mps_arena.proofs.grains.lowest_free.Given as goal

abbrev pub invariant-loop-grain : goal.invariant-loop-grain
invariant-loop-grain l =
    Scan l.table l.need l.grain l.low l.most × (l.held_below ≤ l.low) × (l.most ≡ 0 → AreHeldBelow l.table l.low)

abbrev pub decreases-loop-grain : goal.decreases-loop-grain
decreases-loop-grain l = l.end - l.grain
