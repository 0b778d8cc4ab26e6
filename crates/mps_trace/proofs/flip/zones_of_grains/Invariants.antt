use Rattle.std.proofs.Common.{◌+◌, ◌-◌, ◌≤◌, ◌≡◌}
use Rattle.mps_base.specs.Zones.{zones_from}
use Rattle.mps_trace.proofs.flip.zones_of_grains.Given as goal

-- the zones of the last grains are found
abbrev pub invariant-loop-left : goal.invariant-loop-left
invariant-loop-left l = (l.zones ≡ zones_from (l.grains - l.left) (l.first + l.left)) × (l.left ≤ l.grains)

abbrev pub decreases-loop-left : goal.decreases-loop-left
decreases-loop-left l = l.left
