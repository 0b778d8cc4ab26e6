use Rattle.std.proofs.Common.{◌≡◌, ◌+◌, drop, map}
use Rattle.mps_base.specs.Generation.{due_from}
use Rattle.mps_gen.specs.State.{loads}
use Rattle.mps_gen.proofs.chains.due_from.Given as goal

abbrev pub invariant-loop-index : goal.invariant-loop-index
invariant-loop-index l =
    due_from (l.number + l.index) (loads (drop l.index (map (λ capacities. capacities.items) l.chains)) (drop l.index l.held))
    ≡ due_from l.number (loads (map (λ capacities. capacities.items) l.chains) l.held)
