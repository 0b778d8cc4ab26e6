use Rattle.std.proofs.Common.{◌≡◌, ◌+◌, drop}
use Rattle.mps_base.specs.Generation.{later, greatest_over}
use Rattle.mps_gen.proofs.chains.greatest_over.Given as goal

abbrev pub invariant-loop-index : goal.invariant-loop-index
invariant-loop-index l =
    later l.greatest (greatest_over (l.generation + l.index) (drop l.index l.capacities) (drop l.index l.held))
    ≡ greatest_over l.generation l.capacities l.held
