use Rattle.std.proofs.Common.{◌≡◌, ◌≤◌, ◌*◌, take}
use Rattle.mps_sac.specs.State.{count_in}
use Rattle.mps_sac.proofs.cache.count_in.Given as goal

abbrev pub invariant-loop-class : goal.invariant-loop-class
invariant-loop-class l = (l.count ≡ count_in (take l.class-index l.classes)) × (l.count ≤ 64 * l.class-index)
