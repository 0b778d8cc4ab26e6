use Rattle.std.proofs.Common.{◌≡◌, take, map}
use Rattle.mps_sac.specs.State.{new_class}
use Rattle.mps_sac.proofs.cache.Cache.new.Given as goal

abbrev pub invariant-loop-size : goal.invariant-loop-size
invariant-loop-size l = l.classes.items ≡ map new_class (take l.size-index l.sizes)
