use Rattle.mps_xform.proofs.Zoned.{AreZonedBelow}
use Rattle.mps_xform.proofs.replacements.zones_of.Given as goal

-- the zones of the pairs passed so far are there
abbrev pub invariant-loop-index : goal.invariant-loop-index
invariant-loop-index l = AreZonedBelow l.pairs l.index l.zones
