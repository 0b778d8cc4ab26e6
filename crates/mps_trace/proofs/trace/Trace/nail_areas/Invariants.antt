use Rattle.std.proofs.Common.{◌≡◌, drop}
use Rattle.mps_trace.specs.Begin.{nailed_by_areas}
use Rattle.mps_trace.proofs.Nailing.{AreBlocksSame}
use Rattle.mps_trace.proofs.trace.Trace.nail_areas.Given as goal

-- the areas from this key on are still to go
abbrev pub invariant-loop-key : goal.invariant-loop-key
invariant-loop-key g l =
    (nailed_by_areas l.self.formats (drop l.key l.roots.areas) l.segs ≡ nailed_by_areas l.self.formats l.roots.areas l.initial.segs)
    × AreBlocksSame l.initial.segs l.segs
