use Rattle.std.proofs.Common.{◌≡◌, drop}
use Rattle.mps_trace.specs.Flip.{nailed_by_all}
use Rattle.mps_trace.proofs.Nailing.{AreBlocksSame}
use Rattle.mps_trace.proofs.trace.Trace.nail_words.Given as goal

-- the words from this one on are still to go
abbrev pub invariant-loop-index : goal.invariant-loop-index
invariant-loop-index g l =
    (nailed_by_all l.self.formats (drop l.index l.words) l.segs ≡ nailed_by_all l.self.formats l.words l.initial.segs)
    × AreBlocksSame l.initial.segs l.segs
