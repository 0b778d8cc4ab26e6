use Rattle.std.proofs.Common.{◌≤◌}
use Rattle.std.specs.Prelude.{vec_capacity}
use Rattle.mps_xform.proofs.Filled.{AreGathered}
use Rattle.mps_xform.proofs.replacements.gather.Given as goal

abbrev pub invariant-loop-rank : goal.invariant-loop-rank
invariant-loop-rank l = record {
  room : vec_capacity l.fn.ranked ≤ vec_capacity l.ranked;
  gathered : AreGathered l.pairs l.transform l.rank l.ranked.items l.marks;
}
