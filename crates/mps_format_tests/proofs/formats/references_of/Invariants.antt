use Rattle.std.proofs.Common.{ℕ, ◌<◌, ◌≤◌, ◌-◌, length, get_or}
use Rattle.std.specs.Prelude.{IsTrue}
use Rattle.mps_format_tests.proofs.formats.references_of.Given as goal

abbrev pub invariant-loop-cell : goal.invariant-loop-cell
invariant-loop-cell g l = record {
  within : l.from ≤ length l.block;
  fewer : l.count ≤ l.from;
  seen : (k : ℕ) → k < l.from → IsTrue ((g.F.Format.layout l.format).is_reference (get_or l.block 0 0) k) → 0 < l.count;
}

abbrev pub decreases-loop-cell : goal.decreases-loop-cell
decreases-loop-cell g l = length l.block - l.from
