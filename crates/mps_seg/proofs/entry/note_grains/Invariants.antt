use Rattle.std.proofs.Common.{ℕ, ◌≡◌, ◌<◌, ◌≤◌, ◌⊎◌, length, get_or}
use Rattle.mps_seg.proofs.entry.note_grains.Given as goal

abbrev pub invariant-loop-at : goal.invariant-loop-at
invariant-loop-at g l = record {
  size : length l.table ≡ length l.initial.table;
  inside : (i : ℕ) (d : g.row.T.Denot) → l.grain ≤ i → i < l.at → get_or l.table i d ≡ l.value;
  outside : (i : ℕ) (d : g.row.T.Denot) → (i < l.grain) ⊎ (l.at ≤ i) → get_or l.table i d ≡ get_or l.initial.table i d;
}
