use Rattle.std.proofs.Common.{◌≡◌, ℕ, List, ◌*◌, ◌+◌, ◌≤◌, length}
use Rattle.mps_heap.specs.Collect.{most_moves}
use Rattle.mps_heap.specs.RightMoving.{KeepsRoom}
use Rattle.mps_heap_examples.specs.Listed.{HasNumbers}
use Rattle.mps_heap_examples.proofs.list.collect_often.Given as goal

-- the whole room of the trail stays enough, the arena as large, and each list is as it was
abbrev pub invariant-loop-done : goal.invariant-loop-done
invariant-loop-done l =
    (2 * most_moves l.heap.segs.grains ≤ l.trail.spare + length l.trail.moves) × KeepsRoom l.fn.trail l.trail
    × (l.heap.segs.grains ≡ l.fn.heap.segs.grains)
    × ((numbers : List ℕ) → HasNumbers l.fn.heap numbers → HasNumbers l.heap numbers)
