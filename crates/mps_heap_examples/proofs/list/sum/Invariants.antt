use Rattle.std.proofs.Common.{◌≡◌, ℕ, List, ◌+◌, ◌≤◌, length}
use Rattle.mps_heap.specs.Collect.{most_moves}
use Rattle.mps_heap.specs.RightMoving.{KeepsRoom}
use Rattle.mps_format.specs.TailExample.{tail_layout}
use Rattle.mps_heap_examples.specs.Listed.{HasNumbers}
use Rattle.mps_heap_examples.proofs.Sums.{IsSummed}
use Rattle.mps_heap_examples.proofs.list.sum.Given as goal

-- the whole room of the trail stays enough, and the arena as large; and of each list that the heap had some numbers were added
abbrev pub invariant-loop-count : goal.invariant-loop-count
invariant-loop-count l =
    (most_moves l.heap.segs.grains ≤ l.trail.spare + length l.trail.moves) × KeepsRoom l.fn.trail l.trail
    × (l.heap.segs.grains ≡ l.fn.heap.segs.grains)
    × ((numbers : List ℕ) → HasNumbers l.fn.heap numbers → IsSummed (λ _. tail_layout) l.heap numbers l.count l.total)
