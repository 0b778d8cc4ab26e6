use Rattle.std.proofs.Common.{◌≡◌, length}
use Rattle.mps_gen.specs.State.{max_generations}
use Rattle.mps_seg.specs.Counting.{grains_held_by}
use Rattle.mps_policy.proofs.Adding.{AreAdded}
use Rattle.mps_policy.proofs.due.with_pool.Given as goal

-- the generations passed so far have the grains of the pool too, and the rest are as they were
abbrev pub invariant-loop-generation : goal.invariant-loop-generation
invariant-loop-generation l = record {
  size : length l.sums ≡ max_generations;
  sums : AreAdded l.fn.held (λ g. grains_held_by l.pool g l.segs.segments) l.generation l.sums;
}
