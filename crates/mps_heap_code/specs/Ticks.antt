-- How often a step ticks: once for each unit that it has a collection do.
use Rattle.std.specs.Prelude.{◌≡◌, ◌≢◌, ◌⊎◌, ◌+◌, ◌≤◌, ℕ, None}
use Rattle.mps_heap_spec.specs.State.{HeapState}
use Rattle.mps_heap_spec.specs.declared.arena.ArenaState.TheVariants as arena
use Rattle.mps_heap_spec.specs.declared.arena.Progress.{Progress}
use Rattle.mps_heap_spec.specs.declared.arena.Progress.TheVariants.{More}

-- a step of n units ticks n times if the arena is unclamped and a collection is in progress after it, and never more often. In an arena
-- that is clamped or parked, or if no collection was in progress, it doesn't tick
pub record HasTicked {F : Type 0} (h : HeapState F) (n : ℕ) (answer : Progress) (before after : ℕ) : Type 0 where
  pub all : h.arena ≡ arena.Unclamped → answer ≡ More → after ≡ before + n
  pub at_most : after ≤ before + n
  pub none : (h.arena ≢ arena.Unclamped) ⊎ (h.running ≡ None) → after ≡ before
