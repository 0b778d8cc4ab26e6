-- How often a history flips.
use Rattle.std.specs.Prelude.{ℕ, ◌+◌, ◌≤◌, length}
use Rattle.mps_model.specs.Layout.{Layout}
use Rattle.mps_model.specs.Step.{Step, History}
use Rattle.mps_model.specs.World.{World}
use Rattle.mps_model.specs.History.{IsLegalStep, IsLegalHistoryOf, world_after}
use Rattle.mps_laws.specs.Replay.{reached}

-- a legal step flips at most once, whatever its call is and in whatever world
abbrev pub StepFlipsOnceAtMost : Type 0
StepFlipsOnceAtMost = (w : World) (s : Step) → IsLegalStep w s → length (world_after w s).flips ≤ length w.flips + 1

-- so a legal history has no more flips than steps
abbrev pub FlipsAreNoMoreThanSteps : Type 0
FlipsAreNoMoreThanSteps =
    (formats : ℕ → Layout) (history : History) → IsLegalHistoryOf formats history
    → length (reached formats history).flips ≤ length history
