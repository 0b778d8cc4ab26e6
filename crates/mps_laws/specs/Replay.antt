-- Replaying the log of a legal history: its live blocks.
use Rattle.std.specs.Prelude.{◌≡◌, ℕ, Some, length}
use Rattle.mps_model.specs.Layout.{Layout}
use Rattle.mps_model.specs.Step.{Step, History}
use Rattle.mps_model.specs.Log.{log_in_version, log_of, records_of_step}
use Rattle.mps_model.specs.Replay.{replay, replay_from}
use Rattle.mps_model.specs.Replayed.{State, replayed}
use Rattle.mps_model.specs.World.{World, empty_world_of}
use Rattle.mps_model.specs.History.{IsLegalStep, IsLegalHistoryOf, world_after, world_after_steps, live_blocks}

-- the world that a history reaches, where these are the object formats
abbrev pub reached : (formats : ℕ → Layout) → History → World
reached formats history = world_after_steps (empty_world_of formats) history

-- the records of a legal step, replayed from the live blocks before it, give the live blocks after it, in each world that a
-- legal history reaches
abbrev pub StepReplaysToLiveBlocks : Type 0
StepReplaysToLiveBlocks =
    (formats : ℕ → Layout) (history : History) (pools : ℕ) (s : Step) → IsLegalHistoryOf formats history
    → IsLegalStep (reached formats history) s
    → replay_from (live_blocks (reached formats history)) (records_of_step pools s)
    ≡ Some (live_blocks (world_after (reached formats history) s))

-- the log of a legal history replays without a bad record, to exactly the live blocks
abbrev pub LogReplaysToLiveBlocks : Type 0
LogReplaysToLiveBlocks =
    (formats : ℕ → Layout) (history : History) → IsLegalHistoryOf formats history
    → replay (log_of history) ≡ Some (live_blocks (reached formats history))

-- what a replay of version 2 comes to: the live blocks, and as many names as there are labels
abbrev pub replayed_state : World → State
replayed_state w = record { blocks = live_blocks w; interned = length w.graph.labels }

-- the log of version 2 of a legal history replays without a bad record, to exactly the live blocks and the labels: so each name is
-- interned by its number, and each labelled address is that of a live block
abbrev pub LabelledLogReplays : Type 0
LabelledLogReplays =
    (formats : ℕ → Layout) (steps : History) → IsLegalHistoryOf formats steps
    → replayed (log_in_version 2 steps) ≡ Some (replayed_state (reached formats steps))
