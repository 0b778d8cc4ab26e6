-- What a client holds is live.
use Rattle.std.proofs.Common.{ℕ, refl, [], ◌∷◌, ◌++◌}
use Rattle.std.specs.List.{AllByRecursion}
use Rattle.mps_model.specs.Layout.{Layout}
use Rattle.mps_model.specs.Step.{Step, History}
use Rattle.mps_model.specs.World.{World, empty_world_of}
use Rattle.mps_model.specs.History.{IsLegalHistoryOf, IsLegalStep, HeldAreLive, world_after}
use Rattle.mps_laws.specs.Replay.{reached}
use Rattle.mps_laws.proofs.LegalHistories.{kept_by_steps, IsLegalFrom-first}

pub held_at_first : (formats : ℕ → Layout) → HeldAreLive (empty_world_of formats)
held_at_first formats = record { client = refl; blocks = refl; referred = refl; transforms = refl }

held_after_step : (w : World) (s : Step) → HeldAreLive w → Unit {0} → IsLegalStep w s → HeldAreLive (world_after w s)
held_after_step w s held kind legal = legal.held_are_live

pub any_kind : (steps : History) → AllByRecursion (λ s. Unit {0}) steps
any_kind [] = tt
any_kind (s ∷ ss) = (tt, any_kind ss)

pub held_after : (formats : ℕ → Layout) (steps : History) → IsLegalHistoryOf formats steps
    → HeldAreLive (reached formats steps)
held_after formats steps legal =
    kept_by_steps HeldAreLive (λ s. Unit {0}) held_after_step (empty_world_of formats) steps (held_at_first formats) (any_kind steps) legal

pub held_objects_are_live : (formats : ℕ → Layout) (steps later : History) → IsLegalHistoryOf formats (steps ++ later)
    → HeldAreLive (reached formats steps)
held_objects_are_live formats steps later legal =
    held_after formats steps (IsLegalFrom-first (empty_world_of formats) steps later legal)
