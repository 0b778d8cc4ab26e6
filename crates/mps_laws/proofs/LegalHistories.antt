-- What holds after each step of a legal history: what each legal step keeps.
use Rattle.std.proofs.Common.{[], ◌∷◌, ◌++◌}
use Rattle.std.specs.List.{AllByRecursion}
use Rattle.mps_model.specs.Step.{Step, History}
use Rattle.mps_model.specs.World.{World}
use Rattle.mps_model.specs.History.{IsLegalStep, IsLegalFrom, world_after, world_after_steps}

-- what holds at first, and what each legal step of some kind keeps, holds after legal steps of this kind
pub kept_by_steps : (Holds : World → Type 0) (IsOfKind : Step → Type 0)
    → ((w : World) (s : Step) → Holds w → IsOfKind s → IsLegalStep w s → Holds (world_after w s))
    → (w : World) (steps : History) → Holds w → AllByRecursion IsOfKind steps → IsLegalFrom w steps → Holds (world_after_steps w steps)
kept_by_steps Holds IsOfKind keeps w [] holds kinds legal = holds
kept_by_steps Holds IsOfKind keeps w (s ∷ ss) holds kinds legal =
    kept_by_steps Holds IsOfKind keeps (world_after w s) ss (keeps w s holds kinds.0 legal.0) kinds.1 legal.1

-- the first part of a legal history is legal
pub IsLegalFrom-first : (w : World) (steps later : History) → IsLegalFrom w (steps ++ later) → IsLegalFrom w steps
IsLegalFrom-first w [] later legal = tt
IsLegalFrom-first w (s ∷ ss) later legal = (legal.0, IsLegalFrom-first (world_after w s) ss later legal.1)
