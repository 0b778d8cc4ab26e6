-- How a step is refused.
use Rattle.std.proofs.Common.{◌≡◌, ℕ, refl, List, [], ◌∷◌, true, false}
use Rattle.mps_base.specs.declared.moves.Move.{Move}
use Rattle.mps_base.specs.declared.moves.Move.TheVariants as moves
use Rattle.mps_model.specs.Step.{Step, History}
use Rattle.mps_model.specs.World.{World, empty_world}
use Rattle.mps_model.specs.History.{IsLegalStep, world_after_history, world_after_steps}
use Rattle.mps_model.proofs.Appending.{not_legal_then}
use Rattle.mps_model_examples.specs.WrongAnswers.{CannotFollow}

pub false_is_not_true : false ≡ true → ⊥
false_is_not_true h = absurd cc

-- a step can't follow a history where it isn't legal in the world that the history leaves
pub cannot_follow : (history : History) (s : Step) → (IsLegalStep (world_after_history history) s → ⊥) → CannotFollow history s
cannot_follow history s refused = not_legal_then empty_world (world_after_history history) history s [] refl refused

-- the same, where the world is known
pub cannot_follow_from : (v : World) (history : History) (s : Step) → world_after_steps empty_world history ≡ v → (IsLegalStep v s → ⊥)
    → CannotFollow history s
cannot_follow_from v history s leaves refused = not_legal_then empty_world v history s [] leaves refused

-- the address of the block that the first move frees, and 0 if it frees none
abbrev pub first_freed : List Move → ℕ
first_freed [] = 0
first_freed (moves.Free at ∷ ms) = at.0
first_freed _ = 0
