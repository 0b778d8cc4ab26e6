-- What the answer of a machine guarantees, in each of the worlds for which it stood, and in each line.
use Rattle.std.specs.Prelude.{ℕ, List}
use Rattle.mps_base.specs.declared.moves.Move.{Move}
use Rattle.mps_model.specs.declared.call.Call.{Call}
use Rattle.mps_model.specs.Answer.{Answer}
use Rattle.mps_model.specs.Step.{Step}
use Rattle.mps_model.specs.World.{World}
use Rattle.mps_model.specs.History.{IsLegalStep, world_after}

-- the step of a call in a line
abbrev pub step_in : (line : ℕ) → Call → List Move → Answer → Step
step_in line call moves answer = record { line = line; call = call; moves = moves; answer = answer }

-- the step is legal
abbrev pub IsLegalIn : (stood : World → Type 0) → Call → List Move → Answer → Type 0
IsLegalIn stood call moves answer = (w : World) (line : ℕ) → stood w → IsLegalStep w (step_in line call moves answer)

-- the machine represents the world after the step
abbrev pub StandsAfter : (stood stands : World → Type 0) → Call → List Move → Answer → Type 0
StandsAfter stood stands call moves answer =
    (w : World) (line : ℕ) → stood w → stands (world_after w (step_in line call moves answer))

-- the machine represents what it represented before
abbrev pub StandsStill : (stood stands : World → Type 0) → Type 0
StandsStill stood stands = (w : World) → stood w → stands w
