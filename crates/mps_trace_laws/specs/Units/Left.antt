-- The units that are left of a collection only become fewer.
use Rattle.std.specs.Prelude.{◌≡◌, ◌<◌, ◌≤◌, ◌+◌, ℕ, List, length, false}
use Rattle.mps_base.specs.Address.{Address}
use Rattle.mps_base.specs.declared.moves.Move.{Move}
use Rattle.mps_model.specs.Effect.{Condemnation, condemned_by}
use Rattle.mps_model.specs.Flip.{is_nothing}
use Rattle.mps_model.specs.Step.{Step}
use Rattle.mps_model.specs.World.{World}
use Rattle.mps_abstract.specs.ClientLaws.{IsClientStep, after_client}
use Rattle.mps_abstract.specs.Collecting.{Collecting, Running, units_left}
use Rattle.mps_abstract.specs.FlipLaws.{FixesHeld, IsAtRest, IsNumbered, collecting_after_flip}
use Rattle.mps_abstract.specs.Remembered.{RefersToNothingElse, remembered}
use Rattle.mps_abstract.specs.Units.{GoesOn}

-- after the act of a flip: at most one for each object that it condemned or remembers, for each registration and for each condemned
-- segment
abbrev pub AFlipLeavesThese : Type 0
AFlipLeavesThese =
    (w : World) (what : Condemnation) (summary : Address → ℕ) (ms : List Move) (y : Collecting) → IsAtRest w → IsNumbered what
    → is_nothing (condemned_by w what) ≡ false → RefersToNothingElse summary w what
    → FixesHeld w (collecting_after_flip w what (remembered summary w what)) ms y
    → units_left y ≤ length (collecting_after_flip w what (remembered summary w what)).running.condemned
    + length (remembered summary w what)
    + length w.graph.registered + length (condemned_by w what)

-- no call of the client raises them, once the collector's part of its step is done
abbrev pub NoCallLeavesMore : Type 0
NoCallLeavesMore =
    (w : World) (x : Collecting) (s : Step) → Running x → IsClientStep w x s → units_left (after_client w x s) ≤ units_left x

-- a collection that goes on after n units had more than n left
abbrev pub UnitsGoOnBelow : Type 0
UnitsGoOnBelow = (x y : Collecting) (count : ℕ) (ms : List Move) → Running x → GoesOn x count ms y → count < units_left x
