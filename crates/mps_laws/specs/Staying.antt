-- What a client holds stays where it is up to the next flip.
use Rattle.std.specs.Prelude.{◌≡◌, ◌⊎◌, ℕ, Bool, true, false, not, IsTrue, Some, None, ◌∷◌, ◌++◌, List, [], refl}
use Rattle.std.specs.List.{list_any, list_all}
use Rattle.mps_base.specs.Address.{Id, Address}
use Rattle.mps_base.specs.declared.names.Slot.{Slot}
use Rattle.mps_base.specs.declared.moves.Move.{Move}
use Rattle.mps_base.specs.declared.moves.Move.TheVariants as moves
use Rattle.mps_model.specs.Layout.{Layout}
use Rattle.mps_model.specs.declared.call.Call.TheVariants as call
use Rattle.mps_model.specs.declared.reply.Reply.TheVariants as reply
use Rattle.mps_model.specs.Answer.{Replied}
use Rattle.mps_model.specs.Step.{Step, History}
use Rattle.mps_model.specs.Graph.{contains, ids_of_client}
use Rattle.mps_model.specs.World.{World, address_of}
use Rattle.mps_model.specs.History.{IsLegalHistoryOf}
use Rattle.mps_laws.specs.Held.{target_of_slot}
use Rattle.mps_laws.specs.Replay.{reached}

abbrev pub is_flip : Move → Bool
is_flip (moves.Flip zones chain generation) = true
is_flip _ = false

abbrev pub flips_not : Step → Bool
flips_not s = not (list_any is_flip s.moves)

-- whether none of these steps has a flip
abbrev pub are_without_flip : History → Bool
are_without_flip steps = list_all flips_not steps

-- an object lies at this address, unless it is live no more
abbrev pub IsThereWhileLive : World → (id : Id) → (at : Address) → Type 0
IsThereWhileLive w id at = (address_of w id ≡ Some at) ⊎ (address_of w id ≡ None)

-- What stands in a slot, a hold, a message or a live reservation at the end of a step stays where it is, for as long as it lives,
-- up to the next step that has a flip: also if the client drops it meanwhile, and a collection runs.
abbrev pub HeldBlocksStay : Type 0
HeldBlocksStay =
    (formats : ℕ → Layout) (steps between later : History) (id : Id) (at : Address) → IsLegalHistoryOf formats ((steps ++ between) ++ later)
    → IsTrue (contains (ids_of_client (reached formats steps).graph) id)
    → address_of (reached formats steps) id ≡ Some at → IsTrue (are_without_flip between)
    → IsThereWhileLive (reached formats (steps ++ between)) id at

-- So what a client holds at both ends lies where it lay, since what it holds is live.
abbrev pub HeldThroughoutStays : Type 0
HeldThroughoutStays =
    (formats : ℕ → Layout) (steps between later : History) (id : Id) (at : Address) → IsLegalHistoryOf formats ((steps ++ between) ++ later)
    → IsTrue (contains (ids_of_client (reached formats steps).graph) id)
    → address_of (reached formats steps) id ≡ Some at → IsTrue (are_without_flip between)
    → IsTrue (contains (ids_of_client (reached formats (steps ++ between)).graph) id)
    → address_of (reached formats (steps ++ between)) id ≡ Some at

-- The address of an object that `addr` answers stays right up to the next step that has a flip: there the object is, for as long as
-- it lives.
abbrev pub AddressesStayRight : Type 0
AddressesStayRight =
    (formats : ℕ → Layout) (steps between later : History) (s : Step) (slot : Slot) (id : Id) (at : Address)
    → IsLegalHistoryOf formats ((steps ++ s ∷ between) ++ later) → s.call ≡ call.Address slot → s.answer ≡ Replied (reply.Word at)
    → target_of_slot (reached formats steps) slot ≡ Some id → IsTrue (are_without_flip between)
    → IsThereWhileLive (reached formats (steps ++ s ∷ between)) id at

-- ---- vectors

abbrev step_with : List Move → Step
step_with ms = record { line = 1; call = call.Collect; moves = ms; answer = Replied reply.Ok }

pub a_block_may_move_without_a_flip :
    are_without_flip (step_with [] ∷ step_with (moves.Moved (record { 0 = 0x1000 }) (record { 0 = 0x2000 }) ∷ []) ∷ []) ≡ true
a_block_may_move_without_a_flip = refl

pub one_step_has_a_flip : are_without_flip (step_with [] ∷ step_with (moves.End ∷ moves.Flip (record { 0 = 2 }) 16 0 ∷ []) ∷ []) ≡ false
one_step_has_a_flip = refl
