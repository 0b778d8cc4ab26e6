-- What a client holds is live: no command leads to a block that was freed.
use Rattle.std.specs.Prelude.{◌≡◌, ℕ, Bool, true, IsTrue, Option, Some, None, Ok, Err, ◌∷◌, ◌++◌, replicate, [], false, refl}
use Rattle.mps_base.specs.Address.{Id}
use Rattle.mps_base.specs.declared.names.Name.{Name}
use Rattle.mps_base.specs.declared.names.Slot.{Slot}
use Rattle.mps_model.specs.Layout.{Layout}
use Rattle.mps_model.specs.declared.call.Call.TheVariants as call
use Rattle.mps_model.specs.Answer.{is_accepted}
use Rattle.mps_model.specs.Step.{Step, History}
use Rattle.mps_model.specs.Graph.{TableThing, empty_graph}
use Rattle.mps_model.specs.World.{World, empty_world, is_live}
use Rattle.mps_model.specs.Checked.{Checked, Found, slot_in}
use Rattle.mps_model.specs.LegalMove.{target_in_cell}
use Rattle.mps_laws.specs.Replay.{reached}
use Rattle.mps_model.specs.History.{IsLegalHistoryOf, HeldAreLive, world_after}

-- After each step of a legal history: whatever stands in a slot, a hold, a message, a live reservation, a table of blocks or a
-- cache is live, and if no collection runs, so is whatever a live object refers to or a pair of a transform names.
abbrev pub HeldObjectsAreLive : Type 0
HeldObjectsAreLive =
    (formats : ℕ → Layout) (steps later : History) → IsLegalHistoryOf formats (steps ++ later)
    → HeldAreLive (reached formats steps)

-- ---- reading a reference

abbrev pub target_found : Checked (Found (Option ℕ)) → Option ℕ
target_found (Ok found) = found.value
target_found (Err why) = None

-- the object to which a slot refers. There is none if the slot is null, and if there is no such slot
abbrev pub target_of_slot : World → Slot → Option ℕ
target_of_slot w slot = target_found (slot_in w slot)

abbrev pub is_null_or_live : World → Option ℕ → Bool
is_null_or_live w None = true
is_null_or_live w (Some id) = is_live w id

-- an accepted `get`, between the worlds before and after it
pub record IsReadOfLive (before after : World) (target source : Slot) (cell : ℕ) : Type 0 where
  -- the object that is read, which is live
  pub object : Id
  pub read : target_of_slot before source ≡ Some object
  pub live : IsTrue (is_live before object)
  -- the target slot refers to what the cell refers to, which is null or live
  pub given : target_of_slot after target ≡ target_in_cell after object cell
  pub given_is_live : IsTrue (is_null_or_live after (target_of_slot after target))

-- A `get` that is accepted in a legal history reads a live object, and its target slot is then null or refers to a live one.
abbrev pub GetsReachLiveObjects : Type 0
GetsReachLiveObjects =
    (formats : ℕ → Layout) (steps later : History) (s : Step) (target source : Slot) (cell : ℕ)
    → IsLegalHistoryOf formats (steps ++ s ∷ later) → s.call ≡ call.Get target source cell → IsTrue (is_accepted s.answer)
    → IsReadOfLive (reached formats steps) (world_after (reached formats steps) s) target source cell

-- ---- vectors

-- the name of one letter
abbrev pub letter : (code : ℕ) → Name
letter code = record { bytes = code ∷ replicate 15 0 }

-- slot 0 of the table t refers to object 0, which lives, and slot 1 to object 1, which is gone. Slot 2 is null
abbrev one_gone : World
one_gone = record empty_world {
  graph = record empty_graph {
    tables = Some (Some 0 ∷ Some 1 ∷ None ∷ []) ∷ [];
    names = record { name = letter 116; thing = TableThing 0 } ∷ [];
  };
  addresses = Some 0x1000 ∷ None ∷ [];
}

-- a slot of the table t
abbrev pub slot_of_t : (index : ℕ) → Slot
slot_of_t index = record { name = letter 116; index = index }

pub a_live_target : is_null_or_live one_gone (target_of_slot one_gone (slot_of_t 0)) ≡ true
a_live_target = refl

pub a_dead_target : is_null_or_live one_gone (target_of_slot one_gone (slot_of_t 1)) ≡ false
a_dead_target = refl

pub a_null_slot : target_of_slot one_gone (slot_of_t 2) ≡ None
a_null_slot = refl

pub no_such_slot : target_of_slot one_gone (slot_of_t 3) ≡ None
no_such_slot = refl
