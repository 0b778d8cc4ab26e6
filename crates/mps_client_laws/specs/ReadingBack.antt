-- What a read gives after a write: `get` after `put`, `num` after `setnum`, `load` after `store`. Any steps may come between them that
-- don't write the same cell or word: a collection may run meanwhile, and move the object.
use Rattle.std.specs.Prelude.{◌≡◌, ℕ, IsTrue, ◌∷◌, ◌++◌, Some}
use Rattle.mps_base.specs.Address.{Id}
use Rattle.mps_base.specs.declared.names.Slot.{Slot}
use Rattle.mps_model.specs.Layout.{Layout}
use Rattle.mps_model.specs.declared.call.Call.TheVariants as call
use Rattle.mps_model.specs.declared.reply.Reply.TheVariants as reply
use Rattle.mps_model.specs.Answer.{Replied, is_accepted}
use Rattle.mps_model.specs.Step.{Step, History}
use Rattle.mps_model.specs.World.{World}
use Rattle.mps_model.specs.History.{IsLegalHistoryOf, world_after}
use Rattle.mps_laws.specs.Held.{target_of_slot}
use Rattle.mps_laws.specs.Replay.{reached}
use Rattle.mps_client_laws.specs.Objects.{block_of_place, leave_cell, leaves_cell, leave_word}

-- a legal history in which one step writes and is accepted, and one reads later
pub record IsWriteAndRead (formats : ℕ → Layout) (steps between later : History) (write read : Step) : Type 0 where
  pub legal : IsLegalHistoryOf formats ((steps ++ write ∷ between) ++ read ∷ later)
  pub accepted : IsTrue (is_accepted write.answer)

-- the world before the step that reads
abbrev pub before_read : (formats : ℕ → Layout) (steps between : History) (write : Step) → World
before_read formats steps between write = reached formats (steps ++ write ∷ between)

-- `get` after `put` gives what was put: the slot into which cell k of the object is read then refers to what the source of the
-- `put` referred to. No step between writes the cell, and the read barrier of the `get` doesn't splat it.
abbrev pub GetGivesWhatWasPut : Type 0
GetGivesWhatWasPut =
    (formats : ℕ → Layout) (steps between later : History) (put get : Step) (target source into from : Slot) (k : ℕ) (id : Id)
    → IsWriteAndRead formats steps between later put get
    → put.call ≡ call.Put target k source → target_of_slot (reached formats steps) target ≡ Some id
    → IsTrue (leave_cell (world_after (reached formats steps) put) between id k)
    → get.call ≡ call.Get into from k → IsTrue (is_accepted get.answer)
    → target_of_slot (before_read formats steps between put) from ≡ Some id
    → IsTrue (leaves_cell (before_read formats steps between put) get id k)
    → target_of_slot (world_after (before_read formats steps between put) get) into ≡ target_of_slot (reached formats steps) source

-- `num` after `setnum` answers the number that was set, by whatever slots the two name the object
abbrev pub NumAnswersWhatWasSet : Type 0
NumAnswersWhatWasSet =
    (formats : ℕ → Layout) (steps between later : History) (set num : Step) (target source : Slot) (k value answered : ℕ) (id : Id)
    → IsWriteAndRead formats steps between later set num
    → set.call ≡ call.SetNumber target k value → target_of_slot (reached formats steps) target ≡ Some id
    → IsTrue (leave_cell (world_after (reached formats steps) set) between id k)
    → num.call ≡ call.Number source k → num.answer ≡ Replied (reply.Number answered)
    → target_of_slot (before_read formats steps between set) source ≡ Some id
    → answered ≡ value

-- `load` after `store` answers the word that was stored, by whatever places the two name the block
abbrev pub LoadAnswersWhatWasStored : Type 0
LoadAnswersWhatWasStored =
    (formats : ℕ → Layout) (steps between later : History) (store load : Step) (target source : Slot) (k value answered : ℕ) (id : Id)
    → IsWriteAndRead formats steps between later store load
    → store.call ≡ call.Store target k value → block_of_place (reached formats steps) target ≡ Some id
    → IsTrue (leave_word (world_after (reached formats steps) store) between id k)
    → load.call ≡ call.Load source k → load.answer ≡ Replied (reply.Number answered)
    → block_of_place (before_read formats steps between store) source ≡ Some id
    → answered ≡ value
