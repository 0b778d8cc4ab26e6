-- What a `collect` leaves of what can be reached.
use Rattle.std.specs.Prelude.{◌≡◌, ◌==◌, if◌then◌else◌, ℕ, Bool, false, IsTrue, List, [], ◌∷◌, ◌++◌, Some, refl}
use Rattle.std.specs.List.{list_any}
use Rattle.mps_base.specs.Address.{Id}
use Rattle.mps_model.specs.Layout.{Layout}
use Rattle.mps_model.specs.declared.call.Call.TheVariants as call
use Rattle.mps_model.specs.Answer.{is_accepted}
use Rattle.mps_model.specs.Step.{Step, History}
use Rattle.mps_model.specs.Graph.{Graph, Cell, is_weak_object, ids_in_holds, ids_in_slots, strong_targets}
use Rattle.mps_model.specs.Reachable.{PathLeads}
use Rattle.mps_model.specs.World.{World, is_live, is_running, object_is}
use Rattle.mps_model.specs.WellFormed.{is_live_automatic}
use Rattle.mps_model.specs.Effect.{Everything}
use Rattle.mps_model.specs.Flip.{world_at_flip}
use Rattle.mps_model.specs.Posts.{IsWidelyReachableWith}
use Rattle.mps_model.specs.History.{IsLegalHistoryOf, IsLegalStep, world_after}
use Rattle.mps_laws.specs.Replay.{reached}
use Rattle.mps_client_laws.specs.Objects.{cell_at, two_objects, with_a_dependent, writes_cell}

-- the objects in slots, area words and messages
abbrev pub held_ids : Graph → List Id
held_ids g = ids_in_slots g ++ ids_in_holds g ++ g.messages

-- whether an object is the dependent of another, whose splats make its cells null too
abbrev pub is_dependent : Graph → (id : Id) → Bool
is_dependent g id = list_any (λ (p : Id × Id). p.1 == id) g.dependents

-- what an object refers to, if no splat makes a cell of it null: it is neither weak nor a dependent
abbrev pub lasting_targets : Graph → (id : Id) → List ℕ
lasting_targets g id = if is_dependent g id then [] else strong_targets g id

-- a path leads to the object from what is in slots, area words and messages, through reference cells of objects that are neither
-- weak nor dependents
abbrev pub IsReached : Graph → (id : Id) → Type 0
IsReached g id = PathLeads (lasting_targets g) (held_ids g) id

-- a path leads there through reference cells of objects that aren't weak, dependents too
abbrev pub IsReachedByDependents : Graph → (id : Id) → Type 0
IsReachedByDependents g id = PathLeads (strong_targets g) (held_ids g) id

-- an object that a collection left: it is live, and each cell is as before if the object is neither weak nor a dependent
pub record IsLeft (before after : World) (id : Id) : Type 0 where
  pub live : IsTrue (is_live after id)
  pub cells :
      (k : ℕ) (cell : Cell) → object_is is_weak_object before id ≡ false → is_dependent before.graph id ≡ false
      → cell_at before.graph id k ≡ Some cell → cell_at after.graph id k ≡ Some cell

-- A cell of an object that is neither weak nor a dependent stays what it is over a legal step whose call doesn't write it: no move can.
abbrev pub LastingCellsStay : Type 0
LastingCellsStay =
    (w : World) (s : Step) (id k : ℕ) (cell : Cell) → IsLegalStep w s → object_is is_weak_object w id ≡ false
    → is_dependent w.graph id ≡ false → writes_cell w s.call id k ≡ false → cell_at w.graph id k ≡ Some cell
    → cell_at (world_after w s).graph id k ≡ Some cell

-- What can be reached before an accepted `collect` is live after it with its cells.
abbrev pub CollectLeavesWhatIsReached : Type 0
CollectLeavesWhatIsReached =
    (formats : ℕ → Layout) (steps later : History) (s : Step) (id : Id) → IsLegalHistoryOf formats (steps ++ s ∷ later)
    → s.call ≡ call.Collect → IsTrue (is_accepted s.answer) → IsReached (reached formats steps).graph id
    → IsLeft (reached formats steps) (world_after (reached formats steps) s) id

-- If no collection runs, what dependents refer to stays for this `collect` too: each live automatic object that is reached through
-- them is live after it, also if a splat of the `collect` makes such a reference null.
abbrev pub WhatDependentsReachStays : Type 0
WhatDependentsReachStays =
    (formats : ℕ → Layout) (steps later : History) (s : Step) (id : Id) → IsLegalHistoryOf formats (steps ++ s ∷ later)
    → s.call ≡ call.Collect → IsTrue (is_accepted s.answer) → is_running (reached formats steps) ≡ false
    → IsTrue (is_live_automatic (reached formats steps) id) → IsReachedByDependents (reached formats steps).graph id
    → IsTrue (is_live (world_after (reached formats steps) s) id)

-- What can't be reached is gone. Take a live automatic object when no collection runs, and the messages that an accepted `collect`
-- posts. If the object isn't reached in the world that the flip leaves, neither from what the client holds, nor from the objects in
-- which area words lie, nor from those that are posted, it is live no more.
abbrev pub WhatIsNotReachedIsGone : Type 0
WhatIsNotReachedIsGone =
    (formats : ℕ → Layout) (steps later : History) (s : Step) (id : Id) (posts : List Id) → IsLegalHistoryOf formats (steps ++ s ∷ later)
    → s.call ≡ call.Collect → IsTrue (is_accepted s.answer) → is_running (reached formats steps) ≡ false
    → IsTrue (is_live_automatic (reached formats steps) id)
    → (world_after (reached formats steps) s).graph.messages ≡ (reached formats steps).graph.messages ++ posts
    → ¬ IsWidelyReachableWith (world_at_flip (reached formats steps) Everything) posts id
    → is_live (world_after (reached formats steps) s) id ≡ false

-- ---- vectors

pub the_slot_holds_one : held_ids two_objects.graph ≡ 0 ∷ []
the_slot_holds_one = refl

pub a_strong_object_leads_on : strong_targets two_objects.graph 0 ≡ 1 ∷ []
a_strong_object_leads_on = refl

pub a_weak_object_leads_nowhere : strong_targets two_objects.graph 1 ≡ []
a_weak_object_leads_nowhere = refl

pub no_dependent_leads_on_as_before : lasting_targets two_objects.graph 0 ≡ 1 ∷ []
no_dependent_leads_on_as_before = refl

pub a_dependent_may_lose_what_it_refers_to : lasting_targets with_a_dependent.graph 0 ≡ []
a_dependent_may_lose_what_it_refers_to = refl

pub the_holder_is_no_dependent : is_dependent with_a_dependent.graph 1 ≡ false
the_holder_is_no_dependent = refl
