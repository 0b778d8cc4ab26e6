-- Which addresses registrations and messages have while a collection runs.
use Rattle.std.specs.Prelude.{◌≡◌, ℕ, ◌-◌, ◌<◌, ◌≤◌, IsTrue, Option, Some, List, [], ◌∷◌, ◌++◌, map, take, drop, slice_get, refl}
use Rattle.std.specs.Option.{option_map_or}
use Rattle.mps_base.specs.Address.{Address, Id}
use Rattle.mps_trace.specs.State.{FinalsState}
use Rattle.mps_model.specs.Graph.{Object, entry_at, is_automatic}

-- the address of an object, 0 if it has none
abbrev pub address_of_id : (addresses : List (Option Address)) → Id → Address
address_of_id addresses id = option_map_or (λ at. at) (entry_at addresses id) 0

-- an entry for each id: that of now for the first ones and for the last ones, and that of the flip for as many as are due between them
abbrev pub before_and_since : {A : Type 0} (now was : Id → A) (next due : ℕ) → List Id → List A
before_and_since now was next due ids =
    map now (take next ids) ++ (map was (take due (drop next ids)) ++ map now (drop due (drop next ids)))

-- registrations from the next one to examine up to those that were made before the flip have the addresses where their objects lay then.
-- The other registrations, and messages, have those where their objects lie now
pub record AreFinals (at_flip addresses : List (Option Address)) (registered messages : List Id) (next before : ℕ) (f : FinalsState)
    : Type 0 where
  pub registrations : f.registered
      ≡ before_and_since (address_of_id addresses) (address_of_id at_flip) next (before - next) registered
  pub waiting : f.messages ≡ map (address_of_id addresses) messages

-- where no collection runs all of them have the addresses of their objects
pub record AreFinalsAtRest (addresses : List (Option Address)) (registered messages : List Id) (f : FinalsState) : Type 0 where
  pub registrations : f.registered ≡ map (address_of_id addresses) registered
  pub waiting : f.messages ≡ map (address_of_id addresses) messages

-- what is still to be examined had an address at the flip, and whatever is registered is automatic
pub record AreDue (at_flip : List (Option Address)) (objects : List Object) (registered : List Id) (next before : ℕ) : Type 0 where
  pub lived : (position : ℕ) (id : Id) → next ≤ position → position < before → slice_get registered position ≡ Some id
      → (from : Address) × (entry_at at_flip id ≡ Some from)
  pub automatic : (position : ℕ) (id : Id) → slice_get registered position ≡ Some id
      → (o : Object) × (slice_get objects id ≡ Some o) × IsTrue (is_automatic o)

-- ---- vectors: objects 0 and 1 are registered, and object 1 has moved. The first registration was examined

pub an_examined_registration : AreFinals (Some 8 ∷ Some 16 ∷ []) (Some 8 ∷ Some 40 ∷ []) (1 ∷ 0 ∷ []) (1 ∷ []) 1 2
    (record { registered = 40 ∷ 8 ∷ []; messages = 40 ∷ [] })
an_examined_registration = record { registrations = refl; waiting = refl }

-- object 1 was registered once before the flip, and once since
pub one_made_since_the_flip : AreFinals (Some 8 ∷ Some 16 ∷ []) (Some 8 ∷ Some 40 ∷ []) (1 ∷ 1 ∷ []) [] 0 1
    (record { registered = 16 ∷ 40 ∷ []; messages = [] })
one_made_since_the_flip = record { registrations = refl; waiting = refl }

pub one_with_its_old_address : AreFinals (Some 8 ∷ Some 16 ∷ []) (Some 8 ∷ Some 40 ∷ []) (1 ∷ 0 ∷ []) [] 1 2
    (record { registered = 16 ∷ 8 ∷ []; messages = [] }) → ⊥
one_with_its_old_address are = let never : 16 ∷ 8 ∷ [] ≡ 40 ∷ 8 ∷ [] = are.registrations in absurd cc
