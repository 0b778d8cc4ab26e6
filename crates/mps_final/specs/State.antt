-- What a caller sees of registrations and messages, and what the calls make of them.
use Rattle.std.specs.Prelude.{ℕ, ◌≡◌, ◌+◌, ◌==◌, if◌then◌else◌, Option, Some, None, List, [], ◌∷◌, ◌++◌, length, slice_index_or, slice_set, refl}
use Rattle.std.specs.Option.{option_map}
use Rattle.std.specs.List.{remove}
use Rattle.mps_base.specs.Address.{Address}

-- the most registrations and messages together
abbrev pub max_finals : ℕ
max_finals = 65536

-- The registrations in order, each by the address of its block, and the messages that wait in order, each by the address of its
-- block. A block may be registered more than once.
pub record FinalsState : Type 0 where
  pub registered : List Address
  pub messages : List Address

abbrev pub no_finals : FinalsState
no_finals = record { registered = []; messages = [] }

-- registrations and messages together
abbrev pub finals_count : FinalsState → ℕ
finals_count f = length f.registered + length f.messages

-- one more registration, after all others
abbrev pub with_registration : FinalsState → Address → FinalsState
with_registration f at = record f { registered = f.registered ++ at ∷ [] }

-- the registration at a position has this address
abbrev pub with_registered_at : FinalsState → (position : ℕ) → Address → FinalsState
with_registered_at f position at = record f { registered = slice_set f.registered position at }

-- without the registration at a position; those after it stand one lower
abbrev pub without_registration : FinalsState → (position : ℕ) → FinalsState
without_registration f position = record f { registered = remove f.registered position }

-- the registration at a position becomes the last message
abbrev pub finals_after_post : FinalsState → (position : ℕ) → FinalsState
finals_after_post f position = record {
  registered = remove f.registered position;
  messages = f.messages ++ slice_index_or f.registered position 0 ∷ [];
}

-- the position of the first registration of an address
abbrev pub position_of : List Address → Address → Option ℕ
position_of [] at = None
position_of (r ∷ rs) at = if r == at then Some 0 else option_map (λ position. position + 1) (position_of rs at)

abbrev example : FinalsState
example = record { registered = 8 ∷ 16 ∷ 8 ∷ 24 ∷ []; messages = 32 ∷ [] }

pub the_second_is_posted : finals_after_post example 1 ≡ record { registered = 8 ∷ 8 ∷ 24 ∷ []; messages = 32 ∷ 16 ∷ [] }
the_second_is_posted = refl

pub the_first_of_an_address : position_of example.registered 8 ≡ Some 0
the_first_of_an_address = refl

pub no_registration : position_of example.registered 40 ≡ None
no_registration = refl
