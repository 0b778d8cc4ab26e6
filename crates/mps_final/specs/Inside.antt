-- How entries represent registrations: an entry that was removed is 0, and the others are the registrations, in order.
use Rattle.std.specs.Prelude.{ℕ, zero, suc, ◌≡◌, ◌≤◌, ◌<◌, Bool, true, false, List, [], ◌∷◌, length, take, filter, count_by, slice_index_or, refl}

-- the most entries, removed ones too: as many again as there may be registrations
abbrev pub max_entries : ℕ
max_entries = 131072

-- whether an entry is a registration
abbrev pub is_live : ℕ → Bool
is_live zero = false
is_live (suc n) = true

-- the registrations that entries represent
abbrev pub live : List ℕ → List ℕ
live entries = filter is_live entries

-- `position` registrations stand before the entry at `index`
abbrev pub StandBefore : (entries : List ℕ) (position index : ℕ) → Type 0
StandBefore entries position index = count_by is_live (take index entries) ≡ position

-- the entry at `index` is the registration at `position`
pub record IsEntry (entries : List ℕ) (position index : ℕ) : Type 0 where
  pub within : index < length entries
  pub lives : is_live (slice_index_or entries index 0) ≡ true
  pub before : StandBefore entries position index

-- the registrations are counted, and it is known how many stand before one index
pub record IsSoundRow (entries : List ℕ) (count position index : ℕ) : Type 0 where
  pub counted : count ≡ length (live entries)
  pub at_most : count ≤ 65536
  pub short : length entries ≤ max_entries
  pub within : index ≤ length entries
  pub before : StandBefore entries position index

pub two_of_four : live (8 ∷ 0 ∷ 0 ∷ 16 ∷ []) ≡ 8 ∷ 16 ∷ []
two_of_four = refl
