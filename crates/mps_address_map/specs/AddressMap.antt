-- A map by addresses as the list of its entries: addresses, each with a value.
use Rattle.std.specs.Prelude.{◌≡◌, ℕ, Option, Some, None, cond, List, [], ◌∷◌, nat_eq, refl}
use Rattle.std.specs.Map.{lookup, keys_of}
use Rattle.std.specs.List.Sorted.{IsStrictlyIncreasing}

-- what entries have at an address: the first one counts
abbrev pub found_at : {X : Type 0} → List (ℕ × X) → (at : ℕ) → Option X
found_at entries at = lookup (nat_eq at) entries

-- the new entries have this at an address, and at each other what the old ones have
abbrev pub Changes : {X : Type 0} → (old new : List (ℕ × X)) → (at : ℕ) → Option X → Type 0
Changes old new at x = (q : ℕ) → found_at new q ≡ cond (nat_eq at q) x (found_at old q)

-- these are all entries, in ascending order of their addresses and each address once
pub record Lists {X : Type 0} (entries sorted : List (ℕ × X)) : Type 0 where
  pub ascending : IsStrictlyIncreasing (keys_of sorted)
  pub same : (at : ℕ) → found_at sorted at ≡ found_at entries at

abbrev two : List (ℕ × ℕ)
two = (0x2000, 3) ∷ (0x1000, 4) ∷ []

pub an_entry_is_found : found_at two 0x1000 ≡ Some 4
an_entry_is_found = refl

pub no_other_address_is_found : found_at two 0x1008 ≡ None
no_other_address_is_found = refl
