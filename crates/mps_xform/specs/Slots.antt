-- What applying a transform makes of slots. `to` gives the new address of an old one.
use Rattle.std.specs.Prelude.{ℕ, ◌≡◌, ◌<◌, Option, Some, None, IsSome, List, [], ◌∷◌, length, map, slice_index_or, Contains, refl}
use Rattle.std.specs.Option.{option_map, option_map_or}
use Rattle.mps_base.specs.Address.{Address}
use Rattle.mps_root.specs.State.{RootsState, kept, no_roots}
use Rattle.mps_xform.specs.State.{new_address, two_transforms as transforms}

-- A slot after a transform was applied: the new address in place of an old one, once.
abbrev pub slot_after_apply : (to : Address → Option Address) → Address → Address
slot_after_apply to at = option_map_or (λ new. new) (to at) at

-- the slots of a table after a transform was applied
abbrev pub table_after_apply : (to : Address → Option Address) → Option (List ℕ) → Option (List ℕ)
table_after_apply to table = option_map (λ slots. map (slot_after_apply to) slots) table

-- The roots after a transform was applied to all slots.
abbrev pub slots_after_apply : (to : Address → Option Address) → RootsState → RootsState
slots_after_apply to r = record r { tables = map (table_after_apply to) r.tables }

-- the order of the tables has the key of each table, and no key twice
pub record AreListedOnce (r : RootsState) : Type 0 where
  pub listed : (key : ℕ) → IsSome (kept r.tables key) → Contains r.order key
  pub once : (i j : ℕ) → i < length r.order → j < length r.order → slice_index_or r.order i 0 ≡ slice_index_or r.order j 0 → i ≡ j

-- ---- vectors: two tables, and the pairs 8 to 16 and 16 to 32

abbrev two_tables : RootsState
two_tables = record no_roots { tables = Some (8 ∷ 0 ∷ []) ∷ None ∷ Some (16 ∷ []) ∷ []; order = 2 ∷ 0 ∷ [] }

pub each_slot_once : (slots_after_apply (new_address transforms 2) two_tables).tables ≡ Some (16 ∷ 0 ∷ []) ∷ None ∷ Some (32 ∷ []) ∷ []
each_slot_once = refl
