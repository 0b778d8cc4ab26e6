-- What a caller sees of the roots, and what the calls make of them.
use Rattle.std.specs.Prelude.{ℕ, ◌≡◌, ◌≢◌, ◌<◌, ◌==◌, false, Option, Some, None, List, [], ◌∷◌, ◌++◌, length, if◌then◌else◌, replicate, slice_index_or, slice_set, refl}
use Rattle.std.specs.Option.{option_map_or, IsSomeAnd}
use Rattle.mps_root.specs.declared.roots.Stored.{Stored}

-- The slots of each table and the words of each area, by key, if there is one; the keys of the tables in the order in which they
-- were made; and the places of each table of blocks, by number. Slots and places are addresses, and 0 is null.
pub record RootsState : Type 0 where
  pub tables : List (Option (List ℕ))
  pub order : List ℕ
  pub areas : List (Option (List Stored))
  pub blocks : List (List ℕ)

abbrev pub no_roots : RootsState
no_roots = record { tables = []; order = []; areas = []; blocks = [] }

module _ {A : Type 0} where
  -- what is kept under a key, if there is something
  abbrev pub kept : List (Option A) → (key : ℕ) → Option A
  kept entries key = slice_index_or entries key None

  -- something new is kept under a key that was free; all else stays
  pub record Keeps (old new : List (Option A)) (key : ℕ) (value : A) : Type 0 where
    pub free : kept old key ≡ None
    pub made : kept new key ≡ Some value
    pub others : (other : ℕ) → other ≢ key → kept new other ≡ kept old other

  -- nothing is kept under a key any more
  abbrev pub without : List (Option A) → (key : ℕ) → List (Option A)
  without entries key = slice_set entries key None

  -- there is an item of this index under a key
  abbrev pub HasItem : List (Option (List A)) → (key index : ℕ) → Type 0
  HasItem rows key index = IsSomeAnd (slice_index_or rows key None) (λ items. index < length items)

  -- the items under a key, none if there is no row
  abbrev pub items_of : List (Option (List A)) → (key : ℕ) → List A
  items_of rows key = option_map_or (λ items. items) (slice_index_or rows key None) []

  -- another item at an index under a key
  abbrev pub with_item : List (Option (List A)) → (key index : ℕ) → A → List (Option (List A))
  with_item rows key index value =
      slice_set rows key (Some (slice_set (option_map_or (λ items. items) (slice_index_or rows key None) []) index value))

-- there is a place of this index in a table of blocks
pub record HasPlace (blocks : List (List ℕ)) (number index : ℕ) : Type 0 where
  pub table : number < length blocks
  pub place : index < length (slice_index_or blocks number [])

-- another address at a place
abbrev pub with_place : List (List ℕ) → (number index : ℕ) → ℕ → List (List ℕ)
with_place blocks number index address = slice_set blocks number (slice_set (slice_index_or blocks number []) index address)

-- the keys without the first that is this one
abbrev pub without_key : List ℕ → (key : ℕ) → List ℕ
without_key [] key = []
without_key (k ∷ keys) key = if k == key then keys else k ∷ without_key keys key

-- a word that is 0 and holds nothing
abbrev pub no_word : Stored
no_word = record { word = 0; holds = false }

-- a table was made: all its slots are null, and it is the last in order
pub record IsTableMade (old new : RootsState) (key slots : ℕ) : Type 0 where
  pub tables : Keeps old.tables new.tables key (replicate slots 0)
  pub order : new.order ≡ old.order ++ key ∷ []
  pub areas : new.areas ≡ old.areas
  pub blocks : new.blocks ≡ old.blocks

-- an area was made: all its words are 0 and hold nothing
pub record IsAreaMade (old new : RootsState) (key words : ℕ) : Type 0 where
  pub areas : Keeps old.areas new.areas key (replicate words no_word)
  pub tables : new.tables ≡ old.tables
  pub order : new.order ≡ old.order
  pub blocks : new.blocks ≡ old.blocks

abbrev example : List (Option (List ℕ))
example = Some (8 ∷ 0 ∷ []) ∷ None ∷ Some (16 ∷ []) ∷ []

pub the_second_slot_is_written : with_item example 0 1 24 ≡ Some (8 ∷ 24 ∷ []) ∷ None ∷ Some (16 ∷ []) ∷ []
the_second_slot_is_written = refl

pub nothing_under_a_dropped_key : kept example 1 ≡ None
nothing_under_a_dropped_key = refl

pub the_first_is_dropped : without example 0 ≡ None ∷ None ∷ Some (16 ∷ []) ∷ []
the_first_is_dropped = refl

pub its_key_leaves_the_order : without_key (2 ∷ 0 ∷ []) 2 ≡ 0 ∷ []
its_key_leaves_the_order = refl
