-- What a caller sees of the names: a finite map from names to things.
use Rattle.std.specs.Prelude.{ℕ, ◌≡◌, ◌+◌, ◌-◌, Bool, true, false, Option, Some, None, List, [], ◌∷◌, refl}
use Rattle.std.specs.Map.{lookup}
use Rattle.mps_base.specs.declared.names.Name.{Name}
use Rattle.mps_names.specs.declared.names.Thing.{Thing}
use Rattle.mps_names.specs.declared.names.Thing.TheVariants as thing
use Rattle.mps_base.specs.Name.{same_name}
use Rattle.mps_keys.specs.Keys.{KeysState, KeysWithout, no_keys}

-- How many labels, caches and transforms have names.
pub record NameCounts : Type 0 where
  pub labels : ℕ
  pub caches : ℕ
  pub transforms : ℕ

-- The names that are taken, each with its thing, in an order that is open, and how many more fit without memory. Labels, caches and
-- transforms have room of their own, and are counted. And the keys of tables, areas and points.
pub record NamesState : Type 0 where
  pub entries : List (Name × Thing)
  pub room : ℕ
  pub counts : NameCounts
  pub keys : KeysState

-- the thing that has a name, among these
abbrev pub thing_in : List (Name × Thing) → Name → Option Thing
thing_in entries name = lookup (same_name name) entries

-- the thing that has a name
abbrev pub thing_named : NamesState → Name → Option Thing
thing_named n name = thing_in n.entries name

-- the number of a label
abbrev pub as_label : Thing → Option ℕ
as_label (thing.Label number) = Some number
as_label _ = None

-- the number of a cache
abbrev pub as_cache : Thing → Option ℕ
as_cache (thing.Cache number) = Some number
as_cache _ = None

-- the same names represent the same things
abbrev pub IsSameMap : NamesState → NamesState → Type 0
IsSameMap old new = (name : Name) → thing_named new name ≡ thing_named old name

-- the names are as before, and there may be other keys
abbrev pub HasKeys : NamesState → NamesState → Type 0
HasKeys old new = new ≡ record old { keys = new.keys }

-- ---- room

-- the most names of labels, of caches and of transforms
abbrev pub most_label_names : ℕ
most_label_names = 256

abbrev pub most_cache_names : ℕ
most_cache_names = 16

abbrev pub most_transform_names : ℕ
most_transform_names = 16

-- no label, cache or transform has a name
abbrev pub no_counts : NameCounts
no_counts = record { labels = 0; caches = 0; transforms = 0 }

-- whether things of this kind have room of their own
abbrev pub has_own_room : Thing → Bool
has_own_room (thing.Label number) = true
has_own_room (thing.Cache number) = true
has_own_room (thing.Transform number) = true
has_own_room _ = false

-- how many more names of things of this kind fit in the room of their own
abbrev pub own_room : NameCounts → Thing → ℕ
own_room c (thing.Label number) = most_label_names - c.labels
own_room c (thing.Cache number) = most_cache_names - c.caches
own_room c (thing.Transform number) = most_transform_names - c.transforms
own_room c _ = 0

-- how many more names of things of this kind fit without memory
abbrev pub room_for : NamesState → Thing → ℕ
room_for n (thing.Label number) = own_room n.counts (thing.Label number)
room_for n (thing.Cache number) = own_room n.counts (thing.Cache number)
room_for n (thing.Transform number) = own_room n.counts (thing.Transform number)
room_for n _ = n.room

-- one more thing has a name
abbrev pub counts_with : NameCounts → Thing → NameCounts
counts_with c (thing.Label number) = record c { labels = c.labels + 1 }
counts_with c (thing.Cache number) = record c { caches = c.caches + 1 }
counts_with c (thing.Transform number) = record c { transforms = c.transforms + 1 }
counts_with c _ = c

-- a thing, if it is one, has no name any more
abbrev pub counts_without : NameCounts → Option Thing → NameCounts
counts_without c (Some (thing.Label number)) = record c { labels = c.labels - 1 }
counts_without c (Some (thing.Cache number)) = record c { caches = c.caches - 1 }
counts_without c (Some (thing.Transform number)) = record c { transforms = c.transforms - 1 }
counts_without c _ = c

-- a name had the one thing, or none, and has the other, or none
abbrev pub counts_after : NameCounts → (before now : Option Thing) → NameCounts
counts_after c before None = counts_without c before
counts_after c before (Some thing) = counts_with (counts_without c before) thing

-- a name has a thing, or none any more, and then no key is good for it
abbrev pub KeysAfter : (old new : KeysState) → Name → Option Thing → Type 0
KeysAfter old new name None = KeysWithout old new name
KeysAfter old new name (Some thing) = new ≡ old

-- this name has this thing afterwards, or none, every other name what it had, things are counted so, and these keys are good
pub record Updates (old new : NamesState) (name : Name) (thing : Option Thing) : Type 0 where
  pub named : thing_named new name ≡ thing
  pub others : (other : Name) → same_name name other ≡ false → thing_named new other ≡ thing_named old other
  pub counts : new.counts ≡ counts_after old.counts (thing_named old name) thing
  pub keys : KeysAfter old.keys new.keys name thing

-- ---- vectors

abbrev letter : ℕ → Name
letter code = record { bytes = code ∷ 0 ∷ 0 ∷ 0 ∷ 0 ∷ 0 ∷ 0 ∷ 0 ∷ 0 ∷ 0 ∷ 0 ∷ 0 ∷ 0 ∷ 0 ∷ 0 ∷ 0 ∷ [] }

abbrev example : List (Name × Thing)
example = (letter 97, thing.Pool 0) ∷ (letter 98, thing.Table 2) ∷ []

pub b_is_a_table : thing_in example (letter 98) ≡ Some (thing.Table 2)
b_is_a_table = refl

pub c_is_nothing : thing_in example (letter 99) ≡ None
c_is_nothing = refl

pub a_label_has_its_number : as_label (thing.Label 3) ≡ Some 3
a_label_has_its_number = refl

pub a_cache_is_no_label : as_label (thing.Cache 3) ≡ None
a_cache_is_no_label = refl

-- two transforms have names, and the map has room for three more
abbrev two_transforms : NamesState
two_transforms = record { entries = []; room = 3; counts = record no_counts { transforms = 2 }; keys = no_keys }

pub fourteen_more : room_for two_transforms (thing.Transform 5) ≡ 14
fourteen_more = refl

pub a_pool_has_the_room_of_the_map : room_for two_transforms (thing.Pool 5) ≡ 3
a_pool_has_the_room_of_the_map = refl

pub one_is_left : counts_without two_transforms.counts (Some (thing.Transform 0)) ≡ record no_counts { transforms = 1 }
one_is_left = refl

pub a_pool_is_not_counted : counts_with no_counts (thing.Pool 0) ≡ no_counts
a_pool_is_not_counted = refl
