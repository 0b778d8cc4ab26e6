-- What is kept of names, and what each table promises.
use Rattle.std.specs.Prelude.{ℕ, ◌≡◌, ◌≤◌, false, Option, Some, None, IsSome, List, [], ◌∷◌, ◌++◌, map, length}
use Rattle.std.specs.Map.{lookup}
use Rattle.mps_base.specs.declared.names.Name.{Name}
use Rattle.mps_base.specs.Name.{same_name}
use Rattle.mps_keys.specs.Keys.{GivenState, KeysState, stamp_at, without_name}
use Rattle.mps_keys.specs.declared.given.Stamp.{Stamp}
use Rattle.mps_names.specs.declared.names.Thing.{Thing}
use Rattle.mps_names.specs.declared.names.Thing.TheVariants as thing
use Rattle.mps_names.specs.State.{NameCounts, thing_in, has_own_room, most_label_names, most_cache_names, most_transform_names}

-- A table of names with fixed room: the names, each with the number of its thing, and how many fit.
pub record NumbersState : Type 0 where
  pub entries : List (Name × ℕ)
  pub capacity : ℕ

-- each name stands once
abbrev pub AreOnce : List (Name × ℕ) → Type 0
AreOnce [] = Unit {0}
AreOnce (e ∷ es) = (lookup (same_name e.0) es ≡ None) × AreOnce es

-- What a caller sees of the three tables.
pub record TablesState : Type 0 where
  pub entries : List (Name × Thing)
  pub counts : NameCounts

-- the names of things of one kind
abbrev pub of_kind : (ℕ → Thing) → List (Name × ℕ) → List (Name × Thing)
of_kind kind entries = map (λ e. (e.0, kind e.1)) entries

abbrev pub label : ℕ → Thing
label number = thing.Label number

abbrev pub cache : ℕ → Thing
cache number = thing.Cache number

abbrev pub transform : ℕ → Thing
transform number = thing.Transform number

-- what three tables hold
abbrev pub state_of_tables : (labels caches transforms : NumbersState) → TablesState
state_of_tables labels caches transforms = record {
  entries = of_kind label labels.entries ++ (of_kind cache caches.entries ++ of_kind transform transforms.entries);
  counts = record {
    labels = length labels.entries;
    caches = length caches.entries;
    transforms = length transforms.entries;
  };
}

-- what is found by a name
abbrev pub found_in : {X : Type 0} → List (Name × X) → Name → Option X
found_in entries name = lookup (same_name name) entries

-- no name of the first stands in the second
abbrev pub ShareNoName : {X : Type 0} → (these those : List (Name × X)) → Type 0
ShareNoName these those = (name : Name) → IsSome (found_in these name) → found_in those name ≡ None

-- the three tables have no name in common, and room for all
pub record AreTables (labels caches transforms : NumbersState) : Type 0 where
  pub labels_apart : ShareNoName (of_kind label labels.entries) (of_kind cache caches.entries ++ of_kind transform transforms.entries)
  pub caches_apart : ShareNoName (of_kind cache caches.entries) (of_kind transform transforms.entries)
  pub labels_fit : most_label_names ≤ labels.capacity
  pub caches_fit : most_cache_names ≤ caches.capacity
  pub transforms_fit : most_transform_names ≤ transforms.capacity

-- the map has no name of the tables, and nothing that belongs into them
pub record AreBeside (things : List (Name × Thing)) (tables : TablesState) : Type 0 where
  pub apart : ShareNoName things tables.entries
  pub others : (name : Name) (t : Thing) → thing_in things name ≡ Some t → has_own_room t ≡ false

-- each thing of a kind whose key was given out has the name that was noted with it
abbrev pub HaveNames : (entries : List (Name × Thing)) → (kind : ℕ → Thing) → GivenState → Type 0
HaveNames entries kind g =
    (place : ℕ) (s : Stamp) → stamp_at g place ≡ Some s → thing_in entries s.name ≡ Some (kind place)

abbrev pub table : ℕ → Thing
table place = thing.Table place

abbrev pub area : ℕ → Thing
area place = thing.Area place

abbrev pub point : ℕ → Thing
point place = thing.Point place

pub record AreKeysOf (entries : List (Name × Thing)) (k : KeysState) : Type 0 where
  pub tables : HaveNames entries table k.tables
  pub areas : HaveNames entries area k.areas
  pub points : HaveNames entries point k.points

-- the keys where that of a thing which had a name, if it was one, is good no more
abbrev pub keys_without : KeysState → Name → Option Thing → KeysState
keys_without k name (Some (thing.Table place)) = record k { tables = without_name k.tables place name }
keys_without k name (Some (thing.Area place)) = record k { areas = without_name k.areas place name }
keys_without k name (Some (thing.Point place)) = record k { points = without_name k.points place name }
keys_without k name _ = k

-- what the type of all names keeps
pub record AreNames (things : List (Name × Thing)) (tables : TablesState) (k : KeysState) : Type 0 where
  pub beside : AreBeside things tables
  pub keys : AreKeysOf (things ++ tables.entries) k

-- this is found by this name in the new list, or nothing, and by every other name what is found in the old
pub record ChangesAt {X : Type 0} (old new : List (Name × X)) (name : Name) (value : Option X) : Type 0 where
  pub named : found_in new name ≡ value
  pub others : (other : Name) → same_name name other ≡ false → found_in new other ≡ found_in old other
