-- The keys of things: which are good, and for which name.
use Rattle.std.specs.Prelude.{ℕ, ◌≡◌, ◌⊎◌, ◌==◌, ◌<◌, ◌≤◌, Bool, false, if◌then◌else◌, Option, Some, None, option_and_then, List, [], get_or, slice_set}
use Rattle.std.specs.Global.{Vec}
use Rattle.std.specs.Vec.{vec_capacity}
use Rattle.mps_base.specs.declared.names.Name.{Name}
use Rattle.mps_base.specs.Name.{same_name}
use Rattle.mps_keys.specs.declared.given.Stamp.{Stamp}
use Rattle.mps_keys.specs.declared.keys.TableKey.{TableKey}
use Rattle.mps_keys.specs.declared.keys.AreaKey.{AreaKey}
use Rattle.mps_keys.specs.declared.keys.PointKey.{PointKey}

-- Keys of things of one kind: by place the count and the name of the one that was given out, and how many ever were.
pub record GivenState : Type 0 where
  pub stamps : List (Option Stamp)
  pub count : ℕ

-- The keys of tables, of areas and of points.
pub record KeysState : Type 0 where
  pub tables : GivenState
  pub areas : GivenState
  pub points : GivenState

-- the most places of things of one kind
abbrev pub most_places : ℕ
most_places = 256

abbrev pub none_given : GivenState
none_given = record { stamps = []; count = 0 }

abbrev pub no_keys : KeysState
no_keys = record { tables = none_given; areas = none_given; points = none_given }

abbrev pub stamp_at : GivenState → (place : ℕ) → Option Stamp
stamp_at g place = get_or g.stamps place None

-- the name that a stamp has, if its count is this
abbrev pub name_of_stamp : (count : ℕ) → Stamp → Option Name
name_of_stamp count s = if s.count == count then Some s.name else None

-- the name that the key of a place and a count has; none if the key isn't good
abbrev pub name_by : GivenState → (place count : ℕ) → Option Name
name_by g place count = option_and_then (name_of_stamp count) (stamp_at g place)

-- the key of a place is good no more
abbrev pub without_stamp : GivenState → (place : ℕ) → GivenState
without_stamp g place = record g { stamps = slice_set g.stamps place None }

-- whether what is noted at a place is of this name
abbrev pub is_of : Name → Option Stamp → Bool
is_of name (Some s) = same_name name s.name
is_of name None = false

-- the key of a place, if it has this name, is good no more
abbrev pub without_name : GivenState → (place : ℕ) → Name → GivenState
without_name g place name = if is_of name (stamp_at g place) then without_stamp g place else g

-- each stamp has a count of a key that was given out
abbrev pub AreAllBelow : GivenState → Type 0
AreAllBelow g = (place : ℕ) (s : Stamp) → stamp_at g place ≡ Some s → s.count < g.count

-- what the type keeps: that, and room for all places
pub record AreCounted (stamps : Vec (Option Stamp)) (count : ℕ) : Type 0 where
  pub fits : most_places ≤ vec_capacity stamps
  pub below : AreAllBelow (record { stamps = stamps.items; count = count })

-- ---- of a client's things

-- the name that a key has; none if the key isn't good
abbrev pub table_name : KeysState → TableKey → Option Name
table_name k key = name_by k.tables key.place key.count

abbrev pub area_name : KeysState → AreaKey → Option Name
area_name k key = name_by k.areas key.place key.count

abbrev pub point_name : KeysState → PointKey → Option Name
point_name k key = name_by k.points key.place key.count

-- a name, if it isn't this one
abbrev pub unless_named : Name → Option Name → Option Name
unless_named name (Some other) = if same_name name other then None else Some other
unless_named name None = None

-- as many keys of each kind were given out
pub record AreAsMany (old new : KeysState) : Type 0 where
  pub tables : new.tables.count ≡ old.tables.count
  pub areas : new.areas.count ≡ old.areas.count
  pub points : new.points.count ≡ old.points.count

-- no key is good for a name any more, each other key is as good as it was, and none was given out
pub record KeysWithout (old new : KeysState) (name : Name) : Type 0 where
  pub tables : (key : TableKey) → table_name new key ≡ unless_named name (table_name old key)
  pub areas : (key : AreaKey) → area_name new key ≡ unless_named name (area_name old key)
  pub points : (key : PointKey) → point_name new key ≡ unless_named name (point_name old key)
  pub counts : AreAsMany old new

-- ---- keys that are given out

-- Those that were given out before: each that was good is good for the same name, and each that was good no more isn't good again.
pub record GoOn (old new : GivenState) : Type 0 where
  pub count : old.count ≤ new.count
  pub good : (place count : ℕ) (name : Name) → name_by old place count ≡ Some name → name_by new place count ≡ Some name
  pub stale : (place count : ℕ) → count < old.count → name_by old place count ≡ None → name_by new place count ≡ None

pub record KeysGoOn (old new : KeysState) : Type 0 where
  pub tables : GoOn old.tables new.tables
  pub areas : GoOn old.areas new.areas
  pub points : GoOn old.points new.points

-- the key of a place has this count, and is good for a name. No other key was given out
pub record IsOneMore (old new : GivenState) (place : ℕ) (name : Name) (count : ℕ) : Type 0 where
  pub good : name_by new place count ≡ Some name
  pub given : count < new.count
  pub others : GoOn old new
  pub stamps : (other : ℕ) (s : Stamp) → stamp_at new other ≡ Some s
      → (stamp_at old other ≡ Some s) ⊎ ((other ≡ place) × (s.name ≡ name))

-- no key can be given out: the place has that of another name, or is none of the 256, or 2^64 - 1 keys were given out
abbrev pub CannotGive : GivenState → (place : ℕ) → Name → Type 0
CannotGive g place name =
    ((s : Stamp) × (stamp_at g place ≡ Some s) × (same_name s.name name ≡ false))
    ⊎ ((most_places ≤ place) ⊎ (g.count ≡ 0xFFFFFFFFFFFFFFFF))
