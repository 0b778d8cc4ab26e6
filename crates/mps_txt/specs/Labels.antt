-- The names that a text interns, and the labels of its addresses.
use Rattle.std.specs.Prelude.{◌≡◌, ℕ, ◌==◌, nat_lt, if◌then◌else◌, codes, Option, Some, None, List, [], ◌∷◌, ◌++◌, length, slice_index, slice_get, map, replicate, option_and_then, Bool, true, false, is_some, refl}
use Rattle.std.specs.Ordering.{nat_cmp}
use Rattle.std.specs.Map.{lookup, remove_entry}
use Rattle.std.specs.BTreeMap.{insert_entry, is_at}
use Rattle.mps_base.specs.Record.{Record}
use Rattle.mps_event.specs.declared.version.Version.{Version}
use Rattle.mps_event.specs.declared.version.Version.TheVariants.{One, Two}
use Rattle.mps_event.specs.declared.event.Event.{Event}
use Rattle.mps_event.specs.declared.event.Event.TheVariants.{ArenaCreate, LimitSet, PoolCreate, Flip, End, SegAlloc, SegFree, Splat, Commit, Alloc, Move, Stay, Post, Free, Intern, Label}
use Rattle.mps_event.specs.Event.{event_of}
use Rattle.mps_event.specs.Name.{name_in, interned_bytes}

-- the names interned so far, in the order of their ids and without the zeros after them, and the addresses that have a
-- label, in ascending order, each with the id of its name
pub record Naming : Type 0 where
  pub names : List (List ℕ)
  pub labels : List (ℕ × ℕ)

-- at the beginning of a text
abbrev pub no_names : Naming
no_names = record { names = []; labels = [] }

-- the id of the name that labels an address
abbrev pub id_at : Naming → (address : ℕ) → Option ℕ
id_at s address = lookup (is_at (nat_cmp address)) s.labels

-- the name that labels an address
abbrev pub label_at : Naming → (address : ℕ) → Option (List ℕ)
label_at s address = option_and_then (λ id. slice_get s.names id) (id_at s address)

-- with this label at an address
abbrev pub with_label : Naming → (address id : ℕ) → Naming
with_label s address id = record s { labels = insert_entry nat_cmp s.labels address id }

-- without a label at an address
abbrev pub without_label : Naming → (address : ℕ) → Naming
without_label s address = record s { labels = remove_entry (is_at (nat_cmp address)) s.labels }

-- with this label at an address, or with none
abbrev pub relabelled : Naming → (address : ℕ) → Option ℕ → Naming
relabelled s address None = without_label s address
relabelled s address (Some id) = with_label s address id

-- one address takes the label of another, or has none where that has none, and the other has none any more, also where
-- both are the same
abbrev pub moved : Naming → (from to : ℕ) → Naming
moved s from to = without_label (relabelled s to (id_at s from)) from

-- with one more name
abbrev pub with_name : Naming → (name : List ℕ) → Naming
with_name s name = record s { names = s.names ++ name ∷ [] }

-- what a record of an event with these fields does; None where it interns a name out of order, or labels with an id that
-- no name has
abbrev pub after_event : Event → (fields : List ℕ) → Naming → Option Naming
after_event Commit fields s = Some (without_label s (slice_index fields 0))
after_event Alloc fields s = Some (without_label s (slice_index fields 0))
after_event Free fields s = Some (without_label s (slice_index fields 0))
after_event Move fields s = Some (moved s (slice_index fields 0) (slice_index fields 1))
after_event Intern fields s =
    if slice_index fields 0 == length s.names then Some (with_name s (name_in (interned_bytes fields))) else None
after_event Label fields s =
    if nat_lt (slice_index fields 1) (length s.names) then Some (with_label s (slice_index fields 0) (slice_index fields 1)) else None
after_event ArenaCreate fields s = Some s
after_event LimitSet fields s = Some s
after_event PoolCreate fields s = Some s
after_event Flip fields s = Some s
after_event End fields s = Some s
after_event SegAlloc fields s = Some s
after_event SegFree fields s = Some s
after_event Splat fields s = Some s
after_event Stay fields s = Some s
after_event Post fields s = Some s

-- what a record of a text of this version does; None where it has no meaning after the records before
abbrev pub after_record : Version → Naming → Record → Option Naming
after_record version s r = option_and_then (λ event. after_event event r.fields s) (event_of version r.code)

-- what records do, one after the other
abbrev pub after_records : Version → Naming → List Record → Option Naming
after_records version s [] = Some s
after_records version s (r ∷ rs) = option_and_then (λ next. after_records version next rs) (after_record version s r)

-- whether a record of an event with these fields takes memory: for one more name or label, where it has a meaning, or for a
-- label that it moves
abbrev pub takes_memory : Event → (fields : List ℕ) → Naming → Bool
takes_memory Intern fields s = slice_index fields 0 == length s.names
takes_memory Label fields s = nat_lt (slice_index fields 1) (length s.names)
takes_memory Move fields s = is_some (id_at s (slice_index fields 0))
takes_memory Commit fields s = false
takes_memory Alloc fields s = false
takes_memory Free fields s = false
takes_memory ArenaCreate fields s = false
takes_memory LimitSet fields s = false
takes_memory PoolCreate fields s = false
takes_memory Flip fields s = false
takes_memory End fields s = false
takes_memory SegAlloc fields s = false
takes_memory SegFree fields s = false
takes_memory Splat fields s = false
takes_memory Stay fields s = false
takes_memory Post fields s = false

-- the same of a record of a text of this version
abbrev pub record_takes_memory : Version → Naming → Record → Bool
record_takes_memory version s r = takes (event_of version r.code)
  where
    takes : Option Event → Bool
    takes None = false
    takes (Some event) = takes_memory event r.fields s

-- the names and labels after some records of a text
abbrev pub IsReached : Naming → Type 0
IsReached s = (version : Version) × (records : List Record) × (after_records version no_names records ≡ Some s)

-- `ring` and `queue`, and a label of each
abbrev example : Naming
example = record { names = codes "ring" ∷ codes "queue" ∷ []; labels = (0x1000, 0) ∷ (0x3000, 1) ∷ [] }

-- `intern`, with the numbers of the bytes of `ring`
abbrev intern_ring : (id : ℕ) → Record
intern_ring id = record { line = 9; code = 96; fields = id ∷ 0x676e6972 ∷ 0 ∷ [] }

pub the_first_name : after_record Two no_names (intern_ring 0) ≡ Some (record { names = codes "ring" ∷ []; labels = [] })
the_first_name = refl

pub a_name_out_of_order : after_record Two no_names (intern_ring 1) ≡ None
a_name_out_of_order = refl

pub a_name_once_more_has_an_id_of_its_own :
    after_record Two example (intern_ring 2) ≡ Some (record example { names = codes "ring" ∷ codes "queue" ∷ codes "ring" ∷ [] })
a_name_once_more_has_an_id_of_its_own = refl

pub version_one_has_no_names : after_record One no_names (intern_ring 0) ≡ None
version_one_has_no_names = refl

pub a_label : after_record Two example (record { line = 1; code = 97; fields = 0x2000 ∷ 1 ∷ [] })
    ≡ Some (record example { labels = (0x1000, 0) ∷ (0x2000, 1) ∷ (0x3000, 1) ∷ [] })
a_label = refl

pub another_label_at_the_same_address : after_record Two example (record { line = 1; code = 97; fields = 0x1000 ∷ 1 ∷ [] })
    ≡ Some (record example { labels = (0x1000, 1) ∷ (0x3000, 1) ∷ [] })
another_label_at_the_same_address = refl

pub a_label_that_no_name_has : after_record Two example (record { line = 1; code = 97; fields = 0x2000 ∷ 2 ∷ [] }) ≡ None
a_label_that_no_name_has = refl

pub a_label_is_found : label_at example 0x3000 ≡ Some (codes "queue")
a_label_is_found = refl

pub an_address_without_a_label : label_at example 0x2000 ≡ None
an_address_without_a_label = refl

pub a_free_takes_the_label : after_record One example (record { line = 1; code = 85; fields = 0x1000 ∷ [] })
    ≡ Some (record example { labels = (0x3000, 1) ∷ [] })
a_free_takes_the_label = refl

pub a_new_block_has_no_label : after_record Two example (record { line = 1; code = 80; fields = 0x3000 ∷ 4 ∷ 0 ∷ [] })
    ≡ Some (record example { labels = (0x1000, 0) ∷ [] })
a_new_block_has_no_label = refl

pub a_manual_block_has_none : after_record Two example (record { line = 1; code = 81; fields = 0x3000 ∷ 4 ∷ 0 ∷ [] })
    ≡ Some (record example { labels = (0x1000, 0) ∷ [] })
a_manual_block_has_none = refl

abbrev move_record : (from to : ℕ) → Record
move_record from to = record { line = 1; code = 82; fields = from ∷ to ∷ [] }

pub a_label_moves : after_record Two example (move_record 0x1000 0x2000)
    ≡ Some (record example { labels = (0x2000, 0) ∷ (0x3000, 1) ∷ [] })
a_label_moves = refl

pub a_label_moves_over_another : after_record Two example (move_record 0x3000 0x1000)
    ≡ Some (record example { labels = (0x1000, 1) ∷ [] })
a_label_moves_over_another = refl

pub a_move_without_a_label_takes_one_away : after_record Two example (move_record 0x4000 0x1000)
    ≡ Some (record example { labels = (0x3000, 1) ∷ [] })
a_move_without_a_label_takes_one_away = refl

pub a_move_to_itself_loses_the_label : after_record Two example (move_record 0x1000 0x1000)
    ≡ Some (record example { labels = (0x3000, 1) ∷ [] })
a_move_to_itself_loses_the_label = refl

-- arena and pool, flips and ends, segments, splats, stays and posts
pub other_records_keep_names_and_labels :
    map (λ code. after_record Two example (record { line = 1; code = code; fields = 0x1000 ∷ 1 ∷ 0 ∷ 0 ∷ [] }))
    (1 ∷ 2 ∷ 16 ∷ 32 ∷ 33 ∷ 48 ∷ 49 ∷ 64 ∷ 83 ∷ 84 ∷ [])
    ≡ replicate 10 (Some example)
other_records_keep_names_and_labels = refl

pub a_name_takes_memory : record_takes_memory Two no_names (intern_ring 0) ≡ true
a_name_takes_memory = refl

pub a_name_out_of_order_takes_none : record_takes_memory Two no_names (intern_ring 1) ≡ false
a_name_out_of_order_takes_none = refl

pub a_label_takes_memory : record_takes_memory Two example (record { line = 1; code = 97; fields = 0x2000 ∷ 1 ∷ [] }) ≡ true
a_label_takes_memory = refl

pub a_label_that_no_name_has_takes_none : record_takes_memory Two example (record { line = 1; code = 97; fields = 0x2000 ∷ 2 ∷ [] }) ≡ false
a_label_that_no_name_has_takes_none = refl

pub a_label_that_moves_takes_memory : record_takes_memory Two example (move_record 0x1000 0x2000) ≡ true
a_label_that_moves_takes_memory = refl

pub a_move_without_a_label_takes_none : record_takes_memory Two example (move_record 0x2000 0x1000) ≡ false
a_move_without_a_label_takes_none = refl

pub a_new_block_takes_none : record_takes_memory Two example (record { line = 1; code = 80; fields = 0x3000 ∷ 4 ∷ 0 ∷ [] }) ≡ false
a_new_block_takes_none = refl
