-- The readable text of records: for each its line, the name of its event, and its fields by their names.
use Rattle.std.specs.Prelude.{◌≡◌, ℕ, ◌+◌, codes, decimal, Option, Some, None, List, [], ◌∷◌, ◌++◌, slice_index, unwrap_or, refl}
use Rattle.std.specs.Fmt.{digits}
use Rattle.std.specs.Option.{option_map_or}
use Rattle.mps_base.specs.Record.{Record}
use Rattle.mps_numerals.specs.Hexadecimal.{hexadecimal}
use Rattle.mps_event.specs.declared.version.Version.{Version}
use Rattle.mps_event.specs.declared.version.Version.TheVariants.{Two}
use Rattle.mps_event.specs.declared.event.Event.{Event}
use Rattle.mps_event.specs.declared.event.Event.TheVariants.{ArenaCreate, LimitSet, PoolCreate, Flip, End, SegAlloc, SegFree, Splat, Commit, Alloc, Move, Stay, Post, Free, Intern, Label}
use Rattle.mps_event.specs.Event.{event_of}
use Rattle.mps_event.specs.Name.{name_in, interned_bytes}
use Rattle.mps_txt.specs.Labels.{Naming, no_names, label_at, after_record}

-- how a field is shown after its name: a number in decimal; a number in hexadecimal; the address of a block, with the
-- label that it has before the record, or the one that it has after it; the interned name, of two fields
pub data Shown : Type 0 where
  InDecimal : Shown
  InHexadecimal : Shown
  Address : Shown
  NewAddress : Shown
  InternedName : Shown

-- the names of an event's fields, in their order, and how each is shown
abbrev pub columns_of : Event → List (List ℕ × Shown)
columns_of ArenaCreate = (codes "grains", InDecimal) ∷ (codes "limit", InDecimal) ∷ []
columns_of LimitSet = (codes "limit", InDecimal) ∷ []
columns_of PoolCreate = (codes "pool", InDecimal) ∷ (codes "kind", InDecimal) ∷ (codes "param", InDecimal) ∷ []
columns_of Flip = (codes "zones", InHexadecimal) ∷ (codes "chain", InDecimal) ∷ (codes "generation", InDecimal) ∷ []
columns_of End = []
columns_of SegAlloc =
    (codes "base", InHexadecimal) ∷ (codes "grains", InDecimal) ∷ (codes "pool", InDecimal) ∷ (codes "generation", InDecimal) ∷ []
columns_of SegFree = (codes "base", InHexadecimal) ∷ []
columns_of Splat = (codes "holder", Address) ∷ (codes "cell", InDecimal) ∷ []
columns_of Commit = (codes "at", Address) ∷ (codes "words", InDecimal) ∷ (codes "pool", InDecimal) ∷ []
columns_of Alloc = (codes "at", Address) ∷ (codes "words", InDecimal) ∷ (codes "pool", InDecimal) ∷ []
columns_of Move = (codes "from", Address) ∷ (codes "to", NewAddress) ∷ []
columns_of Stay = (codes "at", Address) ∷ []
columns_of Post = (codes "at", Address) ∷ []
columns_of Free = (codes "at", Address) ∷ []
columns_of Intern = (codes "id", InDecimal) ∷ (codes "name", InternedName) ∷ []
columns_of Label = (codes "at", NewAddress) ∷ (codes "id", InDecimal) ∷ []

-- the name of an event
abbrev pub name_of_event : Event → List ℕ
name_of_event ArenaCreate = codes "ArenaCreate"
name_of_event LimitSet = codes "LimitSet"
name_of_event PoolCreate = codes "PoolCreate"
name_of_event Flip = codes "Flip"
name_of_event End = codes "End"
name_of_event SegAlloc = codes "SegAlloc"
name_of_event SegFree = codes "SegFree"
name_of_event Splat = codes "Splat"
name_of_event Commit = codes "Commit"
name_of_event Alloc = codes "Alloc"
name_of_event Move = codes "Move"
name_of_event Stay = codes "Stay"
name_of_event Post = codes "Post"
name_of_event Free = codes "Free"
name_of_event Intern = codes "Intern"
name_of_event Label = codes "Label"

-- a label in brackets, if there is one
abbrev pub label_text : Option (List ℕ) → List ℕ
label_text None = []
label_text (Some name) = codes "[" ++ name ++ codes "]"

-- a number in hexadecimal
abbrev pub hexadecimal_text : ℕ → List ℕ
hexadecimal_text number = codes "0x" ++ hexadecimal number

-- the field of an index, shown in this way
abbrev pub shown_field : (before after : Naming) → (fields : List ℕ) → (index : ℕ) → Shown → List ℕ
shown_field before after fields index InDecimal = decimal (slice_index fields index)
shown_field before after fields index InHexadecimal = hexadecimal_text (slice_index fields index)
shown_field before after fields index Address =
    hexadecimal_text (slice_index fields index) ++ label_text (label_at before (slice_index fields index))
shown_field before after fields index NewAddress =
    hexadecimal_text (slice_index fields index) ++ label_text (label_at after (slice_index fields index))
shown_field before after fields index InternedName = name_in (interned_bytes fields)

-- the fields from an index on, by these names
abbrev pub columns_text : (before after : Naming) → (fields : List ℕ) → (index : ℕ) → List (List ℕ × Shown) → List ℕ
columns_text before after fields index [] = []
columns_text before after fields index (column ∷ columns) =
    (codes " " ++ column.0 ++ codes "=" ++ shown_field before after fields index column.1)
    ++ columns_text before after fields (index + 1) columns

-- the text of an event with these fields, with the labels before and after it
abbrev pub event_text : (before after : Naming) → Event → (fields : List ℕ) → List ℕ
event_text before after event fields =
    codes " " ++ name_of_event event ++ columns_text before after fields 0 (columns_of event)

-- the line of a record of a text of this version
abbrev pub readable_line : Version → (before after : Naming) → Record → List ℕ
readable_line version before after r =
    decimal r.line ++ option_map_or (λ event. event_text before after event r.fields) (event_of version r.code) [] ++ codes "\n"

-- the lines of records that follow others, with the labels after those
abbrev pub readable_from : Version → Naming → List Record → List ℕ
readable_from version before [] = []
readable_from version before (r ∷ rs) =
    let after = unwrap_or (after_record version before r) before in
    readable_line version before after r ++ readable_from version after rs

-- the lines of all records of a text
abbrev pub readable : Version → List Record → List ℕ
readable version records = readable_from version no_names records

-- the block at 0x1000 is labelled `ring` before, and the one at 0x2000 after
abbrev ring_before : Naming
ring_before = record { names = codes "ring" ∷ []; labels = (0x1000, 0) ∷ [] }

abbrev ring_after : Naming
ring_after = record { names = codes "ring" ∷ []; labels = (0x2000, 0) ∷ [] }

abbrev line_of_record : (code : ℕ) → (fields : List ℕ) → List ℕ
line_of_record code fields = readable_line Two ring_before ring_after (record { line = 11; code = code; fields = fields })

pub an_arena_create : line_of_record 1 (8 ∷ 10 ∷ []) ≡ codes "11 ArenaCreate grains=8 limit=10\n"
unfolding digits
an_arena_create = refl

pub a_limit_set : line_of_record 2 (12 ∷ []) ≡ codes "11 LimitSet limit=12\n"
unfolding digits
a_limit_set = refl

pub a_pool_create : line_of_record 16 (0 ∷ 6 ∷ 3 ∷ []) ≡ codes "11 PoolCreate pool=0 kind=6 param=3\n"
unfolding digits
a_pool_create = refl

pub a_flip : line_of_record 32 (0xa ∷ 16 ∷ 0 ∷ []) ≡ codes "11 Flip zones=0xa chain=16 generation=0\n"
unfolding digits
a_flip = refl

pub an_end : line_of_record 33 [] ≡ codes "11 End\n"
unfolding digits
an_end = refl

pub a_seg_alloc : line_of_record 48 (0x1000 ∷ 1 ∷ 0 ∷ 2 ∷ []) ≡ codes "11 SegAlloc base=0x1000 grains=1 pool=0 generation=2\n"
unfolding digits
a_seg_alloc = refl

pub a_seg_free : line_of_record 49 (0x1000 ∷ []) ≡ codes "11 SegFree base=0x1000\n"
unfolding digits
a_seg_free = refl

pub a_splat : line_of_record 64 (0x1000 ∷ 10 ∷ []) ≡ codes "11 Splat holder=0x1000[ring] cell=10\n"
unfolding digits
a_splat = refl

-- with the label before it
pub a_commit : line_of_record 80 (0x1000 ∷ 3 ∷ 0 ∷ []) ≡ codes "11 Commit at=0x1000[ring] words=3 pool=0\n"
unfolding digits
a_commit = refl

-- not with the label after it
pub an_alloc : line_of_record 81 (0x2000 ∷ 3 ∷ 1 ∷ []) ≡ codes "11 Alloc at=0x2000 words=3 pool=1\n"
unfolding digits
an_alloc = refl

pub a_move : line_of_record 82 (0x1000 ∷ 0x2000 ∷ []) ≡ codes "11 Move from=0x1000[ring] to=0x2000[ring]\n"
unfolding digits
a_move = refl

-- an address has the label before it on the left, and the label after it on the right
pub a_move_back : line_of_record 82 (0x2000 ∷ 0x1000 ∷ []) ≡ codes "11 Move from=0x2000 to=0x1000\n"
unfolding digits
a_move_back = refl

pub a_stay : line_of_record 83 (0x1000 ∷ []) ≡ codes "11 Stay at=0x1000[ring]\n"
unfolding digits
a_stay = refl

pub a_post : line_of_record 84 (0x1000 ∷ []) ≡ codes "11 Post at=0x1000[ring]\n"
unfolding digits
a_post = refl

pub a_free : line_of_record 85 (0x1000 ∷ []) ≡ codes "11 Free at=0x1000[ring]\n"
unfolding digits
a_free = refl

pub an_intern : line_of_record 96 (0 ∷ 0x676e6972 ∷ 0 ∷ []) ≡ codes "11 Intern id=0 name=ring\n"
unfolding digits
an_intern = refl

-- with the label after it
pub a_label : line_of_record 97 (0x2000 ∷ 0 ∷ []) ≡ codes "11 Label at=0x2000[ring] id=0\n"
unfolding digits
a_label = refl

-- a block is made and labelled, moves, becomes a message and is freed
pub the_labels_of_a_text :
    readable Two
    (record { line = 7; code = 80; fields = 0x1000 ∷ 3 ∷ 0 ∷ [] } ∷ record { line = 9; code = 96; fields = 0 ∷ 0x676e6972 ∷ 0 ∷ [] }
    ∷ record { line = 10; code = 97; fields = 0x1000 ∷ 0 ∷ [] } ∷ record { line = 11; code = 82; fields = 0x1000 ∷ 0x2000 ∷ [] }
    ∷ record { line = 11; code = 84; fields = 0x2000 ∷ [] } ∷ record { line = 11; code = 85; fields = 0x2000 ∷ [] }
    ∷ record { line = 12; code = 80; fields = 0x2000 ∷ 2 ∷ 0 ∷ [] } ∷ record { line = 12; code = 84; fields = 0x2000 ∷ [] } ∷ [])
    ≡ codes "7 Commit at=0x1000 words=3 pool=0\n9 Intern id=0 name=ring\n10 Label at=0x1000[ring] id=0\n"
    ++ codes "11 Move from=0x1000[ring] to=0x2000[ring]\n11 Post at=0x2000[ring]\n11 Free at=0x2000[ring]\n"
    ++ codes "12 Commit at=0x2000 words=2 pool=0\n12 Post at=0x2000\n"
unfolding digits
the_labels_of_a_text = refl

-- a move to the same address: the label is gone after it
pub a_move_to_itself :
    readable_from Two ring_before (record { line = 1; code = 82; fields = 0x1000 ∷ 0x1000 ∷ [] } ∷ record {
      line = 2;
      code = 83;
      fields = 0x1000 ∷ [];
    } ∷ [])
    ≡ codes "1 Move from=0x1000[ring] to=0x1000\n2 Stay at=0x1000\n"
unfolding digits
a_move_to_itself = refl
