-- The portable text of a log.
use Rattle.std.specs.Prelude.{◌≡◌, ℕ, Bool, false, if◌then◌else◌, Option, Some, None, List, [], ◌∷◌, ◌++◌, codes, refl}
use Rattle.std.specs.Fmt.{digits}
use Rattle.std.specs.List.{flat_map}
use Rattle.mps_base.specs.Record.{Record}
use Rattle.mps_event.specs.declared.version.Version.{Version}
use Rattle.mps_event.specs.declared.version.Version.TheVariants.{One, Two}
use Rattle.mps_event.specs.declared.event.Event.{Event}
use Rattle.mps_event.specs.Event.{event_of}
use Rattle.mps_log_reader.specs.Opening.{first_line}
use Rattle.mps_log_reader.specs.RecordLine.{record_line}
use Rattle.mps_event.specs.Kinds.{is_among}

-- the event of a record is of one of these kinds
abbrev pub is_wanted : (kinds : ℕ) → Option Event → Bool
is_wanted kinds None = false
is_wanted kinds (Some event) = is_among kinds event

-- the line of a record of one of these kinds, and nothing for another
abbrev pub line_of_kinds : Version → (kinds : ℕ) → Record → List ℕ
line_of_kinds version kinds r = if is_wanted kinds (event_of version r.code) then record_line r else []

-- the portable text of the records of some kinds
abbrev pub portable : Version → (kinds : ℕ) → List Record → List ℕ
portable version kinds records = first_line version ++ flat_map (line_of_kinds version kinds) records

pub only_the_kinds_that_are_wanted :
    portable One 32
    (record { line = 3; code = 16; fields = 0 ∷ 6 ∷ 0 ∷ [] } ∷ record { line = 10; code = 82; fields = 0x1000 ∷ 0x2000 ∷ [] } ∷ [])
    ≡ codes "mpslog 1\n10 82 1000 2000\n"
unfolding digits
only_the_kinds_that_are_wanted = refl

-- a block of three words is made at 0x1000 and moves to 0x2000
pub a_collection_that_moves_a_block :
    portable One 127
    (record { line = 1; code = 1; fields = 8 ∷ 8 ∷ [] } ∷ record { line = 3; code = 16; fields = 0 ∷ 1 ∷ 1 ∷ [] }
    ∷ record { line = 5; code = 48; fields = 0x1000 ∷ 1 ∷ 0 ∷ 0 ∷ [] } ∷ record { line = 7; code = 80; fields = 0x1000 ∷ 3 ∷ 0 ∷ [] }
    ∷ record { line = 10; code = 32; fields = 2 ∷ 16 ∷ 0 ∷ [] } ∷ record { line = 10; code = 48; fields = 0x2000 ∷ 1 ∷ 0 ∷ 0 ∷ [] }
    ∷ record { line = 10; code = 82; fields = 0x1000 ∷ 0x2000 ∷ [] } ∷ record { line = 10; code = 49; fields = 0x1000 ∷ [] }
    ∷ record { line = 10; code = 33; fields = [] } ∷ [])
    ≡ codes "mpslog 1\n1 1 8 8\n3 16 0 1 1\n5 48 1000 1 0 0\n7 80 1000 3 0\n"
    ++ codes "10 32 2 10 0\n10 48 2000 1 0 0\n10 82 1000 2000\n10 49 1000\n10 33\n"
unfolding digits
a_collection_that_moves_a_block = refl

pub a_label_of_version_two : portable Two 64 (record { line = 4; code = 97; fields = 0x1000 ∷ 0 ∷ [] } ∷ [])
    ≡ codes "mpslog 2\n4 97 1000 0\n"
unfolding digits
a_label_of_version_two = refl

pub version_one_has_no_labels : portable One 127 (record { line = 4; code = 97; fields = 0x1000 ∷ 0 ∷ [] } ∷ []) ≡ codes "mpslog 1\n"
version_one_has_no_labels = refl
