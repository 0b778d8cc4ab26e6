-- Records of a log, and their bytes. A log is a header and then records without gaps. All numbers stand with their lowest
-- byte first. A record is its code (2 bytes), the number of its fields (2 bytes), the line of the script whose command it
-- belongs to (4 bytes, counted from 1), and its fields (8 bytes each).
use Rattle.std.specs.Prelude.{◌≡◌, ℕ, ◌+◌, ◌*◌, List, [], ◌∷◌, ◌++◌, length, codes, refl}
use Rattle.std.specs.Int.{bytes_low_first}
use Rattle.std.specs.List.{flat_map}

-- one record: the line of its command, what it records, and the numbers of that
pub record Record : Type 0 where
  pub line : ℕ
  pub code : ℕ
  pub fields : List ℕ

-- The codes, by their fields.

-- arena: grains, limit
abbrev pub arena_create_code : ℕ
arena_create_code = 1

-- arena: limit
abbrev pub limit_set_code : ℕ
limit_set_code = 2

-- pool: pool, kind, param
abbrev pub pool_create_code : ℕ
pool_create_code = 16

-- trace: zones, chain, generation
abbrev pub flip_code : ℕ
flip_code = 32

-- trace: no fields
abbrev pub end_code : ℕ
end_code = 33

-- seg: base, grains, pool, generation
abbrev pub seg_alloc_code : ℕ
seg_alloc_code = 48

-- seg: base
abbrev pub seg_free_code : ℕ
seg_free_code = 49

-- ref: holder, cell
abbrev pub splat_code : ℕ
splat_code = 64

-- object: at, words, pool
abbrev pub commit_code : ℕ
commit_code = 80

-- object: at, words, pool
abbrev pub alloc_code : ℕ
alloc_code = 81

-- object: from, to
abbrev pub move_code : ℕ
move_code = 82

-- object: at
abbrev pub stay_code : ℕ
stay_code = 83

-- object: at
abbrev pub post_code : ℕ
post_code = 84

-- object: at
abbrev pub free_code : ℕ
free_code = 85

-- user, in version 2 alone: id, low, high
abbrev pub intern_code : ℕ
intern_code = 96

-- user, in version 2 alone: at, id
abbrev pub label_code : ℕ
label_code = 97

-- a number in n bytes, the lowest first
abbrev pub number_bytes : (count number : ℕ) → List ℕ
number_bytes count number = bytes_low_first 0 count number

-- the number that bytes represent, the lowest first
abbrev pub number_of_bytes : List ℕ → ℕ
number_of_bytes [] = 0
number_of_bytes (byte ∷ bytes) = byte + 256 * number_of_bytes bytes

-- the 8 bytes with which a log of a version begins
abbrev pub header_bytes : (version : ℕ) → List ℕ
header_bytes version = codes "MPSLOG" ++ number_bytes 2 version

-- the bytes of the fields, one after the other
abbrev pub fields_bytes : List ℕ → List ℕ
fields_bytes fields = flat_map (number_bytes 8) fields

-- the bytes of a record
abbrev pub record_bytes : Record → List ℕ
record_bytes r = number_bytes 2 r.code ++ number_bytes 2 (length r.fields) ++ number_bytes 4 r.line ++ fields_bytes r.fields

-- the bytes of records, one after the other
abbrev pub records_bytes : List Record → List ℕ
records_bytes records = flat_map record_bytes records

-- `10 Free 0x1000` takes 16 bytes
pub a_record_of_one_field :
    record_bytes (record { line = 10; code = 85; fields = 0x1000 ∷ [] })
    ≡ 85 ∷ 0 ∷ 1 ∷ 0 ∷ 10 ∷ 0 ∷ 0 ∷ 0 ∷ 0 ∷ 16 ∷ 0 ∷ 0 ∷ 0 ∷ 0 ∷ 0 ∷ 0 ∷ []
a_record_of_one_field = refl

pub a_record_without_fields :
    record_bytes (record { line = 0x01020304; code = 33; fields = [] }) ≡ 33 ∷ 0 ∷ 0 ∷ 0 ∷ 4 ∷ 3 ∷ 2 ∷ 1 ∷ []
a_record_without_fields = refl

-- the bytes of `ring`
pub a_number_is_read_back : number_of_bytes (0x72 ∷ 0x69 ∷ 0x6e ∷ 0x67 ∷ 0 ∷ 0 ∷ 0 ∷ 0 ∷ []) ≡ 0x676e6972
a_number_is_read_back = refl

pub the_header_of_version_two : header_bytes 2 ≡ 77 ∷ 80 ∷ 83 ∷ 76 ∷ 79 ∷ 71 ∷ 2 ∷ 0 ∷ []
the_header_of_version_two = refl
