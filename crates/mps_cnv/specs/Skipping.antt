-- Records at the beginning of some bytes that are skipped.
use Rattle.std.specs.Prelude.{◌≡◌, ℕ, List, [], ◌∷◌, ◌++◌, All, length, drop, codes, refl}
use Rattle.std.specs.List.{flat_map}
use Rattle.std.proofs.Common.{arith}
use Rattle.std.proofs.lemmas.List.Elements.{All-from_recursion}
use Rattle.std.specs.Fmt.{digits}
use Rattle.mps_base.specs.Record.{Record, record_bytes, records_bytes}
use Rattle.mps_event.specs.declared.version.Version.{Version}
use Rattle.mps_event.specs.declared.version.Version.TheVariants.{One}
use Rattle.mps_event.specs.Grammar.{IsRecord, a_record_of_version_one}
use Rattle.mps_cnv.specs.Portable.{line_of_kinds}

-- the bytes begin with a record of this size that has no line
pub record BeginsWithUnwanted (version : Version) (kinds size : ℕ) (bytes : List ℕ) : Type 0 where
  pub read : Record
  pub grammar : IsRecord version read
  pub sized : size ≡ length (record_bytes read)
  pub front : bytes ≡ record_bytes read ++ drop size bytes
  pub silent : line_of_kinds version kinds read ≡ []

-- the bytes begin with `count` records, of `size` bytes together, none of which has a line
pub record SkipsUnwanted (version : Version) (kinds count size : ℕ) (bytes : List ℕ) : Type 0 where
  pub records : List Record
  pub each : All (IsRecord version) records
  pub counted : length records ≡ count
  pub sized : size ≡ length (records_bytes records)
  pub front : bytes ≡ records_bytes records ++ drop size bytes
  pub silent : flat_map (line_of_kinds version kinds) records ≡ []

-- ---- vectors

-- `5 Move 0x1000 0x2000`
abbrev a_move : Record
a_move = record { line = 5; code = 82; fields = 0x1000 ∷ 0x2000 ∷ [] }

pub a_move_among_labels : BeginsWithUnwanted One 64 24 (record_bytes a_move ++ 82 ∷ 0 ∷ [])
a_move_among_labels = record { read = a_move; grammar = a_record_of_version_one; sized = refl; front = refl; silent = refl }

pub a_move_among_objects_has_a_line : line_of_kinds One 32 a_move ≡ codes "5 82 1000 2000\n"
unfolding digits
a_move_among_objects_has_a_line = refl

pub nothing_is_passed_over : (bytes : List ℕ) → SkipsUnwanted One 64 0 0 bytes
nothing_is_passed_over bytes =
    record { records = []; each = All-from_recursion (IsRecord One) [] tt; counted = refl; sized = refl; front = refl; silent = refl }

pub a_record_has_bytes : SkipsUnwanted One 64 1 0 [] → ⊥
a_record_has_bytes s = none s.records s.counted s.sized
  where
    none : (rs : List Record) → length rs ≡ 1 → 0 ≡ length (records_bytes rs) → ⊥
    none [] counted sized = absurd (omega (arith, counted))
    none (r ∷ rs) counted sized = absurd cc
