-- Files by their names and indices.
use Rattle.std.proofs.Common.{◌≡◌, ℕ, ◌<◌, ◌≤◌, ◌≢◌, Some, None, List, [], ◌∷◌, ◌++◌, length, get_or, set, refl, arith}
use Rattle.std.proofs.lemmas.Slice.Eq.{bytes_eq-Decides}
use Rattle.mps_desk.specs.Desk.{File, file_named, with_file, with_more, text_in}
use Rattle.mps_desk.specs.MemDesk.{index_of_file}

pub file_named-at_index : (fs : List File) (name : List ℕ) (d : File) → index_of_file fs name < length fs
    → file_named fs name ≡ Some (get_or fs (index_of_file fs name) d).bytes
file_named-at_index [] name d short = absurd (omega (arith, short))
file_named-at_index (f ∷ fs) name d short = grind (arith, file_named-at_index fs name d)

pub file_named-absent : (fs : List File) (name : List ℕ) → length fs ≤ index_of_file fs name → file_named fs name ≡ None
file_named-absent [] name long = refl
file_named-absent (f ∷ fs) name long = grind (arith, file_named-absent fs name)

pub with_file-at_index : (fs : List File) (name bytes : List ℕ) (d : File) → index_of_file fs name < length fs
    → with_file fs name bytes ≡ set fs (index_of_file fs name) (record (get_or fs (index_of_file fs name) d) { bytes = bytes })
with_file-at_index [] name bytes d short = absurd (omega (arith, short))
with_file-at_index (f ∷ fs) name bytes d short = grind (arith, with_file-at_index fs name bytes d)

pub with_file-new : (fs : List File) (name bytes : List ℕ) → length fs ≤ index_of_file fs name → with_file fs name bytes ≡ fs
    ++ record { name = name; bytes = bytes } ∷ []
with_file-new [] name bytes long = refl
with_file-new (f ∷ fs) name bytes long = grind (arith, with_file-new fs name bytes)

pub with_more-at_index : (fs : List File) (name bytes : List ℕ) (d : File) → index_of_file fs name < length fs
    → with_more fs name bytes ≡ set fs (index_of_file fs name)
    (record (get_or fs (index_of_file fs name) d) { bytes = (get_or fs (index_of_file fs name) d).bytes ++ bytes })
with_more-at_index [] name bytes d short = absurd (omega (arith, short))
with_more-at_index (f ∷ fs) name bytes d short = grind (arith, with_more-at_index fs name bytes d)

pub with_more-absent : (fs : List File) (name bytes : List ℕ) → length fs ≤ index_of_file fs name → with_more fs name bytes ≡ fs
with_more-absent [] name bytes long = refl
with_more-absent (f ∷ fs) name bytes long = grind (arith, with_more-absent fs name bytes)

pub index_of_file-le : (fs : List File) (name : List ℕ) → index_of_file fs name ≤ length fs
index_of_file-le [] name = omega arith
index_of_file-le (f ∷ fs) name = grind (arith, index_of_file-le fs name)

-- a file of another name is as it was
pub file_named-with_file_other : (fs : List File) (name other bytes : List ℕ) → other ≢ name
    → file_named (with_file fs name bytes) other ≡ file_named fs other
file_named-with_file_other [] name other bytes differ = grind (arith, bytes_eq-Decides name other)
file_named-with_file_other (f ∷ fs) name other bytes differ =
    grind (arith, bytes_eq-Decides f.name name, bytes_eq-Decides f.name other, file_named-with_file_other fs name other bytes)

-- and so is what it opens as
pub text_stays : (fs : List File) (name other bytes : List ℕ) → other ≢ name → text_in (with_file fs name bytes) other ≡ text_in fs other
text_stays fs name other bytes differ = let same = file_named-with_file_other fs name other bytes differ in cc

-- what a index says
pub ruleset at_index = (
  file_named-at_index,
  file_named-absent,
  with_file-at_index,
  with_file-new,
  with_more-at_index,
  with_more-absent,
  index_of_file-le,
)
