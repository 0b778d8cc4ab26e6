-- The map of labels that the program keeps, in any order of its entries, as the labels that it stands for.
use Rattle.std.specs.Prelude.{◌≡◌, ℕ, List, [], ◌∷◌, refl}
use Rattle.std.specs.BTreeMap.{insert_entry}
use Rattle.std.specs.Ordering.{nat_cmp}

-- the entries in ascending order of their addresses; of two at one address the first counts
abbrev pub labels_of : List (ℕ × ℕ) → List (ℕ × ℕ)
labels_of [] = []
labels_of (e ∷ es) = insert_entry nat_cmp (labels_of es) e.0 e.1

pub the_labels_ascend : labels_of ((0x2000, 0) ∷ (0x1000, 1) ∷ []) ≡ (0x1000, 1) ∷ (0x2000, 0) ∷ []
the_labels_ascend = refl

pub the_first_entry_counts : labels_of ((0x1000, 0) ∷ (0x1000, 1) ∷ []) ≡ (0x1000, 0) ∷ []
the_first_entry_counts = refl
