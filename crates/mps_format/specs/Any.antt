-- The three formats by their numbers: 1 is `front`, 2 is `mapped`, 3 is `leaf`.
use Rattle.std.specs.Prelude.{◌≡◌, ℕ, ◌==◌, if◌then◌else◌, true, false, refl}
use Rattle.mps_format.specs.Layout.{Layout}
use Rattle.mps_format.specs.Front.{front_layout}
use Rattle.mps_format.specs.Mapped.{mapped_layout}
use Rattle.mps_format.specs.Leaf.{leaf_layout}

abbrev pub front_number : ℕ
front_number = 1

abbrev pub mapped_number : ℕ
mapped_number = 2

abbrev pub leaf_number : ℕ
leaf_number = 3

-- any other number counts as that of `leaf`
abbrev pub numbered_layout : ℕ → Layout
numbered_layout n = if n == front_number then front_layout else (if n == mapped_number then mapped_layout else leaf_layout)

two_is_mapped : (numbered_layout 2).is_valid 0x600000302 ≡ true
two_is_mapped = refl

three_is_not_front : (numbered_layout 3).is_valid 0x100000301 ≡ false
three_is_not_front = refl
