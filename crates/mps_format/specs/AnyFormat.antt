-- A format that is one of the three.
use Rattle.std.specs.Prelude.{◌≡◌, ℕ, refl}
use Rattle.mps_format.specs.declared.any.AnyFormat.{AnyFormat}
use Rattle.mps_format.specs.declared.any.AnyFormat.TheVariants.{Front, Mapped, Leaf}
use Rattle.mps_format.specs.Layout.{Layout, IsLawful}
use Rattle.mps_format.specs.Any.{front_number, mapped_number, leaf_number, numbered_layout}
use Rattle.mps_format.specs.Front.{front_layout}
use Rattle.mps_format.specs.Mapped.{mapped_layout}
use Rattle.mps_format.specs.Leaf.{leaf_layout}
use Rattle.mps_format.specs.Laws.{front_is_lawful, mapped_is_lawful, leaf_is_lawful}

abbrev pub any_layout : AnyFormat → Layout
any_layout (Front _) = front_layout
any_layout (Mapped _) = mapped_layout
any_layout (Leaf _) = leaf_layout

abbrev pub number_of : AnyFormat → ℕ
number_of (Front _) = front_number
number_of (Mapped _) = mapped_number
number_of (Leaf _) = leaf_number

-- its number decides what it says of words
pub numbered_layout-number_of : (f : AnyFormat) → numbered_layout (number_of f) ≡ any_layout f
numbered_layout-number_of (Front _) = refl
numbered_layout-number_of (Mapped _) = refl
numbered_layout-number_of (Leaf _) = refl

pub any_is_lawful : (f : AnyFormat) → IsLawful (any_layout f)
any_is_lawful (Front _) = front_is_lawful
any_is_lawful (Mapped _) = mapped_is_lawful
any_is_lawful (Leaf _) = leaf_is_lawful
