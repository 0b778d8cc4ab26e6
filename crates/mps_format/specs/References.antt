-- A reference word is a tag, 0 to 7, and a target, a multiple of 8. And which cell of a block is the next reference.
use Rattle.std.specs.Prelude.{◌≡◌, ℕ, ◌+◌, ◌-◌, ◌%◌, ◌<◌, ◌≤◌, IsTrue, false, refl}
use Rattle.mps_format.specs.Layout.{Layout}

abbrev pub tag_of : ℕ → ℕ
tag_of word = word % 8

abbrev pub target_of : ℕ → ℕ
target_of word = word - word % 8

abbrev pub with_target : ℕ → ℕ → ℕ
with_target word address = address + word % 8

-- this cell is the first reference of a block with this head, from the cell `from` on
pub record IsFirstReference (f : Layout) (head from cell : ℕ) : Type 0 where
  pub not_before : from ≤ cell
  pub reference : IsTrue (f.is_reference head cell)
  pub none_between : (k : ℕ) → from ≤ k → k < cell → f.is_reference head k ≡ false

-- a block with this head has no reference from the cell `from` on
abbrev pub HasNoReference : Layout → ℕ → ℕ → Type 0
HasNoReference f head from = (k : ℕ) → from ≤ k → f.is_reference head k ≡ false

a_tag : tag_of 0x2005 ≡ 5
a_tag = refl

a_target : target_of 0x2005 ≡ 0x2000
a_target = refl

moved : with_target 0x2005 0x3008 ≡ 0x300d
moved = refl

a_null_keeps_its_tag : with_target 0x2005 0 ≡ 5
a_null_keeps_its_tag = refl
