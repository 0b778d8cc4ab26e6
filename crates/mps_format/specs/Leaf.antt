-- The format `leaf`: the tag of a head is 3, its extra number is 0, and no cell is a reference.
use Rattle.std.specs.Prelude.{◌≡◌, ℕ, Bool, true, false, ◌&&◌, ◌==◌, nat_le, refl}
use Rattle.mps_format.specs.Layout.{Layout}
use Rattle.mps_format.specs.Fields.{tag_field, size_field, extra_field, forwarded_word, pad_word}
use Rattle.mps_format.specs.References.{target_of, with_target}

-- the size is 2 to 65,536
abbrev pub is_leaf : ℕ → Bool
is_leaf h = tag_field h == 3 && (nat_le 2 (size_field h) && (nat_le (size_field h) 65536 && extra_field h == 0))

abbrev pub leaf_layout : Layout
leaf_layout = record {
  is_valid = is_leaf;
  size = size_field;
  is_reference = λ _ _. false;
  forwarded_head = forwarded_word;
  pad_head = pad_word;
  target = target_of;
  retarget = with_target;
}

two_words : leaf_layout.is_valid 0x203 ≡ true
two_words = refl

the_largest : leaf_layout.is_valid 0x1000003 ≡ true
the_largest = refl

too_large : leaf_layout.is_valid 0x1000103 ≡ false
too_large = refl

a_leaf_with_a_reference : leaf_layout.is_valid 0x100000203 ≡ false
a_leaf_with_a_reference = refl

no_cell_is_a_reference : leaf_layout.is_reference 0x203 1 ≡ false
no_cell_is_a_reference = refl
