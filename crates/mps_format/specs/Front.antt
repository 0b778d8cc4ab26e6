-- The format `front`: the tag of a head is 1, and its extra number is how many of the cells from 1 on are references.
use Rattle.std.specs.Prelude.{◌≡◌, ℕ, Bool, true, false, ◌&&◌, ◌==◌, nat_lt, nat_le, refl}
use Rattle.mps_format.specs.Layout.{Layout}
use Rattle.mps_format.specs.Fields.{tag_field, size_field, extra_field, forwarded_word, pad_word}
use Rattle.mps_format.specs.References.{target_of, with_target}

-- the size is 2 to 65,536, and cell 0 is no reference
abbrev pub is_front : ℕ → Bool
is_front h = tag_field h == 1 && (nat_le 2 (size_field h) && (nat_le (size_field h) 65536 && nat_lt (extra_field h) (size_field h)))

abbrev pub front_layout : Layout
front_layout = record {
  is_valid = is_front;
  size = size_field;
  is_reference = λ h k. nat_le 1 k && nat_le k (extra_field h);
  forwarded_head = forwarded_word;
  pad_head = pad_word;
  target = target_of;
  retarget = with_target;
}

three_words_one_reference : front_layout.is_valid 0x100000301 ≡ true
three_words_one_reference = refl

no_reference : front_layout.is_valid 0x201 ≡ true
no_reference = refl

the_largest : front_layout.is_valid 0xffff01000001 ≡ true
the_largest = refl

one_word_is_too_small : front_layout.is_valid 0x101 ≡ false
one_word_is_too_small = refl

too_large : front_layout.is_valid 0x1000101 ≡ false
too_large = refl

as_many_references_as_words : front_layout.is_valid 0x300000301 ≡ false
as_many_references_as_words = refl

another_tag : front_layout.is_valid 0x203 ≡ false
another_tag = refl

its_size : front_layout.size 0x100000301 ≡ 3
its_size = refl

cell_one_is_a_reference : front_layout.is_reference 0x100000301 1 ≡ true
cell_one_is_a_reference = refl

cell_two_is_none : front_layout.is_reference 0x100000301 2 ≡ false
cell_two_is_none = refl

cell_zero_is_none : front_layout.is_reference 0x100000301 0 ≡ false
cell_zero_is_none = refl
