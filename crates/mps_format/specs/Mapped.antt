-- The format `mapped`: the tag of a head is 2, and cell k is a reference if bit k of its extra number is 1.
use Rattle.std.specs.Prelude.{◌≡◌, ℕ, ◌%◌, ◌^◌, Bool, true, false, ◌&&◌, ◌==◌, nat_lt, nat_le, refl}
use Rattle.std.specs.Int.{bit_at}
use Rattle.mps_format.specs.Layout.{Layout}
use Rattle.mps_format.specs.Fields.{tag_field, size_field, extra_field, forwarded_word, pad_word}
use Rattle.mps_format.specs.References.{target_of, with_target}

-- the size is 2 to 32, cell 0 is no reference, and no bit represents a cell past the block
abbrev pub is_mapped : ℕ → Bool
is_mapped h =
    tag_field h == 2 && (nat_le 2 (size_field h) && (nat_le (size_field h) 32
    && (extra_field h % 2 == 0 && nat_lt (extra_field h) (2 ^ size_field h))))

abbrev pub mapped_layout : Layout
mapped_layout = record {
  is_valid = is_mapped;
  size = size_field;
  is_reference = λ h k. bit_at (extra_field h) k == 1;
  forwarded_head = forwarded_word;
  pad_head = pad_word;
  target = target_of;
  retarget = with_target;
}

cells_one_and_two : mapped_layout.is_valid 0x600000302 ≡ true
cells_one_and_two = refl

the_head_is_no_reference : mapped_layout.is_valid 0x700000302 ≡ false
the_head_is_no_reference = refl

a_bit_past_the_block : mapped_layout.is_valid 0x800000302 ≡ false
a_bit_past_the_block = refl

the_largest : mapped_layout.is_valid 0xfffffffe00002002 ≡ true
the_largest = refl

too_large : mapped_layout.is_valid 0x2102 ≡ false
too_large = refl

cell_zero_is_none : mapped_layout.is_reference 0x600000302 0 ≡ false
cell_zero_is_none = refl

cell_two_is_a_reference : mapped_layout.is_reference 0x600000302 2 ≡ true
cell_two_is_a_reference = refl

cell_three_is_none : mapped_layout.is_reference 0x600000302 3 ≡ false
cell_three_is_none = refl
