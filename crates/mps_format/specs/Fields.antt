-- A head word as three numbers: a tag in the bits 0 to 7, a size in the bits 8 to 31, an extra number in the bits 32 to 63.
use Rattle.std.specs.Prelude.{◌≡◌, ℕ, ◌+◌, ◌*◌, ◌/◌, ◌%◌, refl}

abbrev pub tag_field : ℕ → ℕ
tag_field h = h % 256

abbrev pub size_field : ℕ → ℕ
size_field h = h / 256 % 16777216

abbrev pub extra_field : ℕ → ℕ
extra_field h = h / 4294967296

-- the word with these three fields
abbrev pub head_word : ℕ → ℕ → ℕ → ℕ
head_word tag size extra = tag + 256 * size + 4294967296 * extra

-- the formats of this crate share the heads of forwarded blocks and of pads
abbrev pub forwarded_word : ℕ → ℕ
forwarded_word n = head_word 4 n 0

abbrev pub pad_word : ℕ → ℕ
pad_word n = head_word 5 n 0

-- a forwarded block of 3 words, a pad of 5, and the three fields of 0x100000301
three_forwarded : forwarded_word 3 ≡ 0x304
three_forwarded = refl

pad_of_five : pad_word 5 ≡ 0x505
pad_of_five = refl

a_tag : tag_field 0x100000301 ≡ 1
a_tag = refl

a_size : size_field 0x100000301 ≡ 3
a_size = refl

an_extra : extra_field 0x100000301 ≡ 1
an_extra = refl
