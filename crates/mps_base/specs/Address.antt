-- Words, addresses, grains and zones. A word has 8 bytes and lies at a multiple of 8. A grain has 512 words, which are
-- 4096 bytes. Grain 0 is never used, and address 0 is null. There are 64 zones.
use Rattle.std.specs.Prelude.{ℕ, ◌≡◌, ◌+◌, ◌-◌, ◌*◌, ◌/◌, ◌%◌, ◌^◌, refl}

-- the number of an object: objects are numbered from 0, in the order in which they were made
abbrev pub Id : Type 0
Id = ℕ

-- an address in bytes; 0 is null
abbrev pub Address : Type 0
Address = ℕ

-- the number of a word of the arena, or the value that a word has
abbrev pub Word : Type 0
Word = ℕ

-- the number of a grain
abbrev pub Grain : Type 0
Grain = ℕ

abbrev pub bytes_of_word : ℕ
bytes_of_word = 8

abbrev pub words_of_grain : ℕ
words_of_grain = 512

abbrev pub bytes_of_grain : ℕ
bytes_of_grain = 4096

abbrev pub zones : ℕ
zones = 64

-- the most grains that an arena may have
abbrev pub max_grains : ℕ
max_grains = 2048

-- the most words that a block may have
abbrev pub max_block_words : ℕ
max_block_words = 65536

-- the grain in which an address lies
abbrev pub grain_of : Address → Grain
grain_of at = at / bytes_of_grain

-- the zone of an address
abbrev pub zone_of : Address → ℕ
zone_of at = grain_of at % zones

-- the grains that a block of n words needs
abbrev pub grains_needed : (words : ℕ) → ℕ
grains_needed words = (words + 511) / words_of_grain

-- the address at which a grain begins
abbrev pub address_of_grain : Grain → Address
address_of_grain grain = bytes_of_grain * grain

-- the address of a word, by its number
abbrev pub address_of_word : Word → Address
address_of_word word = bytes_of_word * word

-- the number of the word that begins at an address
abbrev pub word_of : Address → Word
word_of at = at / bytes_of_word

-- the most that 32 bits count
abbrev pub last_u32 : ℕ
last_u32 = 4294967295

pub a_zone_repeats_after_64_grains : zone_of 0x41000 ≡ 1
a_zone_repeats_after_64_grains = refl

pub one_word_more_needs_a_grain_more : grains_needed 513 ≡ 2
one_word_more_needs_a_grain_more = refl

pub thirty_two_bits : last_u32 ≡ 2 ^ 32 - 1
thirty_two_bits = refl
