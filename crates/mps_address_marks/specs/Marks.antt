-- The marks of addresses.
use Rattle.std.specs.Prelude.{ℕ, ◌≡◌, ◌%◌, refl}
use Rattle.mps_base.specs.Address.{Address, word_of}

-- The index of the mark of an address in a table of n marks.
abbrev pub mark_of : (n : ℕ) → Address → ℕ
mark_of n at = word_of at % n

pub a_word_each : mark_of 32768 0x1008 ≡ 513
a_word_each = refl

pub the_same_256_kibibytes_on : mark_of 32768 0x41008 ≡ 513
the_same_256_kibibytes_on = refl

pub another_in_a_table_of_more : mark_of 131072 0x41008 ≡ 33281
another_in_a_table_of_more = refl
