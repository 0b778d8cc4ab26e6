-- The marks of old addresses.
use Rattle.std.specs.Prelude.{◌≡◌, refl, ◌==◌, ℕ, Bool, true, false, List, [], ◌∷◌}
use Rattle.mps_address_marks.specs.Marks.{mark_of}
use Rattle.mps_base.specs.Address.{Address}
use Rattle.mps_bits.specs.Row.{bit_in}

-- how many there are: addresses 8 MiB apart have the same
abbrev pub marks_count : ℕ
marks_count = 1048576

-- how many words they take
abbrev pub words_of_marks : ℕ
words_of_marks = 16384

-- an address has its mark; past the last word none has
abbrev pub is_marked : (marks : List ℕ) → Address → Bool
is_marked marks at = bit_in marks (mark_of marks_count at) == 1

-- ---- examples: the second and the third word of an arena whose lowest word has the address 0

pub the_second : is_marked (2 ∷ []) 8 ≡ true
unfolding bit_in
the_second = refl

pub not_the_third : is_marked (2 ∷ []) 16 ≡ false
unfolding bit_in
not_the_third = refl

pub also_8_mebibytes_on : is_marked (2 ∷ []) 8388616 ≡ true
unfolding bit_in
also_8_mebibytes_on = refl

pub none_before_pairs_are_taken : is_marked [] 8 ≡ false
unfolding bit_in
none_before_pairs_are_taken = refl
