-- Bytes as a number.
use Rattle.std.specs.Prelude.{ℕ, ◌≡◌, ◌+◌, ◌*◌, List, [], ◌∷◌, refl}

-- the number whose bytes these are, the first lowest
abbrev pub gathered : List ℕ → ℕ
gathered [] = 0
gathered (byte ∷ bytes) = byte + 256 * gathered bytes

pub the_first_is_lowest : gathered (1 ∷ 2 ∷ []) ≡ 513
the_first_is_lowest = refl
