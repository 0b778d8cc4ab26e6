-- The table of what digits stand for.
use Rattle.std.proofs.Common.{◌≡◌, ℕ, zero, suc, ◌-◌, ◌<◌, ◌≤◌, Bool, true, ◌&&◌, T, eqb, get_or, eqb→eq, inl, inr, eq-zero-or-pos, arith}
use Rattle.std.proofs.lemmas.Grind.{common_steps}
use lib.Ieee.Fits.{and_l, and_r}
use Rattle.mps_numerals.specs.Reading.{digit_of}
use Rattle.mps_numerals.specs.declared.reading.TheConstants.{DIGIT_VALUES}

abbrev are_values : ℕ → Bool
are_values zero = true
are_values (suc byte) = eqb (get_or DIGIT_VALUES byte 0) (digit_of byte) && are_values byte

below : (n byte : ℕ) → T (are_values n) → byte < n → get_or DIGIT_VALUES byte 0 ≡ digit_of byte
below zero byte t lt = absurd (omega arith)
below (suc n) byte t lt =
    elim (eq-zero-or-pos (n - byte)) [
      | inl none ↦ let same : byte ≡ n = omega arith in rw same (eqb→eq _ _ (and_l _ (are_values n) t))
      | inr more ↦ below n byte (and_r _ (are_values n) t) (omega arith)
    ]

pub value_there : (byte : ℕ) → byte < 256 → get_or DIGIT_VALUES byte 0 ≡ digit_of byte
value_there byte fits = below 256 byte tt fits

pub at_most_sixteen : (byte : ℕ) → digit_of byte ≤ 16
at_most_sixteen byte = grind (arith, common_steps)
