-- The table of the bytes of names.
use Rattle.std.proofs.Common.{◌≡◌, ℕ, zero, suc, ◌-◌, ◌<◌, Bool, true, false, ◌&&◌, not, T, get_or, refl, inl, inr, eq-zero-or-pos, arith}
use lib.Ieee.Fits.{and_l, and_r}
use Rattle.mps_base.specs.Name.{is_name_byte}
use Rattle.mps_line_words.specs.declared.names.TheConstants.{NAME_BYTES}

abbrev is_same : Bool → Bool → Bool
is_same true b = b
is_same false b = not b

same : (a b : Bool) → T (is_same a b) → a ≡ b
same true true t = refl
same true false t = absurd t
same false true t = absurd t
same false false t = refl

abbrev are_right : ℕ → Bool
are_right zero = true
are_right (suc byte) = is_same (get_or NAME_BYTES byte false) (is_name_byte byte) && are_right byte

right_at : (byte : ℕ) → T (are_right (suc byte)) → get_or NAME_BYTES byte false ≡ is_name_byte byte
right_at byte t =
    same (get_or NAME_BYTES byte false) (is_name_byte byte)
    (and_l (is_same (get_or NAME_BYTES byte false) (is_name_byte byte)) (are_right byte) t)

below : (n byte : ℕ) → T (are_right n) → byte < n → get_or NAME_BYTES byte false ≡ is_name_byte byte
below zero byte t lt = absurd (omega arith)
below (suc n) byte t lt =
    elim (eq-zero-or-pos (n - byte)) [
      | inl none ↦ let e : byte ≡ n = omega arith in rw e (right_at n t)
      | inr more ↦ below n byte (and_r _ (are_right n) t) (omega arith)
    ]

pub name_byte_there : (byte : ℕ) → byte < 256 → get_or NAME_BYTES byte false ≡ is_name_byte byte
name_byte_there byte fits = below 256 byte tt fits
