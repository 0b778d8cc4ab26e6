-- Numbers as bytes, the lowest first: the bytes of a number that was read are the bytes it was read from.
use Rattle.std.proofs.Common.{◌≡◌, ℕ, zero, suc, ◌+◌, ◌*◌, ◌/◌, ◌%◌, ◌^◌, ◌<◌, ◌≤◌, List, [], ◌∷◌, length, take, drop, get_or, refl, ap, arith}
use Rattle.std.proofs.Math.Nat.{div-div-eq-div-mul, pow-succ'}
use Rattle.std.proofs.lemmas.List.{get_or-drop}
use Rattle.std.specs.Int.{byte_at, bytes_low_first}
use Rattle.byteorder.specs.Endian.{little_from, little_number}
use Rattle.byteorder.specs.Numbers.{little_from-cons}
use Rattle.mps_base.specs.Record.{number_bytes}

-- each is a byte
abbrev pub IsBytes : List ℕ → Type 0
IsBytes bytes = (i : ℕ) → get_or bytes i 0 < 256

pub IsBytes-drop : (n : ℕ) (bytes : List ℕ) → IsBytes bytes → IsBytes (drop n bytes)
IsBytes-drop n bytes h i = rw get_or-drop (h (n + i))

-- a byte further up is that byte of the number without its lowest
byte_at-suc : (i n : ℕ) → byte_at (suc i) n ≡ byte_at i (n / 256)
byte_at-suc zero n = refl
byte_at-suc (suc i) n = ap (λ (x : ℕ). x % 256) (rw (pow-succ' 256 (suc i), div-div-eq-div-mul n 256 (256 ^ suc i)) refl)

bytes_low_first-suc : (i k n : ℕ) → bytes_low_first (suc i) k n ≡ bytes_low_first i k (n / 256)
bytes_low_first-suc i zero n = refl
bytes_low_first-suc i (suc k) n = rw (byte_at-suc i n, bytes_low_first-suc (suc i) k n) refl

-- the bytes of a number that was read from bytes
pub number_bytes-little_number : (n : ℕ) (bytes : List ℕ) → n ≤ length bytes → IsBytes bytes
    → number_bytes n (little_number n bytes) ≡ take n bytes
number_bytes-little_number zero bytes le fits = refl
number_bytes-little_number (suc n) [] le fits = absurd (omega arith)
number_bytes-little_number (suc n) (byte ∷ bytes) le fits =
    let low : byte < 256 = fits 0 in
    let m = little_number n bytes in
    let moved : little_from 1 n (byte ∷ bytes) ≡ m = little_from-cons 0 n byte bytes in
    let first : (byte + 256 * m) % 256 ≡ byte = omega arith in
    let others : (byte + 256 * m) / 256 ≡ m = omega arith in
    let rest : number_bytes n m ≡ take n bytes = number_bytes-little_number n bytes (omega arith) (λ i. fits (suc i)) in
    rw (moved, first, bytes_low_first-suc 0 n (byte + 256 * m), others, rest) refl
