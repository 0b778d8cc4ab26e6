-- The bytes of a name, gathered as numbers of 64 bits, the first of them lowest.
use Rattle.std.proofs.Common.{◌≡◌, ℕ, zero, suc, ◌+◌, ◌-◌, ◌*◌, ◌/◌, ◌%◌, ◌^◌, ◌<◌, ◌≤◌, pow-add, List, [], ◌∷◌, ◌++◌, length, take, drop, replicate, get_or, refl, sym, ap, ◌∙◌, arith}
use Rattle.std.proofs.Math.Nat.{div-div-eq-div-mul, pow-succ'}
use Rattle.std.proofs.lemmas.List.{append_assoc, drop-append-le, drop-drop, get_or-drop, length-drop, length-take, take_all}
use Rattle.std.specs.Int.{byte_at, bytes_low_first}
use Rattle.mps_line_words.specs.Gathered.{gathered}

-- each is a byte
abbrev pub IsBytes : List ℕ → Type 0
IsBytes bytes = (i : ℕ) → get_or bytes i 0 < 256

-- the number of k bytes or fewer is below 256^k
pub gathered_below : (k : ℕ) (bytes : List ℕ) → length bytes ≤ k → IsBytes bytes → gathered bytes < 256 ^ k
gathered_below zero [] le fits = omega arith
gathered_below (suc k) [] le fits =
    let above : gathered [] < 256 ^ k = gathered_below k [] (omega arith) fits in
    omega (arith, above, pow-succ' 256 k)
gathered_below zero (byte ∷ bytes) le fits = absurd (omega arith)
gathered_below (suc k) (byte ∷ bytes) le fits =
    let low : byte < 256 = fits 0 in
    let rest : gathered bytes < 256 ^ k = gathered_below k bytes (omega arith) (λ i. fits (suc i)) in
    omega (arith, low, rest, pow-succ' 256 k)

-- a byte further up is that byte of the number without its lowest
byte_at-suc : (i n : ℕ) → byte_at (suc i) n ≡ byte_at i (n / 256)
byte_at-suc zero n = refl
byte_at-suc (suc i) n = ap (λ (x : ℕ). x % 256) (rw (pow-succ' 256 (suc i), div-div-eq-div-mul n 256 (256 ^ suc i)) refl)

low_first-suc : (i k n : ℕ) → bytes_low_first (suc i) k n ≡ bytes_low_first i k (n / 256)
low_first-suc i zero n = refl
low_first-suc i (suc k) n = rw (byte_at-suc i n, low_first-suc (suc i) k n) refl

-- the bytes of a number, with one more below them
one_more : (k byte n : ℕ) → byte < 256 → bytes_low_first 0 (suc k) (byte + 256 * n) ≡ byte ∷ bytes_low_first 0 k n
one_more k byte n low =
    let first : (byte + 256 * n) % 256 ≡ byte = omega arith in
    let others : (byte + 256 * n) / 256 ≡ n = omega arith in
    rw (first, low_first-suc 0 k (byte + 256 * n), others) refl

zeros : (k : ℕ) → bytes_low_first 0 k 0 ≡ replicate k 0
zeros zero = refl
zeros (suc k) = one_more k 0 0 (omega arith) ∙ ap (λ (bytes : List ℕ). 0 ∷ bytes) (zeros k)

-- the bytes of the number of some bytes are they, and zeros after them
pub bytes_of_gathered : (k : ℕ) (bytes : List ℕ) → length bytes ≤ k → IsBytes bytes
    → bytes_low_first 0 k (gathered bytes) ≡ bytes ++ drop (length bytes) (replicate k 0)
bytes_of_gathered k [] le fits = zeros k
bytes_of_gathered zero (byte ∷ bytes) le fits = absurd (omega arith)
bytes_of_gathered (suc k) (byte ∷ bytes) le fits =
    one_more k byte (gathered bytes) (fits 0)
    ∙ ap (λ (later : List ℕ). byte ∷ later) (bytes_of_gathered k bytes (omega arith) (λ i. fits (suc i)))

-- the bytes of the number of at most eight bytes, with eight zeros after them
pub short_bytes : (bytes low : List ℕ) → length bytes ≤ 8 → IsBytes bytes → low ≡ bytes_low_first 0 8 (gathered bytes)
    → low ++ replicate 8 0 ≡ bytes ++ drop (length bytes) (replicate 16 0)
short_bytes bytes low le fits is =
    ap (λ (x : List ℕ). x ++ replicate 8 0) (is ∙ bytes_of_gathered 8 bytes le fits)
    ∙ append_assoc bytes (drop (length bytes) (replicate 8 0)) (replicate 8 0)
    ∙ ap (λ (x : List ℕ). bytes ++ x) (sym (drop-append-le (length bytes) (replicate 8 0) (replicate 8 0) le))

IsBytes-drop : (n : ℕ) (bytes : List ℕ) → IsBytes bytes → IsBytes (drop n bytes)
IsBytes-drop n bytes h i = rw get_or-drop (h (n + i))

IsBytes-take : (n : ℕ) (bytes : List ℕ) → IsBytes bytes → IsBytes (take n bytes)
IsBytes-take zero bytes h i = omega arith
IsBytes-take (suc n) [] h i = omega arith
IsBytes-take (suc n) (byte ∷ bytes) h zero = h 0
IsBytes-take (suc n) (byte ∷ bytes) h (suc i) = IsBytes-take n bytes (λ k. h (suc k)) i

-- seven of eight bytes, with room for one more
pub few_below : (bytes : List ℕ) (left : ℕ) → 1 ≤ left → length bytes ≤ 8 → IsBytes bytes → gathered (drop left bytes) < 256 ^ 7
few_below bytes left some le fits =
    gathered_below 7 (drop left bytes) (omega (arith, length-drop left bytes)) (IsBytes-drop left bytes fits)

-- a byte more below
one_at : (bytes : List ℕ) (at : ℕ) → at < length bytes
    → gathered (drop at bytes) ≡ get_or bytes at 0 + 256 * gathered (drop (suc at) bytes)
one_at [] at lt = absurd (omega arith)
one_at (byte ∷ bytes) zero lt = refl
one_at (byte ∷ bytes) (suc at) lt = one_at bytes at (omega arith)

pub one_before : (bytes : List ℕ) (left number byte : ℕ) → 1 ≤ left → left ≤ length bytes → byte ≡ get_or bytes (left - 1) 0
    → number ≡ gathered (drop left bytes) → number * 256 + byte ≡ gathered (drop (left - 1) bytes)
one_before bytes left number byte some within is so_far =
    let up : suc (left - 1) ≡ left = omega arith in
    let there = one_at bytes (left - 1) (omega arith) in
    let rest : gathered (drop (suc (left - 1)) bytes) ≡ gathered (drop left bytes) = ap (λ (n : ℕ). gathered (drop n bytes)) up in
    omega (arith, there, rest, is, so_far)

-- ---- four bytes at a time

four : (bytes : List ℕ) → 4 ≤ length bytes
    → gathered (take 4 bytes) ≡ get_or bytes 0 0 + 256 * (get_or bytes 1 0 + 256 * (get_or bytes 2 0 + 256 * get_or bytes 3 0))
four [] le = absurd (omega arith)
four (a ∷ []) le = absurd (omega arith)
four (a ∷ b ∷ []) le = absurd (omega arith)
four (a ∷ b ∷ c ∷ []) le = absurd (omega arith)
four (a ∷ b ∷ c ∷ d ∷ bytes) le = omega arith

pub four_at : (bytes : List ℕ) (at : ℕ) → at + 4 ≤ length bytes
    → gathered (take 4 (drop at bytes))
    ≡ get_or bytes at 0 + 256 * (get_or bytes (at + 1) 0 + 256 * (get_or bytes (at + 2) 0 + 256 * get_or bytes (at + 3) 0))
four_at bytes at le =
    let same : at + 0 ≡ at = omega arith in
    let first : get_or (drop at bytes) 0 0 ≡ get_or bytes at 0 =
    get_or-drop at bytes 0 0 ∙ ap (λ (i : ℕ). get_or bytes i 0) same
    in
    omega (
      arith,
      four (drop at bytes) (omega (arith, le, length-drop at bytes)),
      first,
      get_or-drop at bytes 1 0,
      get_or-drop at bytes 2 0,
      get_or-drop at bytes 3 0,
    )

-- the number of four bytes is below 2^32
pub four_below : (bytes : List ℕ) (at : ℕ) → IsBytes bytes → gathered (take 4 (drop at bytes)) < 4294967296
four_below bytes at fits =
    omega (
      arith,
      gathered_below 4 (take 4 (drop at bytes)) (omega (arith, length-take 4 (drop at bytes)))
          (IsBytes-take 4 (drop at bytes) (IsBytes-drop at bytes fits)),
    )

-- without its lowest bytes, it is the number of the others
gathered_above : (k : ℕ) (bytes : List ℕ) → IsBytes bytes → gathered bytes / 2 ^ (8 * k) ≡ gathered (drop k bytes)
gathered_above zero bytes fits = omega arith
gathered_above (suc k) [] fits = omega arith
gathered_above (suc k) (byte ∷ bytes) fits =
    let low : byte < 256 = fits 0 in
    let one : (byte + 256 * gathered bytes) / 256 ≡ gathered bytes = omega arith in
    rw (power, sym (div-div-eq-div-mul (byte + 256 * gathered bytes) 256 (2 ^ (8 * k))), one)
    (gathered_above k bytes (λ i. fits (suc i)))
  where
    power : 2 ^ (8 * suc k) ≡ 256 * 2 ^ (8 * k)
    power = ap (λ (n : ℕ). 2 ^ n) (let e : 8 * suc k ≡ 8 + 8 * k = omega arith in e) ∙ pow-add 2 8 (8 * k)

of_halves : (bytes : List ℕ) → 4 ≤ length bytes → gathered bytes ≡ gathered (take 4 bytes) + 4294967296 * gathered (drop 4 bytes)
of_halves [] le = absurd (omega arith)
of_halves (a ∷ []) le = absurd (omega arith)
of_halves (a ∷ b ∷ []) le = absurd (omega arith)
of_halves (a ∷ b ∷ c ∷ []) le = absurd (omega arith)
of_halves (a ∷ b ∷ c ∷ d ∷ bytes) le = omega arith

-- the number of four to eight bytes, by the first four and the last four of them
pub halves : (bytes : List ℕ) (low last high : ℕ) → 4 ≤ length bytes → length bytes ≤ 8 → IsBytes bytes
    → low ≡ gathered (take 4 (drop 0 bytes)) → last ≡ gathered (take 4 (drop (length bytes - 4) bytes))
    → high ≡ last / 2 ^ (8 * (8 - length bytes))
    → (high < 4294967296) × (low + high * 4294967296 ≡ gathered bytes)
halves bytes low last high some few fits low_is last_is high_is =
    let n = length bytes in
    let tail = drop (n - 4) bytes in
    let whole : take 4 tail ≡ tail = take_all 4 tail (omega (arith, length-drop (n - 4) bytes)) in
    let above : gathered tail / 2 ^ (8 * (8 - n)) ≡ gathered (drop (8 - n) tail) =
    gathered_above (8 - n) tail (IsBytes-drop (n - 4) bytes fits)
    in
    let sum : n - 4 + (8 - n) ≡ 4 = omega arith in
    let rest : gathered (drop (8 - n) tail) ≡ gathered (drop 4 bytes) =
    ap gathered (drop-drop (8 - n) (n - 4) bytes) ∙ ap (λ (k : ℕ). gathered (drop k bytes)) sum
    in
    let others : high ≡ gathered (drop 4 bytes) =
    high_is ∙ ap (λ (x : ℕ). x / 2 ^ (8 * (8 - n))) (last_is ∙ ap gathered whole) ∙ above ∙ rest
    in
    let below = gathered_below 4 (drop 4 bytes) (omega (arith, length-drop 4 bytes)) (IsBytes-drop 4 bytes fits) in
    (omega (arith, others, below), omega (arith, of_halves bytes some, low_is, others))
