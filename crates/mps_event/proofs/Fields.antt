-- The fields of a record, 8 bytes each.
use Rattle.std.proofs.Common.{◌≡◌, ℕ, zero, suc, ◌+◌, ◌-◌, ◌*◌, ◌^◌, ◌<◌, ◌≤◌, List, [], ◌∷◌, ◌++◌, length, take, drop, get_or, refl, sym, ap, ◌∙◌, arith}
use Rattle.std.specs.List.{AllByRecursion}
use Rattle.std.proofs.lemmas.List.{length-drop, drop-drop, drop-take, take_rest}
use Rattle.byteorder.specs.Endian.{little_number}
use Rattle.byteorder.specs.Numbers.{little_from-take, little_number-reads_back}
use Rattle.mps_base.specs.Record.{number_bytes, fields_bytes}
use Rattle.mps_event.specs.Reading.{fields_in}
use Rattle.mps_event.proofs.Bytes.{IsBytes, IsBytes-drop, number_bytes-little_number}

pub length-fields_in : (n : ℕ) (bytes : List ℕ) → length (fields_in n bytes) ≡ n
length-fields_in zero bytes = refl
length-fields_in (suc n) bytes = ap suc (length-fields_in n (drop 8 bytes))

-- the field at a place
pub get_or-fields_in : (n i : ℕ) (bytes : List ℕ) → i < n → get_or (fields_in n bytes) i 0 ≡ little_number 8 (drop (8 * i) bytes)
get_or-fields_in zero i bytes lt = absurd (omega arith)
get_or-fields_in (suc n) zero bytes lt = refl
get_or-fields_in (suc n) (suc i) bytes lt =
    let further : 8 + 8 * i ≡ 8 * suc i = omega arith in
    get_or-fields_in n i (drop 8 bytes) (omega arith)
    ∙ ap (little_number 8) (drop-drop (8 * i) 8 bytes ∙ ap (λ (k : ℕ). drop k bytes) further)

-- what is read where a record's field stands
pub field_at : (bytes : List ℕ) (n i number : ℕ) → i < n → length bytes ≡ 8 + 8 * n
    → number ≡ little_number 8 (take (length bytes - (8 + 8 * i)) (drop (8 + 8 * i) bytes))
    → number ≡ get_or (fields_in n (drop 8 bytes)) i 0
field_at bytes n i number lt size is =
    let all : take (length bytes - (8 + 8 * i)) (drop (8 + 8 * i) bytes) ≡ drop (8 + 8 * i) bytes = take_rest bytes (8 + 8 * i) in
    is ∙ ap (little_number 8) (all ∙ sym (drop-drop (8 * i) 8 bytes)) ∙ sym (get_or-fields_in n i (drop 8 bytes) lt)

-- fields that lie in the first bytes are read from these
pub fields_in-take : (n m : ℕ) (bytes : List ℕ) → 8 * n ≤ m → fields_in n (take m bytes) ≡ fields_in n bytes
fields_in-take zero m bytes le = refl
fields_in-take (suc n) m bytes le =
    let m-is : m ≡ 8 + (m - 8) = omega arith in
    let later : drop 8 (take m bytes) ≡ take (m - 8) (drop 8 bytes) = ap (λ (k : ℕ). drop 8 (take k bytes)) m-is
    ∙ drop-take 8 (m - 8) bytes in
    rw (little_from-take 0 8 m bytes (omega arith), later, fields_in-take n (m - 8) (drop 8 bytes) (omega arith)) refl

take_nil : (n : ℕ) → take {A = ℕ} n [] ≡ []
take_nil zero = refl
take_nil (suc n) = refl

-- the first n, and then n more
pub take_add : (m n : ℕ) (bytes : List ℕ) → take m bytes ++ take n (drop m bytes) ≡ take (m + n) bytes
take_add zero n bytes = ap (λ (k : ℕ). take k bytes) (omega arith)
take_add (suc m) n [] = take_nil n ∙ sym (take_nil (suc m + n))
take_add (suc m) n (byte ∷ bytes) =
    let e : suc (m + n) ≡ suc m + n = omega arith in
    ap (λ (x : List ℕ). byte ∷ x) (take_add m n bytes) ∙ ap (λ (k : ℕ). take k (byte ∷ bytes)) e

-- the bytes of fields that were read
pub fields_bytes-fields_in : (n : ℕ) (bytes : List ℕ) → 8 * n ≤ length bytes → IsBytes bytes
    → fields_bytes (fields_in n bytes) ≡ take (8 * n) bytes
fields_bytes-fields_in zero bytes le fits = refl
fields_bytes-fields_in (suc n) bytes le fits =
    let later = fields_in n (drop 8 bytes) in
    let first : number_bytes 8 (little_number 8 bytes) ≡ take 8 bytes = number_bytes-little_number 8 bytes (omega arith) fits in
    let others : fields_bytes later ≡ take (8 * n) (drop 8 bytes) =
    fields_bytes-fields_in n (drop 8 bytes) (omega (arith, length-drop 8 bytes)) (IsBytes-drop 8 bytes fits) in
    let size : 8 + 8 * n ≡ 8 * suc n = omega arith in
    ap (λ (x : List ℕ). x ++ fields_bytes later) first
    ∙ ap (λ (x : List ℕ). take 8 bytes ++ x) others
    ∙ take_add 8 (8 * n) bytes
    ∙ ap (λ (k : ℕ). take k bytes) size

with_first : (field : ℕ) (fields bytes : List ℕ) → field < 2 ^ 64 → fields_in (length fields) bytes ≡ fields
    → fields_in (suc (length fields)) (number_bytes 8 field ++ bytes) ≡ field ∷ fields
with_first field fields bytes lt later =
    let first : little_number 8 (number_bytes 8 field ++ bytes) ≡ field = little_number-reads_back 8 field bytes lt in
    ap (λ (x : ℕ). x ∷ fields_in (length fields) bytes) first ∙ ap (λ (xs : List ℕ). field ∷ xs) later

-- fields that were written are read again
pub fields_in-fields_bytes : (fields rest : List ℕ) → AllByRecursion (λ field. field < 2 ^ 64) fields
    → fields_in (length fields) (fields_bytes fields ++ rest) ≡ fields
fields_in-fields_bytes [] rest fits = refl
fields_in-fields_bytes (field ∷ fields) rest fits =
    with_first field fields (fields_bytes fields ++ rest) fits.0 (fields_in-fields_bytes fields rest fits.1)
