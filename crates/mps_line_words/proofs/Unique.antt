-- A name has the bytes of one word alone: those before its zeros.
use Rattle.std.proofs.Common.{◌≡◌, ◌∙◌, ℕ, zero, suc, Bool, true, false, true≢false, List, [], ◌∷◌, ◌++◌, Option, Some, None, length, drop, replicate, refl, sym, ap}
use Rattle.std.specs.Prelude.{◌&&◌, ◌||◌, ◌==◌, if◌then◌else◌, nat_lt}
use Rattle.std.specs.List.{list_all}
use Rattle.std.proofs.lemmas.Bool.{and_parts}
use Rattle.mps_base.specs.Name.{is_name, is_name_byte, is_letter, max_name_bytes}
use Rattle.mps_base.specs.declared.names.Name.{Name}
use Rattle.mps_line_words.specs.Name.{name_from, name_of}
use Rattle.mps_line_words.proofs.FirstName.{is_other}

abbrev pub is_zero : ℕ → Bool
is_zero byte = byte == 0

abbrev first_of : List ℕ → ℕ
first_of [] = 0
first_of (byte ∷ bytes) = byte

pub no_zero : (byte : ℕ) → is_name_byte byte ≡ true → is_zero byte ≡ false
no_zero byte named = is_other byte 0 refl named

pub zeros_left : (k n : ℕ) → list_all is_zero (drop k (replicate n 0)) ≡ true
zeros_left zero zero = refl
zeros_left zero (suc n) = zeros_left zero n
zeros_left (suc k) zero = refl
zeros_left (suc k) (suc n) = zeros_left k n

-- where bytes of a name begin, no zeros begin
no_name_of_zeros : (byte : ℕ) (bytes zeros : List ℕ) → is_name_byte byte ≡ true → list_all is_zero zeros ≡ true
    → zeros ≡ byte ∷ bytes → false ≡ true
no_name_of_zeros byte bytes zeros named all is =
    sym (no_zero byte named)
    ∙ (and_parts (is_zero byte) (list_all is_zero bytes) (sym (ap (list_all is_zero) is) ∙ all)).0

same_bytes : (these those zeros others : List ℕ) → list_all is_name_byte these ≡ true → list_all is_name_byte those ≡ true
    → list_all is_zero zeros ≡ true → list_all is_zero others ≡ true → these ++ zeros ≡ those ++ others → these ≡ those
same_bytes [] [] zeros others a b z o is = refl
same_bytes [] (byte ∷ bytes) zeros others a b z o is =
    let named = and_parts (is_name_byte byte) (list_all is_name_byte bytes) b in
    absurd (true≢false (sym (no_name_of_zeros byte (bytes ++ others) zeros named.0 z is)))
same_bytes (byte ∷ bytes) [] zeros others a b z o is =
    let named = and_parts (is_name_byte byte) (list_all is_name_byte bytes) a in
    absurd (true≢false (sym (no_name_of_zeros byte (bytes ++ zeros) others named.0 o (sym is))))
same_bytes (this ∷ these) (that ∷ those) zeros others a b z o is =
    let here = and_parts (is_name_byte this) (list_all is_name_byte these) a in
    let there = and_parts (is_name_byte that) (list_all is_name_byte those) b in
    ap (λ (byte : ℕ). byte ∷ these) (ap first_of is)
    ∙ ap (λ (bytes : List ℕ). that ∷ bytes) (same_bytes these those zeros others here.1 there.1 z o (ap (drop 1) is))

first_named : (letter others : Bool) → letter ≡ true → (letter || others) ≡ true
first_named true others is = refl
first_named false others is = absurd cc

-- all bytes of a name may stand in a name
pub all_named : (word : List ℕ) → is_name word ≡ true → list_all is_name_byte word ≡ true
all_named [] is = absurd cc
all_named (first ∷ rest) is =
    let parts = and_parts (is_letter first) (nat_lt (length rest) max_name_bytes && list_all is_name_byte rest) is in
    let later = and_parts (nat_lt (length rest) max_name_bytes) (list_all is_name_byte rest) parts.1 in
    both (is_name_byte first) (list_all is_name_byte rest) (first_named (is_letter first) _ parts.0) later.1
  where
    both : (x y : Bool) → x ≡ true → y ≡ true → (x && y) ≡ true
    both true y is_x is_y = is_y
    both false y is_x is_y = absurd cc

-- a word that writes a name is one, and has its bytes
written : (word : List ℕ) (name : Name) (b : Bool) → is_name word ≡ b → (if b then Some (name_from word) else None) ≡ Some name
    → (is_name word ≡ true) × ((name_from word).bytes ≡ name.bytes)
written word name true is e = (is, ap bytes_of e)
  where
    bytes_of : Option Name → List ℕ
    bytes_of (Some n) = n.bytes
    bytes_of None = []
written word name false is e = absurd cc

pub names_differ : (these those : List ℕ) (name : Name) → name_of these ≡ Some name → name_of those ≡ Some name → these ≡ those
names_differ these those name e f =
    let one = written these name (is_name these) refl e in
    let other = written those name (is_name those) refl f in
    same_bytes these those (drop (length these) (replicate max_name_bytes 0)) (drop (length those) (replicate max_name_bytes 0))
    (all_named these one.0) (all_named those other.0) (zeros_left (length these) max_name_bytes)
    (zeros_left (length those) max_name_bytes) (one.1 ∙ sym other.1)
