-- Texts with the line feed that their last line may lack.
use Rattle.std.proofs.Common.{◌≡◌, ℕ, ◌<◌, Bool, false, if◌then◌else◌, List, [], ◌∷◌, ◌++◌, length, refl, ap, arith}
use Rattle.std.specs.Prelude.{◌≢◌, ◌==◌}
use Rattle.std.specs.List.{AllByRecursion}
use Rattle.std.proofs.lemmas.List.{length-append}
use Rattle.std.proofs.lemmas.List.Elements.{recursion_from_All}
use Rattle.mps_txt.specs.Separators.{Lacks}
use Rattle.mps_txt.specs.Text.{terminated}

-- after a line feed the text goes on
pub terminated-line : (line rest : List ℕ) → terminated (line ++ 10 ∷ rest) ≡ line ++ 10 ∷ terminated rest
terminated-line [] [] = refl
terminated-line [] (byte ∷ rest) = refl
terminated-line (x ∷ []) rest = ap (λ (z : List ℕ). x ∷ z) (terminated-line [] rest)
terminated-line (x ∷ y ∷ line) rest = ap (λ (z : List ℕ). x ∷ z) (terminated-line (y ∷ line) rest)

other_byte : (test : Bool) (byte : ℕ) → test ≡ false → byte ∷ (if test then [] else 10 ∷ []) ≡ byte ∷ 10 ∷ []
other_byte test byte e = rw e refl

is_other : (byte : ℕ) → byte ≢ 10 → (byte == 10) ≡ false
is_other byte other = grind arith

last_terminated : (line : List ℕ) → 0 < length line → AllByRecursion (λ byte. byte ≢ 10) line → terminated line ≡ line ++ 10 ∷ []
last_terminated [] some lacks = absurd (omega (arith, some))
last_terminated (x ∷ []) some lacks = other_byte (x == 10) x (is_other x lacks.0)
last_terminated (x ∷ y ∷ line) some lacks = ap (λ (z : List ℕ). x ∷ z) (last_terminated (y ∷ line) (omega arith) lacks.1)

-- a last line gets its line feed
pub terminated-last : (line : List ℕ) → 0 < length line → Lacks 10 line → terminated line ≡ line ++ 10 ∷ []
terminated-last line some lacks = last_terminated line some (recursion_from_All (λ byte. byte ≢ 10) line lacks)

-- nothing but that is added
pub terminated-adds : (bytes : List ℕ) → (more : List ℕ) × (terminated bytes ≡ bytes ++ more)
terminated-adds [] = ([], refl)
terminated-adds (x ∷ []) = ((if x == 10 then [] else 10 ∷ []), refl)
terminated-adds (x ∷ y ∷ bytes) = let h = terminated-adds (y ∷ bytes) in (h.0, ap (λ (z : List ℕ). x ∷ z) h.1)

pub terminated-some : (bytes : List ℕ) → 0 < length bytes → 0 < length (terminated bytes)
terminated-some bytes some =
    let h = terminated-adds bytes in
    let e : length (terminated bytes) ≡ length (bytes ++ h.0) = ap (λ (x : List ℕ). length x) h.1 in
    omega (arith, some, e, length-append bytes h.0)
