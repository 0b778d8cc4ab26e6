-- The bytes of two names, compared as two numbers.
use Rattle.std.proofs.Common.{◌≡◌, ◌∙◌, ◌≤◌, ℕ, Bool, true, false, List, ◌++◌, take, drop, length, length-drop, refl, sym, ap, arith}
use Rattle.std.proofs.lemmas.Bool.{eqb-true, eq-eqb, false≢true}
use Rattle.std.proofs.lemmas.List.{take-append-drop, take_all}
use Rattle.std.specs.Prelude.{nat_eq}
use Rattle.std.specs.Cmp.Lexicographic.{bytes_decides}
use Rattle.std.specs.Int.{w64, to_le_bytes, from_le_bytes}
use Rattle.std.specs.Str.{bytes_eq}

-- eight bytes and the eight after them are all
in_halves : (a : List ℕ) → length a ≡ 16 → take 8 a ++ take 8 (drop 8 a) ≡ a
in_halves a sixteen =
    let short : length (drop 8 a) ≤ 8 = omega (arith, sixteen, length-drop 8 a) in
    ap (λ (l : List ℕ). take 8 a ++ l) (take_all 8 (drop 8 a) short) ∙ take-append-drop 8 a

module _ (a b : List ℕ) (first first' last last' : ℕ) where
  same_bytes : length a ≡ 16 → length b ≡ 16 → to_le_bytes w64 first ≡ take 8 a → to_le_bytes w64 first' ≡ take 8 b
      → to_le_bytes w64 last ≡ take 8 (drop 8 a) → to_le_bytes w64 last' ≡ take 8 (drop 8 b) → first ≡ first' → last ≡ last' → a ≡ b
  same_bytes long long' of_a of_b past_a past_b same same' =
      sym (in_halves a long)
      ∙ ap (λ (l : List ℕ). l ++ take 8 (drop 8 a)) (sym of_a ∙ ap (λ n. to_le_bytes w64 n) same ∙ of_b)
      ∙ ap (λ (l : List ℕ). take 8 b ++ l) (sym past_a ∙ ap (λ n. to_le_bytes w64 n) same' ∙ past_b) ∙ in_halves b long'

  -- where the first halves are the same, the last ones decide
  pub last_half : length a ≡ 16 → length b ≡ 16 → to_le_bytes w64 first ≡ take 8 a → to_le_bytes w64 first' ≡ take 8 b
      → to_le_bytes w64 last ≡ take 8 (drop 8 a) → to_le_bytes w64 last' ≡ take 8 (drop 8 b)
      → last ≡ from_le_bytes w64 (take 8 (drop 8 a)) → last' ≡ from_le_bytes w64 (take 8 (drop 8 b)) → first ≡ first'
      → nat_eq last last' ≡ bytes_eq a b
  last_half long long' of_a of_b past_a past_b is is' same = both (nat_eq last last') (bytes_eq a b) refl refl
    where
      both : (r s : Bool) → nat_eq last last' ≡ r → bytes_eq a b ≡ s → r ≡ s
      both true true e f = refl
      both false false e f = refl
      both true false e f =
          absurd (false≢true (sym f ∙ (bytes_decides a b).1
          (same_bytes long long' of_a of_b past_a past_b same (eqb-true last last' e))))
      both false true e f =
          absurd (false≢true (sym e ∙ eq-eqb last last'
          (is ∙ ap (λ (l : List ℕ). from_le_bytes w64 (take 8 (drop 8 l))) ((bytes_decides a b).0 f) ∙ sym is')))
