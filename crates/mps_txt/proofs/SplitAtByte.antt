-- A text is split where a byte stands first, and in one way only.
use Rattle.std.proofs.Common.{◌≡◌, ℕ, ◌+◌, ◌<◌, ◌≤◌, Bool, true, false, cond, eqb, ltb, List, [], ◌∷◌, ◌++◌, length, take, drop, get_or, Option, Some, None, refl, sym, ap, subst, ◌∙◌, arith}
use Rattle.std.specs.Prelude.{◌≢◌, ◌==◌, IfSome, IfNone, position}
use Rattle.std.specs.List.{AllByRecursion, position_or_len}
use Rattle.std.proofs.lemmas.Bool.{eqb-true, eqb-false, ltb-false}
use Rattle.std.proofs.lemmas.List.{drop_more, get_or-take, length-take, take-append-drop, take_all}
use Rattle.std.proofs.lemmas.List.Elements.{All-from_get_or, recursion_from_All}
use Rattle.std.proofs.lemmas.List.Quantifiers.{position-Some}
use Rattle.std.proofs.lemmas.List.Sums.{fails_before_first}
use Rattle.mps_txt.specs.Separators.{Lacks, separated}

same_after : (separator : ℕ) (a b : Option (List ℕ)) → separated separator a ≡ separated separator b → a ≡ b
same_after separator None None e = refl
same_after separator None (Some y) e = absurd (let h : 0 ≡ length (separator ∷ y) = ap (λ (x : List ℕ). length x) e in omega (arith, h))
same_after separator (Some x) None e = absurd (let h : length (separator ∷ x) ≡ 0 = ap (λ (x : List ℕ). length x) e in omega (arith, h))
same_after separator (Some x) (Some y) e = ap Some (ap (λ (x : List ℕ). drop 1 x) e)

not_after : (separator byte : ℕ) (bytes : List ℕ) (a : Option (List ℕ)) → byte ≢ separator → byte ∷ bytes ≡ separated separator a → ⊥
not_after separator byte bytes None other e =
    absurd (let h : length (byte ∷ bytes) ≡ 0 = ap (λ (x : List ℕ). length x) e in omega (arith, h))
not_after separator byte bytes (Some x) other e = other (ap (λ (x : List ℕ). get_or x 0 0) e)

cut : (separator : ℕ) (w v : List ℕ) (a b : Option (List ℕ)) → AllByRecursion (λ byte. byte ≢ separator) w
    → AllByRecursion (λ byte. byte ≢ separator) v
    → w ++ separated separator a ≡ v ++ separated separator b → (w ≡ v) × (a ≡ b)
cut separator [] [] a b h k e = (refl, same_after separator a b e)
cut separator [] (y ∷ v) a b h k e = absurd (not_after separator y (v ++ separated separator b) a k.0 (sym e))
cut separator (x ∷ w) [] a b h k e = absurd (not_after separator x (w ++ separated separator a) b h.0 e)
cut separator (x ∷ w) (y ∷ v) a b h k e =
    let first : x ≡ y = ap (λ (x : List ℕ). get_or x 0 0) e in
    let others = cut separator w v a b h.1 k.1 (ap (λ (x : List ℕ). drop 1 x) e) in
    (ap (λ (z : ℕ). z ∷ w) first ∙ ap (λ (z : List ℕ). y ∷ z) others.0, others.1)

pub one_split : (separator : ℕ) (w v : List ℕ) (a b : Option (List ℕ)) → Lacks separator w → Lacks separator v
    → w ++ separated separator a ≡ v ++ separated separator b → (w ≡ v) × (a ≡ b)
one_split separator w v a b h k e =
    cut separator w v a b (recursion_from_All (λ byte. byte ≢ separator) w h) (recursion_from_All (λ byte. byte ≢ separator) v k) e

-- ---- where a byte stands first

module _ (byte : ℕ) (text : List ℕ) where
  stands_at : (index : ℕ) → index < length text → get_or text index 0 ≡ byte → text ≡ take index text ++ byte ∷ drop (index + 1) text
  stands_at index within is =
      sym (take-append-drop index text)
      ∙ ap (λ (x : List ℕ). take index text ++ x) (drop_more text index 0 within)
      ∙ ap (λ (b : ℕ). take index text ++ b ∷ drop (index + 1) text) is

  lacks_before : (index : ℕ) → ((k : ℕ) → k < index → eqb (get_or text k 0) byte ≡ false) → Lacks byte (take index text)
  lacks_before index before =
      All-from_get_or (λ other. other ≢ byte) (take index text) 0 (λ i within.
      let low : i < index = omega (arith, within, length-take index text) in
      let is : get_or (take index text) i 0 ≡ get_or text i 0 = get_or-take index text i 0 low in
      λ e. eqb-false (get_or text i 0) byte (before i low) (sym is ∙ e))

  pub splits_there : (answer : Option ℕ) → answer ≡ position (λ other. other == byte) text
      → IfSome answer (λ index. text ≡ take index text ++ byte ∷ drop (index + 1) text)
  splits_there None e = tt
  splits_there (Some index) e =
      let at = position-Some (λ other. other == byte) text index 0 (sym e) in
      stands_at index at.0 (eqb-true (get_or text index 0) byte at.1)

  pub lacks_up_to_there : (answer : Option ℕ) → answer ≡ position (λ other. other == byte) text
      → IfSome answer (λ index. Lacks byte (take index text))
  lacks_up_to_there None e = tt
  lacks_up_to_there (Some index) e = lacks_before index (position-Some (λ other. other == byte) text index 0 (sym e)).2

  no_index : (within : Bool) (index : ℕ) → None ≡ cond within (Some index) None → within ≡ false
  no_index true index e = absurd cc
  no_index false index e = refl

  pub lacks_all : (answer : Option ℕ) → answer ≡ position (λ other. other == byte) text → IfNone answer (Lacks byte text)
  lacks_all (Some index) e = tt
  lacks_all None e =
      let last = position_or_len (λ other. other == byte) text in
      let all : length text ≤ last = ltb-false last (length text) (no_index (ltb last (length text)) last e) in
      subst (λ (t : List ℕ). Lacks byte t) (take_all (length text) text (omega arith))
      (lacks_before (length text) (λ k within. fails_before_first (λ other. other == byte) text k 0 (omega arith)))
