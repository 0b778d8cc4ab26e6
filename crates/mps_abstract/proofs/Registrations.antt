-- Lists of registrations: where a number first stands, and what is left when it is taken away there.
use Rattle.std.proofs.Common.{◌≡◌, ◌∙◌, ℕ, zero, suc, ◌+◌, ◌<◌, ◌≤◌, true, false, refl, sym, ap, List, [], ◌∷◌, length, Some, inl, inr, arith}
use Rattle.std.proofs.lemmas.Bool.{or_left, eq-eqb, ne_eqb}
use Rattle.std.proofs.lemmas.Option.{none-some, same_Some}
use Rattle.std.specs.Prelude.{◌==◌, if◌then◌else◌, slice_get, option_map}
use Rattle.mps_model.specs.Graph.{contains, position_of_first, without_first}
use Rattle.mps_abstract.proofs.Lists.{contains_later, contains_cases}

-- a number stands first at a position where it stands, and not before
pub record StandsFirst (xs : List ℕ) (n position : ℕ) : Type 0 where
  pub here : slice_get xs position ≡ Some n
  pub not_before : (before : ℕ) → before < position → slice_get xs before ≡ Some n → ⊥

later_first : (x : ℕ) (xs : List ℕ) (n position : ℕ) → StandsFirst (x ∷ xs) n (suc position) → StandsFirst xs n position
later_first x xs n position s = record {
  here = s.here;
  not_before = λ before less e. s.not_before (suc before) (omega (arith, less)) e;
}

not_the_first : (x : ℕ) (xs : List ℕ) (n position : ℕ) → StandsFirst (x ∷ xs) n (suc position) → (x == n) ≡ false
not_the_first x xs n position s = ne_eqb x n (λ same. s.not_before 0 (omega arith) (ap Some same))

pub position_first : (xs : List ℕ) (n position : ℕ) → StandsFirst xs n position → position_of_first xs n ≡ Some position
position_first [] n position s = absurd (none-some n s.here)
position_first (x ∷ xs) n zero s =
    ap (λ b. if b then Some 0 else option_map (λ p. p + 1) (position_of_first xs n)) (eq-eqb x n (same_Some x n s.here))
position_first (x ∷ xs) n (suc position) s =
    ap (λ b. if b then Some 0 else option_map (λ p. p + 1) (position_of_first xs n)) (not_the_first x xs n position s)
    ∙ ap (option_map (λ p. p + 1)) (position_first xs n position (later_first x xs n position s))
    ∙ ap Some (let e : position + 1 ≡ suc position = omega arith in e)

-- what is left
pub contains-without_first : (xs : List ℕ) (n m : ℕ) → contains (without_first xs n) m ≡ true → contains xs m ≡ true
contains-without_first [] n m h = h
contains-without_first (x ∷ xs) n m h =
    elim (x == n) as (λ b. contains (if b then xs else x ∷ without_first xs n) m ≡ true → contains (x ∷ xs) m ≡ true) [
      | true ↦ (λ g. contains_later x xs m g)
      | false ↦ (λ g. elim (contains_cases x (without_first xs n) m g) [
        | inl same ↦ or_left (x == m) (contains xs m) (eq-eqb x m same)
        | inr later ↦ contains_later x xs m (contains-without_first xs n m later)
      ])
    ] h

pub length-without_first : (xs : List ℕ) (n position : ℕ) → StandsFirst xs n position → length xs ≡ suc (length (without_first xs n))
length-without_first [] n position s = absurd (none-some n s.here)
length-without_first (x ∷ xs) n zero s =
    ap (λ b. suc (length (if b then xs else x ∷ without_first xs n))) (sym (eq-eqb x n (same_Some x n s.here)))
length-without_first (x ∷ xs) n (suc position) s =
    ap suc (length-without_first xs n position (later_first x xs n position s))
    ∙ ap (λ b. suc (length (if b then xs else x ∷ without_first xs n))) (sym (not_the_first x xs n position s))

-- what stands before the position stands there still
pub slice_get-without_before : (xs : List ℕ) (n position i : ℕ) → StandsFirst xs n position → i < position
    → slice_get (without_first xs n) i ≡ slice_get xs i
slice_get-without_before [] n position i s less = refl
slice_get-without_before (x ∷ xs) n zero i s less = absurd (omega (arith, less))
slice_get-without_before (x ∷ xs) n (suc position) zero s less =
    ap (λ b. slice_get (if b then xs else x ∷ without_first xs n) 0) (not_the_first x xs n position s)
slice_get-without_before (x ∷ xs) n (suc position) (suc i) s less =
    ap (λ b. slice_get (if b then xs else x ∷ without_first xs n) (suc i)) (not_the_first x xs n position s)
    ∙ slice_get-without_before xs n position i (later_first x xs n position s) (omega (arith, less))

-- and what stood after it stands one before
pub slice_get-without_after : (xs : List ℕ) (n position i : ℕ) → StandsFirst xs n position → position ≤ i
    → slice_get (without_first xs n) i ≡ slice_get xs (suc i)
slice_get-without_after [] n position i s most = refl
slice_get-without_after (x ∷ xs) n zero i s most =
    ap (λ b. slice_get (if b then xs else x ∷ without_first xs n) i) (eq-eqb x n (same_Some x n s.here))
slice_get-without_after (x ∷ xs) n (suc position) zero s most = absurd (omega (arith, most))
slice_get-without_after (x ∷ xs) n (suc position) (suc i) s most =
    ap (λ b. slice_get (if b then xs else x ∷ without_first xs n) (suc i)) (not_the_first x xs n position s)
    ∙ slice_get-without_after xs n position i (later_first x xs n position s) (omega (arith, most))
