-- What stands at a place of a list after a write, and after one more at the end.
use Rattle.std.proofs.Common.{◌≡◌, ◌∙◌, ◌⊎◌, ℕ, zero, suc, ◌+◌, ◌<◌, refl, sym, ap, List, [], ◌∷◌, length, Option, Some, None, inl, inr, arith}
use Rattle.std.proofs.lemmas.Option.{none-some, same_Some, slice_get_within}
use Rattle.std.proofs.lemmas.List.{length-append}
use Rattle.std.proofs.lemmas.Bool.{cases_eq}
use Rattle.std.specs.Prelude.{slice_get, slice_set, option_and_then, map}
use Rattle.mps_model.specs.Graph.{entry_at, with_last}

pub slice_get-set_same : {X : Type 0} (xs : List X) (i : ℕ) (x : X) → i < length xs → slice_get (slice_set xs i x) i ≡ Some x
slice_get-set_same [] i x h = absurd (omega (arith, h))
slice_get-set_same (y ∷ ys) zero x h = refl
slice_get-set_same (y ∷ ys) (suc i) x h = slice_get-set_same ys i x (omega (arith, h))

pub slice_get-set_other : {X : Type 0} (xs : List X) (i j : ℕ) (x : X) → (i ≡ j → ⊥) → slice_get (slice_set xs i x) j ≡ slice_get xs j
slice_get-set_other [] i j x h = refl
slice_get-set_other (y ∷ ys) zero zero x h = absurd (h refl)
slice_get-set_other (y ∷ ys) zero (suc j) x h = refl
slice_get-set_other (y ∷ ys) (suc i) zero x h = refl
slice_get-set_other (y ∷ ys) (suc i) (suc j) x h = slice_get-set_other ys i j x (λ e. h (ap suc e))

pub length-slice_set : {X : Type 0} (xs : List X) (i : ℕ) (x : X) → length (slice_set xs i x) ≡ length xs
length-slice_set [] i x = refl
length-slice_set (y ∷ ys) zero x = refl
length-slice_set (y ∷ ys) (suc i) x = ap suc (length-slice_set ys i x)

pub map-slice_set : {X Y : Type 0} (f : X → Y) (xs : List X) (i : ℕ) (x : X) → map f (slice_set xs i x) ≡ slice_set (map f xs) i (f x)
map-slice_set f [] i x = refl
map-slice_set f (y ∷ ys) zero x = refl
map-slice_set f (y ∷ ys) (suc i) x = ap (λ rest. f y ∷ rest) (map-slice_set f ys i x)

-- what was there may be written again
pub slice_set-same : {X : Type 0} (xs : List X) (i : ℕ) (x : X) → slice_get xs i ≡ Some x → slice_set xs i x ≡ xs
slice_set-same [] i x e = refl
slice_set-same (y ∷ ys) zero x e = ap (λ z. z ∷ ys) (sym (same_Some y x e))
slice_set-same (y ∷ ys) (suc i) x e = ap (λ rest. y ∷ rest) (slice_set-same ys i x e)

pub slice_get-last : {X : Type 0} (xs : List X) (x : X) (j : ℕ) → j < length xs → slice_get (with_last xs x) j ≡ slice_get xs j
slice_get-last [] x j h = absurd (omega (arith, h))
slice_get-last (y ∷ ys) x zero h = refl
slice_get-last (y ∷ ys) x (suc j) h = slice_get-last ys x j (omega (arith, h))

pub slice_get-at_last : {X : Type 0} (xs : List X) (x : X) → slice_get (with_last xs x) (length xs) ≡ Some x
slice_get-at_last [] x = refl
slice_get-at_last (y ∷ ys) x = slice_get-at_last ys x

pub slice_get-after_last : {X : Type 0} (xs : List X) (x : X) (j : ℕ) → length xs < j → slice_get (with_last xs x) j ≡ None
slice_get-after_last [] x zero h = absurd (omega (arith, h))
slice_get-after_last [] x (suc j) h = refl
slice_get-after_last (y ∷ ys) x zero h = absurd (omega (arith, h))
slice_get-after_last (y ∷ ys) x (suc j) h = slice_get-after_last ys x j (omega (arith, h))

-- what stood at a place still does
pub slice_get-kept : {X : Type 0} (xs : List X) (x y : X) (j : ℕ) → slice_get xs j ≡ Some y → slice_get (with_last xs x) j ≡ Some y
slice_get-kept xs x y j e = slice_get-last xs x j (slice_get_within xs j y e) ∙ e

pub length-with_last : {X : Type 0} (xs : List X) (x : X) → length (with_last xs x) ≡ length xs + 1
length-with_last xs x = length-append xs (x ∷ [])

pub map-with_last : {X Y : Type 0} (f : X → Y) (xs : List X) (x : X) → map f (with_last xs x) ≡ with_last (map f xs) (f x)
map-with_last f [] x = refl
map-with_last f (y ∷ ys) x = ap (λ rest. f y ∷ rest) (map-with_last f ys x)

abbrev pub opened : {X : Type 0} → Option (Option X) → Option X
opened o = option_and_then (λ entry. entry) o

pub entry_at-set_other : {X : Type 0} (xs : List (Option X)) (i j : ℕ) (x : Option X) → (i ≡ j → ⊥)
    → entry_at (slice_set xs i x) j ≡ entry_at xs j
entry_at-set_other xs i j x n = ap opened (slice_get-set_other xs i j x n)

pub entry_at-set_same : {X : Type 0} (xs : List (Option X)) (i : ℕ) (x : Option X) → i < length xs → entry_at (slice_set xs i x) i ≡ x
entry_at-set_same xs i x h = ap opened (slice_get-set_same xs i x h)

pub entry_at-last : {X : Type 0} (xs : List (Option X)) (x : Option X) (j : ℕ) → j < length xs → entry_at (with_last xs x) j ≡ entry_at xs j
entry_at-last xs x j h = ap opened (slice_get-last xs x j h)

pub entry_at-at_last : {X : Type 0} (xs : List (Option X)) (x : Option X) → entry_at (with_last xs x) (length xs) ≡ x
entry_at-at_last xs x = ap opened (slice_get-at_last xs x)

pub entry_at-after_last : {X : Type 0} (xs : List (Option X)) (x : Option X) (j : ℕ) → length xs < j → entry_at (with_last xs x) j ≡ None
entry_at-after_last xs x j h = ap opened (slice_get-after_last xs x j h)

pub entry_within : {X : Type 0} (xs : List (Option X)) (j : ℕ) (x : X) → entry_at xs j ≡ Some x → j < length xs
entry_within [] j x e = absurd (none-some x e)
entry_within (y ∷ ys) zero x e = omega arith
entry_within (y ∷ ys) (suc j) x e = let rest = entry_within ys j x e in omega (arith, rest)

-- where there are as many, there is one
pub there_is : {X : Type 0} (xs : List X) (j : ℕ) → j < length xs → (x : X) × (slice_get xs j ≡ Some x)
there_is [] j h = absurd (omega (arith, h))
there_is (y ∷ ys) zero h = (y, refl)
there_is (y ∷ ys) (suc j) h = there_is ys j (omega (arith, h))

pub entry_within_set : {X : Type 0} (xs : List (Option X)) (i j : ℕ) (x : X) (y : Option X) → entry_at (slice_set xs i y) j ≡ Some x
    → ((i ≡ j) × (y ≡ Some x)) ⊎ ((i ≡ j → ⊥) × (entry_at xs j ≡ Some x))
entry_within_set xs i j x y e =
    elim (cases_eq i j) [
      | inl same ↦ inl (same, written xs i j same e)
      | inr other ↦ inr (other, sym (entry_at-set_other xs i j y other) ∙ e)
    ]
  where
    written : (xs : List (Option _)) (i j : ℕ) → i ≡ j → entry_at (slice_set xs i y) j ≡ Some x → y ≡ Some x
    written [] i j same e = absurd (none-some x e)
    written (z ∷ zs) zero zero same e = e
    written (z ∷ zs) zero (suc j) same e = absurd (omega (arith, same))
    written (z ∷ zs) (suc i) zero same e = absurd (omega (arith, same))
    written (z ∷ zs) (suc i) (suc j) same e = written zs i j (omega (arith, same)) e

pub entry_at-set_none : {X : Type 0} (xs : List (Option X)) (i : ℕ) → entry_at (slice_set xs i None) i ≡ None
entry_at-set_none [] i = refl
entry_at-set_none (y ∷ ys) zero = refl
entry_at-set_none (y ∷ ys) (suc i) = entry_at-set_none ys i

pub entry_is_there : {X : Type 0} (xs : List (Option X)) (i : ℕ) (x : X) → entry_at xs i ≡ Some x → slice_get xs i ≡ Some (Some x)
entry_is_there [] i x e = absurd (none-some x e)
entry_is_there (y ∷ ys) zero x e = ap Some e
entry_is_there (y ∷ ys) (suc i) x e = entry_is_there ys i x e
