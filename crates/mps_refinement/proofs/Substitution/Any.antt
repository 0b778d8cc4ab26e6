-- Whether a test holds of something in a list.
use Rattle.std.proofs.Common.{◌≡◌, ◌∙◌, ℕ, zero, suc, Bool, true, false, refl, sym, ap, List, [], ◌∷◌, Some}
use Rattle.std.proofs.lemmas.Bool.{false≢true}
use Rattle.std.proofs.lemmas.Option.{none-some, same_Some}
use Rattle.std.specs.Prelude.{◌||◌, slice_get}
use Rattle.std.specs.List.{list_any}

-- two tests that hold together are one
pub same_tests : (a b : Bool) → (a ≡ true → b ≡ true) → (b ≡ true → a ≡ true) → a ≡ b
same_tests true b to from = sym (to refl)
same_tests false true to from = from refl
same_tests false false to from = refl

module _ {A : Type 0} (test : A → Bool) where
  pub any_there : (xs : List A) (k : ℕ) (x : A) → slice_get xs k ≡ Some x → test x ≡ true → list_any test xs ≡ true
  any_there [] k x is passes = absurd (none-some x is)
  any_there (y ∷ ys) zero x is passes = ap (λ (b : Bool). b || list_any test ys) (ap test (same_Some y x is) ∙ passes)
  any_there (y ∷ ys) (suc k) x is passes = later (test y) (any_there ys k x is passes)
    where
      later : (b : Bool) → list_any test ys ≡ true → (b || list_any test ys) ≡ true
      later true e = refl
      later false e = e

  pub any_found : (xs : List A) → list_any test xs ≡ true → (k : ℕ) × (x : A) × (slice_get xs k ≡ Some x) × (test x ≡ true)
  any_found [] e = absurd (false≢true e)
  any_found (y ∷ ys) e = of_test (any_found ys) (test y) refl e
    where
      of_test : (list_any test ys ≡ true → (k : ℕ) × (x : A) × (slice_get ys k ≡ Some x) × (test x ≡ true)) → (b : Bool) → test y ≡ b
          → (b || list_any test ys) ≡ true → (k : ℕ) × (x : A) × (slice_get (y ∷ ys) k ≡ Some x) × (test x ≡ true)
      of_test later true is e = (0, y, refl, is)
      of_test later false is e = let x = later e in (suc x.0, x.1, x.2, x.3)
