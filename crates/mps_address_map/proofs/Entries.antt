-- The entries of two maps, one after the other, of which each address is in one at most.
use Rattle.std.proofs.Common.{◌≡◌, ℕ, Bool, true, false, cond, eqb, List, [], ◌∷◌, ◌++◌, Option, Some, None, refl, sym, ap, ◌∙◌}
use Rattle.std.specs.Prelude.{is_some}
use Rattle.std.specs.List.{AllByRecursion}
use Rattle.std.specs.Map.{keys_of}
use Rattle.std.proofs.lemmas.Bool.{eqb-true}
use Rattle.mps_address_map.specs.AddressMap.{found_at, Changes}

-- the first of two that is there
abbrev pub first_there : {X : Type 0} → Option X → Option X → Option X
first_there None b = b
first_there (Some x) b = Some x

there_or_later : {X : Type 0} (c : Bool) (x : X) (a b : Option X)
    → cond c (Some x) (first_there a b) ≡ first_there (cond c (Some x) a) b
there_or_later true x a b = refl
there_or_later false x a b = refl

module _ {X : Type 0} where
  pub found_in_both : (xs ys : List (ℕ × X)) (at : ℕ) → found_at (xs ++ ys) at ≡ first_there (found_at xs at) (found_at ys at)
  found_in_both [] ys at = refl
  found_in_both (e ∷ xs) ys at =
      ap (λ (o : Option X). cond (eqb at e.0) (Some e.1) o) (found_in_both xs ys at)
      ∙ there_or_later (eqb at e.0) e.1 (found_at xs at) (found_at ys at)

  -- an address that the first hasn't
  pub found_second : (xs ys : List (ℕ × X)) (at : ℕ) → found_at xs at ≡ None → found_at (xs ++ ys) at ≡ found_at ys at
  found_second xs ys at none = found_in_both xs ys at ∙ ap (λ (o : Option X). first_there o (found_at ys at)) none

  or_none : (a : Option X) → a ≡ first_there a None
  or_none None = refl
  or_none (Some x) = refl

  -- an address that the second hasn't
  pub found_first_alone : (xs ys : List (ℕ × X)) (at : ℕ) → found_at ys at ≡ None → found_at xs at ≡ found_at (xs ++ ys) at
  found_first_alone xs ys at none =
      or_none (found_at xs at)
      ∙ ap (λ (o : Option X). first_there (found_at xs at) o) (sym none)
      ∙ sym (found_in_both xs ys at)

  first_case : (c : Bool) (x a b : Option X) → (c ≡ true → b ≡ None) → first_there (cond c x a) b ≡ cond c x (first_there a b)
  first_case true None a b h = h refl
  first_case true (Some x) a b h = refl
  first_case false x a b h = refl

  -- a change of the first, at an address that the second hasn't
  pub first_changed : (xs new ys : List (ℕ × X)) (at : ℕ) (x : Option X) → Changes xs new at x → found_at ys at ≡ None
      → Changes (xs ++ ys) (new ++ ys) at x
  first_changed xs new ys at x change none q =
      found_in_both new ys q
      ∙ ap (λ (o : Option X). first_there o (found_at ys q)) (change q)
      ∙ first_case (eqb at q) x (found_at xs q) (found_at ys q) (λ is. ap (found_at ys) (sym (eqb-true at q is)) ∙ none)
      ∙ ap (λ (o : Option X). cond (eqb at q) x o) (sym (found_in_both xs ys q))

  second_case : (c : Bool) (x a b : Option X) → (c ≡ true → a ≡ None) → first_there a (cond c x b) ≡ cond c x (first_there a b)
  second_case true x a b h = ap (λ (o : Option X). first_there o x) (h refl)
  second_case false x a b h = refl

  -- a change of the second, at an address that the first hasn't
  pub second_changed : (xs ys new : List (ℕ × X)) (at : ℕ) (x : Option X) → Changes ys new at x → found_at xs at ≡ None
      → Changes (xs ++ ys) (xs ++ new) at x
  second_changed xs ys new at x change none q =
      found_in_both xs new q
      ∙ ap (λ (o : Option X). first_there (found_at xs q) o) (change q)
      ∙ second_case (eqb at q) x (found_at xs q) (found_at ys q) (λ is. ap (found_at xs) (sym (eqb-true at q is)) ∙ none)
      ∙ ap (λ (o : Option X). cond (eqb at q) x o) (sym (found_in_both xs ys q))

  -- ---- an address is in one of them at most

  -- no address is in both
  abbrev pub ApartEntries : (xs ys : List (ℕ × X)) → Type 0
  ApartEntries xs ys = (at : ℕ) → is_some (found_at xs at) ≡ true → found_at ys at ≡ None

  absent_case : (c : Bool) (b : Option X) → b ≡ None → cond c None b ≡ None
  absent_case true b h = refl
  absent_case false b h = h

  -- what isn't there isn't there after a removal
  pub absent_after_removal : (old new : List (ℕ × X)) (at q : ℕ) → Changes old new at None → found_at old q ≡ None → found_at new q ≡ None
  absent_after_removal old new at q change none = change q ∙ absent_case (eqb at q) (found_at old q) none

  -- an address that no entry has
  pub none_from_each : (es : List (ℕ × X)) (q : ℕ) → found_at es q ≡ None → AllByRecursion (λ (y : ℕ). eqb q y ≡ false) (keys_of es)
  none_from_each [] q h = tt
  none_from_each (e ∷ es) q h = by (eqb q e.0) refl h (none_from_each es q)
    where
      by : (c : Bool) → eqb q e.0 ≡ c → cond c (Some e.1) (found_at es q) ≡ None
          → (found_at es q ≡ None → AllByRecursion (λ (y : ℕ). eqb q y ≡ false) (keys_of es))
          → AllByRecursion (λ (y : ℕ). eqb q y ≡ false) (keys_of (e ∷ es))
      by true t k rest = absurd cc
      by false t k rest = (t, rest k)
