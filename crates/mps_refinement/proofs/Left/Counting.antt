-- How many of a list pass a test: of runs in order, of the runs of live objects, and of what passes another test.
use Rattle.std.proofs.Common.{◌≡◌, ◌∙◌, ℕ, suc, ◌+◌, ◌≤◌, Bool, true, false, cond, refl, sym, ap, subst, List, [], ◌∷◌, length, map, Option, Some, None, inl, inr, arith}
use Rattle.std.proofs.lemmas.Bool.{or_cases, or_left, or_right, eqb-true, eq-eqb, false≢true, and_parts, ltb-true}
use Rattle.std.proofs.lemmas.List.Sums.{sum_by-cons}
use Rattle.std.specs.Prelude.{◌&&◌, ◌==◌, count_by, filter, if◌then◌else◌, is_some, nat_lt, slice_get}
use Rattle.mps_base.specs.Run.{Run, in_order, with_run}
use Rattle.mps_model.specs.Graph.{Object, contains, entry_at, size_of}
use Rattle.mps_model.specs.Units.{is_ascending}
use Rattle.mps_model.specs.World.{extent, extents_of, numbers_of}

-- ---- any list

module _ {A : Type 0} where
  abbrev one : (A → Bool) → A → ℕ
  one p x = cond (p x) 1 0

  pub count-cons : (p : A → Bool) (x : A) (xs : List A) → count_by p (x ∷ xs) ≡ cond (p x) 1 0 + count_by p xs
  count-cons p x xs = sum_by-cons (one p) x xs

  one_le : (p q : A → Bool) (x : A) → (p x ≡ true → q x ≡ true) → one p x ≤ one q x
  one_le p q x sub = of_bool (p x) sub
    where
      of_bool : (b : Bool) → (b ≡ true → q x ≡ true) → cond b 1 0 ≤ cond (q x) 1 0
      of_bool true passes = subst (λ c. 1 ≤ cond c 1 0) (sym (passes refl)) (omega arith)
      of_bool false passes = omega arith

  -- what passes one test and another of what passes the one
  pub count-filter : (p q : A → Bool) (xs : List A) → count_by q (filter p xs) ≡ count_by (λ x. p x && q x) xs
  count-filter p q [] = refl
  count-filter p q (x ∷ xs) =
      elim (p x) as (λ b. count_by q (if b then x ∷ filter p xs else filter p xs)
      ≡ cond (b && q x) 1 0 + count_by (λ y. p y && q y) xs) [
        | true ↦ count-cons q x (filter p xs) ∙ ap (λ n. cond (q x) 1 0 + n) (count-filter p q xs)
        | false ↦ count-filter p q xs ∙ (let none : count_by (λ y. p y && q y) xs ≡ 0 + count_by (λ y. p y && q y) xs = omega arith in none)
      ]
      ∙ sym (count-cons (λ y. p y && q y) x xs)

-- ---- tests that agree

module _ {A : Type 0} where
  -- where tests of two lists' elements agree
  pub count-map : {B : Type 0} (f : A → B) (q : B → Bool) (xs : List A) → count_by q (map f xs) ≡ count_by (λ x. q (f x)) xs
  count-map f q [] = refl
  count-map f q (x ∷ xs) =
      count-cons q (f x) (map f xs) ∙ ap (λ n. cond (q (f x)) 1 0 + n) (count-map f q xs) ∙ sym (count-cons (λ y. q (f y)) x xs)

-- no more of the members pass a test that each of them passes only if it passes another
pub count-le : (p q : ℕ → Bool) (xs : List ℕ) → ((n : ℕ) → contains xs n ≡ true → p n ≡ true → q n ≡ true)
    → count_by p xs ≤ count_by q xs
count-le p q [] sub = omega arith
count-le p q (x ∷ xs) sub =
    let first = one_le p q x (sub x (or_left (x == x) (contains xs x) (eq-eqb x x refl))) in
    let rest = count-le p q xs (λ n there. sub n (or_right (x == n) (contains xs n) there)) in
    omega (arith, count-cons p x xs, count-cons q x xs, first, rest)

-- ---- runs

pub count-with_run : (p : Run → Bool) (r : Run) (rs : List Run) → count_by p (with_run r rs) ≡ cond (p r) 1 0 + count_by p rs
count-with_run p r [] = count-cons p r []
count-with_run p r (s ∷ rs) = by_order (nat_lt r.from s.from) (count-with_run p r rs)
  where
    by_order : (b : Bool) → count_by p (with_run r rs) ≡ cond (p r) 1 0 + count_by p rs
        → count_by p (if b then r ∷ s ∷ rs else s ∷ with_run r rs) ≡ cond (p r) 1 0 + count_by p (s ∷ rs)
    by_order true e = count-cons p r (s ∷ rs)
    by_order false e =
        let first = count-cons p s (with_run r rs) in
        let second = count-cons p s rs in
        omega (arith, e, first, second)

pub count-in_order : (p : Run → Bool) (rs : List Run) → count_by p (in_order rs) ≡ count_by p rs
count-in_order p [] = refl
count-in_order p (r ∷ rs) =
    count-with_run p r (in_order rs) ∙ ap (λ n. cond (p r) 1 0 + n) (count-in_order p rs) ∙ sym (count-cons p r rs)

-- as many of the runs of live objects pass a test as of their ids pass one that agrees with it
pub count-extents : (p : Run → Bool) (q : ℕ → Bool) (first : ℕ) (os : List Object) (addresses : List (Option ℕ))
    → length addresses ≡ length os
    → ((i : ℕ) (o : Object) (at : ℕ) → slice_get os i ≡ Some o → entry_at addresses i ≡ Some at
    → p (extent at (size_of o)) ≡ q (first + i))
    → count_by p (extents_of os addresses) ≡ count_by q (numbers_of is_some first addresses)
count-extents p q first [] [] long agree = refl
count-extents p q first [] (a ∷ addresses) long agree = absurd (omega (arith, long))
count-extents p q first (o ∷ os) [] long agree = absurd (omega (arith, long))
count-extents p q first (o ∷ os) (None ∷ addresses) long agree =
    count-extents p q (first + 1) os addresses (omega (arith, long)) (λ i x at object there.
    subst (λ n. p (extent at (size_of x)) ≡ q n) (let same : first + suc i ≡ (first + 1) + i = omega arith in same)
    (agree (suc i) x at object there))
count-extents p q first (o ∷ os) (Some a ∷ addresses) long agree =
    let rest = count-extents p q (first + 1) os addresses (omega (arith, long)) (λ i x at object there.
    subst (λ n. p (extent at (size_of x)) ≡ q n) (let same : first + suc i ≡ (first + 1) + i = omega arith in same)
    (agree (suc i) x at object there)) in
    let here : p (extent a (size_of o)) ≡ q first =
    subst (λ n. p (extent a (size_of o)) ≡ q n) (let same : first + 0 ≡ first = omega arith in same) (agree 0 o a refl refl) in
    count-cons p (extent a (size_of o)) (extents_of os addresses) ∙ ap (λ n. cond (p (extent a (size_of o))) 1 0 + n) rest
    ∙ ap (λ (b : Bool). cond b 1 0 + count_by q (numbers_of is_some (first + 1) addresses)) here
    ∙ sym (count-cons q first (numbers_of is_some (first + 1) addresses))

-- ---- numbers in ascending order

-- what is in ascending numbers is above what they are above
above_all : (above : ℕ) (xs : List ℕ) (n : ℕ) → is_ascending above xs ≡ true → contains xs n ≡ true → suc above ≤ n
above_all above [] n asc there = absurd (false≢true there)
above_all above (x ∷ xs) n asc there =
    let parts = and_parts (nat_lt above x) (is_ascending x xs) asc in
    let first = ltb-true above x parts.0 in
    elim (or_cases (x == n) (contains xs n) there) [
      | inl here ↦ let same = eqb-true x n here in omega (arith, first, same)
      | inr later ↦ let rest = above_all x xs n parts.1 later in omega (arith, first, rest)
    ]

-- two that contain the same are the same
pub same-ascending : (above : ℕ) (xs ys : List ℕ) → is_ascending above xs ≡ true → is_ascending above ys ≡ true
    → ((n : ℕ) → contains xs n ≡ true → contains ys n ≡ true) → ((n : ℕ) → contains ys n ≡ true → contains xs n ≡ true) → xs ≡ ys
same-ascending above [] [] asc asc' there back = refl
same-ascending above [] (y ∷ ys) asc asc' there back =
    absurd (false≢true (back y (or_left (y == y) (contains ys y) (eq-eqb y y refl))))
same-ascending above (x ∷ xs) [] asc asc' there back =
    absurd (false≢true (there x (or_left (x == x) (contains xs x) (eq-eqb x x refl))))
same-ascending above (x ∷ xs) (y ∷ ys) asc asc' there back =
    let low = and_parts (nat_lt above x) (is_ascending x xs) asc in
    let low' = and_parts (nat_lt above y) (is_ascending y ys) asc' in
    let least : x ≤ y = at_least x xs y low.1 (back y (or_left (y == y) (contains ys y) (eq-eqb y y refl))) in
    let least' : y ≤ x = at_least y ys x low'.1 (there x (or_left (x == x) (contains xs x) (eq-eqb x x refl))) in
    let same : x ≡ y = omega (arith, least, least') in
    let asc_there : is_ascending x ys ≡ true = subst (λ n. is_ascending n ys ≡ true) (sym same) low'.1 in
    ap (λ n. n ∷ xs) same
    ∙ ap (λ ns. y ∷ ns) (same-ascending x xs ys low.1 asc_there
    (λ n h. of_later y ys n (there n (or_right (x == n) (contains xs n) h))
    (let up = above_all x xs n low.1 h in λ e. omega (arith, up, e, same)))
    (λ n h. of_later x xs n (back n (or_right (y == n) (contains ys n) h))
    (let up = above_all x ys n asc_there h in λ e. omega (arith, up, e))))
  where
    at_least : (a : ℕ) (more : List ℕ) (n : ℕ) → is_ascending a more ≡ true → contains (a ∷ more) n ≡ true → a ≤ n
    at_least a more n up h =
        elim (or_cases (a == n) (contains more n) h) [
          | inl here ↦ let same = eqb-true a n here in omega (arith, same)
          | inr later ↦ let rest = above_all a more n up later in omega (arith, rest)
        ]

    of_later : (a : ℕ) (more : List ℕ) (n : ℕ) → contains (a ∷ more) n ≡ true → (a ≡ n → ⊥) → contains more n ≡ true
    of_later a more n h other =
        elim (or_cases (a == n) (contains more n) h) [
          | inl here ↦ absurd (other (eqb-true a n here))
          | inr later ↦ later
        ]
