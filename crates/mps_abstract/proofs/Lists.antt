-- What lists contain, and what stands in them after a write.
use Rattle.std.proofs.Common.{◌≡◌, ◌∙◌, ◌⊎◌, ℕ, zero, suc, ◌+◌, ◌<◌, ◌≤◌, Bool, true, false, cond, refl, sym, ap, List, [], ◌∷◌, ◌++◌, length, Option, Some, None, subst, inl, inr, arith}
use Rattle.std.proofs.lemmas.Bool.{false≢true, and_from, or_cases, or_left, eqb-true, eq-eqb, cases_Bool, cases_eq}
use Rattle.std.proofs.lemmas.List.Sums.{sum_by-cons}
use Rattle.std.proofs.lemmas.Option.{none-some, same_Some}
use Rattle.std.specs.Prelude.{◌==◌, not, if◌then◌else◌, filter, find, is_some, count_by, slice_get, slice_set}
use Rattle.std.specs.List.{AllByRecursion, list_all}
use Rattle.mps_model.specs.Graph.{contains, entry_at}
pub use Rattle.mps_changes.proofs.Lookups.{slice_get-set_same, slice_get-set_other, entry_at-set_same, entry_at-set_other, entry_within}
pub use Rattle.mps_changes.proofs.Entries.{contains_here, contains_later, contains_cases}

-- ---- what a list contains

pub contains_append : (xs ys : List ℕ) (n : ℕ) → contains (xs ++ ys) n ≡ true → (contains xs n ≡ true) ⊎ (contains ys n ≡ true)
contains_append [] ys n h = inr h
contains_append (x ∷ xs) ys n h = elim (or_cases (x == n) (contains (xs ++ ys) n) h) [
  | inl e ↦ inl (or_left (x == n) (contains xs n) e)
  | inr e ↦ elim (contains_append xs ys n e) [ inl f ↦ inl (contains_later x xs n f) | inr f ↦ inr f ]
]

pub contains_left : (xs ys : List ℕ) (n : ℕ) → contains xs n ≡ true → contains (xs ++ ys) n ≡ true
contains_left [] ys n h = absurd (false≢true h)
contains_left (x ∷ xs) ys n h = elim (or_cases (x == n) (contains xs n) h) [
  | inl e ↦ or_left (x == n) (contains (xs ++ ys) n) e
  | inr e ↦ contains_later x (xs ++ ys) n (contains_left xs ys n e)
]

pub contains_right : (xs ys : List ℕ) (n : ℕ) → contains ys n ≡ true → contains (xs ++ ys) n ≡ true
contains_right [] ys n h = h
contains_right (x ∷ xs) ys n h = contains_later x (xs ++ ys) n (contains_right xs ys n h)

-- what a filter keeps was there, and passes
pub contains-filter : (p : ℕ → Bool) (xs : List ℕ) (n : ℕ) → contains (filter p xs) n ≡ true → (contains xs n ≡ true) × (p n ≡ true)
contains-filter p [] n h = absurd (false≢true h)
contains-filter p (x ∷ xs) n h =
    elim (p x) as (λ t. p x ≡ t → contains (if t then x ∷ filter p xs else filter p xs) n ≡ true
    → (contains (x ∷ xs) n ≡ true) × (p n ≡ true)) [
      | true ↦ (λ t g. elim (contains_cases x (filter p xs) n g) [
        | inl e ↦ (or_left (x == n) (contains xs n) (eq-eqb x n e), subst (λ m. p m ≡ true) e t)
        | inr e ↦ let rest = contains-filter p xs n e in (contains_later x xs n rest.0, rest.1)
      ])
      | false ↦ (λ t g. let rest = contains-filter p xs n g in (contains_later x xs n rest.0, rest.1))
    ] refl h

-- and what passes is kept
pub contains_filtered : (p : ℕ → Bool) (xs : List ℕ) (n : ℕ) → p n ≡ true → contains xs n ≡ true → contains (filter p xs) n ≡ true
contains_filtered p [] n passes h = h
contains_filtered p (x ∷ xs) n passes h =
    elim (p x) as (λ t. p x ≡ t → contains (if t then x ∷ filter p xs else filter p xs) n ≡ true) [
      | true ↦ (λ t. elim (contains_cases x xs n h) [
        | inl e ↦ or_left (x == n) (contains (filter p xs) n) (eq-eqb x n e)
        | inr e ↦ contains_later x (filter p xs) n (contains_filtered p xs n passes e)
      ])
      | false ↦ (λ t. elim (contains_cases x xs n h) [
        | inl e ↦ absurd (false≢true (sym t ∙ subst (λ m. p m ≡ true) (sym e) passes))
        | inr e ↦ contains_filtered p xs n passes e
      ])
    ] refl

-- what isn't contained but in a list without it
pub contains_without : (xs : List ℕ) (id n : ℕ) → contains (filter (λ m. not (m == id)) xs) n ≡ false → (n ≡ id) ⊎ (contains xs n ≡ false)
contains_without xs id n h = elim (cases_eq n id) [
  | inl same ↦ inl same
  | inr other ↦ elim (cases_Bool (contains xs n)) [
    | inl is ↦ absurd (false≢true (sym h ∙ contains_filtered (λ m. not (m == id)) xs n (differs n id other) is))
    | inr isnt ↦ inr isnt
  ]
]
  where
    differs : (n id : ℕ) → (n ≡ id → ⊥) → not (n == id) ≡ true
    differs n id other = elim (cases_Bool (n == id)) [ inl e ↦ absurd (other (eqb-true n id e)) | inr e ↦ ap not e ]

-- what holds of each that is contained holds of all
pub all_members : (P : ℕ → Type 0) (xs : List ℕ) → ((n : ℕ) → contains xs n ≡ true → P n) → AllByRecursion P xs
all_members P [] each = tt
all_members P (x ∷ xs) each = (each x (contains_here x xs), all_members P xs (λ n h. each n (contains_later x xs n h)))

pub list_all-members : (p : ℕ → Bool) (xs : List ℕ) → ((n : ℕ) → contains xs n ≡ true → p n ≡ true) → list_all p xs ≡ true
list_all-members p [] each = refl
list_all-members p (x ∷ xs) each =
    and_from (p x) (list_all p xs) (each x (contains_here x xs)) (list_all-members p xs (λ n h. each n (contains_later x xs n h)))

-- ---- counting

-- a number counts where it passes
abbrev one_where : (ℕ → Bool) → ℕ → ℕ
one_where p n = cond (p n) 1 0

pub count_by-cons : (p : ℕ → Bool) (x : ℕ) (xs : List ℕ) → count_by p (x ∷ xs) ≡ one_where p x + count_by p xs
count_by-cons p x xs = sum_by-cons (one_where p) x xs

no_more : (p q : ℕ → Bool) (x : ℕ) → (p x ≡ true → q x ≡ true) → one_where p x ≤ one_where q x
no_more p q x sub = elim (cases_Bool (p x)) [
  | inl is ↦ rw (is, sub is) (omega arith)
  | inr isnt ↦ rw isnt (omega arith)
]

less : (p q : ℕ → Bool) (x : ℕ) → p x ≡ false → q x ≡ true → one_where p x < one_where q x
less p q x here there = rw (here, there) (omega arith)

-- where one test implies another, it counts no more
pub count_by-le : (p q : ℕ → Bool) (xs : List ℕ) → ((n : ℕ) → p n ≡ true → q n ≡ true) → count_by p xs ≤ count_by q xs
count_by-le p q [] sub = omega arith
count_by-le p q (x ∷ xs) sub =
    omega (arith, count_by-cons p x xs, count_by-cons q x xs, no_more p q x (sub x), count_by-le p q xs sub)

-- and less where one that is contained passes the other alone
pub count_by-lt : (p q : ℕ → Bool) (xs : List ℕ) (n : ℕ) → ((m : ℕ) → p m ≡ true → q m ≡ true) → contains xs n ≡ true → p n ≡ false
    → q n ≡ true → count_by p xs < count_by q xs
count_by-lt p q [] n sub h not_p is_q = absurd (false≢true h)
count_by-lt p q (x ∷ xs) n sub h not_p is_q = elim (contains_cases x xs n h) [
  | inl e ↦ omega (arith, count_by-cons p x xs, count_by-cons q x xs, less p q x (ap p e ∙ not_p) (ap q e ∙ is_q), count_by-le p q xs sub)
  | inr e ↦ omega (arith, count_by-cons p x xs, count_by-cons q x xs, no_more p q x (sub x), count_by-lt p q xs n sub e not_p is_q)
]

-- ---- what stands in a list

pub index_below : {X : Type 0} (xs : List X) (i : ℕ) (x : X) → slice_get xs i ≡ Some x → i < length xs
index_below [] i x e = absurd (none-some x e)
index_below (y ∷ ys) zero x e = omega arith
index_below (y ∷ ys) (suc i) x e = let h = index_below ys i x e in omega (arith, h)

-- what stands somewhere is contained
pub contains_at : (xs : List ℕ) (i n : ℕ) → slice_get xs i ≡ Some n → contains xs n ≡ true
contains_at [] i n e = absurd (none-some n e)
contains_at (x ∷ xs) zero n e = or_left (x == n) (contains xs n) (eq-eqb x n (same_Some x n e))
contains_at (x ∷ xs) (suc i) n e = contains_later x xs n (contains_at xs i n e)

-- what stands in a list after a write was written there, or stood there
pub entry_at-set_cases : {X : Type 0} (xs : List (Option X)) (i j : ℕ) (x : Option X) (y : X) → entry_at (slice_set xs i x) j ≡ Some y
    → ((i ≡ j) × (x ≡ Some y)) ⊎ ((i ≡ j → ⊥) × (entry_at xs j ≡ Some y))
entry_at-set_cases [] i j x y e = absurd (none-some y e)
entry_at-set_cases (z ∷ zs) zero zero x y e = inl (refl, e)
entry_at-set_cases (z ∷ zs) zero (suc j) x y e = inr ((λ same. omega (arith, same)), e)
entry_at-set_cases (z ∷ zs) (suc i) zero x y e = inr ((λ same. omega (arith, same)), e)
entry_at-set_cases (z ∷ zs) (suc i) (suc j) x y e = elim (entry_at-set_cases zs i j x y e) [
  | inl written ↦ inl (ap suc written.0, written.1)
  | inr stood ↦ inr ((λ same. stood.0 (omega (arith, same))), stood.1)
]

-- an entry written over one that was there: the same entries are there
pub there-set : {X : Type 0} (xs : List (Option X)) (i j : ℕ) (x : X) → is_some (entry_at xs i) ≡ true
    → is_some (entry_at (slice_set xs i (Some x)) j) ≡ is_some (entry_at xs j)
there-set [] i j x h = refl
there-set (y ∷ ys) zero zero x h = sym h
there-set (y ∷ ys) zero (suc j) x h = refl
there-set (y ∷ ys) (suc i) zero x h = refl
there-set (y ∷ ys) (suc i) (suc j) x h = there-set ys i j x h

-- an entry that there is
pub entry_that_is : {X : Type 0} (o : Option X) → is_some o ≡ true → (x : X) × (o ≡ Some x)
entry_that_is None h = absurd (false≢true h)
entry_that_is (Some x) h = (x, refl)

-- ---- what is found

pub find-passes : {A : Type 0} (p : A → Bool) (xs : List A) (x : A) → find p xs ≡ Some x → p x ≡ true
find-passes p [] x h = absurd (none-some x h)
find-passes p (y ∷ ys) x h = elim (p y) as (λ t. p y ≡ t → (if t then Some y else find p ys) ≡ Some x → p x ≡ true) [
  | true ↦ (λ t g. subst (λ n. p n ≡ true) (same_Some y x g) t)
  | false ↦ (λ t g. find-passes p ys x g)
] refl h
