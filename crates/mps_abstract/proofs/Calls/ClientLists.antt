-- What the client's lists have after something was written into them.
use Rattle.std.proofs.Common.{◌≡◌, ◌⊎◌, ℕ, zero, suc, true, false, refl, sym, ap, List, [], ◌∷◌, length, map, Option, Some, None, subst, inl, inr}
use Rattle.std.proofs.lemmas.Bool.{false≢true}
use Rattle.std.proofs.lemmas.Option.{none-some, same_Some}
use Rattle.std.specs.Prelude.{slice_get, slice_set, replicate}
use Rattle.std.specs.List.{flat_map}
use Rattle.mps_model.specs.Graph.{contains, entries, entry_at, with_last}
use Rattle.mps_abstract.proofs.Lists.{contains_append, contains_left, contains_right}
pub use Rattle.mps_changes.proofs.Lookups.{entry_is_there, map-slice_set, length-with_last}
pub use Rattle.mps_changes.proofs.Entries.{entry_cases, entry_first, entry_later, among_entries, written_entries}

module _ {X : Type 0} (f : X → List ℕ) where
  -- in what is among these
  pub among_all : (xs : List X) (i : ℕ) (x : X) (n : ℕ) → slice_get xs i ≡ Some x → contains (f x) n ≡ true
      → contains (flat_map f xs) n ≡ true
  among_all [] i x n e h = absurd (none-some x e)
  among_all (y ∷ ys) zero x n e h = contains_left (f y) (flat_map f ys) n
      (subst (λ (z : X). contains (f z) n ≡ true) (sym (same_Some y x e)) h)
  among_all (y ∷ ys) (suc i) x n e h = contains_right (f y) (flat_map f ys) n (among_all ys i x n e h)

  -- after one was written
  pub written_among : (xs : List X) (i : ℕ) (x : X) (n : ℕ) → contains (flat_map f (slice_set xs i x)) n ≡ true
      → (contains (flat_map f xs) n ≡ true) ⊎ (contains (f x) n ≡ true)
  written_among [] i x n h = inl h
  written_among (y ∷ ys) zero x n h = elim (contains_append (f x) (flat_map f ys) n h) [
    | inl new ↦ inr new
    | inr old ↦ inl (contains_right (f y) (flat_map f ys) n old)
  ]
  written_among (y ∷ ys) (suc i) x n h = elim (contains_append (f y) (flat_map f (slice_set ys i x)) n h) [
    | inl first ↦ inl (contains_left (f y) (flat_map f ys) n first)
    | inr rest ↦ elim (written_among ys i x n rest) [
      | inl old ↦ inl (contains_right (f y) (flat_map f ys) n old)
      | inr new ↦ inr new
    ]
  ]

  -- after one more was made
  pub last_among : (xs : List X) (x : X) (n : ℕ) → contains (flat_map f (with_last xs x)) n ≡ true
      → (contains (flat_map f xs) n ≡ true) ⊎ (contains (f x) n ≡ true)
  last_among [] x n h = elim (contains_append (f x) [] n h) [ inl new ↦ inr new | inr none ↦ absurd (false≢true none) ]
  last_among (y ∷ ys) x n h = elim (contains_append (f y) (flat_map f (with_last ys x)) n h) [
    | inl first ↦ inl (contains_left (f y) (flat_map f ys) n first)
    | inr rest ↦ elim (last_among ys x n rest) [
      | inl old ↦ inl (contains_right (f y) (flat_map f ys) n old)
      | inr new ↦ inr new
    ]
  ]

-- ---- entries

-- null slots hold nothing
pub no_entries : (count n : ℕ) → contains (entries (replicate count None)) n ≡ false
no_entries zero n = refl
no_entries (suc count) n = no_entries count n

pub map-slice_get : {X Y : Type 0} (f : X → Y) (xs : List X) (i : ℕ) (x : X) → slice_get xs i ≡ Some x → slice_get (map f xs) i ≡ Some (f x)
map-slice_get f [] i x e = absurd (none-some x e)
map-slice_get f (y ∷ ys) zero x e = ap (λ z. Some (f z)) (same_Some y x e)
map-slice_get f (y ∷ ys) (suc i) x e = map-slice_get f ys i x e

pub map-replicate : {X Y : Type 0} (f : X → Y) (count : ℕ) (x : X) → map f (replicate count x) ≡ replicate count (f x)
map-replicate f zero x = refl
map-replicate f (suc count) x = ap (λ rest. f x ∷ rest) (map-replicate f count x)

-- ---- lists with one more

-- what stands in it
pub last_cases : {X : Type 0} (xs : List X) (x : X) (i : ℕ) (y : X) → slice_get (with_last xs x) i ≡ Some y
    → (slice_get xs i ≡ Some y) ⊎ ((i ≡ length xs) × (x ≡ y))
last_cases [] x zero y e = inr (refl, same_Some x y e)
last_cases [] x (suc i) y e = absurd (none-some y e)
last_cases (z ∷ zs) x zero y e = inl e
last_cases (z ∷ zs) x (suc i) y e = elim (last_cases zs x i y e) [ inl old ↦ inl old | inr new ↦ inr (ap suc new.0, new.1) ]

pub entry_last_cases : {X : Type 0} (xs : List (Option X)) (x : Option X) (i : ℕ) (y : X) → entry_at (with_last xs x) i ≡ Some y
    → (entry_at xs i ≡ Some y) ⊎ ((i ≡ length xs) × (x ≡ Some y))
entry_last_cases [] x zero y e = inr (refl, e)
entry_last_cases [] x (suc i) y e = absurd (none-some y e)
entry_last_cases (z ∷ zs) x zero y e = inl e
entry_last_cases (z ∷ zs) x (suc i) y e = elim (entry_last_cases zs x i y e) [ inl old ↦ inl old | inr new ↦ inr (ap suc new.0, new.1) ]

pub entry_last : {X : Type 0} (xs : List (Option X)) (x : Option X) (i : ℕ) (y : X) → entry_at xs i ≡ Some y
    → entry_at (with_last xs x) i ≡ Some y
entry_last [] x i y e = absurd (none-some y e)
entry_last (z ∷ zs) x zero y e = e
entry_last (z ∷ zs) x (suc i) y e = entry_last zs x i y e

pub entry_of_last : {X : Type 0} (xs : List (Option X)) (x : X) → entry_at (with_last xs (Some x)) (length xs) ≡ Some x
entry_of_last [] x = refl
entry_of_last (z ∷ zs) x = entry_of_last zs x
