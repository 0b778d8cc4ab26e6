-- What lists of numbers, and of entries that may be null, have after something was written into them.
use Rattle.std.proofs.Common.{◌≡◌, ◌⊎◌, ℕ, zero, suc, true, refl, sym, ap, List, [], ◌∷◌, Option, Some, None, subst, inl, inr}
use Rattle.std.proofs.lemmas.Bool.{or_cases, or_left, or_right, eqb-true, eq-eqb}
use Rattle.std.proofs.lemmas.Option.{none-some, same_Some}
use Rattle.std.specs.Prelude.{◌==◌, slice_get, slice_set}
use Rattle.mps_model.specs.Graph.{contains, entries}

pub contains_here : (x : ℕ) (xs : List ℕ) → contains (x ∷ xs) x ≡ true
contains_here x xs = or_left (x == x) (contains xs x) (eq-eqb x x refl)

pub contains_later : (x : ℕ) (xs : List ℕ) (n : ℕ) → contains xs n ≡ true → contains (x ∷ xs) n ≡ true
contains_later x xs n h = or_right (x == n) (contains xs n) h

-- the first one, or a later one
pub contains_cases : (x : ℕ) (xs : List ℕ) (n : ℕ) → contains (x ∷ xs) n ≡ true → (x ≡ n) ⊎ (contains xs n ≡ true)
contains_cases x xs n h = elim (or_cases (x == n) (contains xs n) h) [ inl e ↦ inl (eqb-true x n e) | inr e ↦ inr e ]

pub entry_cases : (o : Option ℕ) (os : List (Option ℕ)) (n : ℕ) → contains (entries (o ∷ os)) n ≡ true
    → (o ≡ Some n) ⊎ (contains (entries os) n ≡ true)
entry_cases None os n h = inr h
entry_cases (Some m) os n h = elim (contains_cases m (entries os) n h) [ inl same ↦ inl (ap Some same) | inr rest ↦ inr rest ]

pub entry_first : (o : Option ℕ) (os : List (Option ℕ)) (n : ℕ) → o ≡ Some n → contains (entries (o ∷ os)) n ≡ true
entry_first o os n e = subst (λ p. contains (entries (p ∷ os)) n ≡ true) (sym e) (contains_here n (entries os))

pub entry_later : (o : Option ℕ) (os : List (Option ℕ)) (n : ℕ) → contains (entries os) n ≡ true → contains (entries (o ∷ os)) n ≡ true
entry_later None os n h = h
entry_later (Some m) os n h = contains_later m (entries os) n h

-- what stands in an entry is among them
pub among_entries : (os : List (Option ℕ)) (i n : ℕ) → slice_get os i ≡ Some (Some n) → contains (entries os) n ≡ true
among_entries [] i n e = absurd (none-some (Some n) e)
among_entries (o ∷ os) zero n e = entry_first o os n (same_Some o (Some n) e)
among_entries (o ∷ os) (suc i) n e = entry_later o os n (among_entries os i n e)

-- after one was written
pub written_entries : (os : List (Option ℕ)) (i : ℕ) (o : Option ℕ) (n : ℕ) → contains (entries (slice_set os i o)) n ≡ true
    → (contains (entries os) n ≡ true) ⊎ (o ≡ Some n)
written_entries [] i o n h = inl h
written_entries (p ∷ os) zero o n h = elim (entry_cases o os n h) [ inl new ↦ inr new | inr old ↦ inl (entry_later p os n old) ]
written_entries (p ∷ os) (suc i) o n h = elim (entry_cases p (slice_set os i o) n h) [
  | inl first ↦ inl (entry_first p os n first)
  | inr rest ↦ elim (written_entries os i o n rest) [ inl old ↦ inl (entry_later p os n old) | inr new ↦ inr new ]
]
