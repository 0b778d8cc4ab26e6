-- A list whose first and last entries are of one kind and those between them of another, where one entry goes from the middle to the first.
use Rattle.std.proofs.Common.{◌≡◌, ◌∙◌, ◌⊎◌, ℕ, zero, suc, ◌+◌, ◌<◌, ◌≤◌, refl, sym, ap, List, [], ◌∷◌, ◌++◌, length, map, Some, inl, inr, arith}
use Rattle.std.proofs.lemmas.List.{length-map}
use Rattle.std.proofs.lemmas.Option.{none-some, same_Some}
use Rattle.std.proofs.lemmas.Bool.{eq-eqb, ne_eqb}
use Rattle.std.specs.Prelude.{if◌then◌else◌, ◌==◌, false, take, drop, slice_get, slice_set, slice_index_or}
use Rattle.std.specs.List.{remove}
use Rattle.mps_base.specs.Address.{Address, Id}
use Rattle.mps_model.specs.Graph.{without_first}
use Rattle.mps_abstract.proofs.Registrations.{StandsFirst}
use Rattle.mps_trace_laws.specs.Units.Finals.{before_and_since}

later_first : (x : ℕ) (xs : List ℕ) (n position : ℕ) → StandsFirst (x ∷ xs) n (suc position) → StandsFirst xs n position
later_first x xs n position s = record {
  here = s.here;
  not_before = λ before less e. s.not_before (suc before) (omega (arith, less)) e;
}

not_the_first : (x : ℕ) (xs : List ℕ) (n position : ℕ) → StandsFirst (x ∷ xs) n (suc position) → (x == n) ≡ false
not_the_first x xs n position s = ne_eqb x n (λ same. s.not_before 0 (omega arith) (ap Some same))

module _ (A B : Id → Address) where
  abbrev pub mix : (n due : ℕ) → List Id → List Address
  mix n due xs = before_and_since A B n due xs

  -- what is due, and what comes after it
  abbrev pub rest_of : (due : ℕ) → List Id → List Address
  rest_of due xs = map B (take due xs) ++ map A (drop due xs)

  pub set_mix : (n due : ℕ) (xs : List Id) (id to : ℕ) → slice_get xs n ≡ Some id → A id ≡ to
      → slice_set (mix n (suc due) xs) n to ≡ mix (suc n) due xs
  set_mix n due [] id to e is = absurd (none-some id e)
  set_mix zero due (x ∷ xs) id to e is = ap (λ a. a ∷ rest_of due xs) (sym is ∙ ap A (sym (same_Some x id e)))
  set_mix (suc n) due (x ∷ xs) id to e is = ap (λ l. A x ∷ l) (set_mix n due xs id to e is)

  pub remove_mix : (n due : ℕ) (xs : List Id) (id to : ℕ) → slice_get xs n ≡ Some id
      → remove (slice_set (mix n (suc due) xs) n to) n ≡ map A (take n xs) ++ rest_of due (drop (suc n) xs)
  remove_mix n due [] id to e = absurd (none-some id e)
  remove_mix zero due (x ∷ xs) id to e = refl
  remove_mix (suc n) due (x ∷ xs) id to e = ap (λ l. A x ∷ l) (remove_mix n due xs id to e)

  pub index_mix : (n due : ℕ) (xs : List Id) (id to : ℕ) → slice_get xs n ≡ Some id
      → slice_index_or (slice_set (mix n (suc due) xs) n to) n 0 ≡ to
  index_mix n due [] id to e = absurd (none-some id e)
  index_mix zero due (x ∷ xs) id to e = refl
  index_mix (suc n) due (x ∷ xs) id to e = index_mix n due xs id to e

  -- what stands at the first position that is due
  pub due_mix : (n due : ℕ) (xs : List Id) (id : Id) → slice_get xs n ≡ Some id → slice_index_or (mix n (suc due) xs) n 0 ≡ B id
  due_mix n due [] id e = absurd (none-some id e)
  due_mix zero due (x ∷ xs) id e = ap B (same_Some x id e)
  due_mix (suc n) due (x ∷ xs) id e = due_mix n due xs id e

  -- where none is due all entries are of the first kind
  pub none_due : (n : ℕ) (xs : List Id) → mix n 0 xs ≡ map A xs
  none_due zero xs = refl
  none_due (suc n) [] = refl
  none_due (suc n) (x ∷ xs) = ap (λ l. A x ∷ l) (none_due n xs)

  -- and where all are due of the second
  pub all_due : (xs : List Id) → mix 0 (length xs) xs ≡ map B xs
  all_due [] = refl
  all_due (x ∷ xs) = ap (λ l. B x ∷ l) (all_due xs)

  pub length-mix : (n due : ℕ) (xs : List Id) → length (mix n due xs) ≡ length xs
  length-mix zero zero xs = length-map xs A
  length-mix zero (suc due) [] = refl
  length-mix zero (suc due) (x ∷ xs) = ap suc (length-mix zero due xs)
  length-mix (suc n) zero [] = refl
  length-mix (suc n) (suc due) [] = refl
  length-mix (suc n) due (x ∷ xs) = ap suc (length-mix n due xs)

pub map_all : (A A' : Id → Address) (xs : List Id) → ((i m : ℕ) → slice_get xs i ≡ Some m → A m ≡ A' m) → map A xs ≡ map A' xs
map_all A A' [] same = refl
map_all A A' (x ∷ xs) same = ap (λ a. a ∷ map A xs) (same 0 x refl) ∙ ap (λ l. A' x ∷ l) (map_all A A' xs (λ i m e. same (suc i) m e))

-- entries of the first kind may be others, if they are the same where they count
pub mix_same : (A A' B : Id → Address) (n due : ℕ) (xs : List Id)
    → ((i m : ℕ) → (i < n) ⊎ (n + due ≤ i) → slice_get xs i ≡ Some m → A m ≡ A' m) → mix A B n due xs ≡ mix A' B n due xs
mix_same A A' B zero zero xs same = map_all A A' xs (λ i m e. same i m (inr (omega arith)) e)
mix_same A A' B zero (suc due) [] same = refl
mix_same A A' B zero (suc due) (x ∷ xs) same =
    ap (λ l. B x ∷ l) (mix_same A A' B zero due xs (λ i m where_it_is e. same (suc i) m (elim where_it_is [
      | inl less ↦ absurd (omega (arith, less))
      | inr most ↦ inr (omega (arith, most))
    ]) e))
mix_same A A' B (suc n) zero [] same = refl
mix_same A A' B (suc n) (suc due) [] same = refl
mix_same A A' B (suc n) due (x ∷ xs) same =
    ap (λ a. a ∷ mix A B n due xs) (same 0 x (inl (omega arith)) refl)
    ∙ ap (λ l. A' x ∷ l) (mix_same A A' B n due xs (λ i m where_it_is e. same (suc i) m (elim where_it_is [
      | inl less ↦ inl (omega (arith, less))
      | inr most ↦ inr (omega (arith, most))
    ]) e))

pub take_first : (xs : List Id) (id n : ℕ) → StandsFirst xs id n → take n (without_first xs id) ≡ take n xs
take_first [] id n s = absurd (none-some id s.here)
take_first (x ∷ xs) id zero s = refl
take_first (x ∷ xs) id (suc n) s =
    ap (λ b. take (suc n) (if b then xs else x ∷ without_first xs id)) (not_the_first x xs id n s)
    ∙ ap (λ l. x ∷ l) (take_first xs id n (later_first x xs id n s))

pub drop_first : (xs : List Id) (id n : ℕ) → StandsFirst xs id n → drop n (without_first xs id) ≡ drop (suc n) xs
drop_first [] id n s = absurd (none-some id s.here)
drop_first (x ∷ xs) id zero s =
    ap (λ b. if b then xs else x ∷ without_first xs id) (eq-eqb x id (same_Some x id s.here))
drop_first (x ∷ xs) id (suc n) s =
    ap (λ b. drop (suc n) (if b then xs else x ∷ without_first xs id)) (not_the_first x xs id n s)
    ∙ drop_first xs id n (later_first x xs id n s)

pub map_last : (A : Id → Address) (xs : List Id) (id : Id) → map A (xs ++ id ∷ []) ≡ map A xs ++ A id ∷ []
map_last A [] id = refl
map_last A (x ∷ xs) id = ap (λ l. A x ∷ l) (map_last A xs id)
