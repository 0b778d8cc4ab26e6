-- What stands in a list after a write, and what the entries of a list of options are then.
use Rattle.std.proofs.Common.{◌≡◌, ◌∙◌, ◌⊎◌, ℕ, zero, suc, ◌<◌, refl, sym, ap, List, [], ◌∷◌, ◌++◌, length, Option, Some, None, inl, inr}
use Rattle.std.proofs.lemmas.Bool.{cases_eq}
use Rattle.std.proofs.lemmas.Option.{none-some, same_Some, slice_get_within}
use Rattle.std.specs.Prelude.{slice_get, slice_set, option_and_then, ◌≢◌}
use Rattle.mps_model.specs.Graph.{entry_at}

pub slice_get-set_same : {X : Type 0} (xs : List X) (i : ℕ) (old new : X) → slice_get xs i ≡ Some old
    → slice_get (slice_set xs i new) i ≡ Some new
slice_get-set_same [] i old new is = absurd (none-some old is)
slice_get-set_same (x ∷ xs) zero old new is = refl
slice_get-set_same (x ∷ xs) (suc i) old new is = slice_get-set_same xs i old new is

pub slice_get-set_other : {X : Type 0} (xs : List X) (i j : ℕ) (new : X) → j ≢ i → slice_get (slice_set xs i new) j ≡ slice_get xs j
slice_get-set_other [] i j new other = refl
slice_get-set_other (x ∷ xs) zero zero new other = absurd (other refl)
slice_get-set_other (x ∷ xs) zero (suc j) new other = refl
slice_get-set_other (x ∷ xs) (suc i) zero new other = refl
slice_get-set_other (x ∷ xs) (suc i) (suc j) new other = slice_get-set_other xs i j new (λ e. other (ap suc e))

there_entry : {X : Type 0} (entry : Option (Option X)) (x : X) → option_and_then (λ e. e) entry ≡ Some x → entry ≡ Some (Some x)
there_entry None x is = absurd (none-some x is)
there_entry (Some entry) x is = ap Some is

module _ {X : Type 0} (entries : List (Option X)) (id : ℕ) (old : X) (is : entry_at entries id ≡ Some old) where
  -- one entry is written
  pub entry_at-set_same : (new : Option X) → entry_at (slice_set entries id new) id ≡ new
  entry_at-set_same new =
      ap (option_and_then (λ e. e)) (slice_get-set_same entries id (Some old) new (there_entry (slice_get entries id) old is))

  -- after it was replaced, an entry is the new one, or was there
  pub entry_replaced : (new : X) (j : ℕ) (x : X) → entry_at (slice_set entries id (Some new)) j ≡ Some x
      → ((j ≡ id) × (x ≡ new)) ⊎ ((j ≢ id) × (entry_at entries j ≡ Some x))
  entry_replaced new j x there =
      elim (cases_eq j id) [
        | inl same ↦
            inl (same, same_Some x new (sym there ∙ ap (entry_at (slice_set entries id (Some new))) same ∙ entry_at-set_same (Some new)))
        | inr other ↦
            inr (other, sym (ap (option_and_then (λ e. e)) (slice_get-set_other entries id j (Some new) other)) ∙ there)
      ]

  -- after it was taken out, an entry was there
  pub entry_left : (j : ℕ) (x : X) → entry_at (slice_set entries id None) j ≡ Some x → (j ≢ id) × (entry_at entries j ≡ Some x)
  entry_left j x there =
      elim (cases_eq j id) [
        | inl same ↦ absurd (none-some x (sym (entry_at-set_same None) ∙ sym (ap (entry_at (slice_set entries id None)) same) ∙ there))
        | inr other ↦ (other, sym (ap (option_and_then (λ e. e)) (slice_get-set_other entries id j None other)) ∙ there)
      ]

pub entry_at-set_other : {X : Type 0} (entries : List (Option X)) (id j : ℕ) (new : Option X) → j ≢ id
    → entry_at (slice_set entries id new) j ≡ entry_at entries j
entry_at-set_other entries id j new other = ap (option_and_then (λ e. e)) (slice_get-set_other entries id j new other)

-- ---- one more at the end

pub slice_get-pushed : {X : Type 0} (xs : List X) (new : X) (j : ℕ) (x : X) → slice_get (xs ++ new ∷ []) j ≡ Some x
    → ((j ≡ length xs) × (x ≡ new)) ⊎ (slice_get xs j ≡ Some x)
slice_get-pushed [] new zero x is = inl (refl, sym (same_Some new x is))
slice_get-pushed [] new (suc j) x is = absurd (none-some x is)
slice_get-pushed (y ∷ ys) new zero x is = inr is
slice_get-pushed (y ∷ ys) new (suc j) x is =
    elim (slice_get-pushed ys new j x is) [
      | inl e ↦ inl (ap suc e.0, e.1)
      | inr e ↦ inr e
    ]

pub slice_get-still : {X : Type 0} (xs : List X) (new : X) (j : ℕ) (x : X) → slice_get xs j ≡ Some x → slice_get (xs ++ new ∷ []) j ≡ Some x
slice_get-still [] new j x is = absurd (none-some x is)
slice_get-still (y ∷ ys) new zero x is = is
slice_get-still (y ∷ ys) new (suc j) x is = slice_get-still ys new j x is

pub entry_pushed : {X : Type 0} (entries : List (Option X)) (new : X) (j : ℕ) (x : X) → entry_at (entries ++ Some new ∷ []) j ≡ Some x
    → ((j ≡ length entries) × (x ≡ new)) ⊎ (entry_at entries j ≡ Some x)
entry_pushed entries new j x is =
    elim (slice_get-pushed entries (Some new) j (Some x) (there_entry (slice_get (entries ++ Some new ∷ []) j) x is)) [
      | inl e ↦ inl (e.0, same_Some x new e.1)
      | inr e ↦ inr (ap (option_and_then (λ o. o)) e)
    ]

pub entry_still : {X : Type 0} (entries : List (Option X)) (new : Option X) (j : ℕ) (x : X) → entry_at entries j ≡ Some x
    → entry_at (entries ++ new ∷ []) j ≡ Some x
entry_still entries new j x is =
    ap (option_and_then (λ o. o)) (slice_get-still entries new j (Some x) (there_entry (slice_get entries j) x is))

pub entry_within : {X : Type 0} (entries : List (Option X)) (j : ℕ) (x : X) → entry_at entries j ≡ Some x → j < length entries
entry_within entries j x is = slice_get_within entries j (Some x) (there_entry (slice_get entries j) x is)

pub slice_get-last : {X : Type 0} (xs : List X) (new : X) → slice_get (xs ++ new ∷ []) (length xs) ≡ Some new
slice_get-last [] new = refl
slice_get-last (x ∷ xs) new = slice_get-last xs new

pub entry_last : {X : Type 0} (entries : List (Option X)) (new : X) → entry_at (entries ++ Some new ∷ []) (length entries) ≡ Some new
entry_last entries new = ap (option_and_then (λ o. o)) (slice_get-last entries (Some new))
