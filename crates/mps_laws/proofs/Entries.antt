-- Entries of lists by number, after one was written or more were added.
use Rattle.std.proofs.Common.{◌≡◌, ℕ, zero, suc, ◌<◌, refl, ap, List, [], ◌∷◌, ◌++◌, length, Option, Some, arith}
use Rattle.std.proofs.lemmas.Option.{none-some}
use Rattle.std.specs.Prelude.{slice_get, slice_set, option_and_then}
use Rattle.mps_model.specs.Graph.{entry_at}

-- the entry that was written
pub slice_get-written : {X : Type 0} (xs : List X) (i : ℕ) (old new : X) → slice_get xs i ≡ Some old
    → slice_get (slice_set xs i new) i ≡ Some new
slice_get-written [] i old new there = absurd (none-some old there)
slice_get-written (y ∷ ys) zero old new there = refl
slice_get-written (y ∷ ys) (suc i) old new there = slice_get-written ys i old new there

-- an entry that there was before more were added
pub slice_get-append : {X : Type 0} (xs more : List X) (i : ℕ) → i < length xs → slice_get (xs ++ more) i ≡ slice_get xs i
slice_get-append [] more i within = absurd (omega (arith, within))
slice_get-append (y ∷ ys) more zero within = refl
slice_get-append (y ∷ ys) more (suc i) within = slice_get-append ys more i (omega (arith, within))

pub slice_get-there : {X : Type 0} (xs more : List X) (i : ℕ) (x : X) → slice_get xs i ≡ Some x → slice_get (xs ++ more) i ≡ Some x
slice_get-there [] more i x there = absurd (none-some x there)
slice_get-there (y ∷ ys) more zero x there = there
slice_get-there (y ∷ ys) more (suc i) x there = slice_get-there ys more i x there

pub entry_at-written : {X : Type 0} (xs : List (Option X)) (i : ℕ) (old : X) (new : Option X) → entry_at xs i ≡ Some old
    → entry_at (slice_set xs i new) i ≡ new
entry_at-written [] i old new there = absurd (none-some old there)
entry_at-written (y ∷ ys) zero old new there = refl
entry_at-written (y ∷ ys) (suc i) old new there = entry_at-written ys i old new there

pub entry_at-append : {X : Type 0} (xs more : List (Option X)) (i : ℕ) → i < length xs → entry_at (xs ++ more) i ≡ entry_at xs i
entry_at-append xs more i within = ap (option_and_then (λ entry. entry)) (slice_get-append xs more i within)

-- ---- lists that go on

-- a list is as it was, with perhaps more at its end
abbrev pub GoesOn : {X : Type 0} → (before after : List X) → Type 0
GoesOn {X} before after = (more : List X) × (after ≡ before ++ more)
