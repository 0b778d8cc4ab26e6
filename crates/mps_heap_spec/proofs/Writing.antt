-- Words that are written where they are.
use Rattle.std.proofs.Common.{ℕ, zero, suc, ◌≡◌, List, [], ◌∷◌, is_some, slice_get, slice_set, false, refl, ap}

-- where a list has no item, none is written
pub nothing_written : {X : Type 0} (items : List X) (index : ℕ) (value : X) → is_some (slice_get items index) ≡ false
    → items ≡ slice_set items index value
nothing_written [] index value e = refl
nothing_written (x ∷ xs) zero value e = absurd cc
nothing_written (x ∷ xs) (suc index) value e = ap (λ (rest : List _). x ∷ rest) (nothing_written xs index value e)
