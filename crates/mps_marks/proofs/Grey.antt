-- The grey blocks of both ranks as one list, for a table above: there the rank of a block is that of its segment.
use Rattle.std.proofs.Common.{ℕ, zero, suc, ◌≡◌, Bool, false, List, ◌∷◌, replicate, refl, ap}
use Rattle.mps_marks.specs.Marks.{either}

pub none_grey : (n : ℕ) → either (replicate n false) (replicate n false) ≡ replicate n false
none_grey zero = refl
none_grey (suc n) = ap (λ (bits : List Bool). false ∷ bits) (none_grey n)
