-- Filters that keep the same.
use Rattle.std.proofs.Common.{◌≡◌, ◌∙◌, Bool, refl, ap, List, [], ◌∷◌}
use Rattle.std.specs.Prelude.{filter, if◌then◌else◌}

-- tests that agree keep the same
pub filter_same : {X : Type 0} (p q : X → Bool) (xs : List X) → ((x : X) → p x ≡ q x) → filter p xs ≡ filter q xs
filter_same p q [] same = refl
filter_same p q (x ∷ xs) same =
    ap (λ (b : Bool). if b then x ∷ filter p xs else filter p xs) (same x)
    ∙ ap (λ ys. if q x then x ∷ ys else ys) (filter_same p q xs same)
