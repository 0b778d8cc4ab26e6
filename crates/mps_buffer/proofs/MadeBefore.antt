-- No reservation remembers a flip that is still to come: so it is of new points, and each flip keeps it.
use Rattle.std.proofs.Common.{◌≡◌, ◌∙◌, ℕ, zero, suc, ◌+◌, refl, sym, ap, List, [], ◌∷◌, map, Option, Some, None, arith}
use Rattle.std.proofs.lemmas.Option.{none-some, same_Some}
use Rattle.std.specs.Prelude.{get_or, replicate, option_map}
use Rattle.mps_buffer.specs.declared.point.Point.{Point}
use Rattle.mps_buffer.specs.Points.{PointsState, WereMadeBefore, max_points, no_points, point_at, without_free_words, points_after_flip}

-- ---- new points

abbrev nothing_there : ℕ → List (Option Point)
nothing_there n = replicate n None

none_repeated : (n key : ℕ) → get_or (nothing_there n) key None ≡ None
none_repeated zero key = refl
none_repeated (suc n) zero = refl
none_repeated (suc n) (suc key) = none_repeated n key

pub new_points_made_before : (flips : ℕ) → WereMadeBefore flips no_points
new_points_made_before flips = record {
  before = λ key p held e reserved. absurd (none-some p (sym (none_repeated max_points key) ∙ e));
}

-- ---- a flip

-- an option under a key of a list that was changed entry by entry
get_or-mapped : {A : Type 0} (f : A → A) (xs : List (Option A)) (key : ℕ)
    → get_or (map (option_map f) xs) key None ≡ option_map f (get_or xs key None)
get_or-mapped f [] key = refl
get_or-mapped f (x ∷ xs) zero = refl
get_or-mapped f (x ∷ xs) (suc key) = get_or-mapped f xs key

pub point_at-flipped : (s : PointsState) (key : ℕ) → point_at (points_after_flip s) key ≡ option_map without_free_words (point_at s key)
point_at-flipped s key = get_or-mapped without_free_words s.points key

-- a point that there is after a flip is one that there was
pub was_point : (s : PointsState) (key : ℕ) (p : Point) → point_at (points_after_flip s) key ≡ Some p
    → (q : Point) × (point_at s key ≡ Some q) × (without_free_words q ≡ p)
was_point s key p e = of_point (point_at s key) refl (sym (point_at-flipped s key) ∙ e)
  where
    of_point : (o : Option Point) → point_at s key ≡ o → option_map without_free_words o ≡ Some p
        → (q : Point) × (point_at s key ≡ Some q) × (without_free_words q ≡ p)
    of_point None there f = absurd (none-some p f)
    of_point (Some q) there f = (q, there, same_Some (without_free_words q) p f)

-- so it is after one more flip
pub made_before_then : (flips : ℕ) (s : PointsState) → WereMadeBefore flips s → WereMadeBefore (flips + 1) (points_after_flip s)
made_before_then flips s made = record {
  before = λ key p held e reserved.
      let was = was_point s key p e in
      let most = made.before key was.0 held was.1 (ap (λ (q : Point). q.reservation) was.2 ∙ reserved) in
      omega (arith, most);
}
