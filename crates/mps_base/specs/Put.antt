-- Lists in ascending order of a key: of runs by their first number, of segments and blocks by their address.
use Rattle.std.specs.Prelude.{ℕ, ◌≡◌, ◌-◌, nat_lt, if◌then◌else◌, List, [], ◌∷◌, refl}

-- one more value, before the first whose key is greater
abbrev pub put : {A : Type 0} → (key : A → ℕ) → A → List A → List A
put key new [] = new ∷ []
put key new (x ∷ xs) = if nat_lt (key new) (key x) then new ∷ x ∷ xs else x ∷ put key new xs

pub it_is_put_between : put (λ (n : ℕ). n) 3 (1 ∷ 5 ∷ []) ≡ 1 ∷ 3 ∷ 5 ∷ []
it_is_put_between = refl

pub it_is_put_last_where_none_is_greater : put (λ (n : ℕ). n) 7 (1 ∷ 5 ∷ []) ≡ 1 ∷ 5 ∷ 7 ∷ []
it_is_put_last_where_none_is_greater = refl

pub it_is_put_after_its_equals : put (λ (n : ℕ). n - n) 3 (1 ∷ 5 ∷ []) ≡ 1 ∷ 5 ∷ 3 ∷ []
it_is_put_after_its_equals = refl
