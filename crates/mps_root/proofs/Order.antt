-- The order of the tables without one key.
use Rattle.std.proofs.Common.{ℕ, zero, suc, ◌<◌, ◌≡◌, ◌≢◌, ◌==◌, List, [], ◌∷◌, length, get_or, refl, sym, ap, ◌∙◌, arith}
use Rattle.std.specs.Prelude.{if◌then◌else◌}
use Rattle.std.specs.List.{remove}
use Rattle.std.proofs.lemmas.Grind.{common_steps}
use Rattle.mps_root.specs.State.{without_key}

this_one : (k key : ℕ) (then_this else_that : List ℕ) → k ≡ key → (if k == key then then_this else else_that) ≡ then_this
this_one k key then_this else_that is = grind (arith, common_steps, is)

another : (k key : ℕ) (then_this else_that : List ℕ) → k ≢ key → (if k == key then then_this else else_that) ≡ else_that
another k key then_this else_that is = grind (arith, common_steps, is)

pub removed_at : (keys : List ℕ) (i key : ℕ) → i < length keys → get_or keys i 0 ≡ key → ((j : ℕ) → j < i → get_or keys j 0 ≢ key)
    → remove keys i ≡ without_key keys key
removed_at [] i key within is before = absurd (omega (arith, within))
removed_at (k ∷ keys) zero key within is before = sym (this_one k key keys (k ∷ without_key keys key) is)
removed_at (k ∷ keys) (suc i) key within is before =
    ap (λ (ks : List ℕ). k ∷ ks) (removed_at keys i key (omega (arith, within)) is (λ j below. before (suc j) (omega (arith, below))))
    ∙ sym (another k key keys (k ∷ without_key keys key) (before 0 (omega arith)))

pub not_there : (keys : List ℕ) (key : ℕ) → ((j : ℕ) → j < length keys → get_or keys j 0 ≢ key) → keys ≡ without_key keys key
not_there [] key none = refl
not_there (k ∷ keys) key none =
    ap (λ (ks : List ℕ). k ∷ ks) (not_there keys key (λ j below. none (suc j) (omega (arith, below))))
    ∙ sym (another k key keys (k ∷ without_key keys key) (none 0 (omega arith)))
