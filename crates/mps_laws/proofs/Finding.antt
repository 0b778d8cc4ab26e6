-- What is found at an address, and what a fact of what is found gives.
use Rattle.std.proofs.Common.{◌≡◌, ◌∙◌, ℕ, zero, suc, ◌+◌, true, false, refl, sym, ap, List, [], ◌∷◌, Option, Some, None, subst, arith, add-zero}
use Rattle.std.proofs.lemmas.Option.{none-some, same_Some}
use Rattle.std.proofs.lemmas.Bool.{false≢true, eqb-true, eq-eqb}
use Rattle.std.specs.Prelude.{if◌then◌else◌}
use Rattle.mps_model.specs.Graph.{entry_at}
use Rattle.mps_model.specs.World.{World, id_at, is_at, numbers_of, first_id}
use Rattle.mps_model.specs.LegalMove.{ForOne}

-- the values of which a fact speaks
pub record ForBoth {A B : Type 0} (o : Option A) (p : Option B) (P : A → B → Type 0) : Type 0 where
  pub first : A
  pub second : B
  pub is_first : o ≡ Some first
  pub is_second : p ≡ Some second
  pub holds : P first second

pub for_both : {A B : Type 0} (o : Option A) (p : Option B) (P : A → B → Type 0) → ForOne o (λ x. ForOne p (P x)) → ForBoth o p P
for_both None p P h = absurd h
for_both (Some x) None P h = absurd h
for_both (Some x) (Some y) P h = record { first = x; second = y; is_first = refl; is_second = refl; holds = h }

pub for_one : {A : Type 0} (P : A → Type 0) (o : Option A) → ForOne o P → (x : A) × (o ≡ Some x) × P x
for_one P None h = absurd h
for_one P (Some x) h = (x, refl, h)

is_at-some : (at : ℕ) (p : Option ℕ) → is_at at p ≡ true → p ≡ Some at
is_at-some at None h = absurd (false≢true h)
is_at-some at (Some n) h = ap Some (eqb-true n at h)

found_from : (at first : ℕ) (addresses : List (Option ℕ)) (id : ℕ) → first_id (numbers_of (is_at at) first addresses) ≡ Some id
    → (i : ℕ) × (id ≡ first + i) × (entry_at addresses i ≡ Some at)
found_from at first [] id e = absurd (none-some id e)
found_from at first (p ∷ ps) id e =
    elim (is_at at p) as (λ t. is_at at p ≡ t
    → first_id (if t then first ∷ numbers_of (is_at at) (first + 1) ps else numbers_of (is_at at) (first + 1) ps) ≡ Some id
    → (i : ℕ) × (id ≡ first + i) × (entry_at (p ∷ ps) i ≡ Some at)) [
      | true ↦ (λ t f. (zero, sym (same_Some first id f) ∙ sym (add-zero first), is_at-some at p t))
      | false ↦
          (λ t f. let rest = found_from at (first + 1) ps id f in (suc rest.0, (let h = rest.1 in omega (arith, h)), rest.2))
    ] refl e

-- what is found at an address lies there
pub id_at-found : (w : World) (at id : ℕ) → id_at w at ≡ Some id → entry_at w.addresses id ≡ Some at
id_at-found w at id e =
    let f = found_from at 0 w.addresses id e in
    subst (λ (n : ℕ). entry_at w.addresses n ≡ Some at) (sym (let h = f.1 in omega (arith, h))) f.2

is_here : (at : ℕ) (o : Option ℕ) → o ≡ Some at → is_at at o ≡ true
is_here at None f = absurd (none-some at f)
is_here at (Some n) f = eq-eqb n at (same_Some n at f)

some_from : (at first : ℕ) (addresses : List (Option ℕ)) (i : ℕ) → entry_at addresses i ≡ Some at
    → (id : ℕ) × (first_id (numbers_of (is_at at) first addresses) ≡ Some id)
some_from at first [] i e = absurd (none-some at e)
some_from at first (p ∷ ps) zero e = (
  first,
  ap (λ t. first_id (if t then first ∷ numbers_of (is_at at) (first + 1) ps else numbers_of (is_at at) (first + 1) ps))
      (is_here at p e),
)
some_from at first (p ∷ ps) (suc i) e =
    elim (is_at at p) as (λ t. (id : ℕ)
    × (first_id (if t then first ∷ numbers_of (is_at at) (first + 1) ps else numbers_of (is_at at) (first + 1) ps) ≡ Some id)) [
      | true ↦ (first, refl)
      | false ↦ some_from at (first + 1) ps i e
    ]

-- and what lies there is found
pub id_at-there : (w : World) (at i : ℕ) → ((i j at : ℕ) → entry_at w.addresses i ≡ Some at → entry_at w.addresses j ≡ Some at → i ≡ j)
    → entry_at w.addresses i ≡ Some at → id_at w at ≡ Some i
id_at-there w at i different e =
    let f = some_from at 0 w.addresses i e in
    f.1 ∙ ap Some (different f.0 i at (id_at-found w at f.0 f.1) e)
