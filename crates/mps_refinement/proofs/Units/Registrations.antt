-- The registrations of a heap while a collection runs, as the collector has them: those that are still to be examined have the addresses of
-- the flip, and the others those of now.
use Rattle.std.proofs.Common.{◌≡◌, ◌∙◌, ℕ, zero, suc, ◌-◌, ◌<◌, ◌≤◌, Bool, true, refl, sym, ap, ap₂, subst, List, [], ◌∷◌, Option, Some, arith}
use Rattle.std.proofs.lemmas.Bool.{and_parts}
use Rattle.std.proofs.lemmas.Option.{none-some, same_Some}
use Rattle.std.specs.Prelude.{slice_get}
use Rattle.std.specs.List.{list_all}
use Rattle.std.specs.Option.{option_map_or}
use Rattle.mps_base.specs.Address.{Address, Id}
use Rattle.mps_model.specs.Graph.{entry_at}
use Rattle.mps_trace_laws.specs.Units.Finals.{address_of_id, before_and_since}
use Rattle.mps_refinement.specs.StandsFor.{AreRegistered}

module _ (addresses at_flip : List (Option Address)) where
  abbrev now : Id → Address
  now = address_of_id addresses

  abbrev was : Id → Address
  was = address_of_id at_flip

  abbrev pub registered_by : (next before : ℕ) → List Id → List Address
  registered_by next before ids = before_and_since now was next (before - next) ids

  none_registered : (n due : ℕ) → before_and_since now was n due [] ≡ []
  none_registered zero zero = refl
  none_registered zero (suc due) = refl
  none_registered (suc n) zero = refl
  none_registered (suc n) (suc due) = refl

  is_address : (xs : List (Option Address)) (id : Id) (a : Address) → entry_at xs id ≡ Some a → a ≡ address_of_id xs id
  is_address xs id a e = sym (ap (λ o. option_map_or (λ at. at) o 0) e)

  -- the addresses that registrations have
  pub as_registered : (next before : ℕ) (ats : List Address) (ids : List Id) → AreRegistered addresses at_flip next before ats ids
      → ats ≡ registered_by next before ids
  as_registered next before [] [] are = sym (none_registered next (before - next))
  as_registered next before [] (id ∷ ids) are = absurd are
  as_registered next before (a ∷ ats) [] are = absurd are
  as_registered zero zero (a ∷ ats) (id ∷ ids) are =
      ap₂ (λ (b : Address) bs. b ∷ bs) (is_address addresses id a are.0) (as_registered 0 0 ats ids are.1)
  as_registered zero (suc before) (a ∷ ats) (id ∷ ids) are =
      ap₂ (λ (b : Address) bs. b ∷ bs) (is_address at_flip id a are.0)
      (as_registered 0 (suc before - 1) ats ids are.1
      ∙ ap (λ (n : ℕ). before_and_since now was 0 n ids) (let same : suc before - 1 - 0 ≡ before = omega arith in same))
      ∙ ap (λ (n : ℕ). before_and_since now was 0 n (id ∷ ids)) (let same : suc before ≡ suc before - 0 = omega arith in same)
  as_registered (suc next) before (a ∷ ats) (id ∷ ids) are =
      ap₂ (λ (b : Address) bs. b ∷ bs) (is_address addresses id a are.0)
      (as_registered (suc next - 1) (before - 1) ats ids are.1
      ∙ ap₂ (λ (n m : ℕ). before_and_since now was n m ids) (let same : suc next - 1 ≡ next = omega arith in same)
      (let same : before - 1 - (suc next - 1) ≡ before - suc next = omega arith in same))

  -- what is still to be examined had an address at the flip
  pub lived_then : (next before : ℕ) (ats : List Address) (ids : List Id) → AreRegistered addresses at_flip next before ats ids
      → (position : ℕ) (id : Id) → next ≤ position → position < before → slice_get ids position ≡ Some id
      → (from : Address) × (entry_at at_flip id ≡ Some from)
  lived_then next before [] [] are position id up below e = absurd (none-some id e)
  lived_then next before [] (j ∷ ids) are position id up below e = absurd are
  lived_then next before (a ∷ ats) [] are position id up below e = absurd are
  lived_then zero zero (a ∷ ats) (j ∷ ids) are zero id up below e = absurd (omega (arith, below))
  lived_then zero (suc before) (a ∷ ats) (j ∷ ids) are zero id up below e =
      (a, ap (entry_at at_flip) (sym (same_Some j id e)) ∙ are.0)
  lived_then (suc next) before (a ∷ ats) (j ∷ ids) are zero id up below e = absurd (omega (arith, up))
  lived_then next before (a ∷ ats) (j ∷ ids) are (suc position) id up below e =
      lived_then (next - 1) (before - 1) ats ids are.1 position id (omega (arith, up)) (omega (arith, below)) e

  -- and the other way round, if what is registered is live and what is due lived then
  pub registered_so : (test : Id → Bool) → ((id : Id) → test id ≡ true → (a : Address) × (entry_at addresses id ≡ Some a))
      → (next before : ℕ) (ids : List Id) → list_all test ids ≡ true
      → ((position : ℕ) (id : Id) → next ≤ position → position < before → slice_get ids position ≡ Some id
      → (from : Address) × (entry_at at_flip id ≡ Some from))
      → AreRegistered addresses at_flip next before (registered_by next before ids) ids
  registered_so test live next before [] all lived =
      subst (λ ats. AreRegistered addresses at_flip next before ats []) (sym (none_registered next (before - next))) tt
  registered_so test live zero zero (id ∷ ids) all lived =
      let parts = and_parts (test id) (list_all test ids) all in
      let at = live id parts.0 in (
        at.1 ∙ ap Some (is_address addresses id at.0 at.1),
        registered_so test live 0 0 ids parts.1 (λ position j up below e. absurd (omega (arith, below))),
      )
  registered_so test live zero (suc before) (id ∷ ids) all lived =
      let parts = and_parts (test id) (list_all test ids) all in
      let at = lived 0 id (omega arith) (omega arith) refl in
      let rest = registered_so test live 0 before ids parts.1
      (λ position j up below e. lived (suc position) j (omega arith) (omega (arith, below)) e) in
      subst (λ (n : ℕ). AreRegistered addresses at_flip 0 (suc before) (before_and_since now was 0 n (id ∷ ids)) (id ∷ ids))
      (let same : suc before ≡ suc before - 0 = omega arith in same) (
        at.1 ∙ ap Some (is_address at_flip id at.0 at.1),
        subst (λ (n : ℕ). AreRegistered addresses at_flip 0 n (before_and_since now was 0 before ids) ids)
            (let same : before ≡ suc before - 1 = omega arith in same)
            (subst (λ (n : ℕ). AreRegistered addresses at_flip 0 before (before_and_since now was 0 n ids) ids)
            (let same : before - 0 ≡ before = omega arith in same) rest),
      )
  registered_so test live (suc next) before (id ∷ ids) all lived =
      let parts = and_parts (test id) (list_all test ids) all in
      let at = live id parts.0 in
      let rest = registered_so test live next (before - 1) ids parts.1
      (λ position j up below e. lived (suc position) j (omega (arith, up)) (omega (arith, below)) e) in (
        at.1 ∙ ap Some (is_address addresses id at.0 at.1),
        subst (λ (n : ℕ). AreRegistered addresses at_flip n (before - 1) (before_and_since now was next (before - suc next) ids) ids)
            (let same : next ≡ suc next - 1 = omega arith in same)
            (subst (λ (n : ℕ). AreRegistered addresses at_flip next (before - 1) (before_and_since now was next n ids) ids)
            (let same : before - 1 - next ≡ before - suc next = omega arith in same) rest),
      )
