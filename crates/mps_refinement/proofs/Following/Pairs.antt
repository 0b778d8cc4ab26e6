-- Pairs of dependents by the addresses of their objects: what a search, an end and a new pair are on both sides.
use Rattle.std.proofs.Common.{◌≡◌, ◌∙◌, Bool, true, false, refl, sym, ap, List, [], ◌∷◌, ◌++◌, map, Option, Some, None}
use Rattle.std.proofs.lemmas.Bool.{and_parts, eqb-true, eq-eqb, false≢true}
use Rattle.std.specs.Prelude.{◌==◌, ◌&&◌, ◌||◌, if◌then◌else◌, filter, is_some, not, option_map}
use Rattle.std.specs.List.{find, list_all}
use Rattle.std.specs.Option.{option_map_or}
use Rattle.mps_base.specs.Address.{Address, Id}
use Rattle.mps_dep.specs.State as kept
use Rattle.mps_dep.specs.State.{dependent_of, has_name, is_of, the_pair, with_pair, without_address}
use Rattle.mps_dep.specs.declared.dependents.Pair.{Pair}
use Rattle.mps_model.specs.Dependents.{with_dependent}
use Rattle.mps_model.specs.Graph.{dependent_in, entry_at, with_last, without_holder, without_named}
use Rattle.mps_refinement.specs.Dependents.{AreDependents, kept_pair}
use Rattle.mps_trace_laws.specs.Units.Finals.{address_of_id}

-- ---- tests of addresses and of ids

same_bool : (x y : Bool) → (x ≡ true → y ≡ true) → (y ≡ true → x ≡ true) → x ≡ y
same_bool true y there back = sym (there refl)
same_bool false true there back = back refl
same_bool false false there back = refl

none_of_two : (x y : Bool) → not (x || y) ≡ (not x && not y)
none_of_two true y = refl
none_of_two false y = refl

module _ (addresses : List (Option Address))
    (different : (id other : Id) (at : Address) → entry_at addresses id ≡ Some at → entry_at addresses other ≡ Some at → id ≡ other) where
  -- whether both objects of a pair are live
  abbrev pub is_live_pair : Id × Id → Bool
  is_live_pair p = is_some (entry_at addresses p.0) && is_some (entry_at addresses p.1)

  entry_is : (id : Id) → is_some (entry_at addresses id) ≡ true → entry_at addresses id ≡ Some (address_of_id addresses id)
  entry_is id live = of_entry (entry_at addresses id) live
    where
      of_entry : (o : Option Address) → is_some o ≡ true → o ≡ Some (option_map_or (λ at. at) o 0)
      of_entry None h = absurd (false≢true h)
      of_entry (Some at) h = refl

  -- live objects are told by their addresses
  same_test : (other id : Id) (at : Address) → is_some (entry_at addresses other) ≡ true → entry_at addresses id ≡ Some at
      → (address_of_id addresses other == at) ≡ (other == id)
  same_test other id at live there =
      same_bool (address_of_id addresses other == at) (other == id)
      (λ e. eq-eqb other id
      (different other id at (entry_is other live ∙ ap Some (eqb-true (address_of_id addresses other) at e)) there))
      (λ e. eq-eqb (address_of_id addresses other) at
      (ap (address_of_id addresses) (eqb-true other id e) ∙ ap (λ (o : Option Address). option_map_or (λ a. a) o 0) there))

  -- ---- a search

  pub dependent_is : (ps : List (Id × Id)) (holder : Id) (at : Address) → list_all is_live_pair ps ≡ true
      → entry_at addresses holder ≡ Some at
      → dependent_of (map (kept_pair addresses) ps) at ≡ option_map (address_of_id addresses) (dependent_in ps holder)
  dependent_is [] holder at live there = refl
  dependent_is (p ∷ ps) holder at live there =
      let parts = and_parts (is_live_pair p) (list_all is_live_pair ps) live in
      let first = (and_parts (is_some (entry_at addresses p.0)) (is_some (entry_at addresses p.1)) parts.0).0 in
      ap (λ b. option_map (λ (q : Pair). q.dependent.0)
      (if b then Some (kept_pair addresses p) else find (is_of at) (map (kept_pair addresses) ps)))
      (same_test p.0 holder at first there)
      ∙ of_test (p.0 == holder) (dependent_is ps holder at parts.1 there)
    where
      of_test : (b : Bool) → dependent_of (map (kept_pair addresses) ps) at ≡ option_map (address_of_id addresses) (dependent_in ps holder)
          → option_map (λ (q : Pair). q.dependent.0)
          (if b then Some (kept_pair addresses p) else find (is_of at) (map (kept_pair addresses) ps))
          ≡ option_map (address_of_id addresses) (if b then Some p.1 else dependent_in ps holder)
      of_test true rest = refl
      of_test false rest = rest

  -- ---- pairs that end

  filtered_alike : (keep : Pair → Bool) (test : Id × Id → Bool) (ps : List (Id × Id)) → list_all is_live_pair ps ≡ true
      → ((p : Id × Id) → is_live_pair p ≡ true → keep (kept_pair addresses p) ≡ test p)
      → filter keep (map (kept_pair addresses) ps) ≡ map (kept_pair addresses) (filter test ps)
  filtered_alike keep test [] live same = refl
  filtered_alike keep test (p ∷ ps) live same =
      let parts = and_parts (is_live_pair p) (list_all is_live_pair ps) live in
      ap (λ b. if b then kept_pair addresses p ∷ filter keep (map (kept_pair addresses) ps)
      else filter keep (map (kept_pair addresses) ps)) (same p parts.0)
      ∙ of_test (test p) (filtered_alike keep test ps parts.1 same)
    where
      of_test : (b : Bool) → filter keep (map (kept_pair addresses) ps) ≡ map (kept_pair addresses) (filter test ps)
          → (if b then kept_pair addresses p ∷ filter keep (map (kept_pair addresses) ps)
          else filter keep (map (kept_pair addresses) ps))
          ≡ map (kept_pair addresses) (if b then p ∷ filter test ps else filter test ps)
      of_test true rest = ap (λ qs. kept_pair addresses p ∷ qs) rest
      of_test false rest = rest

  -- those of an object, by its address
  pub ended_are : (ps : List (Id × Id)) (id : Id) (at : Address) → list_all is_live_pair ps ≡ true → entry_at addresses id ≡ Some at
      → without_address (map (kept_pair addresses) ps) at ≡ map (kept_pair addresses) (without_named ps id)
  ended_are ps id at live there =
      filtered_alike (λ p. not (has_name at p)) (λ p. not (p.0 == id) && not (p.1 == id)) ps live (λ p alive.
      let parts = and_parts (is_some (entry_at addresses p.0)) (is_some (entry_at addresses p.1)) alive in
      none_of_two (address_of_id addresses p.0 == at) (address_of_id addresses p.1 == at)
      ∙ ap (λ b. not b && not (address_of_id addresses p.1 == at)) (same_test p.0 id at parts.0 there)
      ∙ ap (λ b. not (p.0 == id) && not b) (same_test p.1 id at parts.1 there))

  -- those of a holder
  pub unlinked_are : (ps : List (Id × Id)) (id : Id) (at : Address) → list_all is_live_pair ps ≡ true → entry_at addresses id ≡ Some at
      → kept.without_holder (map (kept_pair addresses) ps) at ≡ map (kept_pair addresses) (without_holder ps id)
  unlinked_are ps id at live there =
      filtered_alike (λ p. not (is_of at p)) (λ p. not (p.0 == id)) ps live (λ p alive.
      ap not (same_test p.0 id at (and_parts (is_some (entry_at addresses p.0)) (is_some (entry_at addresses p.1)) alive).0 there))

  -- ---- a new pair

  map_last : (ps : List (Id × Id)) (p : Id × Id)
      → map (kept_pair addresses) (with_last ps p) ≡ map (kept_pair addresses) ps ++ kept_pair addresses p ∷ []
  map_last [] p = refl
  map_last (q ∷ ps) p = ap (λ rest. kept_pair addresses q ∷ rest) (map_last ps p)

  pub linked_are : (ps : List (Id × Id)) (holder dependent : Id) (at to : Address) → list_all is_live_pair ps ≡ true
      → entry_at addresses holder ≡ Some at → entry_at addresses dependent ≡ Some to
      → AreDependents addresses (with_pair (map (kept_pair addresses) ps) at to) (with_dependent ps holder dependent)
  linked_are ps holder dependent at to live there other =
      ap (λ (qs : List Pair). qs ++ the_pair at to ∷ []) (unlinked_are ps holder at live there)
      ∙ ap (λ (n : Address). map (kept_pair addresses) (without_holder ps holder) ++ the_pair n to ∷ []) (sym (named holder at there))
      ∙ ap (λ (n : Address). map (kept_pair addresses) (without_holder ps holder)
      ++ the_pair (address_of_id addresses holder) n ∷ []) (sym (named dependent to other))
      ∙ sym (map_last (without_holder ps holder) (holder, dependent))
    where
      named : (id : Id) (a : Address) → entry_at addresses id ≡ Some a → address_of_id addresses id ≡ a
      named id a e = ap (λ (o : Option Address). option_map_or (λ b. b) o 0) e

-- ---- other objects move or are freed

-- pairs of objects that pass a test, if those lie where they lay
pub still_kept : (addresses after : List (Option Address)) (test : Id → Bool)
    → ((id : Id) → test id ≡ true → entry_at after id ≡ entry_at addresses id) → (ps : List (Id × Id))
    → list_all (λ (p : Id × Id). test p.0 && test p.1) ps ≡ true → map (kept_pair after) ps ≡ map (kept_pair addresses) ps
still_kept addresses after test same [] h = refl
still_kept addresses after test same (p ∷ ps) h =
    let parts = and_parts (test p.0 && test p.1) (list_all (λ (q : Id × Id). test q.0 && test q.1) ps) h in
    let both = and_parts (test p.0) (test p.1) parts.0 in
    ap (λ (a : Address). the_pair a (address_of_id after p.1) ∷ map (kept_pair after) ps)
    (ap (λ (o : Option Address). option_map_or (λ at. at) o 0) (same p.0 both.0))
    ∙ ap (λ (a : Address). the_pair (address_of_id addresses p.0) a ∷ map (kept_pair after) ps)
    (ap (λ (o : Option Address). option_map_or (λ at. at) o 0) (same p.1 both.1))
    ∙ ap (λ rest. kept_pair addresses p ∷ rest) (still_kept addresses after test same ps parts.1)
