-- A table in which each name stands once.
use Rattle.std.proofs.Common.{◌≡◌, ◌∙◌, ◌<◌, ◌+◌, ℕ, zero, suc, Bool, true, false, refl, sym, ap, List, [], ◌∷◌, ◌++◌, length, get_or, cond, Option, Some, None, arith}
use Rattle.std.specs.Option.{option_or}
use Rattle.std.proofs.lemmas.Iterator.Adapters.{position_from-zero}
use Rattle.std.proofs.lemmas.List.Quantifiers.{position-Some}
use Rattle.std.specs.List.{position, position_from, remove}
use Rattle.std.specs.Map.{lookup, remove_entry}
use Rattle.mps_base.specs.declared.names.Name.{Name}
use Rattle.mps_base.specs.Name.{same_name}
use Rattle.mps_names.specs.Inside.{AreOnce, ChangesAt}
use Rattle.mps_names.proofs.Joined.{flipped, itself, looked_up, or_none, same_is_equal}

-- ---- the first entry with a name

module _ (test : Name → Bool) where
  abbrev passes : Name × ℕ → Bool
  passes e = test e.0

  removed_at : (es : List (Name × ℕ)) (i : ℕ) (d : Name × ℕ) → i < length es → passes (get_or es i d) ≡ true
      → ((k : ℕ) → k < i → passes (get_or es k d) ≡ false)
      → (remove es i ≡ remove_entry test es) × (lookup test es ≡ Some (get_or es i d).1)
  removed_at [] i d within is before = absurd (omega (arith, within))
  removed_at (e ∷ es) zero d within is before =
      (sym (ap (λ b. cond b es (e ∷ remove_entry test es)) is), ap (λ b. cond b (Some e.1) (lookup test es)) is)
  removed_at (e ∷ es) (suc i) d within is before =
      let not_this : test e.0 ≡ false = before 0 (omega arith) in
      let rest = removed_at es i d (omega (arith, within)) is (λ k below. before (suc k) (omega (arith, below))) in (
        ap (λ (l : List (Name × ℕ)). e ∷ l) rest.0 ∙ sym (ap (λ b. cond b es (e ∷ remove_entry test es)) not_this),
        ap (λ b. cond b (Some e.1) (lookup test es)) not_this ∙ rest.1,
      )

  -- the entry at the first position is what is found, and is removed
  pub at_position : (es : List (Name × ℕ)) (i : ℕ) (d : Name × ℕ) → position passes es ≡ Some i
      → (remove es i ≡ remove_entry test es) × (lookup test es ≡ Some (get_or es i d).1)
  at_position es i d found = let at = position-Some passes es i d found in removed_at es i d at.0 at.1 at.2

  passed : (b : Bool) (from : ℕ) (rest : Option ℕ) → cond b (Some from) rest ≡ None → (b ≡ false) × (rest ≡ None)
  passed true from rest none = cc
  passed false from rest none = (refl, none)

  none_from : (es : List (Name × ℕ)) (from : ℕ) → position_from passes from es ≡ None
      → (remove_entry test es ≡ es) × (lookup test es ≡ None)
  none_from [] from none = (refl, refl)
  none_from (e ∷ es) from none =
      let here = passed (passes e) from (position_from passes (from + 1) es) none in
      let rest = none_from es (from + 1) here.1 in (
        ap (λ b. cond b es (e ∷ remove_entry test es)) here.0 ∙ ap (λ (l : List (Name × ℕ)). e ∷ l) rest.0,
        ap (λ b. cond b (Some e.1) (lookup test es)) here.0 ∙ rest.1,
      )

  -- no position: nothing is found, and nothing is removed
  pub no_position : (es : List (Name × ℕ)) → position passes es ≡ None → (remove_entry test es ≡ es) × (lookup test es ≡ None)
  no_position es none = none_from es 0 (sym (position_from-zero passes es) ∙ none)

-- ---- once

none_stays : (test gone : Name → Bool) (es : List (Name × ℕ)) → lookup test es ≡ None → lookup test (remove_entry gone es) ≡ None
none_stays test gone [] none = refl
none_stays test gone (e ∷ es) none = by (test e.0) (gone e.0) refl (none_stays test gone es) none
  where
    by : (a b : Bool) → test e.0 ≡ a → (lookup test es ≡ None → lookup test (remove_entry gone es) ≡ None)
        → cond a (Some e.1) (lookup test es) ≡ None → lookup test (cond b es (e ∷ remove_entry gone es)) ≡ None
    by true b is stays never = absurd cc
    by false true is stays rest = rest
    by false false is stays rest = ap (λ c. cond c (Some e.1) (lookup test (remove_entry gone es))) is ∙ stays rest

module _ (name : Name) where
  pub once_without : (es : List (Name × ℕ)) → AreOnce es → AreOnce (remove_entry (same_name name) es)
  once_without [] once = tt
  once_without (e ∷ es) once = by (same_name name e.0) (once_without es once.1)
    where
      by : (b : Bool) → AreOnce (remove_entry (same_name name) es) → AreOnce (cond b es (e ∷ remove_entry (same_name name) es))
      by true rest = once.1
      by false rest = (none_stays (same_name e.0) (same_name name) es once.0, rest)

  -- another name isn't found at the one that is added
  last_is_none : (other : Name) (n : ℕ) → same_name other name ≡ false
      → lookup {X = ℕ} (same_name other) ((name, n) ∷ []) ≡ None
  last_is_none other n differs = ap (λ b. cond b (Some n) None) differs

  apart_from : (e : Name × ℕ) (es : List (Name × ℕ)) → lookup (same_name name) (e ∷ es) ≡ None
      → (same_name name e.0 ≡ false) × (lookup (same_name name) es ≡ None)
  apart_from e es none = by (same_name name e.0) none
    where
      by : (b : Bool) → cond b (Some e.1) (lookup (same_name name) es) ≡ None → (b ≡ false) × (lookup (same_name name) es ≡ None)
      by true never = absurd cc
      by false rest = (refl, rest)

  or_neither : (o p : Option ℕ) → o ≡ None → p ≡ None → option_or o p ≡ None
  or_neither o p first second = ap (λ q. option_or q p) first ∙ second

  pub once_with : (es : List (Name × ℕ)) (n : ℕ) → AreOnce es → lookup (same_name name) es ≡ None → AreOnce (es ++ (name, n) ∷ [])
  once_with [] n once free = (refl, tt)
  once_with (e ∷ es) n once free =
      let rest = apart_from e es free in
      let last = last_is_none e.0 n (flipped name e.0 rest.0) in (
        looked_up (same_name e.0) es ((name, n) ∷ [])
            ∙ or_neither (lookup (same_name e.0) es) (lookup (same_name e.0) ((name, n) ∷ [])) once.0 last,
        once_with es n once.1 rest.1,
      )

  -- the name that was removed is not found, each other is as before
  removed_here : (es : List (Name × ℕ)) → AreOnce es → lookup (same_name name) (remove_entry (same_name name) es) ≡ None
  removed_here [] once = refl
  removed_here (e ∷ es) once = by (same_name name e.0) refl (removed_here es once.1)
    where
      by : (b : Bool) → same_name name e.0 ≡ b → lookup (same_name name) (remove_entry (same_name name) es) ≡ None
          → lookup (same_name name) (cond b es (e ∷ remove_entry (same_name name) es)) ≡ None
      by true is rest = ap (λ n. lookup (same_name n) es) (same_is_equal name e.0 is) ∙ once.0
      by false is rest = ap (λ c. cond c (Some e.1) (lookup (same_name name) (remove_entry (same_name name) es))) is ∙ rest

  removed_elsewhere : (other : Name) → same_name name other ≡ false → (es : List (Name × ℕ))
      → lookup (same_name other) (remove_entry (same_name name) es) ≡ lookup (same_name other) es
  removed_elsewhere other differs [] = refl
  removed_elsewhere other differs (e ∷ es) = by (same_name name e.0) refl (removed_elsewhere other differs es)
    where
      not_other : same_name name e.0 ≡ true → same_name other e.0 ≡ false
      not_other is = ap (λ n. same_name other n) (sym (same_is_equal name e.0 is)) ∙ flipped name other differs

      by : (b : Bool) → same_name name e.0 ≡ b
          → lookup (same_name other) (remove_entry (same_name name) es) ≡ lookup (same_name other) es
          → lookup (same_name other) (cond b es (e ∷ remove_entry (same_name name) es)) ≡ lookup (same_name other) (e ∷ es)
      by true is rest = sym (ap (λ c. cond c (Some e.1) (lookup (same_name other) es)) (not_other is))
      by false is rest = ap (λ (o : Option ℕ). cond (same_name other e.0) (Some e.1) o) rest

  -- ---- what changes

  pub changed_without : (es : List (Name × ℕ)) → AreOnce es → ChangesAt es (remove_entry (same_name name) es) name None
  changed_without es once = record {
    named = removed_here es once;
    others = λ other differs. removed_elsewhere other differs es;
  }

  pub changed_with : (es : List (Name × ℕ)) (n : ℕ) → lookup (same_name name) es ≡ None
      → ChangesAt es (es ++ (name, n) ∷ []) name (Some n)
  changed_with es n free = record {
    named = looked_up (same_name name) es ((name, n) ∷ [])
        ∙ ap (λ o. option_or o (lookup (same_name name) ((name, n) ∷ []))) free
        ∙ ap (λ b. cond b (Some n) None) (itself name);
    others = λ other differs.
        looked_up (same_name other) es ((name, n) ∷ [])
        ∙ ap (λ o. option_or (lookup (same_name other) es) o) (last_is_none other n (flipped name other differs))
        ∙ or_none (lookup (same_name other) es);
  }
