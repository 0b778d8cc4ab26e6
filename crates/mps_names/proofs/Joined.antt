-- Two lists of names that have none in common, as one.
use Rattle.std.proofs.Common.{◌≡◌, ◌∙◌, ℕ, Bool, true, false, true≢false, refl, sym, ap, List, [], ◌∷◌, ◌++◌, cond, Option, Some, None, IsSome, is_some}
use Rattle.std.specs.Option.{option_or}
use Rattle.std.proofs.lemmas.Slice.Eq.{bytes_eq-Decides}
use Rattle.std.specs.Map.{lookup}
use Rattle.mps_base.specs.declared.names.Name.{Name}
use Rattle.mps_base.specs.Name.{same_name}
use Rattle.mps_names.specs.Inside.{ShareNoName, ChangesAt, found_in}

abbrev name_with : List ℕ → Name
name_with bytes = record { bytes = bytes }

-- names that are the same are equal
pub same_is_equal : (these those : Name) → same_name these those ≡ true → these ≡ those
same_is_equal these those e = ap name_with ((bytes_eq-Decides these.bytes those.bytes).0 e)

pub itself : (name : Name) → same_name name name ≡ true
itself name = (bytes_eq-Decides name.bytes name.bytes).1 refl

pub flipped : (these those : Name) → same_name these those ≡ false → same_name those these ≡ false
flipped these those differs = by (same_name those these) refl
  where
    by : (b : Bool) → same_name those these ≡ b → b ≡ false
    by false e = refl
    by true e =
        absurd (true≢false (sym (ap (λ n. same_name these n) (same_is_equal those these e) ∙ itself these) ∙ differs))

-- what is looked up in two lists
pub looked_up : {X : Type 0} (test : Name → Bool) (these those : List (Name × X))
    → lookup test (these ++ those) ≡ option_or (lookup test these) (lookup test those)
looked_up test [] those = refl
looked_up test (e ∷ es) those = by (test e.0) (looked_up test es those)
  where
    by : (b : Bool) → lookup test (es ++ those) ≡ option_or (lookup test es) (lookup test those)
        → cond b (Some e.1) (lookup test (es ++ those)) ≡ option_or (cond b (Some e.1) (lookup test es)) (lookup test those)
    by true rest = refl
    by false rest = rest

pub or_none : {X : Type 0} (o : Option X) → option_or o None ≡ o
or_none None = refl
or_none (Some x) = refl

pub nothing : {X : Type 0} (o : Option X) → o ≡ None → IsSome o → ⊥
nothing o none some = true≢false (sym some ∙ ap is_some none)

module _ {X : Type 0} (these those : List (Name × X)) (name : Name) where
  -- found in the first, or in the second
  pub found_first : (t : X) → found_in these name ≡ Some t → found_in (these ++ those) name ≡ Some t
  found_first t found = looked_up (same_name name) these those ∙ ap (λ o. option_or o (found_in those name)) found

  pub found_second : found_in these name ≡ None → found_in (these ++ those) name ≡ found_in those name
  found_second none = looked_up (same_name name) these those ∙ ap (λ o. option_or o (found_in those name)) none

  -- what isn't in both is in neither
  pub free_in_first : found_in (these ++ those) name ≡ None → found_in these name ≡ None
  free_in_first free = by (found_in these name) refl
    where
      by : (o : Option X) → found_in these name ≡ o → o ≡ None
      by None e = refl
      by (Some t) e = absurd (nothing (found_in (these ++ those) name) free (ap is_some (found_first t e)))

  pub free_in_second : found_in (these ++ those) name ≡ None → found_in those name ≡ None
  free_in_second free = sym (found_second (free_in_first free)) ∙ free

-- by the same name the same is found
pub same_found : {X : Type 0} (entries : List (Name × X)) (name other : Name) → same_name name other ≡ true
    → found_in entries other ≡ found_in entries name
same_found entries name other same = ap (λ n. found_in entries n) (sym (same_is_equal name other same))

-- ---- a name of the first list is written

module _ {X : Type 0} (old new those : List (Name × X)) (name : Name) (value : Option X) (now : ChangesAt old new name value)
    (not_there : found_in those name ≡ None) where
  pub first_changed : ChangesAt (old ++ those) (new ++ those) name value
  first_changed = record {
    named = looked_up (same_name name) new those ∙ ap (λ o. option_or (found_in new name) o) not_there ∙ or_none (found_in new name)
        ∙ now.named;
    others = λ other differs.
        looked_up (same_name other) new those ∙ ap (λ o. option_or o (found_in those other)) (now.others other differs)
        ∙ sym (looked_up (same_name other) old those);
  }

  pub first_apart : ShareNoName old those → ShareNoName new those
  first_apart apart other there = by (same_name name other) refl
    where
      by : (b : Bool) → same_name name other ≡ b → found_in those other ≡ None
      by true same = same_found those name other same ∙ not_there
      by false differs = apart other (sym (ap is_some (now.others other differs)) ∙ there)

-- ---- a name of the second list is written

module _ {X : Type 0} (these old new : List (Name × X)) (name : Name) (value : Option X) (now : ChangesAt old new name value)
    (not_there : found_in these name ≡ None) where
  pub second_changed : ChangesAt (these ++ old) (these ++ new) name value
  second_changed = record {
    named = found_second these new name not_there ∙ now.named;
    others = λ other differs.
        looked_up (same_name other) these new ∙ ap (λ o. option_or (found_in these other) o) (now.others other differs)
        ∙ sym (looked_up (same_name other) these old);
  }

  pub second_apart : ShareNoName these old → ShareNoName these new
  second_apart apart other there = by (same_name name other) refl
    where
      by : (b : Bool) → same_name name other ≡ b → found_in new other ≡ None
      by true same = absurd (nothing (found_in these other) (same_found these name other same ∙ not_there) there)
      by false differs = now.others other differs ∙ apart other there
