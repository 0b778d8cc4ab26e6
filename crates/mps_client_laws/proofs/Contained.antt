-- What lists of ids contain: of filtered lists, of lists that are joined, and of the live ids of a world.
use Rattle.std.proofs.Common.{◌≡◌, ◌⊎◌, inl, inr, ℕ, zero, suc, ◌+◌, Bool, true, false, refl, sym, ◌∙◌, ap, subst, List, [], ◌∷◌, ◌++◌, Option, Some, None, arith}
use Rattle.std.proofs.lemmas.Bool.{true≢false, eqb-true, or_cases, or_left, or_right}
use Rattle.std.specs.Prelude.{◌||◌, ◌==◌, if◌then◌else◌, filter, is_some, slice_get}
use Rattle.std.specs.List.{AllByRecursion, flat_map}
use Rattle.mps_model.specs.Graph.{contains, entries, entry_at, is_automatic}
use Rattle.mps_model.specs.World.{World, is_live, live_automatic_ids, live_ids, numbers_of, object_is}

-- ---- filtered lists

pub contains_filtered : (test : ℕ → Bool) (ids : List ℕ) (id : ℕ) → contains ids id ≡ true → test id ≡ true
    → contains (filter test ids) id ≡ true
contains_filtered test [] id h passes = h
contains_filtered test (n ∷ ns) id h passes =
    by_test (λ e. contains_filtered test ns id e passes) (test n) refl (n == id) refl h
  where
    by_test : (contains ns id ≡ true → contains (filter test ns) id ≡ true) → (b : Bool) → test n ≡ b → (e : Bool) → (n == id) ≡ e
        → (e || contains ns id) ≡ true → contains (if b then n ∷ filter test ns else filter test ns) id ≡ true
    by_test later true passed true same h = or_left (n == id) (contains (filter test ns) id) same
    by_test later true passed false same h = or_right (n == id) (contains (filter test ns) id) (later h)
    by_test later false passed true same h =
        absurd (true≢false (sym passes ∙ ap test (sym (eqb-true n id same)) ∙ passed))
    by_test later false passed false same h = later h

-- and the other way round
pub filtered_contains : (test : ℕ → Bool) (ids : List ℕ) (id : ℕ) → contains (filter test ids) id ≡ true
    → (contains ids id ≡ true) × (test id ≡ true)
filtered_contains test [] id h = absurd (true≢false (sym h))
filtered_contains test (n ∷ ns) id h = by_test (filtered_contains test ns id) (test n) refl h
  where
    later : (contains ns id ≡ true) × (test id ≡ true) → (contains (n ∷ ns) id ≡ true) × (test id ≡ true)
    later both = (or_right (n == id) (contains ns id) both.0, both.1)

    by_test : (contains (filter test ns) id ≡ true → (contains ns id ≡ true) × (test id ≡ true)) → (b : Bool) → test n ≡ b
        → contains (if b then n ∷ filter test ns else filter test ns) id ≡ true → (contains (n ∷ ns) id ≡ true) × (test id ≡ true)
    by_test rest true passed h = elim (or_cases (n == id) (contains (filter test ns) id) h) [
      | inl same ↦ (or_left (n == id) (contains ns id) same, ap test (sym (eqb-true n id same)) ∙ passed)
      | inr more ↦ later (rest more)
    ]
    by_test rest false passed h = later (rest h)

pub all_contained : (P : ℕ → Type 0) (ids : List ℕ) (id : ℕ) → AllByRecursion P ids → contains ids id ≡ true → P id
all_contained P [] id all h = absurd (true≢false (sym h))
all_contained P (n ∷ ns) id all h = elim (or_cases (n == id) (contains ns id) h) [
  | inl same ↦ subst P (eqb-true n id same) all.0
  | inr later ↦ all_contained P ns id all.1 later
]

-- ---- lists that are joined

pub either_or : (xs ys : List ℕ) (id : ℕ) → contains (xs ++ ys) id ≡ true → (contains xs id ≡ true) ⊎ (contains ys id ≡ true)
either_or [] ys id h = inr h
either_or (x ∷ xs) ys id h = elim (or_cases (x == id) (contains (xs ++ ys) id) h) [
  | inl same ↦ inl (or_left (x == id) (contains xs id) same)
  | inr later ↦ in_rest (either_or xs ys id later)
]
  where
    in_rest : (contains xs id ≡ true) ⊎ (contains ys id ≡ true) → (contains (x ∷ xs) id ≡ true) ⊎ (contains ys id ≡ true)
    in_rest (inl e) = inl (or_right (x == id) (contains xs id) e)
    in_rest (inr e) = inr e

-- what is in one of several lists is in the list of some entry
pub in_one_list : {X : Type 0} (f : X → List ℕ) (xs : List X) (id : ℕ) → contains (flat_map f xs) id ≡ true
    → (n : ℕ) × (x : X) × (slice_get xs n ≡ Some x) × (contains (f x) id ≡ true)
in_one_list f [] id h = absurd (true≢false (sym h))
in_one_list {X} f (x ∷ xs) id h = elim (either_or (f x) (flat_map f xs) id h) [
  | inl here ↦ (zero, x, refl, here)
  | inr later ↦ next (in_one_list f xs id later)
]
  where
    next : (n : ℕ) × (y : X) × (slice_get xs n ≡ Some y) × (contains (f y) id ≡ true)
        → (n : ℕ) × (y : X) × (slice_get (x ∷ xs) n ≡ Some y) × (contains (f y) id ≡ true)
    next found = (suc found.0, found.1, found.2, found.3)

pub in_one_entry : (xs : List (Option ℕ)) (id : ℕ) → contains (entries xs) id ≡ true → (n : ℕ) × (slice_get xs n ≡ Some (Some id))
in_one_entry [] id h = absurd (true≢false (sym h))
in_one_entry (None ∷ xs) id h = let rest = in_one_entry xs id h in (suc rest.0, rest.1)
in_one_entry (Some m ∷ xs) id h = elim (or_cases (m == id) (contains (entries xs) id) h) [
  | inl same ↦ (zero, ap (λ n. Some (Some n)) (eqb-true m id same))
  | inr later ↦ (let rest = in_one_entry xs id later in (suc rest.0, rest.1))
]

-- ---- live ids

numbered : (xs : List (Option ℕ)) (first id : ℕ) → contains (numbers_of is_some first xs) id ≡ true
    → (i : ℕ) × (id ≡ first + i) × (is_some (entry_at xs i) ≡ true)
numbered [] first id h = absurd (true≢false (sym h))
numbered (None ∷ xs) first id h =
    let rest = numbered xs (first + 1) id h in
    let e = rest.1 in
    (suc rest.0, omega (arith, e), rest.2)
numbered (Some at ∷ xs) first id h = elim (or_cases (first == id) (contains (numbers_of is_some (first + 1) xs) id) h) [
  | inl same ↦ (zero, (let e = eqb-true first id same in omega (arith, e)), refl)
  | inr later ↦ (let rest = numbered xs (first + 1) id later in let e = rest.1 in (suc rest.0, omega (arith, e), rest.2))
]

pub among_is_live : (w : World) (id : ℕ) → contains (live_ids w) id ≡ true → is_live w id ≡ true
among_is_live w id h =
    let found = numbered w.addresses 0 id h in
    let e = found.1 in
    let same : id ≡ found.0 = omega (arith, e) in
    ap (λ n. is_some (entry_at w.addresses n)) same ∙ found.2

pub among_is_live_automatic : (w : World) (id : ℕ) → contains (live_automatic_ids w) id ≡ true
    → (is_live w id ≡ true) × (object_is is_automatic w id ≡ true)
among_is_live_automatic w id h =
    let parts = filtered_contains (object_is is_automatic w) (live_ids w) id h in (among_is_live w id parts.0, parts.1)
