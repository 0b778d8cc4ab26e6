-- Objects, and what they refer to, after the cells of one of them have changed.
use Rattle.std.proofs.Common.{◌≡◌, ◌∙◌, ◌⊎◌, ℕ, zero, suc, true, refl, sym, ap, List, [], ◌∷◌, map, length, Option, Some, None, subst, inl, inr}
use Rattle.std.proofs.lemmas.Bool.{or_left, cases_eq, eq-eqb}
use Rattle.std.proofs.lemmas.Option.{none-some}
use Rattle.std.specs.Prelude.{◌==◌, slice_get, slice_set}
use Rattle.std.specs.Option.{option_map_or}
use Rattle.mps_base.specs.Address.{Id}
use Rattle.mps_model.specs.Graph.{Graph, Object, Body, Automatic, Manual, Cell, HeadCell, NumberCell, ReferenceCell, contains, entries, target_of_cell, targets_of_cells, targets_of_body, targets_of, targets, object_at, for_object, retargeted, with_target_cell, body_with_cells, object_with_cells, graph_with_cells}
use Rattle.mps_abstract.proofs.Lists.{contains_later, contains_cases, index_below, slice_get-set_same, slice_get-set_other}

-- ---- what cells refer to after one was written

entry_cases : (o : Option ℕ) (ids : List (Option ℕ)) (t : ℕ) → contains (entries (o ∷ ids)) t ≡ true
    → (o ≡ Some t) ⊎ (contains (entries ids) t ≡ true)
entry_cases None ids t h = inr h
entry_cases (Some n) ids t h = elim (contains_cases n (entries ids) t h) [ inl e ↦ inl (ap Some e) | inr e ↦ inr e ]

entry_first : (o : Option ℕ) (ids : List (Option ℕ)) (t : ℕ) → o ≡ Some t → contains (entries (o ∷ ids)) t ≡ true
entry_first o ids t e =
    subst (λ p. contains (entries (p ∷ ids)) t ≡ true) (sym e) (or_left (t == t) (contains (entries ids) t) (eq-eqb t t refl))

entry_later : (o : Option ℕ) (ids : List (Option ℕ)) (t : ℕ) → contains (entries ids) t ≡ true → contains (entries (o ∷ ids)) t ≡ true
entry_later None ids t h = h
entry_later (Some n) ids t h = contains_later n (entries ids) t h

pub targets-set : (cells : List Cell) (k : ℕ) (c : Cell) (t : ℕ) → contains (targets_of_cells (slice_set cells k c)) t ≡ true
    → (target_of_cell c ≡ Some t) ⊎ (contains (targets_of_cells cells) t ≡ true)
targets-set [] k c t h = inr h
targets-set (d ∷ ds) zero c t h = elim (entry_cases (target_of_cell c) (map target_of_cell ds) t h) [
  | inl e ↦ inl e
  | inr e ↦ inr (entry_later (target_of_cell d) (map target_of_cell ds) t e)
]
targets-set (d ∷ ds) (suc k) c t h = elim (entry_cases (target_of_cell d) (map target_of_cell (slice_set ds k c)) t h) [
  | inl e ↦ inr (entry_first (target_of_cell d) (map target_of_cell ds) t e)
  | inr e ↦ elim (targets-set ds k c t e) [ inl n ↦ inl n | inr n ↦ inr (entry_later (target_of_cell d) (map target_of_cell ds) t n) ]
]

target_of_retargeted : (cell : Cell) (target : Option ℕ) (t : ℕ) → target_of_cell (retargeted cell target) ≡ Some t → target ≡ Some t
target_of_retargeted HeadCell target t e = absurd (none-some t e)
target_of_retargeted (NumberCell number) target t e = absurd (none-some t e)
target_of_retargeted (ReferenceCell old tag) target t e = e

targets_written : (cells : List Cell) (k : ℕ) (target : Option ℕ) (t : ℕ) (o : Option Cell)
    → contains (targets_of_cells (option_map_or (λ cell. slice_set cells k (retargeted cell target)) o cells)) t ≡ true
    → (target ≡ Some t) ⊎ (contains (targets_of_cells cells) t ≡ true)
targets_written cells k target t None h = inr h
targets_written cells k target t (Some cell) h = elim (targets-set cells k (retargeted cell target) t h) [
  | inl e ↦ inl (target_of_retargeted cell target t e)
  | inr e ↦ inr e
]

-- a change of cells that gives them this target at the most
pub record Gives (change : List Cell → List Cell) (target : Option ℕ) : Type 0 where
  pub at_most : (cells : List Cell) (t : ℕ) → contains (targets_of_cells (change cells)) t ≡ true
      → (target ≡ Some t) ⊎ (contains (targets_of_cells cells) t ≡ true)

-- a reference is written
pub gives_target : (k : ℕ) (target : Option ℕ) → Gives (λ cells. with_target_cell cells k target) target
gives_target k target = record { at_most = λ cells t h. targets_written cells k target t (slice_get cells k) h }

-- ---- objects after the cells of one of them have changed

of_objects : {A : Type 0} (objects : List Object) (x n : Id) (change : List Cell → List Cell) (f : Object → A) (d : A) (o : Option Object)
    → slice_get objects x ≡ o → ((p : Object) → f (object_with_cells p change) ≡ f p)
    → option_map_or f (slice_get (option_map_or (λ p. slice_set objects x (object_with_cells p change)) o objects) n) d
    ≡ option_map_or f (slice_get objects n) d
of_objects objects x n change f d None e same = refl
of_objects objects x n change f d (Some o) e same = elim (cases_eq x n) [
  | inl is ↦
      ap (λ p. option_map_or f p d)
      (subst (λ m. slice_get (slice_set objects x (object_with_cells o change)) m ≡ Some (object_with_cells o change)) is
      (slice_get-set_same objects x (object_with_cells o change) (index_below objects x o e)))
      ∙ same o
      ∙ ap (λ p. option_map_or f p d) (sym (subst (λ m. slice_get objects m ≡ Some o) is e))
  | inr other ↦ ap (λ p. option_map_or f p d) (slice_get-set_other objects x n (object_with_cells o change) other)
]

-- what doesn't look at cells is as it was
pub for_object-with_cells : {A : Type 0} (g : Graph) (x n : Id) (change : List Cell → List Cell) (f : Object → A) (d : A)
    → ((p : Object) → f (object_with_cells p change) ≡ f p) → for_object (graph_with_cells g x change) n f d ≡ for_object g n f d
for_object-with_cells g x n change f d same = of_objects g.objects x n change f d (object_at g x) refl same

length_changed : (objects : List Object) (x : Id) (change : List Cell → List Cell) (o : Option Object)
    → length (option_map_or (λ p. slice_set objects x (object_with_cells p change)) o objects) ≡ length objects
length_changed objects x change None = refl
length_changed objects x change (Some o) = length-written objects x (object_with_cells o change)
  where
    length-written : (xs : List Object) (i : ℕ) (y : Object) → length (slice_set xs i y) ≡ length xs
    length-written [] i y = refl
    length-written (z ∷ zs) zero y = refl
    length-written (z ∷ zs) (suc i) y = ap suc (length-written zs i y)

-- there are as many objects
pub length-with_cells : (g : Graph) (x : Id) (change : List Cell → List Cell)
    → length (graph_with_cells g x change).objects ≡ length g.objects
length-with_cells g x change = length_changed g.objects x change (object_at g x)

of_body : (change : List Cell → List Cell) (target : Option ℕ) (t : ℕ) (b : Body) → Gives change target
    → contains (targets_of_body (body_with_cells b change)) t ≡ true → (target ≡ Some t) ⊎ (contains (targets_of_body b) t ≡ true)
of_body change target t (Automatic head cells is_weak) g h = g.at_most cells t h
of_body change target t (Manual words) g h = inr h

of_object : (objects : List Object) (x id : Id) (change : List Cell → List Cell) (target : Option ℕ) (t : ℕ) (o : Option Object)
    → slice_get objects x ≡ o → Gives change target
    → contains (option_map_or targets_of
    (slice_get (option_map_or (λ p. slice_set objects x (object_with_cells p change)) o objects) id) []) t ≡ true
    → ((id ≡ x) × (target ≡ Some t)) ⊎ (contains (option_map_or targets_of (slice_get objects id) []) t ≡ true)
of_object objects x id change target t None e g h = inr h
of_object objects x id change target t (Some o) e g h = elim (cases_eq x id) [
  | inl same ↦
      let there : slice_get (slice_set objects x (object_with_cells o change)) id ≡ Some (object_with_cells o change) =
      subst (λ n. slice_get (slice_set objects x (object_with_cells o change)) n ≡ Some (object_with_cells o change)) same
      (slice_get-set_same objects x (object_with_cells o change) (index_below objects x o e)) in
      let before : slice_get objects id ≡ Some o = subst (λ n. slice_get objects n ≡ Some o) same e in
      elim (of_body change target t o.body g (subst (λ p. contains (option_map_or targets_of p []) t ≡ true) there h)) [
        | inl n ↦ inl (sym same, n)
        | inr n ↦ inr (subst (λ p. contains (option_map_or targets_of p []) t ≡ true) (sym before) n)
      ]
  | inr other ↦
      inr (subst (λ p. contains (option_map_or targets_of p []) t ≡ true)
      (slice_get-set_other objects x id (object_with_cells o change) other) h)
]

-- each object refers to what it referred to, and the changed one to one thing more
pub targets-with_cells : (g : Graph) (x id : Id) (change : List Cell → List Cell) (target : Option ℕ) (t : Id) → Gives change target
    → contains (targets (graph_with_cells g x change) id) t ≡ true → ((id ≡ x) × (target ≡ Some t)) ⊎ (contains (targets g id) t ≡ true)
targets-with_cells g x id change target t gives h = of_object g.objects x id change target t (object_at g x) refl gives h
