-- Objects in which references were made null: what stays as it was, and what they refer to at the most.
use Rattle.std.proofs.Common.{◌≡◌, ◌∙◌, ℕ, zero, suc, Bool, true, false, refl, sym, ap, List, [], ◌∷◌, map, length, Option, Some, None, inl, inr, subst}
use Rattle.std.proofs.lemmas.Bool.{or_cases, or_left, or_right}
use Rattle.std.specs.Prelude.{◌==◌, ◌≢◌, slice_get, slice_set}
use Rattle.std.specs.Option.{option_map_or}
use Rattle.mps_model.specs.Graph.{Object, Body, Automatic, Manual, Cell, HeadCell, NumberCell, ReferenceCell, contains, entries, object_with_cells, retargeted, size_of, strong_targets_of, target_of_cell, targets_of, targets_of_cells, with_target_cell}
use Rattle.mps_refinement.specs.Following.{CellOf, objects_cleared, objects_nulled}

-- ---- one entry of a list changed

changed_at : {X : Type 0} → List X → ℕ → (X → X) → List X
changed_at [] i f = []
changed_at (x ∷ xs) zero f = f x ∷ xs
changed_at (x ∷ xs) (suc i) f = x ∷ changed_at xs i f

module _ {X : Type 0} where
  written_is : (xs : List X) (i : ℕ) (f : X → X) → option_map_or (λ x. slice_set xs i (f x)) (slice_get xs i) xs ≡ changed_at xs i f
  unfolding changed_at
  written_is [] i f = refl
  written_is (x ∷ xs) zero f = refl
  written_is (x ∷ xs) (suc i) f = later (slice_get xs i) ∙ ap (λ ys. x ∷ ys) (written_is xs i f)
    where
      later : (o : Option X) → option_map_or (λ y. x ∷ slice_set xs i (f y)) o (x ∷ xs) ≡ x ∷ option_map_or (λ y. slice_set xs i (f y)) o xs
      later None = refl
      later (Some y) = refl

  changes_commute : (xs : List X) (i j : ℕ) (f g : X → X) → ((x : X) → g (f x) ≡ f (g x))
      → changed_at (changed_at xs i f) j g ≡ changed_at (changed_at xs j g) i f
  unfolding changed_at
  changes_commute [] i j f g same = refl
  changes_commute (x ∷ xs) zero zero f g same = ap (λ y. y ∷ xs) (same x)
  changes_commute (x ∷ xs) zero (suc j) f g same = refl
  changes_commute (x ∷ xs) (suc i) zero f g same = refl
  changes_commute (x ∷ xs) (suc i) (suc j) f g same = ap (λ ys. x ∷ ys) (changes_commute xs i j f g same)

  -- what the change doesn't show is the same of each entry
  changed_alike : {A : Type 0} (t : X → A) (d : A) (xs : List X) (i n : ℕ) (f : X → X) → ((x : X) → t (f x) ≡ t x)
      → option_map_or t (slice_get (changed_at xs i f) n) d ≡ option_map_or t (slice_get xs n) d
  unfolding changed_at
  changed_alike t d [] i n f same = refl
  changed_alike t d (x ∷ xs) zero zero f same = same x
  changed_alike t d (x ∷ xs) zero (suc n) f same = refl
  changed_alike t d (x ∷ xs) (suc i) zero f same = refl
  changed_alike t d (x ∷ xs) (suc i) (suc n) f same = changed_alike t d xs i n f same

  changed_map : {A : Type 0} (t : X → A) (xs : List X) (i : ℕ) (f : X → X) → ((x : X) → t (f x) ≡ t x)
      → map t (changed_at xs i f) ≡ map t xs
  unfolding changed_at
  changed_map t [] i f same = refl
  changed_map t (x ∷ xs) zero f same = ap (λ a. a ∷ map t xs) (same x)
  changed_map t (x ∷ xs) (suc i) f same = ap (λ rest. t x ∷ rest) (changed_map t xs i f same)

  -- other entries are as they were
  changed_other : (xs : List X) (i n : ℕ) (f : X → X) → i ≢ n → slice_get (changed_at xs i f) n ≡ slice_get xs n
  unfolding changed_at
  changed_other [] i n f other = refl
  changed_other (x ∷ xs) zero zero f other = absurd (other refl)
  changed_other (x ∷ xs) zero (suc n) f other = refl
  changed_other (x ∷ xs) (suc i) zero f other = refl
  changed_other (x ∷ xs) (suc i) (suc n) f other = changed_other xs i n f (λ e. other (ap suc e))

  -- what holds of an entry after a change that gives it to none held of it before
  changed_holds : (Holds : Option X → Type 0) (xs : List X) (i n : ℕ) (f : X → X) → ((x : X) → Holds (Some (f x)) → Holds (Some x))
      → Holds (slice_get (changed_at xs i f) n) → Holds (slice_get xs n)
  unfolding changed_at
  changed_holds Holds [] i n f before h = h
  changed_holds Holds (x ∷ xs) zero zero f before h = before x h
  changed_holds Holds (x ∷ xs) zero (suc n) f before h = h
  changed_holds Holds (x ∷ xs) (suc i) zero f before h = h
  changed_holds Holds (x ∷ xs) (suc i) (suc n) f before h = changed_holds Holds xs i n f before h

-- ---- a reference of an object made null

null_in : (cell : ℕ) → List Cell → List Cell
null_in cell cells = changed_at cells cell (λ c. retargeted c None)

null_in_is : (cell : ℕ) (cells : List Cell) → with_target_cell cells cell None ≡ null_in cell cells
unfolding null_in
null_in_is cell cells = written_is cells cell (λ c. retargeted c None)

pub object_nulled : (cell : ℕ) → Object → Object
object_nulled cell o = object_with_cells o (λ cells. with_target_cell cells cell None)

nulled_is : (os : List Object) (id cell : ℕ) → objects_nulled os id cell ≡ changed_at os id (object_nulled cell)
unfolding object_nulled
nulled_is os id cell = written_is os id (object_nulled cell)

cells_commute : (i j : ℕ) (cells : List Cell)
    → with_target_cell (with_target_cell cells i None) j None ≡ with_target_cell (with_target_cell cells j None) i None
unfolding null_in
cells_commute i j cells =
    ap (λ cs. with_target_cell cs j None) (null_in_is i cells)
    ∙ null_in_is j (null_in i cells)
    ∙ changes_commute cells i j (λ c. retargeted c None) (λ c. retargeted c None) (λ c. refl)
    ∙ sym (ap (λ cs. with_target_cell cs i None) (null_in_is j cells) ∙ null_in_is i (null_in j cells))

objects_commute : (i j : ℕ) (o : Object) → object_nulled j (object_nulled i o) ≡ object_nulled i (object_nulled j o)
unfolding object_nulled
objects_commute i j o = of_body o.pool o.body
  where
    of_body : (pool : ℕ) (b : Body)
        → object_nulled j (object_nulled i (record { pool = pool; body = b }))
        ≡ object_nulled i (object_nulled j (record { pool = pool; body = b }))
    of_body pool (Automatic head cells is_weak) =
        ap (λ (cs : List Cell). let o : Object = record { pool = pool; body = Automatic head cs is_weak } in o) (cells_commute i j cells)
    of_body pool (Manual words) = refl

nulled_commute : (os : List Object) (a i b j : ℕ)
    → objects_nulled (objects_nulled os a i) b j ≡ objects_nulled (objects_nulled os b j) a i
nulled_commute os a i b j =
    ap (λ xs. objects_nulled xs b j) (nulled_is os a i)
    ∙ nulled_is (changed_at os a (object_nulled i)) b j
    ∙ changes_commute os a b (object_nulled i) (object_nulled j) (objects_commute i j)
    ∙ sym (ap (λ xs. objects_nulled xs a i) (nulled_is os b j) ∙ nulled_is (changed_at os b (object_nulled j)) a i)

-- whether a reference is made null before others or after them
pub cleared_later : (os : List Object) (id cell : ℕ) (cs : List CellOf)
    → objects_cleared (objects_nulled os id cell) cs ≡ objects_nulled (objects_cleared os cs) id cell
cleared_later os id cell [] = refl
cleared_later os id cell (c ∷ cs) =
    ap (λ xs. objects_nulled xs c.0 c.1) (cleared_later os id cell cs) ∙ nulled_commute (objects_cleared os cs) id cell c.0 c.1

-- ---- what doesn't look at targets

-- a test of objects that doesn't look at what their cells refer to
pub record IgnoresTargets {A : Type 0} (test : Object → A) : Type 0 where
  pub same : (o : Object) (cell : ℕ) → test (object_nulled cell o) ≡ test o

pub nulled_alike : {A : Type 0} (test : Object → A) (d : A) (os : List Object) (id cell n : ℕ) → IgnoresTargets test
    → option_map_or test (slice_get (objects_nulled os id cell) n) d ≡ option_map_or test (slice_get os n) d
nulled_alike test d os id cell n ignores =
    ap (λ xs. option_map_or test (slice_get xs n) d) (nulled_is os id cell)
    ∙ changed_alike test d os id n (object_nulled cell) (λ o. ignores.same o cell)

pub cleared_alike : {A : Type 0} (test : Object → A) (d : A) (os : List Object) (cs : List CellOf) (n : ℕ) → IgnoresTargets test
    → option_map_or test (slice_get (objects_cleared os cs) n) d ≡ option_map_or test (slice_get os n) d
cleared_alike test d os [] n ignores = refl
cleared_alike test d os (c ∷ cs) n ignores =
    nulled_alike test d (objects_cleared os cs) c.0 c.1 n ignores ∙ cleared_alike test d os cs n ignores

cleared_map : {A : Type 0} (test : Object → A) (os : List Object) (cs : List CellOf) → IgnoresTargets test
    → map test (objects_cleared os cs) ≡ map test os
cleared_map test os [] ignores = refl
cleared_map test os (c ∷ cs) ignores =
    ap (map test) (nulled_is (objects_cleared os cs) c.0 c.1)
    ∙ changed_map test (objects_cleared os cs) c.0 (object_nulled c.1) (λ o. ignores.same o c.1)
    ∙ cleared_map test os cs ignores

length_changed : {X : Type 0} (xs : List X) (i : ℕ) (f : X → X) → length (changed_at xs i f) ≡ length xs
unfolding changed_at
length_changed [] i f = refl
length_changed (x ∷ xs) zero f = refl
length_changed (x ∷ xs) (suc i) f = ap suc (length_changed xs i f)

pub ignores_body : {A : Type 0} (test : Object → A)
    → ((pool head : ℕ) (is_weak : Bool) (cells : List Cell) (cell : ℕ)
    → (let o : Object = record { pool = pool; body = Automatic head (with_target_cell cells cell None) is_weak } in test o)
    ≡ (let o : Object = record { pool = pool; body = Automatic head cells is_weak } in test o))
    → IgnoresTargets test
unfolding object_nulled
ignores_body test same = record { same = λ o cell. of_body o.pool o.body cell }
  where
    of_body : (pool : ℕ) (b : Body) (cell : ℕ)
        → test (object_nulled cell (record { pool = pool; body = b })) ≡ test (record { pool = pool; body = b })
    of_body pool (Automatic head cells is_weak) cell = same pool head is_weak cells cell
    of_body pool (Manual words) cell = refl

null_length : (cells : List Cell) (cell : ℕ) → length (null_in cell cells) ≡ length cells
unfolding null_in
null_length cells cell = length_changed cells cell (λ c. retargeted c None)

pub size_ignores : IgnoresTargets size_of
size_ignores = ignores_body size_of (λ pool head is_weak cells cell. ap length (null_in_is cell cells) ∙ null_length cells cell)

pub cleared_sizes : (os : List Object) (cs : List CellOf) → map size_of (objects_cleared os cs) ≡ map size_of os
cleared_sizes os cs = cleared_map size_of os cs size_ignores

-- ---- what objects refer to

entry_before : (o : Option ℕ) (ids : List (Option ℕ)) (t : ℕ) → contains (entries ids) t ≡ true → contains (entries (o ∷ ids)) t ≡ true
entry_before None ids t h = h
entry_before (Some n) ids t h = or_right (n == t) (contains (entries ids) t) h

first_null : (c : Cell) (ids : List (Option ℕ)) (t : ℕ) → contains (entries (target_of_cell (retargeted c None) ∷ ids)) t ≡ true
    → contains (entries ids) t ≡ true
first_null HeadCell ids t h = h
first_null (NumberCell number) ids t h = h
first_null (ReferenceCell target tag) ids t h = h

same_first : (o : Option ℕ) (ids more : List (Option ℕ)) (t : ℕ)
    → (contains (entries ids) t ≡ true → contains (entries more) t ≡ true)
    → contains (entries (o ∷ ids)) t ≡ true → contains (entries (o ∷ more)) t ≡ true
same_first None ids more t later h = later h
same_first (Some n) ids more t later h = elim (or_cases (n == t) (contains (entries ids) t) h) [
  | inl e ↦ or_left (n == t) (contains (entries more) t) e
  | inr e ↦ or_right (n == t) (contains (entries more) t) (later e)
]

cells_before : (cells : List Cell) (cell t : ℕ) → contains (targets_of_cells (null_in cell cells)) t ≡ true
    → contains (targets_of_cells cells) t ≡ true
unfolding null_in changed_at
cells_before [] cell t h = h
cells_before (c ∷ cs) zero t h =
    entry_before (target_of_cell c) (map target_of_cell cs) t (first_null c (map target_of_cell cs) t h)
cells_before (c ∷ cs) (suc cell) t h =
    same_first (target_of_cell c) (map target_of_cell (null_in cell cs)) (map target_of_cell cs) t (cells_before cs cell t) h

-- a list of targets of an object that takes no more where a reference is null
record ShrinksTo (f : Object → List ℕ) : Type 0 where
  before : (o : Object) (cell t : ℕ) → contains (f (object_nulled cell o)) t ≡ true → contains (f o) t ≡ true

targets_shrink : ShrinksTo targets_of
unfolding object_nulled
targets_shrink = record { before = λ o cell t h. of_body o.pool o.body cell t h }
  where
    of_body : (pool : ℕ) (b : Body) (cell t : ℕ)
        → contains (targets_of (object_nulled cell (record { pool = pool; body = b }))) t ≡ true
        → contains (targets_of (record { pool = pool; body = b })) t ≡ true
    of_body pool (Automatic head cells is_weak) cell t h =
        cells_before cells cell t (subst (λ cs. contains (targets_of_cells cs) t ≡ true) (null_in_is cell cells) h)
    of_body pool (Manual words) cell t h = h

strong_shrink : ShrinksTo strong_targets_of
unfolding object_nulled
strong_shrink = record { before = λ o cell t h. of_body o.pool o.body cell t h }
  where
    of_body : (pool : ℕ) (b : Body) (cell t : ℕ)
        → contains (strong_targets_of (object_nulled cell (record { pool = pool; body = b }))) t ≡ true
        → contains (strong_targets_of (record { pool = pool; body = b })) t ≡ true
    of_body pool (Automatic head cells true) cell t h = h
    of_body pool (Automatic head cells false) cell t h =
        cells_before cells cell t (subst (λ cs. contains (targets_of_cells cs) t ≡ true) (null_in_is cell cells) h)
    of_body pool (Manual words) cell t h = h

shrunk : (f : Object → List ℕ) → ShrinksTo f → (os : List Object) (cs : List CellOf) (n t : ℕ)
    → contains (option_map_or f (slice_get (objects_cleared os cs) n) []) t ≡ true
    → contains (option_map_or f (slice_get os n) []) t ≡ true
shrunk f s os [] n t h = h
shrunk f s os (c ∷ cs) n t h =
    shrunk f s os cs n t
    (changed_holds (λ (o : Option Object). contains (option_map_or f o []) t ≡ true) (objects_cleared os cs) c.0 n (object_nulled c.1)
    (λ o. s.before o c.1 t)
    (subst (λ xs. contains (option_map_or f (slice_get xs n) []) t ≡ true) (nulled_is (objects_cleared os cs) c.0 c.1) h))

-- what an object refers to then, it referred to before
pub cleared_targets : (os : List Object) (cs : List CellOf) (n t : ℕ)
    → contains (option_map_or targets_of (slice_get (objects_cleared os cs) n) []) t ≡ true
    → contains (option_map_or targets_of (slice_get os n) []) t ≡ true
cleared_targets = shrunk targets_of targets_shrink

pub cleared_strong_targets : (os : List Object) (cs : List CellOf) (n t : ℕ)
    → contains (option_map_or strong_targets_of (slice_get (objects_cleared os cs) n) []) t ≡ true
    → contains (option_map_or strong_targets_of (slice_get os n) []) t ≡ true
cleared_strong_targets = shrunk strong_targets_of strong_shrink

-- ---- an object of which no cell was cleared

pub nulled_other : (os : List Object) (id cell n : ℕ) → id ≢ n → slice_get (objects_nulled os id cell) n ≡ slice_get os n
nulled_other os id cell n other =
    ap (λ xs. slice_get xs n) (nulled_is os id cell) ∙ changed_other os id n (object_nulled cell) other
