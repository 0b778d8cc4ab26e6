-- Things by their numbers, and lists of names that represent different things: what is left of them once one is made or dropped.
use Rattle.std.proofs.Common.{◌≡◌, ◌∙◌, ℕ, zero, suc, Bool, true, false, refl, sym, ap, List, [], ◌∷◌, length, map, Option, Some, arith}
use Rattle.std.proofs.lemmas.Bool.{false≢true, true≢false, and_parts, and_from, eqb-true, eq-eqb, ltb-true, lt-ltb, le-ltb}
use Rattle.std.proofs.lemmas.Option.{none-some, same_Some}
use Rattle.std.specs.Prelude.{if◌then◌else◌, is_some, nat_lt, not, slice_get, slice_set}
use Rattle.std.specs.List.{list_all}
use Rattle.std.specs.Option.{option_map_or}
use Rattle.mps_base.specs.Name.{same_name}
use Rattle.mps_base.specs.declared.names.Name.{Name}
use Rattle.mps_model.specs.Graph.{NamedThing, Thing, ChainThing, PoolThing, TableThing, AreaThing, BlocksThing, PointThing, DependencyThing, TransformThing, CacheThing, LabelThing, entry_at, thing_in, with_last, without_name}
use Rattle.mps_model.specs.WellFormed.{are_all_different, are_different, same_thing}
use Rattle.mps_laws.proofs.Lookups.{entry_at-set_other, length-with_last, slice_get-set_other}

-- ---- things by number

pub some_more : {X : Type 0} (xs : List (Option X)) (x : Option X) (n : ℕ) → is_some (entry_at xs n) ≡ true
    → is_some (entry_at (with_last xs x) n) ≡ true
some_more [] x n h = absurd (false≢true h)
some_more (y ∷ ys) x zero h = h
some_more (y ∷ ys) x (suc n) h = some_more ys x n h

pub some_set : {X : Type 0} (xs : List (Option X)) (i n : ℕ) (x : X) → is_some (entry_at xs n) ≡ true
    → is_some (entry_at (slice_set xs i (Some x)) n) ≡ true
some_set [] i n x h = h
some_set (y ∷ ys) zero zero x h = refl
some_set (y ∷ ys) zero (suc n) x h = h
some_set (y ∷ ys) (suc i) zero x h = h
some_set (y ∷ ys) (suc i) (suc n) x h = some_set ys i n x h

pub some_other : {X : Type 0} (xs : List (Option X)) (i n : ℕ) (x : Option X) → (n ≡ i → ⊥) → is_some (entry_at xs n) ≡ true
    → is_some (entry_at (slice_set xs i x) n) ≡ true
some_other xs i n x other h = ap is_some (entry_at-set_other xs i n x (λ e. other (sym e))) ∙ h

pub some_mapped : {X : Type 0} (f : Option X → Option X) → ((o : Option X) → is_some (f o) ≡ is_some o) → (xs : List (Option X)) (n : ℕ)
    → is_some (entry_at (map f xs) n) ≡ is_some (entry_at xs n)
some_mapped f keeps [] n = refl
some_mapped f keeps (y ∷ ys) zero = keeps y
some_mapped f keeps (y ∷ ys) (suc n) = some_mapped f keeps ys n

pub none_past : {X : Type 0} (xs : List (Option X)) → is_some (entry_at xs (length xs)) ≡ false
none_past [] = refl
none_past (y ∷ ys) = none_past ys

-- whether there is a transform of this number
abbrev pub is_kept : List Bool → (number : ℕ) → Bool
is_kept flags number = option_map_or (λ kept. kept) (slice_get flags number) false

pub kept_more : (flags : List Bool) (flag : Bool) (n : ℕ) → is_kept flags n ≡ true → is_kept (with_last flags flag) n ≡ true
kept_more [] flag n h = absurd (false≢true h)
kept_more (f ∷ fs) flag zero h = h
kept_more (f ∷ fs) flag (suc n) h = kept_more fs flag n h

pub kept_other : (flags : List Bool) (i n : ℕ) (flag : Bool) → (n ≡ i → ⊥) → is_kept flags n ≡ true
    → is_kept (slice_set flags i flag) n ≡ true
kept_other flags i n flag other h =
    ap (λ o. option_map_or (λ kept. kept) o false) (slice_get-set_other flags i n flag (λ e. other (sym e))) ∙ h

pub none_kept_past : (flags : List Bool) → is_kept flags (length flags) ≡ false
none_kept_past [] = refl
none_kept_past (f ∷ fs) = none_kept_past fs

pub below_more : {X : Type 0} (xs : List X) (x : X) (n : ℕ) → nat_lt n (length xs) ≡ true → nat_lt n (length (with_last xs x)) ≡ true
below_more xs x n h =
    let low = ltb-true n (length xs) h in
    let more = length-with_last xs x in
    lt-ltb n (length (with_last xs x)) (omega (arith, low, more))

pub below_last : {X : Type 0} (xs : List X) (x : X) → nat_lt (length xs) (length (with_last xs x)) ≡ true
below_last xs x = let more = length-with_last xs x in lt-ltb (length xs) (length (with_last xs x)) (omega (arith, more))

pub not_below_itself : (n : ℕ) → nat_lt n n ≡ false
not_below_itself n = le-ltb n n (omega arith)

pub as_many : (n here there : ℕ) → there ≡ here → nat_lt n here ≡ true → nat_lt n there ≡ true
as_many n here there same h = ap (nat_lt n) same ∙ h

-- ---- the same things

same_thing_equal : (s t : Thing) → same_thing s t ≡ true → s ≡ t
same_thing_equal (ChainThing n) (ChainThing m) h = ap ChainThing (eqb-true n m h)
same_thing_equal (PoolThing n) (PoolThing m) h = ap PoolThing (eqb-true n m h)
same_thing_equal (TableThing n) (TableThing m) h = ap TableThing (eqb-true n m h)
same_thing_equal (AreaThing n) (AreaThing m) h = ap AreaThing (eqb-true n m h)
same_thing_equal (BlocksThing n) (BlocksThing m) h = ap BlocksThing (eqb-true n m h)
same_thing_equal (PointThing n) (PointThing m) h = ap PointThing (eqb-true n m h)
same_thing_equal (DependencyThing n) (DependencyThing m) h = ap DependencyThing (eqb-true n m h)
same_thing_equal (TransformThing n) (TransformThing m) h = ap TransformThing (eqb-true n m h)
same_thing_equal (CacheThing n) (CacheThing m) h = ap CacheThing (eqb-true n m h)
same_thing_equal (LabelThing n) (LabelThing m) h = ap LabelThing (eqb-true n m h)
same_thing_equal _ _ h = absurd (false≢true h)

same_thing_itself : (t : Thing) → same_thing t t ≡ true
same_thing_itself (ChainThing n) = eq-eqb n n refl
same_thing_itself (PoolThing n) = eq-eqb n n refl
same_thing_itself (TableThing n) = eq-eqb n n refl
same_thing_itself (AreaThing n) = eq-eqb n n refl
same_thing_itself (BlocksThing n) = eq-eqb n n refl
same_thing_itself (PointThing n) = eq-eqb n n refl
same_thing_itself (DependencyThing n) = eq-eqb n n refl
same_thing_itself (TransformThing n) = eq-eqb n n refl
same_thing_itself (CacheThing n) = eq-eqb n n refl
same_thing_itself (LabelThing n) = eq-eqb n n refl

-- different names represent different things
things_differ : (m n : NamedThing) → are_different m n ≡ true → m.thing ≡ n.thing → ⊥
things_differ m n h same =
    let parts = and_parts (not (same_name m.name n.name)) (not (same_thing m.thing n.thing)) h in
    true≢false (sym parts.1 ∙ ap not (ap (same_thing m.thing) (sym same) ∙ same_thing_itself m.thing))

-- ---- lists of names

pub each_last : {X : Type 0} (test : X → Bool) (xs : List X) (x : X) → list_all test xs ≡ true → test x ≡ true
    → list_all test (with_last xs x) ≡ true
each_last test [] x h one = and_from (test x) true one refl
each_last test (y ∷ ys) x h one =
    let parts = and_parts (test y) (list_all test ys) h in
    and_from (test y) (list_all test (with_last ys x)) parts.0 (each_last test ys x parts.1 one)

each_left : (test : NamedThing → Bool) (ns : List NamedThing) (name : Name) → list_all test ns ≡ true
    → list_all test (without_name ns name) ≡ true
each_left test [] name h = refl
each_left test (n ∷ ns) name h =
    let parts = and_parts (test n) (list_all test ns) h in
    elim (same_name n.name name) as (λ b. list_all test (if b then ns else n ∷ without_name ns name) ≡ true) [
      | true ↦ parts.1
      | false ↦ and_from (test n) (list_all test (without_name ns name)) parts.0 (each_left test ns name parts.1)
    ]

abbrev pub AllThere : (Thing → Bool) → List NamedThing → Type 0
AllThere there ns = list_all (λ (n : NamedThing). there n.thing) ns ≡ true

-- a new name of a new thing differs from those that there are
pub made_different : (there : Thing → Bool) (name : Name) (thing : Thing) (ns : List NamedThing) → is_some (thing_in ns name) ≡ false
    → there thing ≡ false → AllThere there ns → are_all_different ns ≡ true
    → are_all_different (with_last ns (record { name = name; thing = thing })) ≡ true
made_different there name thing [] free new all h = refl
made_different there name thing (m ∷ ms) free new all h =
    let made : NamedThing = record { name = name; thing = thing } in
    let all_parts = and_parts (there m.thing) (list_all (λ (n : NamedThing). there n.thing) ms) all in
    let parts = and_parts (list_all (are_different m) ms) (are_all_different ms) h in
    let names = other_name (same_name m.name name) refl free in
    and_from (list_all (are_different m) (with_last ms made)) (are_all_different (with_last ms made))
    (each_last (are_different m) ms made parts.0
    (and_from (not (same_name m.name name)) (not (same_thing m.thing thing)) (ap not names.0)
    (ap not (other_thing all_parts.0 (same_thing m.thing thing) refl))))
    (made_different there name thing ms names.1 new all_parts.1 parts.1)
  where
    other_name : (b : Bool) → same_name m.name name ≡ b → is_some (if b then Some m.thing else thing_in ms name) ≡ false
        → (same_name m.name name ≡ false) × (is_some (thing_in ms name) ≡ false)
    other_name true e f = absurd (true≢false f)
    other_name false e f = (e, f)

    other_thing : there m.thing ≡ true → (b : Bool) → same_thing m.thing thing ≡ b → same_thing m.thing thing ≡ false
    other_thing is false e = e
    other_thing is true e = absurd (true≢false (sym is ∙ (ap there (same_thing_equal m.thing thing e) ∙ new)))

-- the thing of a name differs from the things of other names
found_differs : (n : NamedThing) (ns : List NamedThing) (name : Name) (thing : Thing) → list_all (are_different n) ns ≡ true
    → thing_in ns name ≡ Some thing → n.thing ≡ thing → ⊥
found_differs n [] name thing h found same = none-some thing found
found_differs n (m ∷ ms) name thing h found same =
    let parts = and_parts (are_different n m) (list_all (are_different n) ms) h in
    of_name parts.0 (found_differs n ms name thing parts.1) (same_name m.name name) found
  where
    of_name : are_different n m ≡ true → (thing_in ms name ≡ Some thing → n.thing ≡ thing → ⊥) → (b : Bool)
        → (if b then Some m.thing else thing_in ms name) ≡ Some thing → ⊥
    of_name differ later true e = things_differ n m differ (same ∙ sym (same_Some m.thing thing e))
    of_name differ later false e = later e same

pub dropped_there : (there still : Thing → Bool) (thing : Thing) → ((t : Thing) → (t ≡ thing → ⊥) → there t ≡ true → still t ≡ true)
    → (ns : List NamedThing) (name : Name) → thing_in ns name ≡ Some thing → are_all_different ns ≡ true → AllThere there ns
    → AllThere still (without_name ns name)
dropped_there there still thing keeps [] name found h all = refl
dropped_there there still thing keeps (n ∷ ns) name found h all =
    let all_parts = and_parts (there n.thing) (list_all (λ (m : NamedThing). there m.thing) ns) all in
    let parts = and_parts (list_all (are_different n) ns) (are_all_different ns) h in
    of_name parts.0 all_parts.0 all_parts.1
    (λ f. dropped_there there still thing keeps ns name f parts.1 all_parts.1) (same_name n.name name) found
  where
    of_name : list_all (are_different n) ns ≡ true → there n.thing ≡ true → AllThere there ns
        → (thing_in ns name ≡ Some thing → AllThere still (without_name ns name)) → (b : Bool)
        → (if b then Some n.thing else thing_in ns name) ≡ Some thing → AllThere still (if b then ns else n ∷ without_name ns name)
    of_name differ one rest later true e = others ns differ rest
      where
        others : (ms : List NamedThing) → list_all (are_different n) ms ≡ true → AllThere there ms → AllThere still ms
        others [] d a = refl
        others (m ∷ ms) d a =
            let d_parts = and_parts (are_different n m) (list_all (are_different n) ms) d in
            let a_parts = and_parts (there m.thing) (list_all (λ (x : NamedThing). there x.thing) ms) a in
            and_from (still m.thing) (list_all (λ (x : NamedThing). still x.thing) ms)
            (keeps m.thing (λ same. things_differ n m d_parts.0 (same_Some n.thing thing e ∙ sym same)) a_parts.0)
            (others ms d_parts.1 a_parts.1)
    of_name differ one rest later false e =
        and_from (still n.thing) (list_all (λ (m : NamedThing). still m.thing) (without_name ns name))
        (keeps n.thing (found_differs n ns name thing differ e) one) (later e)

pub dropped_different : (ns : List NamedThing) (name : Name) → are_all_different ns ≡ true → are_all_different (without_name ns name) ≡ true
dropped_different [] name h = refl
dropped_different (n ∷ ns) name h =
    let parts = and_parts (list_all (are_different n) ns) (are_all_different ns) h in
    elim (same_name n.name name) as (λ b. are_all_different (if b then ns else n ∷ without_name ns name) ≡ true) [
      | true ↦ parts.1
      | false ↦
          and_from (list_all (are_different n) (without_name ns name)) (are_all_different (without_name ns name))
          (each_left (are_different n) ns name parts.0) (dropped_different ns name parts.1)
    ]
