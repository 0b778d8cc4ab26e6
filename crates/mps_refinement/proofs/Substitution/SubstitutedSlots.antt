-- A transform is applied to the slots of all tables: they then represent the substituted slots.
use Rattle.std.proofs.Common.{◌≡◌, ◌∙◌, ℕ, zero, suc, ◌+◌, refl, sym, ap, subst, List, [], ◌∷◌, length, map, Option, Some, None, IsSome, arith}
use Rattle.std.proofs.lemmas.List.{length-map}
use Rattle.std.specs.Prelude.{count_by, if◌then◌else◌, is_some, sum_by}
use Rattle.std.specs.List.{AllByRecursion, fold}
use Rattle.std.specs.Option.{option_map_or}
use Rattle.mps_base.specs.Address.{Address, Id}
use Rattle.mps_format.specs.Layout.{Layout}
use Rattle.mps_model.specs.Graph.{Slots, entry_at}
use Rattle.mps_model.specs.Making.{length_of}
use Rattle.mps_model.specs.Transforms.{new_for, slots_substituted, target_substituted}
use Rattle.mps_model.specs.World.{TransformPair, World}
use Rattle.mps_root.specs.State.{kept}
use Rattle.mps_xform.specs.Slots.{slot_after_apply, slots_after_apply, table_after_apply}
use Rattle.mps_heap_spec.specs.State.{HeapState}
use Rattle.mps_refinement.specs.Numbering.{AreNumbered, numbers_from}
use Rattle.mps_refinement.specs.StandsFor.{AreParts, AreSlots, Past, address_of_target}
use Rattle.mps_refinement.proofs.Lookups.Found.{mapped_some}
use Rattle.mps_refinement.proofs.Parts.PartsWritten.{AreRoots}
use Rattle.mps_refinement.proofs.Substitution.Replaced.{Goes, IsReplaced, Stays}

-- ---- one slot

module _ (addresses : List (Option Address)) (pairs : List TransformPair) (to : Address → Option Address) (null : to 0 ≡ None)
    (replaces : (id : Id) (at : Address) → entry_at addresses id ≡ Some at → IsReplaced addresses id (new_for pairs id) (to at))
    (dead : (id : Id) → entry_at addresses id ≡ None → new_for pairs id ≡ id) where
  slot_substituted : (target : Option Id)
      → slot_after_apply to (address_of_target addresses target) ≡ address_of_target addresses (target_substituted pairs target)
  slot_substituted None = ap (λ (o : Option Address). option_map_or (λ new. new) o 0) null
  slot_substituted (Some id) = of_entry (entry_at addresses id) refl
    where
      moved_to : (at : Address) (o : Option Address) → entry_at addresses id ≡ Some at → IsReplaced addresses id (new_for pairs id) o
          → option_map_or (λ (new : Address). new) o at ≡ option_map_or (λ (x : Address). x) (entry_at addresses (new_for pairs id)) 0
      moved_to at None there (Stays same) =
          sym (ap (λ (j : Id). option_map_or (λ (x : Address). x) (entry_at addresses j) 0) same
          ∙ ap (λ (o : Option Address). option_map_or (λ (x : Address). x) o 0) there)
      moved_to at (Some new) there (Goes is) = sym (ap (λ (o : Option Address). option_map_or (λ (x : Address). x) o 0) is)

      of_entry : (e : Option Address) → entry_at addresses id ≡ e
          → slot_after_apply to (address_of_target addresses (Some id)) ≡ address_of_target addresses (target_substituted pairs (Some id))
      of_entry None is =
          let zero_is : address_of_target addresses (Some id) ≡ 0 =
          ap (λ (o : Option Address). option_map_or (λ (x : Address). x) o 0) is in
          ap (slot_after_apply to) zero_is ∙ ap (λ (o : Option Address). option_map_or (λ (new : Address). new) o 0) null
          ∙ sym (ap (λ (j : Id). option_map_or (λ (x : Address). x) (entry_at addresses j) 0) (dead id is)
          ∙ ap (λ (o : Option Address). option_map_or (λ (x : Address). x) o 0) is)
      of_entry (Some at) is =
          let at_is : address_of_target addresses (Some id) ≡ at =
          ap (λ (o : Option Address). option_map_or (λ (x : Address). x) o 0) is in
          ap (slot_after_apply to) at_is ∙ moved_to at (to at) is (replaces id at is)

  row_substituted : (ids : Slots)
      → map (slot_after_apply to) (map (address_of_target addresses) ids)
      ≡ map (address_of_target addresses) (map (target_substituted pairs) ids)
  row_substituted [] = refl
  row_substituted (t ∷ ids) =
      ap (λ (x : ℕ). x ∷ map (slot_after_apply to) (map (address_of_target addresses) ids)) (slot_substituted t)
      ∙ ap (λ (xs : List ℕ). address_of_target addresses (target_substituted pairs t) ∷ xs) (row_substituted ids)

-- ---- tables

kept_mapped : (to : Address → Option Address) (tables : List (Option (List ℕ))) (key : ℕ)
    → kept (map (table_after_apply to) tables) key ≡ table_after_apply to (kept tables key)
kept_mapped to [] key = refl
kept_mapped to (t ∷ ts) zero = refl
kept_mapped to (t ∷ ts) (suc key) = kept_mapped to ts key

entry_mapped : (pairs : List TransformPair) (tables : List (Option Slots)) (n : ℕ)
    → entry_at (map (slots_substituted pairs) tables) n ≡ slots_substituted pairs (entry_at tables n)
entry_mapped pairs [] n = refl
entry_mapped pairs (t ∷ ts) zero = refl
entry_mapped pairs (t ∷ ts) (suc n) = entry_mapped pairs ts n

some_mapped : (to : Address → Option Address) (o : Option (List ℕ)) → IsSome o → IsSome (table_after_apply to o)
some_mapped to None some = some
some_mapped to (Some slots) some = refl

numbers_mapped : (pairs : List TransformPair) (first : ℕ) (tables : List (Option Slots))
    → numbers_from first (map (slots_substituted pairs) tables) ≡ numbers_from first tables
numbers_mapped pairs first [] = refl
numbers_mapped pairs first (None ∷ ts) = numbers_mapped pairs (first + 1) ts
numbers_mapped pairs first (Some ids ∷ ts) = ap (λ (ns : List ℕ). first ∷ ns) (numbers_mapped pairs (first + 1) ts)

-- a sum over tables stays where each counts as much
same_sum : (weight : Option Slots → ℕ) (change : Option Slots → Option Slots) → ((t : Option Slots) → weight (change t) ≡ weight t)
    → (n : ℕ) (tables : List (Option Slots))
    → fold (λ (a : ℕ) (t : Option Slots). a + weight t) n (map change tables) ≡ fold (λ (a : ℕ) (t : Option Slots). a + weight t) n tables
same_sum weight change same n [] = refl
same_sum weight change same n (t ∷ ts) =
    ap (λ (k : ℕ). fold (λ (a : ℕ) (u : Option Slots). a + weight u) (n + k) (map change ts)) (same t)
    ∙ same_sum weight change same (n + weight t) ts

abbrev one_each : Option Slots → ℕ
one_each t = if is_some t then 1 else 0

count_mapped : (pairs : List TransformPair) (tables : List (Option Slots))
    → count_by is_some (map (slots_substituted pairs) tables) ≡ count_by is_some tables
count_mapped pairs tables = same_sum one_each (slots_substituted pairs) each 0 tables
  where
    each : (t : Option Slots) → one_each (slots_substituted pairs t) ≡ one_each t
    each None = refl
    each (Some ids) = refl

slots_mapped : (pairs : List TransformPair) (tables : List (Option Slots))
    → sum_by length_of (map (slots_substituted pairs) tables) ≡ sum_by length_of tables
slots_mapped pairs tables = same_sum length_of (slots_substituted pairs) each 0 tables
  where
    each : (t : Option Slots) → length_of (slots_substituted pairs t) ≡ length_of t
    each None = refl
    each (Some ids) = length-map ids (target_substituted pairs)

all_kept_mapped : (to : Address → Option Address) (tables : List (Option (List ℕ))) (keys : List ℕ)
    → AllByRecursion (λ key. IsSome (kept tables key)) keys
    → AllByRecursion (λ key. IsSome (kept (map (table_after_apply to) tables) key)) keys
all_kept_mapped to tables [] all = tt
all_kept_mapped to tables (key ∷ keys) all = (
  subst (λ (o : Option (List ℕ)). IsSome o) (sym (kept_mapped to tables key)) (some_mapped to (kept tables key) all.0),
  all_kept_mapped to tables keys all.1,
)

module _ {F : Type 0} (layout : F → Layout) (past : Past) (h : HeapState F) (w : World) (parts : AreParts layout past h w)
    (pairs : List TransformPair) (to : Address → Option Address) (null : to 0 ≡ None)
    (replaces : (id : Id) (at : Address) → entry_at w.addresses id ≡ Some at → IsReplaced w.addresses id (new_for pairs id) (to at))
    (dead : (id : Id) → entry_at w.addresses id ≡ None → new_for pairs id ≡ id) where
  abbrev ours : List (Option (List ℕ))
  ours = map (table_after_apply to) h.roots.tables

  abbrev theirs : List (Option Slots)
  theirs = map (slots_substituted pairs) w.graph.tables

  was_kept : (key : ℕ) (a : List ℕ) → kept ours key ≡ Some a
      → (slots : List ℕ) × (kept h.roots.tables key ≡ Some slots) × (map (slot_after_apply to) slots ≡ a)
  was_kept key a is =
      mapped_some (λ (slots : List ℕ). map (slot_after_apply to) slots) (kept h.roots.tables key) a
      (sym (kept_mapped to h.roots.tables key) ∙ is)

  numbered : AreNumbered (AreSlots w.addresses) past.table_number (kept ours) theirs
  numbered = record {
    there = λ key a is.
        let old = was_kept key a is in
        let found = parts.tables.there key old.0 old.1 in (
          map (target_substituted pairs) found.0,
          entry_mapped pairs w.graph.tables (past.table_number key) ∙ ap (slots_substituted pairs) found.1,
          sym old.2 ∙ ap (map (slot_after_apply to)) found.2 ∙ row_substituted w.addresses pairs to null replaces dead found.0,
        );
    apart = λ key other a b is also.
        let one = was_kept key a is in
        let two = was_kept other b also in parts.tables.apart key other one.0 two.0 one.1 two.1;
    complete = λ n b is.
        let old = mapped_some (map (target_substituted pairs)) (entry_at w.graph.tables n) b
        (sym (entry_mapped pairs w.graph.tables n) ∙ is) in
        let key = parts.tables.complete n old.0 old.1 in
        record {
          key = key.key;
          value = map (slot_after_apply to) key.value;
          there = kept_mapped to h.roots.tables key.key ∙ ap (table_after_apply to) key.there;
          numbered = key.numbered;
        };
  }

  still_some : (key : ℕ) → IsSome (kept h.roots.tables key) → IsSome (kept ours key)
  still_some key some =
      subst (λ (o : Option (List ℕ)). IsSome o) (sym (kept_mapped to h.roots.tables key)) (some_mapped to (kept h.roots.tables key) some)

  pub roots_substituted : AreRoots layout past h w parts (slots_after_apply to h.roots) theirs w.graph.areas w.graph.blocks
  roots_substituted = record {
    tables_are = numbered;
    ordered = record {
      numbers = parts.ordered.numbers ∙ sym (numbers_mapped pairs 0 w.graph.tables);
      kept_there = all_kept_mapped to h.roots.tables h.roots.order parts.ordered.kept_there;
    };
    areas_are = parts.areas;
    blocks_are = parts.blocks;
    roots_counted = let e = count_mapped pairs w.graph.tables in
        ap (λ (n : ℕ). n + count_by is_some w.graph.areas + length w.graph.blocks) e;
    slots_counted = let e = slots_mapped pairs w.graph.tables in
        ap (λ (n : ℕ). n + sum_by length_of w.graph.areas + sum_by length w.graph.blocks) e;
    framed_are = parts.framed;
    stay = record {
      pools = λ n low. low;
      caches = omega arith;
      tables = still_some;
      areas = λ key some. some;
      blocks = λ n low. low;
      points = λ key some. some;
      dependencies = λ n low. low;
      chains = λ n low. low;
      transforms = refl;
    };
  }
