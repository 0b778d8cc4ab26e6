-- One of the three tables is written, or none.
use Rattle.std.proofs.Common.{◌≡◌, ◌∙◌, ◌≤◌, ℕ, refl, sym, ap, List, ◌++◌, Option, Some, None, is_some, arith}
use Rattle.std.proofs.lemmas.Map.Made.{lookup-map_values}
use Rattle.std.specs.Prelude.{option_map, option_and_then}
use Rattle.mps_base.specs.declared.names.Name.{Name}
use Rattle.mps_base.specs.Name.{same_name}
use Rattle.mps_names.specs.State.{as_cache, as_label}
use Rattle.mps_names.specs.declared.names.Thing.{Thing}
use Rattle.mps_names.specs.Inside.{AreTables, ChangesAt, NumbersState, cache, found_in, label, of_kind, state_of_tables, transform}
use Rattle.mps_names.proofs.Joined.{first_apart, first_changed, found_first, found_second, free_in_first, free_in_second, second_apart, second_changed}

-- ---- a table as things of a kind

module _ (kind : ℕ → Thing) where
  pub of_kind_in : (es : List (Name × ℕ)) (name : Name) → found_in (of_kind kind es) name ≡ option_map kind (found_in es name)
  of_kind_in es name = lookup-map_values kind (same_name name) es

  pub kind_found : (es : List (Name × ℕ)) (name : Name) (o : Option ℕ) → found_in es name ≡ o
      → found_in (of_kind kind es) name ≡ option_map kind o
  kind_found es name o is = of_kind_in es name ∙ ap (λ found. option_map kind found) is

  kind_free : (es : List (Name × ℕ)) (name : Name) → found_in (of_kind kind es) name ≡ None → found_in es name ≡ None
  kind_free es name free = by (found_in es name) refl
    where
      by : (o : Option ℕ) → found_in es name ≡ o → o ≡ None
      by None is = refl
      by (Some n) is = let never : Some (kind n) ≡ None = sym (kind_found es name (Some n) is) ∙ free in absurd cc

  kind_changed : (old new : List (Name × ℕ)) (name : Name) (o : Option ℕ) → ChangesAt old new name o
      → ChangesAt (of_kind kind old) (of_kind kind new) name (option_map kind o)
  kind_changed old new name o now = record {
    named = kind_found new name o now.named;
    others = λ other differs.
        of_kind_in new other ∙ ap (λ found. option_map kind found) (now.others other differs) ∙ sym (of_kind_in old other);
  }

pub no_less : (m n : ℕ) → m ≡ n → n ≤ m
no_less m n same = omega (arith, same)

-- ---- three tables

abbrev pub entries_of : (labels caches transforms : NumbersState) → List (Name × Thing)
entries_of labels caches transforms = (state_of_tables labels caches transforms).entries

-- these are the tables afterwards, in which a name has this thing, or none
pub record Written (entries : List (Name × Thing)) (labels caches transforms : NumbersState) (name : Name) (thing : Option Thing) :
    Type 0 where
  pub changed : ChangesAt entries (entries_of labels caches transforms) name thing
  pub are : AreTables labels caches transforms

module _ (l c t : NumbersState) (are : AreTables l c t) (name : Name) where
  abbrev labelled : List (Name × Thing)
  labelled = of_kind label l.entries

  abbrev cached : List (Name × Thing)
  cached = of_kind cache c.entries

  abbrev transformed : List (Name × Thing)
  transformed = of_kind transform t.entries

  abbrev all : List (Name × Thing)
  all = entries_of l c t

  -- ---- where a name is found

  pub label_found : (n : ℕ) → found_in l.entries name ≡ Some n → found_in all name ≡ Some (label n)
  label_found n is = found_first labelled (cached ++ transformed) name (label n) (kind_found label l.entries name (Some n) is)

  module _ (no_label : found_in l.entries name ≡ None) where
    past_labels : found_in all name ≡ found_in (cached ++ transformed) name
    past_labels = found_second labelled (cached ++ transformed) name (kind_found label l.entries name None no_label)

    pub cache_found : (n : ℕ) → found_in c.entries name ≡ Some n → found_in all name ≡ Some (cache n)
    cache_found n is =
        past_labels ∙ found_first cached transformed name (cache n) (kind_found cache c.entries name (Some n) is)

    pub else_found : (o : Option ℕ) → found_in c.entries name ≡ None → found_in t.entries name ≡ o
        → found_in all name ≡ option_map transform o
    else_found o no_cache is =
        past_labels ∙ found_second cached transformed name (kind_found cache c.entries name None no_cache)
        ∙ kind_found transform t.entries name o is

  -- the label that has a name is found among the labels alone
  pub label_is : option_and_then as_label (found_in all name) ≡ found_in l.entries name
  label_is = by (found_in l.entries name) (found_in c.entries name) (found_in t.entries name) refl refl refl
    where
      by : (o p q : Option ℕ) → found_in l.entries name ≡ o → found_in c.entries name ≡ p → found_in t.entries name ≡ q
          → option_and_then as_label (found_in all name) ≡ found_in l.entries name
      by (Some n) p q is its other = ap (option_and_then as_label) (label_found n is) ∙ sym is
      by None (Some n) q none is other = ap (option_and_then as_label) (cache_found none n is) ∙ sym none
      by None None None none no_cache is = ap (option_and_then as_label) (else_found none None no_cache is) ∙ sym none
      by None None (Some n) none no_cache is = ap (option_and_then as_label) (else_found none (Some n) no_cache is) ∙ sym none

  -- the cache that has a name is found among the caches alone
  pub cache_is : option_and_then as_cache (found_in all name) ≡ found_in c.entries name
  cache_is = by (found_in l.entries name) (found_in c.entries name) (found_in t.entries name) refl refl refl
    where
      by : (o p q : Option ℕ) → found_in l.entries name ≡ o → found_in c.entries name ≡ p → found_in t.entries name ≡ q
          → option_and_then as_cache (found_in all name) ≡ found_in c.entries name
      by (Some n) p q is other last =
          let past = are.labels_apart name (ap is_some (kind_found label l.entries name (Some n) is)) in
          ap (option_and_then as_cache) (label_found n is)
          ∙ sym (kind_free cache c.entries name (free_in_first cached transformed name past))
      by None (Some n) q none is last = ap (option_and_then as_cache) (cache_found none n is) ∙ sym is
      by None None None none no_cache is = ap (option_and_then as_cache) (else_found none None no_cache is) ∙ sym no_cache
      by None None (Some n) none no_cache is = ap (option_and_then as_cache) (else_found none (Some n) no_cache is) ∙ sym no_cache

  -- ---- a free name is free in each

  module _ (free : found_in all name ≡ None) where
    pub not_past : found_in (cached ++ transformed) name ≡ None
    not_past = free_in_second labelled (cached ++ transformed) name free

    pub no_label : found_in l.entries name ≡ None
    no_label = kind_free label l.entries name (free_in_first labelled (cached ++ transformed) name free)

    pub no_cache : found_in c.entries name ≡ None
    no_cache = kind_free cache c.entries name (free_in_first cached transformed name not_past)

    pub no_transform : found_in t.entries name ≡ None
    no_transform = kind_free transform t.entries name (free_in_second cached transformed name not_past)

  -- ---- one table is written

  module _ (new : NumbersState) (o : Option ℕ) where
    pub label_written : ChangesAt l.entries new.entries name o → l.capacity ≤ new.capacity → found_in (cached ++ transformed) name ≡ None
        → Written all new c t name (option_map label o)
    label_written now fits not_there = record {
      changed = first_changed labelled (of_kind label new.entries) (cached ++ transformed) name (option_map label o) of_labels not_there;
      are = record {
        caches_apart = are.caches_apart;
        caches_fit = are.caches_fit;
        transforms_fit = are.transforms_fit;
        labels_apart =
            first_apart labelled (of_kind label new.entries) (cached ++ transformed) name (option_map label o) of_labels not_there
            are.labels_apart;
        labels_fit = let had = are.labels_fit in omega (arith, had, fits);
      };
    }
      where
        of_labels : ChangesAt labelled (of_kind label new.entries) name (option_map label o)
        of_labels = kind_changed label l.entries new.entries name o now

    pub cache_written : ChangesAt c.entries new.entries name o → c.capacity ≤ new.capacity → found_in labelled name ≡ None
        → found_in transformed name ≡ None → Written all l new t name (option_map cache o)
    cache_written now fits not_before not_past_it = record {
      changed = second_changed labelled (cached ++ transformed) (of_kind cache new.entries ++ transformed) name (option_map cache o) both
          not_before;
      are = record {
        labels_fit = are.labels_fit;
        transforms_fit = are.transforms_fit;
        labels_apart = second_apart labelled (cached ++ transformed) (of_kind cache new.entries ++ transformed) name (option_map cache o)
            both not_before are.labels_apart;
        caches_apart =
            first_apart cached (of_kind cache new.entries) transformed name (option_map cache o) of_caches not_past_it are.caches_apart;
        caches_fit = let had = are.caches_fit in omega (arith, had, fits);
      };
    }
      where
        of_caches : ChangesAt cached (of_kind cache new.entries) name (option_map cache o)
        of_caches = kind_changed cache c.entries new.entries name o now

        both : ChangesAt (cached ++ transformed) (of_kind cache new.entries ++ transformed) name (option_map cache o)
        both = first_changed cached (of_kind cache new.entries) transformed name (option_map cache o) of_caches not_past_it

    pub transform_written : ChangesAt t.entries new.entries name o → t.capacity ≤ new.capacity → found_in labelled name ≡ None
        → found_in cached name ≡ None → Written all l c new name (option_map transform o)
    transform_written now fits not_before not_between = record {
      changed = second_changed labelled (cached ++ transformed) (cached ++ of_kind transform new.entries) name (option_map transform o)
          both not_before;
      are = record {
        labels_fit = are.labels_fit;
        caches_fit = are.caches_fit;
        labels_apart = second_apart labelled (cached ++ transformed) (cached ++ of_kind transform new.entries) name
            (option_map transform o) both not_before are.labels_apart;
        caches_apart = second_apart cached transformed (of_kind transform new.entries) name (option_map transform o) of_transforms
            not_between are.caches_apart;
        transforms_fit = let had = are.transforms_fit in omega (arith, had, fits);
      };
    }
      where
        of_transforms : ChangesAt transformed (of_kind transform new.entries) name (option_map transform o)
        of_transforms = kind_changed transform t.entries new.entries name o now

        both : ChangesAt (cached ++ transformed) (cached ++ of_kind transform new.entries) name (option_map transform o)
        both = second_changed cached transformed (of_kind transform new.entries) name (option_map transform o) of_transforms not_between

  -- what is a label isn't found past the labels, and a cache isn't a transform
  pub past_a_label : (n : ℕ) → found_in l.entries name ≡ Some n → found_in (cached ++ transformed) name ≡ None
  past_a_label n is = are.labels_apart name (ap is_some (kind_found label l.entries name (Some n) is))

  pub past_a_cache : (n : ℕ) → found_in c.entries name ≡ Some n → found_in transformed name ≡ None
  past_a_cache n is = are.caches_apart name (ap is_some (kind_found cache c.entries name (Some n) is))
