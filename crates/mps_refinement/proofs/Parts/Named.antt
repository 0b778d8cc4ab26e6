-- Names stand for the same things in a heap and in the model after a thing is made or dropped.
use Rattle.std.proofs.Common.{◌≡◌, ◌≢◌, ◌∙◌, ℕ, ◌+◌, ◌<◌, ◌≤◌, arith, Bool, true, false, true≢false, refl, sym, ap, subst, List, length, Option, Some, None, IsSome, is_some, inl, inr}
use Rattle.std.proofs.lemmas.Bool.{cases_lt}
use Rattle.std.proofs.lemmas.Option.{none-some, same_Some}
use Rattle.std.specs.Prelude.{if◌then◌else◌, option_map, slice_index_or}
use Rattle.mps_base.specs.Name.{same_name}
use Rattle.mps_base.specs.declared.names.Name.{Name}
use Rattle.mps_buffer.specs.Points.{point_at}
use Rattle.mps_laws.proofs.Naming.{dropped_once, made_once, name_dropped, name_made, same_name_equal, same_name_itself}
use Rattle.mps_model.specs.Graph as graph
use Rattle.mps_model.specs.Graph.{NamedThing, thing_in, with_last, without_name}
use Rattle.mps_names.specs.State.{IsSameMap, NameCounts, Updates, counts_after, counts_with, counts_without, thing_named}
use Rattle.mps_names.specs.declared.names.Thing.{Thing}
use Rattle.mps_names.specs.declared.names.Thing.TheVariants as thing
use Rattle.mps_root.specs.State.{kept}
use Rattle.mps_heap_spec.specs.State.{HeapState}
use Rattle.mps_refinement.specs.Numbering.{renumbered}
use Rattle.mps_refinement.specs.Transforms.{live_count}
use Rattle.mps_refinement.specs.StandsFor.{AreNamed, IsThere, Past, Time, numbered_thing}
use Rattle.mps_refinement.proofs.Parts.Numbering.{renumbered_other}

-- ---- things that stay

-- what is there in one state is there in another
pub record ThingsStay {F : Type 0} (h after : HeapState F) : Type 0 where
  pub pools : (number : ℕ) → number < length h.pools → number < length after.pools
  pub caches : length h.beside.caches ≤ length after.beside.caches
  pub tables : (key : ℕ) → IsSome (kept h.roots.tables key) → IsSome (kept after.roots.tables key)
  pub areas : (key : ℕ) → IsSome (kept h.roots.areas key) → IsSome (kept after.roots.areas key)
  pub blocks : (number : ℕ) → number < length h.roots.blocks → number < length after.roots.blocks
  pub points : (key : ℕ) → IsSome (point_at h.points key) → IsSome (point_at after.points key)
  pub dependencies : (number : ℕ) → number < length h.dependencies → number < length after.dependencies
  pub chains : (number : ℕ) → number < length h.chains.chains → number < length after.chains.chains
  pub transforms : after.beside.transforms.live ≡ h.beside.transforms.live

module _ {F : Type 0} (h after : HeapState F) where
  pub stays_there : ThingsStay h after → (t : Thing) → IsThere h t → IsThere after t
  stays_there stay (thing.Chain number) there = stay.chains number there
  stays_there stay (thing.Pool number) there = stay.pools number there
  stays_there stay (thing.Table key) there = stay.tables key there
  stays_there stay (thing.Area key) there = stay.areas key there
  stays_there stay (thing.Blocks number) there = stay.blocks number there
  stays_there stay (thing.Point key) there = stay.points key there
  stays_there stay (thing.Dependency number) there = stay.dependencies number there
  stays_there stay (thing.Label number) there = there
  stays_there stay (thing.Cache number) there = let no_fewer = stay.caches in omega (arith, there, no_fewer)
  stays_there stay (thing.Transform key) there = ap (λ live. slice_index_or live key false) stay.transforms ∙ there

  -- names that stand for the same things
  pub named_alike : (past : Past) (names : List NamedThing) (labels : List Name) → AreNamed past h names labels
      → IsSameMap h.names after.names → after.names.counts ≡ h.names.counts → ThingsStay h after → AreNamed past after names labels
  named_alike past names labels are alike counts stay = record {
    named = λ name. are.named name ∙ ap (option_map (numbered_thing past)) (sym (alike name));
    there = λ name t is. stays_there stay t (are.there name t (sym (alike name) ∙ is));
    unique = λ name other t is those. are.unique name other t (sym (alike name) ∙ is) (sym (alike other) ∙ those);
    once = are.once;
    label_count = ap (λ (c : NameCounts). c.labels) counts ∙ are.label_count;
    cache_count = let few = are.cache_count in let no_fewer = stay.caches in
        let same = ap (λ (c : NameCounts). c.caches) counts in omega (arith, few, no_fewer, same);
    label_numbers = λ name number is. are.label_numbers name number (sym (alike name) ∙ is);
    transform_count = ap (λ (c : NameCounts). c.transforms) counts ∙ are.transform_count ∙ ap live_count (sym stay.transforms);
  }

-- the numbers of things don't count the time
same_numbered : (past : Past) (t : Time) (x : Thing) → numbered_thing (record past { time = t }) x ≡ numbered_thing past x
same_numbered past t (thing.Chain number) = refl
same_numbered past t (thing.Pool number) = refl
same_numbered past t (thing.Table key) = refl
same_numbered past t (thing.Area key) = refl
same_numbered past t (thing.Blocks number) = refl
same_numbered past t (thing.Point key) = refl
same_numbered past t (thing.Dependency number) = refl
same_numbered past t (thing.Label number) = refl
same_numbered past t (thing.Cache number) = refl
same_numbered past t (thing.Transform key) = refl

same_thing : (past : Past) (t : Time) (o : Option Thing) → option_map (numbered_thing past) o
    ≡ option_map (numbered_thing (record past { time = t })) o
same_thing past t None = refl
same_thing past t (Some x) = ap Some (sym (same_numbered past t x))

-- so names represent the same things at any time
pub named_at : {F : Type 0} (past : Past) (t : Time) (h : HeapState F) (names : List NamedThing) (labels : List Name)
    → AreNamed past h names labels → AreNamed (record past { time = t }) h names labels
named_at past t h names labels are = record {
  named = λ name. are.named name ∙ same_thing past t (thing_named h.names name);
  there = are.there;
  unique = are.unique;
  once = are.once;
  label_count = are.label_count;
  cache_count = are.cache_count;
  label_numbers = are.label_numbers;
  transform_count = are.transform_count;
}

pub nothing_there : {A : Type 0} (o : Option A) → o ≡ None → IsSome o → ⊥
nothing_there o none some = true≢false (sym some ∙ ap is_some none)

-- ---- numbers of other things, after a key got another

module _ {F : Type 0} (past : Past) (h : HeapState F) (key number : ℕ) where
  other_than_free : {A : Type 0} (ours : ℕ → Option A) → ours key ≡ None → (k : ℕ) → IsSome (ours k) → k ≢ key
  other_than_free ours free k some same = nothing_there (ours k) (ap ours same ∙ free) some

  pub tables_renumbered : kept h.roots.tables key ≡ None → (t : Thing) → IsThere h t
      → numbered_thing (record past { table_number = renumbered past.table_number key number }) t ≡ numbered_thing past t
  tables_renumbered free (thing.Table k) there =
      ap graph.TableThing (renumbered_other past.table_number key number k (other_than_free (kept h.roots.tables) free k there))
  tables_renumbered free _ there = refl

  pub areas_renumbered : kept h.roots.areas key ≡ None → (t : Thing) → IsThere h t
      → numbered_thing (record past { area_number = renumbered past.area_number key number }) t ≡ numbered_thing past t
  areas_renumbered free (thing.Area k) there =
      ap graph.AreaThing (renumbered_other past.area_number key number k (other_than_free (kept h.roots.areas) free k there))
  areas_renumbered free _ there = refl

  pub points_renumbered : point_at h.points key ≡ None → (t : Thing) → IsThere h t
      → numbered_thing (record past { point_number = renumbered past.point_number key number }) t ≡ numbered_thing past t
  points_renumbered free (thing.Point k) there =
      ap graph.PointThing (renumbered_other past.point_number key number k (other_than_free (point_at h.points) free k there))
  points_renumbered free _ there = refl

-- ---- a thing is made

-- these are the labels and the transforms after a thing was made: labels were no fewer, and it is one of them if it is a label
pub record AreCountedWith (counts : NameCounts) (before labels : List Name) (live : List Bool) (t : Thing) : Type 0 where
  pub count : (counts_with counts t).labels ≡ length labels
  pub no_fewer : length before ≤ length labels
  pub one : (number : ℕ) → t ≡ thing.Label number → number < length labels
  pub transforms : (counts_with counts t).transforms ≡ live_count live

module _ {F : Type 0} (past anew : Past) (h after : HeapState F) (names : List NamedThing) (labels : List Name)
    (are : AreNamed past h names labels) (name : Name) where
  -- a free name is free in the model too
  pub free_there : thing_named h.names name ≡ None → thing_in names name ≡ None
  free_there free = are.named name ∙ ap (option_map (numbered_thing past)) free

  -- a thing that has no name yet, and the labels after it
  pub named_with : (t : Thing) (made : graph.Thing) (labels_now : List Name) → Updates h.names after.names name (Some t)
      → thing_named h.names name ≡ None → numbered_thing anew t ≡ made
      → ((other : Thing) → IsThere h other → numbered_thing anew other ≡ numbered_thing past other)
      → ((other : Thing) → IsThere h other → IsThere after other) → IsThere after t
      → ((m : Name) → thing_named h.names m ≡ Some t → ⊥)
      → (counts_with h.names.counts t).caches ≤ length after.beside.caches
      → AreCountedWith h.names.counts labels labels_now after.beside.transforms.live t
      → AreNamed anew after (with_last names (record { name = name; thing = made })) labels_now
  named_with t made labels_now now free is others stay there new few count = record {
    named = λ n. named n (same_name name n) refl;
    there = λ n other found. thing_there n other found (same_name name n) refl;
    unique = λ n m other these those. unique n m other these those (same_name name n) (same_name name m) refl refl;
    once = made_once names name made (free_there free) are.once;
    label_count = ap (λ (c : NameCounts). c.labels)
        counts_now ∙ count.count;
    cache_count = let same = ap (λ (c : NameCounts). c.caches) counts_now in omega (arith, few, same);
    label_numbers = λ n number found. label_number n number found (same_name name n) refl;
    transform_count = ap (λ (c : NameCounts). c.transforms)
        (now.counts ∙ ap (λ before. counts_after h.names.counts before (Some t)) free) ∙ count.transforms;
  }
    where
      counts_now : after.names.counts ≡ counts_with h.names.counts t
      counts_now = now.counts ∙ ap (λ before. counts_after h.names.counts before (Some t)) free

      the_name : (n : Name) → same_name name n ≡ true → thing_named after.names n ≡ Some t
      the_name n same = ap (thing_named after.names) (sym (same_name_equal name n same)) ∙ now.named

      -- what another name stands for was there
      other_there : (n : Name) (other : Thing) → thing_named after.names n ≡ Some other → same_name name n ≡ false → IsThere h other
      other_there n other found differs = are.there n other (sym (now.others n differs) ∙ found)

      renamed : (n : Name) (o : Option Thing) → thing_named h.names n ≡ o
          → option_map (numbered_thing past) o ≡ option_map (numbered_thing anew) o
      renamed n None e = refl
      renamed n (Some other) e = ap Some (sym (others other (are.there n other e)))

      named : (n : Name) (b : Bool) → same_name name n ≡ b
          → thing_in (with_last names (record { name = name; thing = made })) n
          ≡ option_map (numbered_thing anew) (thing_named after.names n)
      named n true same =
          name_made names name made n (free_there free) ∙ ap (λ b. if b then Some made else thing_in names n) same
          ∙ sym (ap (option_map (numbered_thing anew)) (the_name n same) ∙ ap Some is)
      named n false differs =
          name_made names name made n (free_there free) ∙ ap (λ b. if b then Some made else thing_in names n) differs
          ∙ are.named n ∙ renamed n (thing_named h.names n) refl
          ∙ ap (option_map (numbered_thing anew)) (sym (now.others n differs))

      thing_there : (n : Name) (other : Thing) → thing_named after.names n ≡ Some other → (b : Bool) → same_name name n ≡ b
          → IsThere after other
      thing_there n other found true same =
          subst (IsThere after) (same_Some t other (sym (the_name n same) ∙ found)) there
      thing_there n other found false differs = stay other (other_there n other found differs)

      label_number : (n : Name) (number : ℕ) → thing_named after.names n ≡ Some (thing.Label number) → (b : Bool)
          → same_name name n ≡ b → number < length labels_now
      label_number n number found true same = count.one number (same_Some t (thing.Label number) (sym (the_name n same) ∙ found))
      label_number n number found false differs =
          let low = are.label_numbers n number (sym (now.others n differs) ∙ found) in
          let no_fewer = count.no_fewer in omega (arith, low, no_fewer)

      -- no other name stands for what was made
      not_the_other : (n m : Name) (other : Thing) → thing_named after.names n ≡ Some other → thing_named after.names m ≡ Some other
          → same_name name n ≡ true → same_name name m ≡ false → ⊥
      not_the_other n m other these those same differs =
          new m (sym (now.others m differs) ∙ those ∙ sym (ap Some (same_Some t other (sym (the_name n same) ∙ these))))

      unique : (n m : Name) (other : Thing) → thing_named after.names n ≡ Some other → thing_named after.names m ≡ Some other
          → (b c : Bool) → same_name name n ≡ b → same_name name m ≡ c → same_name n m ≡ true
      unique n m other these those true true e f =
          ap (same_name n) (sym (same_name_equal name m f) ∙ same_name_equal name n e) ∙ same_name_itself n
      unique n m other these those true false e f = absurd (not_the_other n m other these those e f)
      unique n m other these those false true e f = absurd (not_the_other m n other those these f e)
      unique n m other these those false false e f =
          are.unique n m other (sym (now.others n e) ∙ these) (sym (now.others m f) ∙ those)

  -- a thing that wasn't there, and is no label
  pub named_made : (t : Thing) (made : graph.Thing) → Updates h.names after.names name (Some t) → thing_named h.names name ≡ None
      → numbered_thing anew t ≡ made → ((other : Thing) → IsThere h other → numbered_thing anew other ≡ numbered_thing past other)
      → ThingsStay h after → IsThere after t → (IsThere h t → ⊥) → (counts_with h.names.counts t).labels ≡ h.names.counts.labels
      → (counts_with h.names.counts t).transforms ≡ h.names.counts.transforms
      → AreNamed anew after (with_last names (record { name = name; thing = made })) labels
  named_made t made now free is others stay there new uncounted no_transform =
      named_with t made labels now free is others (stays_there h after stay) there (λ m found. new (are.there m t found))
      (few_caches t there new) (record {
        count = uncounted ∙ are.label_count;
        no_fewer = omega arith;
        one = λ number label. absurd (no_label number label);
        transforms = no_transform ∙ are.transform_count ∙ ap live_count (sym stay.transforms);
      })
    where
      as_many : h.names.counts.caches ≤ length after.beside.caches
      as_many = let few = are.cache_count in let no_fewer = stay.caches in omega (arith, few, no_fewer)

      -- a cache that is made wasn't there
      few_caches : (x : Thing) → IsThere after x → (IsThere h x → ⊥) → (counts_with h.names.counts x).caches ≤ length after.beside.caches
      few_caches (thing.Cache number) now_there was_not =
          let few = are.cache_count in
          elim (cases_lt number (length h.beside.caches)) [
            | inl low ↦ absurd (was_not low)
            | inr past_all ↦ omega (arith, few, past_all, now_there)
          ]
      few_caches (thing.Chain number) now_there was_not = as_many
      few_caches (thing.Pool number) now_there was_not = as_many
      few_caches (thing.Table key) now_there was_not = as_many
      few_caches (thing.Area key) now_there was_not = as_many
      few_caches (thing.Blocks number) now_there was_not = as_many
      few_caches (thing.Point key) now_there was_not = as_many
      few_caches (thing.Dependency number) now_there was_not = as_many
      few_caches (thing.Label number) now_there was_not = as_many
      few_caches (thing.Transform number) now_there was_not = as_many

      no_label : (number : ℕ) → t ≡ thing.Label number → ⊥
      no_label number label =
          let e : h.names.counts.labels + 1 ≡ h.names.counts.labels =
          sym (ap (λ x. (counts_with h.names.counts x).labels) label) ∙ uncounted in omega (arith, e)

-- ---- a thing is dropped

module _ {F : Type 0} (past : Past) (h after : HeapState F) (names : List NamedThing) (labels : List Name)
    (are : AreNamed past h names labels) (name : Name) where
  pub named_dropped : (t : Thing) → thing_named h.names name ≡ Some t → Updates h.names after.names name None
      → ((other : Thing) → IsThere h other → other ≢ t → IsThere after other)
      → (counts_without h.names.counts (Some t)).labels ≡ h.names.counts.labels → length h.beside.caches ≤ length after.beside.caches
      → (counts_without h.names.counts (Some t)).transforms ≡ live_count after.beside.transforms.live
      → AreNamed past after (without_name names name) labels
  named_dropped t was now stay uncounted no_fewer transforms_left = record {
    named = λ n. named n (same_name name n) refl;
    there = λ n other found. stay other (was_there n other found) (other_thing n other found);
    unique = λ n m other these those. are.unique n m other (was_named n other these) (was_named m other those);
    once = dropped_once names name are.once;
    label_count = ap (λ (c : NameCounts). c.labels) (now.counts ∙ ap (counts_without h.names.counts) was)
        ∙ uncounted ∙ are.label_count;
    cache_count = let few = are.cache_count in let fewer = no_more t in
        let same = ap (λ (c : NameCounts). c.caches) (now.counts ∙ ap (counts_without h.names.counts) was) in
        omega (arith, few, fewer, same, no_fewer);
    label_numbers = λ n number found. are.label_numbers n number (was_named n (thing.Label number) found);
    transform_count = ap (λ (c : NameCounts). c.transforms) (now.counts ∙ ap (counts_without h.names.counts) was) ∙ transforms_left;
  }
    where
      -- no more caches are counted
      no_more : (x : Thing) → (counts_without h.names.counts (Some x)).caches ≤ h.names.counts.caches
      no_more (thing.Cache number) = omega arith
      no_more (thing.Chain number) = omega arith
      no_more (thing.Pool number) = omega arith
      no_more (thing.Table key) = omega arith
      no_more (thing.Area key) = omega arith
      no_more (thing.Blocks number) = omega arith
      no_more (thing.Point key) = omega arith
      no_more (thing.Dependency number) = omega arith
      no_more (thing.Label number) = omega arith
      no_more (thing.Transform number) = omega arith

      none_now : (n : Name) → same_name name n ≡ true → thing_named after.names n ≡ None
      none_now n same = ap (thing_named after.names) (sym (same_name_equal name n same)) ∙ now.named

      by_name : (n : Name) (other : Thing) → thing_named after.names n ≡ Some other → (b : Bool) → same_name name n ≡ b
          → same_name name n ≡ false
      by_name n other found true same = absurd (none-some other (sym (none_now n same) ∙ found))
      by_name n other found false differs = differs

      was_named : (n : Name) (other : Thing) → thing_named after.names n ≡ Some other → thing_named h.names n ≡ Some other
      was_named n other found = sym (now.others n (by_name n other found (same_name name n) refl)) ∙ found

      was_there : (n : Name) (other : Thing) → thing_named after.names n ≡ Some other → IsThere h other
      was_there n other found = are.there n other (was_named n other found)

      other_thing : (n : Name) (other : Thing) → thing_named after.names n ≡ Some other → other ≢ t
      other_thing n other found same =
          true≢false (sym (are.unique name n t was (was_named n other found ∙ ap Some same))
          ∙ by_name n other found (same_name name n) refl)

      named : (n : Name) (b : Bool) → same_name name n ≡ b
          → thing_in (without_name names name) n ≡ option_map (numbered_thing past) (thing_named after.names n)
      named n true same =
          name_dropped names name n are.once ∙ ap (λ b. if b then None else thing_in names n) same
          ∙ sym (ap (option_map (numbered_thing past)) (none_now n same))
      named n false differs =
          name_dropped names name n are.once ∙ ap (λ b. if b then None else thing_in names n) differs
          ∙ are.named n ∙ ap (option_map (numbered_thing past)) (sym (now.others n differs))
