-- The map and the tables beside it, as one map.
use Rattle.std.proofs.Common.{◌≡◌, ◌∙◌, ℕ, Bool, true, false, true≢false, refl, sym, ap, List, ◌++◌, Option, Some, None, is_some}
use Rattle.std.specs.Prelude.{option_and_then}
use Rattle.mps_base.specs.declared.names.Name.{Name}
use Rattle.mps_base.specs.Name.{same_name}
use Rattle.mps_names.specs.declared.names.Thing.{Thing}
use Rattle.mps_names.specs.declared.names.Thing.TheVariants as thing
use Rattle.mps_names.specs.State.{NameCounts, as_cache, as_label, counts_with, counts_without, has_own_room}
use Rattle.mps_names.specs.Inside.{AreBeside, ChangesAt, TablesState, found_in}
use Rattle.mps_names.proofs.Joined.{first_apart, first_changed, found_first, found_second, same_found, second_apart, second_changed}

-- the map alone is written: at a name that the tables don't have
module _ (things new : List (Name × Thing)) (tables : TablesState) (are : AreBeside things tables) (name : Name) (value : Option Thing)
    (now : ChangesAt things new name value) (not_there : found_in tables.entries name ≡ None)
    (fits : (t : Thing) → value ≡ Some t → has_own_room t ≡ false) where
  pub things_changed : ChangesAt (things ++ tables.entries) (new ++ tables.entries) name value
  things_changed = first_changed things new tables.entries name value now not_there

  pub things_beside : AreBeside new tables
  things_beside = record {
    apart = first_apart things new tables.entries name value now not_there are.apart;
    others = λ other t is. by other t is (same_name name other) refl;
  }
    where
      by : (other : Name) (t : Thing) → found_in new other ≡ Some t → (b : Bool) → same_name name other ≡ b → has_own_room t ≡ false
      by other t is true same = fits t (sym now.named ∙ sym (same_found new name other same) ∙ is)
      by other t is false differs = are.others other t (sym (now.others other differs) ∙ is)

-- the tables alone are written: at a name that the map doesn't have
module _ (things : List (Name × Thing)) (tables new : TablesState) (are : AreBeside things tables) (name : Name) (value : Option Thing)
    (now : ChangesAt tables.entries new.entries name value) (not_there : found_in things name ≡ None) where
  pub tables_changed : ChangesAt (things ++ tables.entries) (things ++ new.entries) name value
  tables_changed = second_changed things tables.entries new.entries name value now not_there

  pub tables_beside : AreBeside things new
  tables_beside = record {
    apart = second_apart things tables.entries new.entries name value now not_there are.apart;
    others = are.others;
  }

-- ---- things with room of their own are found in the tables alone

module _ (as_wanted : Thing → Option ℕ) (not_wanted : (t : Thing) → has_own_room t ≡ false → as_wanted t ≡ None)
    (things : List (Name × Thing)) (tables : TablesState) (are : AreBeside things tables) (name : Name) where
  wanted_beside : option_and_then as_wanted (found_in (things ++ tables.entries) name)
      ≡ option_and_then as_wanted (found_in tables.entries name)
  wanted_beside = by (found_in things name) refl
    where
      by : (o : Option Thing) → found_in things name ≡ o
          → option_and_then as_wanted (found_in (things ++ tables.entries) name) ≡ option_and_then as_wanted (found_in tables.entries name)
      by None none = ap (option_and_then as_wanted) (found_second things tables.entries name none)
      by (Some t) is =
          ap (option_and_then as_wanted) (found_first things tables.entries name t is) ∙ not_wanted t (are.others name t is)
          ∙ sym (ap (option_and_then as_wanted) (are.apart name (ap is_some is)))

no_label : (t : Thing) → has_own_room t ≡ false → as_label t ≡ None
no_label (thing.Label number) is = absurd (true≢false is)
no_label _ is = refl

no_cache : (t : Thing) → has_own_room t ≡ false → as_cache t ≡ None
no_cache (thing.Cache number) is = absurd (true≢false is)
no_cache _ is = refl

pub label_beside : (things : List (Name × Thing)) (tables : TablesState) → AreBeside things tables → (name : Name)
    → option_and_then as_label (found_in (things ++ tables.entries) name) ≡ option_and_then as_label (found_in tables.entries name)
label_beside = wanted_beside as_label no_label

pub cache_beside : (things : List (Name × Thing)) (tables : TablesState) → AreBeside things tables → (name : Name)
    → option_and_then as_cache (found_in (things ++ tables.entries) name) ≡ option_and_then as_cache (found_in tables.entries name)
cache_beside = wanted_beside as_cache no_cache

-- what has no room of its own isn't counted
pub not_counted : (counts : NameCounts) (t : Thing) → has_own_room t ≡ false → counts_without counts (Some t) ≡ counts
not_counted counts (thing.Label number) is = absurd (true≢false is)
not_counted counts (thing.Cache number) is = absurd (true≢false is)
not_counted counts (thing.Transform number) is = absurd (true≢false is)
not_counted counts _ is = refl

pub not_counted_more : (counts : NameCounts) (t : Thing) → has_own_room t ≡ false → counts_with counts t ≡ counts
not_counted_more counts (thing.Label number) is = absurd (true≢false is)
not_counted_more counts (thing.Cache number) is = absurd (true≢false is)
not_counted_more counts (thing.Transform number) is = absurd (true≢false is)
not_counted_more counts _ is = refl
