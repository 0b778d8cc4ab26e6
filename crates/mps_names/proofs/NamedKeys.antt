-- Things whose keys were given out have the names that were noted with these, also after names are taken and dropped.
use Rattle.std.proofs.Common.{◌≡◌, ◌≢◌, ◌∙◌, ℕ, Bool, true, false, true≢false, List, Option, Some, None, refl, sym, ap, subst}
use Rattle.std.proofs.lemmas.Bool.{eq-eqb, eqb-true}
use Rattle.std.proofs.lemmas.Option.{none-some}
use Rattle.std.specs.Prelude.{nat_eq, if◌then◌else◌, option_and_then}
use Rattle.mps_base.specs.declared.names.Name.{Name}
use Rattle.mps_base.specs.Name.{same_name}
use Rattle.mps_keys.specs.Keys.{GivenState, KeysState, KeysWithout, name_by, name_of_stamp, stamp_at, unless_named, without_name}
use Rattle.mps_keys.specs.declared.given.Stamp.{Stamp}
use Rattle.mps_keys.proofs.TakenBack.{as_many, elsewhere, here, left_unnamed, unless_by, unless_of}
use Rattle.mps_names.specs.Inside.{AreKeysOf, ChangesAt, HaveNames, area, found_in, keys_without, point, table}
use Rattle.mps_names.specs.declared.names.Thing.{Thing}
use Rattle.mps_names.specs.declared.names.Thing.TheVariants as thing
use Rattle.mps_names.proofs.Joined.{same_found}

module _ (entries : List (Name × Thing)) (name : Name) where
  -- where a stamp of a kind has the name, that is the name of the thing at its place
  named_there : (kind : ℕ → Thing) (g : GivenState) → HaveNames entries kind g → (place : ℕ) (s : Stamp) → stamp_at g place ≡ Some s
      → same_name name s.name ≡ true → found_in entries name ≡ Some (kind place)
  named_there kind g have place s there same = sym (same_found entries name s.name same) ∙ have place s there

  -- nothing of a kind has the name, if its thing is none of that kind
  unless_kept : (kind : ℕ → Thing) (g : GivenState) → HaveNames entries kind g → (place : ℕ)
      → (found_in entries name ≡ Some (kind place) → ⊥) → stamp_at g place ≡ unless_of name (stamp_at g place)
  unless_kept kind g have place other = by (stamp_at g place) refl
    where
      named : (s : Stamp) → stamp_at g place ≡ Some s → (b : Bool) → same_name name s.name ≡ b
          → stamp_at g place ≡ unless_of name (stamp_at g place)
      named s is true e = absurd (other (named_there kind g have place s is e))
      named s is false e = is ∙ sym (ap (unless_of name) is ∙ ap (λ (b : Bool). if b then None else Some s) e)

      by : (found : Option Stamp) → stamp_at g place ≡ found → stamp_at g place ≡ unless_of name (stamp_at g place)
      by None is = is ∙ sym (ap (unless_of name) is)
      by (Some s) is = named s is (same_name name s.name) refl

  -- a key of a kind of which the thing with the name isn't
  others_gone : (kind : ℕ → Thing) (g : GivenState) → HaveNames entries kind g
      → ((place : ℕ) → found_in entries name ≡ Some (kind place) → ⊥)
      → (place count : ℕ) → name_by g place count ≡ unless_named name (name_by g place count)
  others_gone kind g have other place count =
      ap (option_and_then (name_of_stamp count)) (unless_kept kind g have place (other place))
      ∙ unless_by name count (stamp_at g place)

  -- a key of its kind
  its_gone : (kind : ℕ → Thing) (g : GivenState) (at : ℕ) → HaveNames entries kind g
      → ((place : ℕ) → found_in entries name ≡ Some (kind place) → place ≡ at)
      → (place count : ℕ) → name_by (without_name g at name) place count ≡ unless_named name (name_by g place count)
  its_gone kind g at have its place count =
      ap (option_and_then (name_of_stamp count)) (by (nat_eq place at) refl) ∙ unless_by name count (stamp_at g place)
    where
      by : (b : Bool) → nat_eq place at ≡ b → stamp_at (without_name g at name) place ≡ unless_of name (stamp_at g place)
      by true e = subst (λ p. stamp_at (without_name g at name) p ≡ unless_of name (stamp_at g p)) (sym (eqb-true place at e))
          (here g at name)
      by false e =
          let differs : place ≢ at = λ same_place. true≢false (sym (eq-eqb place at same_place) ∙ e) in
          elsewhere g at name place differs
          ∙ unless_kept kind g have place (λ is. differs (its place is))

  gone : (k : KeysState) (dropped : Option Thing) → found_in entries name ≡ dropped → AreKeysOf entries k
      → KeysWithout k (keys_without k name dropped) name
  gone k (Some (thing.Table at)) was are = record {
    tables = λ key. its_gone table k.tables at are.tables
        (λ place is. let e : Some (table at) ≡ Some (table place) = sym was ∙ is in cc) key.place key.count;
    areas = λ key. others_gone area k.areas are.areas
        (λ place is. let e : Some (table at) ≡ Some (area place) = sym was ∙ is in absurd cc) key.place key.count;
    points = λ key. others_gone point k.points are.points
        (λ place is. let e : Some (table at) ≡ Some (point place) = sym was ∙ is in absurd cc) key.place key.count;
    counts = record { tables = as_many k.tables at name; areas = refl; points = refl };
  }
  gone k (Some (thing.Area at)) was are = record {
    tables = λ key. others_gone table k.tables are.tables
        (λ place is. let e : Some (area at) ≡ Some (table place) = sym was ∙ is in absurd cc) key.place key.count;
    areas = λ key. its_gone area k.areas at are.areas
        (λ place is. let e : Some (area at) ≡ Some (area place) = sym was ∙ is in cc) key.place key.count;
    points = λ key. others_gone point k.points are.points
        (λ place is. let e : Some (area at) ≡ Some (point place) = sym was ∙ is in absurd cc) key.place key.count;
    counts = record { tables = refl; areas = as_many k.areas at name; points = refl };
  }
  gone k (Some (thing.Point at)) was are = record {
    tables = λ key. others_gone table k.tables are.tables
        (λ place is. let e : Some (point at) ≡ Some (table place) = sym was ∙ is in absurd cc) key.place key.count;
    areas = λ key. others_gone area k.areas are.areas
        (λ place is. let e : Some (point at) ≡ Some (area place) = sym was ∙ is in absurd cc) key.place key.count;
    points = λ key. its_gone point k.points at are.points
        (λ place is. let e : Some (point at) ≡ Some (point place) = sym was ∙ is in cc) key.place key.count;
    counts = record { tables = refl; areas = refl; points = as_many k.points at name };
  }
  gone k (Some t) was are = record {
    tables = λ key. others_gone table k.tables are.tables
        (λ place is. let e : Some t ≡ Some (table place) = sym was ∙ is in absurd cc) key.place key.count;
    areas = λ key. others_gone area k.areas are.areas
        (λ place is. let e : Some t ≡ Some (area place) = sym was ∙ is in absurd cc) key.place key.count;
    points = λ key. others_gone point k.points are.points
        (λ place is. let e : Some t ≡ Some (point place) = sym was ∙ is in absurd cc) key.place key.count;
    counts = record { tables = refl; areas = refl; points = refl };
  }
  gone k None was are = record {
    tables = λ key. others_gone table k.tables are.tables (λ place is. none-some (table place) (sym was ∙ is)) key.place key.count;
    areas = λ key. others_gone area k.areas are.areas (λ place is. none-some (area place) (sym was ∙ is)) key.place key.count;
    points = λ key. others_gone point k.points are.points (λ place is. none-some (point place) (sym was ∙ is)) key.place key.count;
    counts = record { tables = refl; areas = refl; points = refl };
  }

  pub keys_gone : (k after : KeysState) (dropped : Option Thing) → found_in entries name ≡ dropped → AreKeysOf entries k
      → after ≡ keys_without k name dropped → KeysWithout k after name
  keys_gone k after dropped was are is = subst (λ x. KeysWithout k x name) (sym is) (gone k dropped was are)

module _ (old new : List (Name × Thing)) where
  -- ---- the same things have the same names

  have_still : (kind : ℕ → Thing) (g : GivenState) → ((name : Name) → found_in new name ≡ found_in old name) → HaveNames old kind g
      → HaveNames new kind g
  have_still kind g same have place s there = same s.name ∙ have place s there

  pub keys_still : (k : KeysState) → ((name : Name) → found_in new name ≡ found_in old name) → AreKeysOf old k → AreKeysOf new k
  keys_still k same are = record {
    tables = have_still table k.tables same are.tables;
    areas = have_still area k.areas same are.areas;
    points = have_still point k.points same are.points;
  }

  -- ---- a free name is taken

  module _ (name : Name) (value : Option Thing) (now : ChangesAt old new name value) where
    have_taken : (kind : ℕ → Thing) (g : GivenState) → found_in old name ≡ None → HaveNames old kind g → HaveNames new kind g
    have_taken kind g free have place s there = by (same_name name s.name) refl
      where
        by : (b : Bool) → same_name name s.name ≡ b → found_in new s.name ≡ Some (kind place)
        by true same = absurd (none-some (kind place) (sym free ∙ sym (same_found old name s.name same) ∙ have place s there))
        by false differs = now.others s.name differs ∙ have place s there

    pub keys_taken : (k : KeysState) → found_in old name ≡ None → AreKeysOf old k → AreKeysOf new k
    keys_taken k free are = record {
      tables = have_taken table k.tables free are.tables;
      areas = have_taken area k.areas free are.areas;
      points = have_taken point k.points free are.points;
    }

    -- ---- a name is dropped

    -- those of a kind of which the thing that had the name isn't
    have_others : (kind : ℕ → Thing) (g : GivenState) → ((place : ℕ) → found_in old name ≡ Some (kind place) → ⊥)
        → HaveNames old kind g → HaveNames new kind g
    have_others kind g other have place s there = by (same_name name s.name) refl
      where
        by : (b : Bool) → same_name name s.name ≡ b → found_in new s.name ≡ Some (kind place)
        by true same = absurd (other place (sym (same_found old name s.name same) ∙ have place s there))
        by false differs = now.others s.name differs ∙ have place s there

    -- those of its kind, without its own key
    have_left : (kind : ℕ → Thing) (g : GivenState) (place : ℕ) → ((other : ℕ) → found_in old name ≡ Some (kind other) → other ≡ place)
        → HaveNames old kind g → HaveNames new kind (without_name g place name)
    have_left kind g place its have other s there = by (same_name name s.name) refl
      where
        by : (b : Bool) → same_name name s.name ≡ b → found_in new s.name ≡ Some (kind other)
        by true same =
            let left = left_unnamed g place name other s there in
            let is = left.1 (its other (sym (same_found old name s.name same) ∙ have other s left.0)) in
            absurd (true≢false (sym same ∙ is))
        by false differs = now.others s.name differs ∙ have other s (left_unnamed g place name other s there).0

    pub keys_left : (k : KeysState) (dropped : Option Thing) → found_in old name ≡ dropped → AreKeysOf old k
        → AreKeysOf new (keys_without k name dropped)
    keys_left k (Some (thing.Table place)) was are = record {
      tables = have_left table k.tables place (λ other is. let e : Some (table place) ≡ Some (table other) = sym was ∙ is in cc) are.tables;
      areas = have_others area k.areas (λ other is. let e : Some (table place) ≡ Some (area other) = sym was ∙ is in absurd cc) are.areas;
      points = have_others point k.points (λ other is. let e : Some (table place) ≡ Some (point other) = sym was ∙ is in absurd cc)
          are.points;
    }
    keys_left k (Some (thing.Area place)) was are = record {
      tables = have_others table k.tables (λ other is. let e : Some (area place) ≡ Some (table other) = sym was ∙ is in absurd cc)
          are.tables;
      areas = have_left area k.areas place (λ other is. let e : Some (area place) ≡ Some (area other) = sym was ∙ is in cc) are.areas;
      points = have_others point k.points (λ other is. let e : Some (area place) ≡ Some (point other) = sym was ∙ is in absurd cc)
          are.points;
    }
    keys_left k (Some (thing.Point place)) was are = record {
      tables = have_others table k.tables (λ other is. let e : Some (point place) ≡ Some (table other) = sym was ∙ is in absurd cc)
          are.tables;
      areas = have_others area k.areas (λ other is. let e : Some (point place) ≡ Some (area other) = sym was ∙ is in absurd cc) are.areas;
      points = have_left point k.points place (λ other is. let e : Some (point place) ≡ Some (point other) = sym was ∙ is in cc)
          are.points;
    }
    keys_left k (Some t) was are = record {
      tables = have_others table k.tables (λ other is. let e : Some t ≡ Some (table other) = sym was ∙ is in absurd cc) are.tables;
      areas = have_others area k.areas (λ other is. let e : Some t ≡ Some (area other) = sym was ∙ is in absurd cc) are.areas;
      points = have_others point k.points (λ other is. let e : Some t ≡ Some (point other) = sym was ∙ is in absurd cc) are.points;
    }
    keys_left k None was are = record {
      tables = have_others table k.tables (λ other is. absurd (none-some (table other) (sym was ∙ is))) are.tables;
      areas = have_others area k.areas (λ other is. absurd (none-some (area other) (sym was ∙ is))) are.areas;
      points = have_others point k.points (λ other is. absurd (none-some (point other) (sym was ∙ is))) are.points;
    }
