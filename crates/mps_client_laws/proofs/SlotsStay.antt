-- A slot that no step writes has what it had.
use Rattle.std.proofs.Common.{◌≡◌, ◌⊎◌, inl, inr, ℕ, Bool, true, false, refl, sym, ◌∙◌, ap, subst, List, [], ◌∷◌, Option, Some, None, Ok, Err}
use Rattle.std.proofs.lemmas.Bool.{true≢false, and_parts, and_from, eq-eqb, cases_eq, or_parts}
use Rattle.std.proofs.lemmas.Option.{none-some, same_Some, slice_get-map}
use Rattle.std.specs.Prelude.{not, ◌||◌, ◌==◌, if◌then◌else◌, map, option_and_then, option_map, slice_get, slice_set}
use Rattle.std.specs.Option.{option_map_or}
use Rattle.mps_base.specs.Name.{same_name}
use Rattle.mps_base.specs.declared.moves.Move.{Move}
use Rattle.mps_base.specs.declared.names.Name.{Name}
use Rattle.mps_base.specs.declared.names.Slot.{Slot}
use Rattle.mps_model.specs.declared.call.Call.{Call}
use Rattle.mps_model.specs.declared.call.Call.TheVariants as call
use Rattle.mps_model.specs.Answer.{is_block}
use Rattle.mps_model.specs.Step.{Step}
use Rattle.mps_model.specs.Graph.{NamedThing, Slots, Thing, entry_at, thing_in, with_last, without_name, empty_graph}
use Rattle.mps_model.specs.World.{World, TransformPair, empty_world}
use Rattle.mps_model.specs.Checked.{Act, Checked, Found, as_table, number_named, slot_in}
use Rattle.mps_model.specs.Accessing.{same_target}
use Rattle.mps_model.specs.Reply.{act, world_from}
use Rattle.mps_model.specs.History.{judged_world, moved_world, moves_of_poll, world_after}
use Rattle.mps_changes.specs.Change.{ForAct, accepted, refused}
use Rattle.mps_laws.proofs.Lookups.{entry_at-set_other, entry_is_there, entry_within, slice_get-set_other}
use Rattle.mps_laws.proofs.Entries.{entry_at-written, entry_at-append}
use Rattle.mps_laws.proofs.Naming.{same_name_equal}
use Rattle.mps_laws.proofs.Reading.{slot_is, slot_in_is}
use Rattle.mps_client_laws.specs.Slots.{SlotsStay, drops_table, is_same_slot, leave_slot, slot_value, slot_written_by, value_found, writes_slot}
use Rattle.mps_client_laws.proofs.RootsOfCalls.{WritesRoots, Names, IsNoRoot, AsNamed, OneNamed, OneUnnamed, Tables, AsBefore, OneMore, ASlot, ATable, ReplacedSlots, roots_of_act}
use Rattle.mps_client_laws.proofs.WritesOfMoves.{moved_world_leaves, moves_leave_objects, same_replaced}
use Rattle.mps_client_laws.proofs.Substituted.{target_stays}
use Rattle.mps_client_laws.specs.Objects.{pairs_named, replaces}
use Rattle.mps_laws.specs.Held.{target_found, target_of_slot}
use Rattle.mps_laws.proofs.SameArena.{moved_alone}
use Rattle.mps_model.specs.Transforms.{is_old, slots_substituted, target_substituted}

-- ---- names

kept_first : (here : Bool) (t : Thing) (rest more : Option Thing) (x : Thing) → (rest ≡ Some x → more ≡ Some x)
    → (if here then Some t else rest) ≡ Some x → (if here then Some t else more) ≡ Some x
kept_first true t rest more x keeps e = e
kept_first false t rest more x keeps e = keeps e

-- what a name stands for it still does after a name is made
pub named_kept : (ns : List NamedThing) (one : NamedThing) (name : Name) (t : Thing) → thing_in ns name ≡ Some t
    → thing_in (with_last ns one) name ≡ Some t
named_kept [] one name t e = absurd (none-some t e)
named_kept (n ∷ ns) one name t e =
    kept_first (same_name n.name name) n.thing (thing_in ns name) (thing_in (with_last ns one) name) t (named_kept ns one name t) e

-- another name than the one that is dropped
pub unnamed_kept : (ns : List NamedThing) (gone name : Name) → (gone ≡ name → ⊥) → thing_in (without_name ns gone) name ≡ thing_in ns name
unnamed_kept [] gone name differs = refl
unnamed_kept (n ∷ ns) gone name differs = by_gone (unnamed_kept ns gone name differs) (same_name n.name gone) refl
  where
    skipped : (b : Bool) → same_name n.name name ≡ b → (b ≡ true → ⊥) → thing_in ns name ≡ (if b then Some n.thing else thing_in ns name)
    skipped true e none = absurd (none refl)
    skipped false e none = refl

    by_gone : thing_in (without_name ns gone) name ≡ thing_in ns name → (b : Bool) → same_name n.name gone ≡ b
        → thing_in (if b then ns else n ∷ without_name ns gone) name ≡ (if same_name n.name name then Some n.thing else thing_in ns name)
    by_gone later true e =
        skipped (same_name n.name name) refl (λ same. differs (sym (same_name_equal n.name gone e) ∙ same_name_equal n.name name same))
    by_gone later false e = ap (λ rest. if same_name n.name name then Some n.thing else rest) later

-- ---- where a slot stands

-- a slot of these names and tables has this value
record Stands (names : List NamedThing) (tables : List (Option Slots)) (slot : Slot) (value : Option ℕ) : Type 0 where
  thing : Thing
  number : ℕ
  table : Slots
  named : thing_in names slot.name ≡ Some thing
  is_table : as_table thing ≡ Some number
  there : entry_at tables number ≡ Some table
  at : slice_get table slot.index ≡ Some value

stands : (w : World) (slot : Slot) (value : Option ℕ) → slot_value w slot ≡ Some value → Stands w.graph.names w.graph.tables slot value
stands w slot value e = by_slot (slot_in w slot) refl e
  where
    by_thing : (o : Option Thing) (n : ℕ) → option_and_then as_table o ≡ Some n → (t : Thing) × (o ≡ Some t) × (as_table t ≡ Some n)
    by_thing None n e = absurd (none-some n e)
    by_thing (Some t) n e = (t, refl, e)

    by_slot : (x : Checked (Found (Option ℕ))) → slot_in w slot ≡ x → value_found x ≡ Some value
        → Stands w.graph.names w.graph.tables slot value
    by_slot (Err why) f e = absurd (none-some value e)
    by_slot (Ok found) f e =
        let is = slot_is w slot found f in
        let t = by_thing (thing_in w.graph.names slot.name) found.number is.named in
        record {
          thing = t.0;
          number = found.number;
          table = found.list;
          named = t.1;
          is_table = t.2;
          there = is.table;
          at = is.value ∙ ap Some (same_Some found.value value e);
        }

stood : (w : World) (slot : Slot) (value : Option ℕ) → Stands w.graph.names w.graph.tables slot value → slot_value w slot ≡ Some value
stood w slot value s =
    ap value_found (slot_in_is w slot s.number s.table value (ap (option_and_then as_table) s.named ∙ s.is_table) s.there s.at)

-- ---- what a call leaves

module _ (c : Call) (judged v : World) (slot : Slot) (value : Option ℕ) (same_names : judged.graph.names ≡ v.graph.names)
    (same_tables : judged.graph.tables ≡ v.graph.tables) (unwritten : writes_slot v c slot ≡ false)
    (s : Stands v.graph.names v.graph.tables slot value) where
  number_of_slot : number_named v slot.name as_table ≡ Some s.number
  number_of_slot = ap (option_and_then as_table) s.named ∙ s.is_table

  same_number : (these those : Option ℕ) (n : ℕ) → these ≡ Some n → those ≡ Some n → same_target these those ≡ true
  same_number these those n e f = ap (λ t. same_target t those) e ∙ ap (same_target (Some n)) f ∙ eq-eqb n n refl

  not_written : option_map_or (is_same_slot v slot) (slot_written_by c) false ≡ false
  not_written = (or_parts (option_map_or (is_same_slot v slot) (slot_written_by c) false)
      (drops_table v c slot || replaces v c (target_of_slot v slot)) unwritten).0

  neither : (drops_table v c slot ≡ false) × (replaces v c (target_of_slot v slot) ≡ false)
  neither = or_parts (drops_table v c slot) (replaces v c (target_of_slot v slot))
      (or_parts (option_map_or (is_same_slot v slot) (slot_written_by c) false)
      (drops_table v c slot || replaces v c (target_of_slot v slot)) unwritten).1

  not_dropped : (name : Name) → c ≡ call.DropRoot name → number_named v name as_table ≡ Some s.number → ⊥
  not_dropped name is number =
      true≢false (sym (same_number (number_named v slot.name as_table) (number_named v name as_table) s.number number_of_slot number)
      ∙ sym (ap (λ d. drops_table v d slot) is) ∙ neither.0)

  -- a transform that is applied doesn't replace what the slot has
  not_replaced : (transform : Name) (pairs : List TransformPair) → c ≡ call.TransformApply transform → pairs ≡ pairs_named v transform
      → target_substituted pairs value ≡ value
  not_replaced transform pairs is pairs_are =
      target_stays pairs value (ap (λ ps. option_map_or (is_old ps) value false) pairs_are
      ∙ ap (replaces v (call.TransformApply transform)) (sym (ap target_found
      (slot_in_is v slot s.number s.table value number_of_slot s.there s.at)))
      ∙ ap (λ d. replaces v d (target_of_slot v slot)) (sym is) ∙ neither.1)

  named_after : (u : World) → Names c v u → thing_in u.graph.names slot.name ≡ Some s.thing
  named_after u (AsNamed e) = ap (λ ns. thing_in ns slot.name) e ∙ s.named
  named_after u (OneNamed one e) = ap (λ ns. thing_in ns slot.name) e ∙ named_kept v.graph.names one slot.name s.thing s.named
  named_after u (OneUnnamed name why e) =
      ap (λ ns. thing_in ns slot.name) e ∙ unnamed_kept v.graph.names name slot.name (differs why) ∙ s.named
    where
      differs : IsNoRoot v name ⊎ (c ≡ call.DropRoot name) → name ≡ slot.name → ⊥
      differs (inl none) same = none-some s.number (sym none.no_table ∙ ap (λ n. number_named v n as_table) same ∙ number_of_slot)
      differs (inr is) same = not_dropped name is (ap (λ n. number_named v n as_table) same ∙ number_of_slot)

  -- what is found in the world in which the call was judged is found in this one
  found_here : (other : Slot) (into : Found (Option ℕ)) → (slot_in judged other ≡ Ok into) ⊎ (slot_in v other ≡ Ok into)
      → (number_named v other.name as_table ≡ Some into.number) × (entry_at v.graph.tables into.number ≡ Some into.list)
      × (into.index ≡ other.index)
  found_here other into (inl e) =
      let is = slot_is judged other into e in (
        ap (λ ns. option_and_then as_table (thing_in ns other.name)) (sym same_names) ∙ is.named,
        ap (λ ts. entry_at ts into.number) (sym same_tables) ∙ is.table,
        is.at_index,
      )
  found_here other into (inr e) = let is = slot_is v other into e in (is.named, is.table, is.at_index)

  -- the table of the slot, in which the slot has its value
  abbrev IsTable : List (Option Slots) → Type 0
  IsTable tables = (table : Slots) × (entry_at tables s.number ≡ Some table) × (slice_get table slot.index ≡ Some value)

  before : IsTable v.graph.tables
  before = (s.table, s.there, s.at)

  other_table : (n : ℕ) (new : Option Slots) → (n ≡ s.number → ⊥) → IsTable (slice_set v.graph.tables n new)
  other_table n new differs = (s.table, entry_at-set_other v.graph.tables n s.number new differs ∙ s.there, s.at)

  -- another slot of the table is written
  other_slot : (other : Slot) (into : Found (Option ℕ)) (x : Option ℕ) → slot_written_by c ≡ Some other
      → number_named v other.name as_table ≡ Some into.number → entry_at v.graph.tables into.number ≡ Some into.list
      → into.index ≡ other.index → into.number ≡ s.number
      → IsTable (slice_set v.graph.tables into.number (Some (slice_set into.list into.index x)))
  other_slot other into x is number table index same =
      let list : into.list ≡ s.table = same_Some into.list s.table (sym table ∙ ap (entry_at v.graph.tables) same ∙ s.there) in (
        slice_set into.list into.index x,
        subst (λ n. entry_at (slice_set v.graph.tables into.number (Some (slice_set into.list into.index x))) n
            ≡ Some (slice_set into.list into.index x)) same
            (entry_at-written v.graph.tables into.number into.list (Some (slice_set into.list into.index x)) table),
        slice_get-set_other into.list into.index slot.index x unlike ∙ ap (λ t. slice_get t slot.index) list ∙ s.at,
      )
    where
      unlike : into.index ≡ slot.index → ⊥
      unlike equal =
          true≢false (sym (and_from (same_target (number_named v slot.name as_table) (number_named v other.name as_table))
          (slot.index == other.index)
          (same_number (number_named v slot.name as_table) (number_named v other.name as_table) s.number number_of_slot
          (number ∙ ap Some same))
          (eq-eqb slot.index other.index (sym equal ∙ index)))
          ∙ sym (ap (λ o. option_map_or (is_same_slot v slot) o false) is) ∙ not_written)

  table_after : (u : World) → Tables c judged v u → IsTable u.graph.tables
  table_after u (AsBefore e) = subst IsTable (sym e) before
  table_after u (OneMore slots e) =
      subst IsTable (sym e) (
        s.table,
        entry_at-append v.graph.tables (Some slots ∷ []) s.number
            (entry_within v.graph.tables s.number s.table s.there) ∙ s.there,
        s.at,
      )
  table_after u (ASlot other into x is found e) =
      let here = found_here other into found in
      subst IsTable (sym e) (elim (cases_eq into.number s.number) [
        | inl same ↦ other_slot other into x is here.0 here.1 here.2 same
        | inr differs ↦ other_table into.number (Some (slice_set into.list into.index x)) differs
      ])
  table_after u (ATable name n is number e) =
      subst IsTable (sym e) (other_table n None (λ same. not_dropped name is (number ∙ ap Some same)))
  table_after u (ReplacedSlots transform pairs is pairs_are e) =
      subst IsTable (sym e) (
        map (target_substituted pairs) s.table,
        ap (option_and_then (λ entry. entry)) (slice_get-map (slots_substituted pairs) v.graph.tables s.number
            ∙ ap (option_map (slots_substituted pairs)) (entry_is_there v.graph.tables s.number s.table s.there)),
        slice_get-map (target_substituted pairs) s.table slot.index ∙ ap (option_map (target_substituted pairs)) s.at
            ∙ ap (λ x. Some x) (not_replaced transform pairs is pairs_are),
      )

  stands_after : (u : World) → WritesRoots c judged v u → Stands u.graph.names u.graph.tables slot value
  stands_after u writes =
      let t = table_after u writes.tables in
      record {
        thing = s.thing;
        number = s.number;
        table = t.0;
        named = named_after u writes.names;
        is_table = s.is_table;
        there = t.1;
        at = t.2;
      }

-- ---- steps

-- a world of these names
abbrev of_names : List NamedThing → World
of_names names = record empty_world { graph = record empty_graph { names = names } }

same_drops : (v w : World) (c : Call) (slot : Slot) → v.graph.names ≡ w.graph.names → drops_table v c slot ≡ drops_table w c slot
same_drops v w (call.DropRoot root) slot names = ap (λ ns. drops_table (of_names ns) (call.DropRoot root) slot) names
same_drops v w _ slot names = refl

same_slots_written : (v w : World) (c : Call) (slot : Slot) → v.graph.names ≡ w.graph.names → v.graph.tables ≡ w.graph.tables
    → v.state ≡ w.state → writes_slot v c slot ≡ writes_slot w c slot
same_slots_written v w c slot names tables state =
    ap (λ ns. option_map_or (is_same_slot (of_names ns) slot) (slot_written_by c) false
    || (drops_table v c slot || replaces v c (target_of_slot v slot))) names
    ∙ ap (λ b. option_map_or (is_same_slot w slot) (slot_written_by c) false || (b || replaces v c (target_of_slot v slot)))
    (same_drops v w c slot names)
    ∙ ap (λ b. option_map_or (is_same_slot w slot) (slot_written_by c) false || (drops_table w c slot || b))
    (same_replaced v w c (target_of_slot v slot) names state
    ∙ ap (replaces w c) (Rattle.mps_client_laws.proofs.WritesOfMoves.same_target v w slot names tables))

-- where a call is judged, names and tables are as before it
judged_leaves : (w : World) (c : Call) (ms : List Move)
    → ((judged_world w c ms).graph.names ≡ w.graph.names) × ((judged_world w c ms).graph.tables ≡ w.graph.tables)
judged_leaves w (call.Reserve point head) ms =
    let left = moves_leave_objects w (moves_of_poll ms) in (left.names, left.tables)
judged_leaves w _ ms = (refl, refl)

pub not_false : (b : Bool) → not b ≡ true → b ≡ false
not_false true h = absurd (true≢false (sym h))
not_false false h = refl

slot_after_step : (w : World) (s : Step) (slot : Slot) (value : Option ℕ) → writes_slot w s.call slot ≡ false
    → slot_value w slot ≡ Some value → slot_value (world_after w s) slot ≡ Some value
slot_after_step w s slot value unwritten there =
    let left = moved_world_leaves w s.call s.moves in
    let before = stands w slot value there in
    let now = subst (λ ts. Stands moved.graph.names ts slot value) (sym left.tables)
    (subst (λ ns. Stands ns w.graph.tables slot value) (sym left.names) before) in
    by_act left.names left.tables now (act (is_block s.answer) judged moved s.call)
    (roots_of_act (is_block s.answer) judged moved s.call)
  where
    moved : World
    moved = moved_world w s.call s.moves

    judged : World
    judged = judged_world w s.call s.moves

    by_act : (names : moved.graph.names ≡ w.graph.names) (tables : moved.graph.tables ≡ w.graph.tables)
        (now : Stands moved.graph.names moved.graph.tables slot value) (x : Checked Act) → ForAct (WritesRoots s.call judged moved) x
        → slot_value (world_from moved x) slot ≡ Some value
    by_act names tables now _ (accepted {a} writes) =
        let before = judged_leaves w s.call s.moves in
        stood a.world slot value (stands_after s.call judged moved slot value (before.0 ∙ sym names) (before.1 ∙ sym tables)
        (same_slots_written moved w s.call slot names tables (moved_alone w s.call s.moves).state ∙ unwritten) now a.world writes)
    by_act names tables now _ refused = stood moved slot value now

pub slots_stay : SlotsStay
slots_stay w [] slot value leave there = there
slots_stay w (s ∷ ss) slot value leave there =
    let parts = and_parts (not (writes_slot w s.call slot)) (leave_slot (world_after w s) ss slot) leave in
    slots_stay (world_after w s) ss slot value parts.1
    (slot_after_step w s slot value (not_false (writes_slot w s.call slot) parts.0) there)
