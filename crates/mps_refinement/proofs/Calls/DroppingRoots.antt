-- `droproot`: what is left of the roots stands for what the model leaves.
use Rattle.std.proofs.Common.{◌≡◌, ◌≢◌, ◌∙◌, ℕ, ◌-◌, refl, sym, ap, subst, List, [], length, Option, Some, None, Ok, IsSome, arith}
use Rattle.std.proofs.lemmas.List.{length-map}
use Rattle.std.specs.Prelude.{Result, option_map, slice_set}
use Rattle.mps_base.specs.Address.{Address}
use Rattle.mps_base.specs.declared.names.Name.{Name}
use Rattle.mps_base.specs.declared.refusal.Refusal.{Refusal}
use Rattle.mps_base.specs.declared.refusal.Refusal.TheVariants as refusal
use Rattle.mps_format.specs.Layout.{Layout}
use Rattle.mps_laws.proofs.Same.{Same, fits}
use Rattle.mps_laws.proofs.Same as same
use Rattle.mps_model.specs.declared.call.Call.TheVariants as call
use Rattle.mps_model.specs.Checked.{Act, Checked, ◌>>=◌, done, required, with_graph}
use Rattle.mps_model.specs.Graph as graph
use Rattle.mps_model.specs.Graph.{AreaWord, Slots, without_name}
use Rattle.mps_model.specs.Making.{graph_without_root}
use Rattle.mps_model.specs.World.{World}
use Rattle.mps_names.specs.State.{NamesState, Updates, thing_named}
use Rattle.mps_names.specs.declared.names.Thing.{Thing}
use Rattle.mps_names.specs.declared.names.Thing.TheVariants as thing
use Rattle.mps_root.specs.State.{RootsState, kept, without, without_key}
use Rattle.mps_root.specs.declared.roots.Stored.{Stored}
use Rattle.mps_heap_spec.specs.Making.{IsDropping, root_dropped, roots_without, without_root}
use Rattle.mps_heap_spec.specs.State.{HeapState}
use Rattle.mps_refinement.proofs.Worlds.CollectorKept.{all_kept}
use Rattle.mps_refinement.specs.Answering.{answer_to, says_ok}
use Rattle.mps_refinement.specs.RightStep.{IsRight}
use Rattle.mps_refinement.specs.StandsFor.{AreParts, AreSlots, AreWords, IsThere, Past, address_of_target, numbered_thing, stored_word}
use Rattle.mps_refinement.proofs.Parts.Counts.{area_dropped_roots, area_dropped_slots, table_dropped_roots, table_dropped_slots}
use Rattle.mps_refinement.proofs.Calls.DroppingSteps.{DropsAlike, DropsTo, dropping_is_right}
use Rattle.mps_refinement.proofs.Lookups.Found.{some_there}
use Rattle.mps_refinement.proofs.Parts.Named.{named_dropped}
use Rattle.mps_refinement.proofs.Parts.Numbering.{kept_other, kept_without, numbered_dropped}
use Rattle.mps_refinement.proofs.Parts.Ordering.{ordered_dropped}
use Rattle.mps_refinement.proofs.Parts.PartsMade.{roots_changed}
use Rattle.mps_refinement.proofs.Worlds.Steps.{HasParts}

module _ {F : Type 0} (layout : F → Layout) (h : HeapState F) (name : Name) (w : World) (past : Past)
    (parts : AreParts layout past h w) where
  -- ---- a table

  table_left : (key : ℕ) (items : List Address) → thing_named h.names name ≡ Some (thing.Table key) → kept h.roots.tables key ≡ Some items
      → (names : NamesState) → Updates h.names names name None
      → HasParts layout past.time
      (without_root h (record h.roots { tables = without h.roots.tables key; order = without_key h.roots.order key }) names (length items))
      (with_graph w (record w.graph {
        tables = slice_set w.graph.tables (past.table_number key) None;
        names = without_name w.graph.names name;
      }))
  table_left key items was there names updates = record {
    past = past;
    timed = refl;
    parts = roots_changed layout past h w parts past.table_number past.area_number roots (h.live_roots - 1)
        (h.live_slots - length items) names (slice_set w.graph.tables (past.table_number key) None) w.graph.areas w.graph.blocks
        (without_name w.graph.names name) (record {
          tables_are = numbered_dropped (AreSlots w.addresses) past.table_number (kept h.roots.tables) (kept roots.tables) w.graph.tables
              parts.tables key (λ other apart. kept_other h.roots.tables key other None apart) items items (found.0) there
              (kept_without h.roots.tables key);
          ordered = ordered_dropped parts.ordered key (λ other apart. kept_other h.roots.tables key other None apart) found.0 found.1 own;
          areas_are = parts.areas;
          blocks_are = parts.blocks;
          framed_are = parts.framed;
          roots_counted = ap (λ n. n - 1) parts.roots_counted ∙ sym (table_dropped_roots w.graph (past.table_number key) found.0 found.1);
          slots_counted =
              ap (λ n. n - length items) parts.slots_counted ∙ ap (λ n. Rattle.mps_model.specs.Making.live_slots w.graph - n) long
              ∙ sym (table_dropped_slots w.graph (past.table_number key) found.0 found.1);
          names_are = named_dropped past h (without_root h roots names (length items)) w.graph.names w.graph.labels parts.names name
              (thing.Table key) was
              updates stay refl (omega arith) parts.names.transform_count;
        });
  }
    where
      roots : RootsState
      roots = record h.roots { tables = without h.roots.tables key; order = without_key h.roots.order key }

      found : (b : Slots) × (graph.entry_at w.graph.tables (past.table_number key) ≡ Some b) × AreSlots w.addresses (past.table_number key)
          items b
      found = parts.tables.there key items there

      -- no other key has its number
      own : (other : ℕ) → IsSome (kept h.roots.tables other) → past.table_number other ≡ past.table_number key → other ≡ key
      own other some same =
          let there_too = some_there (kept h.roots.tables other) some in
          parts.tables.apart other key there_too.0 items there_too.1 there same

      long : length items ≡ length found.0
      long = ap (λ (xs : List Address). length xs) found.2 ∙ length-map found.0 (address_of_target w.addresses)

      stay : (other : Thing) → IsThere h other → other ≢ thing.Table key → IsThere (without_root h roots names (length items)) other
      stay (thing.Table k) some differs =
          subst IsSome (sym (kept_other h.roots.tables key k None (λ e. differs (ap thing.Table e)))) some
      stay _ some differs = some

  -- ---- an area

  area_left : (key : ℕ) (items : List Stored) → thing_named h.names name ≡ Some (thing.Area key) → kept h.roots.areas key ≡ Some items
      → (names : NamesState) → Updates h.names names name None
      → HasParts layout past.time (without_root h (record h.roots { areas = without h.roots.areas key }) names (length items))
      (with_graph w (record w.graph {
        areas = slice_set w.graph.areas (past.area_number key) None;
        names = without_name w.graph.names name;
      }))
  area_left key items was there names updates = record {
    past = past;
    timed = refl;
    parts = roots_changed layout past h w parts past.table_number past.area_number roots (h.live_roots - 1)
        (h.live_slots - length items) names w.graph.tables (slice_set w.graph.areas (past.area_number key) None) w.graph.blocks
        (without_name w.graph.names name) (record {
          tables_are = parts.tables;
          ordered = parts.ordered;
          areas_are = numbered_dropped (AreWords w.addresses) past.area_number (kept h.roots.areas) (kept roots.areas) w.graph.areas
              parts.areas key (λ other apart. kept_other h.roots.areas key other None apart) items items (found.0) there
              (kept_without h.roots.areas key);
          blocks_are = parts.blocks;
          framed_are = parts.framed;
          roots_counted = ap (λ n. n - 1) parts.roots_counted ∙ sym (area_dropped_roots w.graph (past.area_number key) found.0 found.1);
          slots_counted =
              ap (λ n. n - length items) parts.slots_counted ∙ ap (λ n. Rattle.mps_model.specs.Making.live_slots w.graph - n) long
              ∙ sym (area_dropped_slots w.graph (past.area_number key) found.0 found.1);
          names_are = named_dropped past h (without_root h roots names (length items)) w.graph.names w.graph.labels parts.names name
              (thing.Area key) was
              updates stay refl (omega arith) parts.names.transform_count;
        });
  }
    where
      roots : RootsState
      roots = record h.roots { areas = without h.roots.areas key }

      found : (b : List AreaWord) × (graph.entry_at w.graph.areas (past.area_number key) ≡ Some b) × AreWords w.addresses
          (past.area_number key) items b
      found = parts.areas.there key items there

      long : length items ≡ length found.0
      long = ap (λ (xs : List Stored). length xs) found.2 ∙ length-map found.0 (stored_word w.addresses)

      stay : (other : Thing) → IsThere h other → other ≢ thing.Area key → IsThere (without_root h roots names (length items)) other
      stay (thing.Area k) some differs =
          subst IsSome (sym (kept_other h.roots.areas key k None (λ e. differs (ap thing.Area e)))) some
      stay _ some differs = some

  -- ---- whatever the name stands for

  abbrev ours_left : Option (RootsState × ℕ) → Checked (NamesState → HeapState F)
  ours_left o = required o refusal.BadName >>= (λ left. Ok (λ names. without_root h left.0 names left.1))

  abbrev ours : Option Thing → Checked (NamesState → HeapState F)
  ours o = ours_left (roots_without h o)

  abbrev models : Option graph.Thing → Checked Act
  models o = required (graph_without_root w.graph name o) refusal.BadName >>= (λ dropped. done (with_graph w dropped))

  abbrev Alike : Checked (NamesState → HeapState F) → Checked Act → Type 0
  Alike x y = Same (DropsTo layout h name (call.DropRoot name) (root_dropped h name) past w) x y

  by_thing : (o : Option Thing) → thing_named h.names name ≡ o → Alike (ours o) (models (option_map (numbered_thing past) o))
  by_thing None e = same.refused
  by_thing (Some (thing.Table key)) e =
      let items = some_there (kept h.roots.tables key) (parts.names.there name (thing.Table key) e) in
      subst (λ o. Alike (ours_left (option_map (λ (slots : List ℕ). (
        record h.roots {
          tables = without h.roots.tables key;
          order = without_key h.roots.order key;
        },
        length slots,
      )) o))
      (models (Some (graph.TableThing (past.table_number key))))) (sym items.1)
      (fits (record { answer = refl; keeps = λ names. all_kept h; formats = refl; has = table_left key items.0 e items.1 }))
  by_thing (Some (thing.Area key)) e =
      let items = some_there (kept h.roots.areas key) (parts.names.there name (thing.Area key) e) in
      subst (λ o. Alike (ours_left (option_map (λ (words : List Stored). (
        record h.roots {
          areas = without h.roots.areas key;
        },
        length words,
      )) o))
      (models (Some (graph.AreaThing (past.area_number key))))) (sym items.1)
      (fits (record { answer = refl; keeps = λ names. all_kept h; formats = refl; has = area_left key items.0 e items.1 }))
  by_thing (Some _) e = same.refused

  root_alike : DropsAlike layout h name (call.DropRoot name) (root_dropped h name) past w
  root_alike =
      subst (λ o. Alike (ours (thing_named h.names name)) (models o)) (sym (parts.names.named name))
      (by_thing (thing_named h.names name) refl)

-- ---- the call

pub droproot_is_right : {F : Type 0} (layout : F → Layout) (h : HeapState F) (name : Name) (result : Result (Unit {0}) Refusal)
    (after : HeapState F) → IsDropping h name (root_dropped h name) result after
    → IsRight layout h (call.DropRoot name) [] (answer_to says_ok result) after
droproot_is_right layout h name result after dropping =
    dropping_is_right layout h name (call.DropRoot name) (root_dropped h name) refl refl
    (λ w past parts reached. root_alike layout h name w past parts) result after dropping
