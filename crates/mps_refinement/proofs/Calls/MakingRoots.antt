-- `table`, `area` and `blocks`: what is made stands for what the model makes.
use Rattle.std.proofs.Common.{◌≡◌, ◌≢◌, ◌∙◌, ℕ, ◌+◌, ◌<◌, ◌≤◌, refl, sym, ap, subst, List, [], ◌∷◌, ◌++◌, length, map, Option, Some, None, Ok, IsSome, is_some, arith}
use Rattle.std.proofs.lemmas.Bool.{ltb-false}
use Rattle.std.proofs.lemmas.List.{length-map, length-append, length-replicate}
use Rattle.std.specs.Prelude.{Result, nat_lt, replicate, sum_by}
use Rattle.mps_base.specs.Address.{Address}
use Rattle.mps_base.specs.declared.names.Name.{Name}
use Rattle.mps_base.specs.declared.refusal.Refusal.{Refusal}
use Rattle.mps_base.specs.declared.refusal.Refusal.TheVariants as refusal
use Rattle.mps_abstract.proofs.Calls.ClientLists.{map-replicate}
use Rattle.mps_format.specs.Layout.{Layout}
use Rattle.mps_laws.proofs.Lookups.{map-with_last}
use Rattle.mps_laws.proofs.Same.{same_next}
use Rattle.mps_model.specs.declared.call.Call.TheVariants as call
use Rattle.mps_model.specs.Checked.{◌>>◌, done, refuse_when, with_graph}
use Rattle.mps_model.specs.Graph as graph
use Rattle.mps_model.specs.Graph.{AreaWord, PlainWord, Slots, with_last}
use Rattle.mps_model.specs.Making as model
use Rattle.mps_model.specs.Making.{graph_with_area, graph_with_blocks, graph_with_table, most_roots, most_slots, refuse_at_limit}
use Rattle.mps_model.specs.World.{World}
use Rattle.mps_names.specs.declared.names.Thing.TheVariants as thing
use Rattle.mps_root.specs.State.{RootsState, kept, no_word}
use Rattle.mps_heap_spec.specs.Making.{IsMaking, MakesArea, MakesBlocks, MakesTable, check_root, refuse_root, refuse_taken, with_root}
use Rattle.mps_heap_spec.specs.State.{HeapState}
use Rattle.mps_refinement.proofs.Worlds.CollectorKept.{KeepsAll, all_kept}
use Rattle.mps_refinement.specs.Making.{IsRightMaking}
use Rattle.mps_refinement.specs.Numbering.{AreOrdered, renumbered}
use Rattle.mps_refinement.specs.StandsFor.{AreParts, AreSlots, AreWords, Past, address_of_target, stored_word, collector_of}
use Rattle.mps_refinement.proofs.Parts.Counts.{area_made_roots, area_made_slots, blocks_made_roots, blocks_made_slots, table_made_roots, table_made_slots}
use Rattle.mps_refinement.proofs.Calls.MakingSteps.{MakesAlike, checks_then, first_passed, free_name, making_is_right, refused_not, root_same, taken_same}
use Rattle.mps_refinement.proofs.Parts.Named.{ThingsStay, areas_renumbered, named_made, nothing_there, tables_renumbered}
use Rattle.mps_refinement.proofs.Parts.Numbering.{kept_alike, numbered_made, renumbered_here}
use Rattle.mps_refinement.proofs.Parts.Ordering.{ordered_alike, ordered_made}
use Rattle.mps_refinement.specs.Framed.{AreFramed}
use Rattle.mps_refinement.proofs.Parts.FramedParts.{framed_added}
use Rattle.mps_refinement.proofs.Parts.PartsMade.{AreOtherRoots, past_of_roots, roots_changed}
use Rattle.mps_refinement.proofs.Worlds.Steps.{HasParts}

-- what is kept under other keys is kept still
pub kept_more : {A : Type 0} (before after : ℕ → Option A) (key : ℕ) → before key ≡ None
    → ((other : ℕ) → other ≢ key → after other ≡ before other) → (k : ℕ) → IsSome (before k) → IsSome (after k)
kept_more before after key free others k some =
    ap is_some (others k (λ same. nothing_there (before k) (ap before same ∙ free) some)) ∙ some

module _ {F : Type 0} (layout : F → Layout) (h : HeapState F) (name : Name) (slots : ℕ) where
  -- the name is free where the checks are passed
  free_root : check_root h name slots ≡ Ok tt → Rattle.mps_names.specs.State.thing_named h.names name ≡ None
  free_root passed = free_name h name (first_passed (refuse_taken h name) (refuse_root h slots) tt passed).1

  module _ (w : World) (past : Past) (parts : AreParts layout past h w) where
    -- there are no more places than there may be
    few_slots : check_root h name slots ≡ Ok tt
        → sum_by length w.graph.blocks + length (replicate {A = Option ℕ} slots None) ≤ most_slots
    few_slots passed =
        let over = nat_lt most_slots (h.live_slots + slots) in
        let root = (first_passed (refuse_taken h name) (refuse_root h slots) tt passed).2 in
        let last = (first_passed (refuse_at_limit h.live_roots most_roots) (refuse_when over (refusal.TooMany most_slots)) tt root).2 in
        let fits = ltb-false most_slots (h.live_slots + slots) (refused_not over (refusal.TooMany most_slots) last) in
        let counted = parts.slots_counted in
        let long = length-replicate {A = Option ℕ} slots None in
        omega (arith, fits, counted, long)

    -- ---- tables

    table_parts : (key : ℕ) (after : HeapState F) → check_root h name slots ≡ Ok tt → MakesTable h name slots key after
        → HasParts layout past.time after (with_graph w (graph_with_table w.graph name slots))
    table_parts key after passed makes = record {
      past = past_of_roots layout past h w parts numbers past.area_number;
      timed = refl;
      parts = subst (λ s. AreParts layout (past_of_roots layout past h w parts numbers past.area_number) s
          (with_graph w (graph_with_table w.graph name slots))) (sym makes.state)
          (roots_changed layout past h w parts numbers past.area_number after.roots (h.live_roots + 1) (h.live_slots + slots) after.names
          tables w.graph.areas w.graph.blocks (with_last w.graph.names (record { name = name; thing = graph.TableThing number })) are);
    }
      where
        number : ℕ
        number = length w.graph.tables

        numbers : ℕ → ℕ
        numbers = renumbered past.table_number key (length w.graph.tables)

        tables : List (Option Slots)
        tables = with_last w.graph.tables (Some (replicate slots None))

        made : HeapState F
        made = with_root h after.roots after.names slots

        stay : ThingsStay h made
        stay = record {
          pools = λ n low. low;
          caches = omega arith;
          tables = λ k some. kept_more (kept h.roots.tables) (kept after.roots.tables) key makes.table.tables.free
              makes.table.tables.others k some;
          areas = λ k some. subst (λ rows. IsSome (kept rows k)) (sym makes.table.areas) some;
          blocks = λ n low. subst (λ bs. n < length bs) (sym makes.table.blocks) low;
          points = λ k some. some;
          dependencies = λ n low. low;
          chains = λ n low. low;
          transforms = refl;
        }

        are : AreOtherRoots layout past h w parts numbers past.area_number after.roots (h.live_roots + 1) (h.live_slots + slots) after.names
            tables w.graph.areas w.graph.blocks (with_last w.graph.names (record { name = name; thing = graph.TableThing number }))
        are = record {
          tables_are = numbered_made (AreSlots w.addresses) past.table_number (kept h.roots.tables) (kept after.roots.tables) w.graph.tables
              parts.tables key makes.table.tables.others (replicate slots 0) (replicate slots None) makes.table.tables.free
              makes.table.tables.made (sym (map-replicate (address_of_target w.addresses) slots None));
          ordered = subst (λ order. AreOrdered numbers order (kept after.roots.tables) tables) (sym makes.table.order)
              (ordered_made parts.ordered key makes.table.tables.others (replicate slots 0) (replicate slots None)
              makes.table.tables.free makes.table.tables.made);
          areas_are = kept_alike parts.areas (λ k. ap (λ rows. kept rows k) makes.table.areas);
          blocks_are = makes.table.blocks ∙ parts.blocks;
          roots_counted = ap (λ n. n + 1) parts.roots_counted ∙ sym (table_made_roots w.graph name slots);
          slots_counted = ap (λ n. n + slots) parts.slots_counted ∙ sym (table_made_slots w.graph name slots);
          framed_are =
              subst (λ bs. AreFramed h.beside.frames bs w.graph.blocks w.pools w.graph.frames) (sym makes.table.blocks) parts.framed;
          names_are = named_made past (past_of_roots layout past h w parts numbers past.area_number) h made w.graph.names w.graph.labels
              parts.names name
              (thing.Table key) (graph.TableThing number) makes.names (free_root passed)
              (ap graph.TableThing (renumbered_here past.table_number key number))
              (tables_renumbered past h key number makes.table.tables.free) stay (ap is_some makes.table.tables.made)
              (nothing_there (kept h.roots.tables key) makes.table.tables.free) refl refl;
        }

    table_alike : MakesAlike layout past h w (call.Table name slots) (check_root h name slots) (MakesTable h name slots)
    table_alike = record {
      models = model.refuse_taken w name >> model.refuse_root w slots;
      made = with_graph w (graph_with_table w.graph name slots);
      comes = checks_then (model.refuse_taken w name) (model.refuse_root w slots)
          (done (with_graph w (graph_with_table w.graph name slots)));
      alike = same_next (taken_same layout past h w parts name) (root_same layout past h w parts slots);
      formats = refl;
      keeps = λ key after makes. subst (λ (s : HeapState F). KeepsAll (collector_of h) (collector_of s)) (sym makes.state) (all_kept h);
      has = table_parts;
    }

    -- ---- areas

    area_parts : (key : ℕ) (after : HeapState F) → check_root h name slots ≡ Ok tt → MakesArea h name slots key after
        → HasParts layout past.time after (with_graph w (graph_with_area w.graph name slots))
    area_parts key after passed makes = record {
      past = past_of_roots layout past h w parts past.table_number numbers;
      timed = refl;
      parts = subst (λ s. AreParts layout (past_of_roots layout past h w parts past.table_number numbers) s
          (with_graph w (graph_with_area w.graph name slots))) (sym makes.state)
          (roots_changed layout past h w parts past.table_number numbers after.roots (h.live_roots + 1) (h.live_slots + slots) after.names
          w.graph.tables areas w.graph.blocks (with_last w.graph.names (record { name = name; thing = graph.AreaThing number })) are);
    }
      where
        number : ℕ
        number = length w.graph.areas

        numbers : ℕ → ℕ
        numbers = renumbered past.area_number key (length w.graph.areas)

        areas : List (Option (List AreaWord))
        areas = with_last w.graph.areas (Some (replicate slots (PlainWord 0)))

        made : HeapState F
        made = with_root h after.roots after.names slots

        stay : ThingsStay h made
        stay = record {
          pools = λ n low. low;
          caches = omega arith;
          tables = λ k some. subst (λ ts. IsSome (kept ts k)) (sym makes.area.tables) some;
          areas = λ k some. kept_more (kept h.roots.areas) (kept after.roots.areas) key makes.area.areas.free
              makes.area.areas.others k some;
          blocks = λ n low. subst (λ bs. n < length bs) (sym makes.area.blocks) low;
          points = λ k some. some;
          dependencies = λ n low. low;
          chains = λ n low. low;
          transforms = refl;
        }

        are : AreOtherRoots layout past h w parts past.table_number numbers after.roots (h.live_roots + 1) (h.live_slots + slots)
            after.names w.graph.tables areas w.graph.blocks
            (with_last w.graph.names (record { name = name; thing = graph.AreaThing number }))
        are = record {
          tables_are = kept_alike parts.tables (λ k. ap (λ ts. kept ts k) makes.area.tables);
          ordered = ordered_alike parts.ordered after.roots.order makes.area.order
              (λ k some. subst (λ ts. IsSome (kept ts k)) (sym makes.area.tables) some);
          areas_are = numbered_made (AreWords w.addresses) past.area_number (kept h.roots.areas) (kept after.roots.areas) w.graph.areas
              parts.areas key makes.area.areas.others (replicate slots no_word) (replicate slots (PlainWord 0)) makes.area.areas.free
              makes.area.areas.made (sym (map-replicate (stored_word w.addresses) slots (PlainWord 0)));
          blocks_are = makes.area.blocks ∙ parts.blocks;
          roots_counted = ap (λ n. n + 1) parts.roots_counted ∙ sym (area_made_roots w.graph name slots);
          slots_counted = ap (λ n. n + slots) parts.slots_counted ∙ sym (area_made_slots w.graph name slots);
          framed_are =
              subst (λ bs. AreFramed h.beside.frames bs w.graph.blocks w.pools w.graph.frames) (sym makes.area.blocks) parts.framed;
          names_are = named_made past (past_of_roots layout past h w parts past.table_number numbers) h made w.graph.names w.graph.labels
              parts.names name
              (thing.Area key) (graph.AreaThing number) makes.names (free_root passed)
              (ap graph.AreaThing (renumbered_here past.area_number key number))
              (areas_renumbered past h key number makes.area.areas.free) stay (ap is_some makes.area.areas.made)
              (nothing_there (kept h.roots.areas key) makes.area.areas.free) refl refl;
        }

    area_alike : MakesAlike layout past h w (call.Area name slots) (check_root h name slots) (MakesArea h name slots)
    area_alike = record {
      models = model.refuse_taken w name >> model.refuse_root w slots;
      made = with_graph w (graph_with_area w.graph name slots);
      comes = checks_then (model.refuse_taken w name) (model.refuse_root w slots)
          (done (with_graph w (graph_with_area w.graph name slots)));
      alike = same_next (taken_same layout past h w parts name) (root_same layout past h w parts slots);
      formats = refl;
      keeps = λ key after makes. subst (λ (s : HeapState F). KeepsAll (collector_of h) (collector_of s)) (sym makes.state) (all_kept h);
      has = area_parts;
    }

    -- ---- tables of blocks

    blocks_parts : (number : ℕ) (after : HeapState F) → check_root h name slots ≡ Ok tt → MakesBlocks h name slots number after
        → HasParts layout past.time after (with_graph w (graph_with_blocks w.graph name slots))
    blocks_parts number after passed makes = record {
      past = past;
      timed = refl;
      parts = subst (λ s. AreParts layout past s (with_graph w (graph_with_blocks w.graph name slots))) (sym makes.state)
          (roots_changed layout past h w parts past.table_number past.area_number roots (h.live_roots + 1) (h.live_slots + slots)
          after.names w.graph.tables w.graph.areas blocks
          (with_last w.graph.names (record { name = name; thing = graph.BlocksThing count })) are);
    }
      where
        count : ℕ
        count = length w.graph.blocks

        roots : RootsState
        roots = record h.roots { blocks = h.roots.blocks ++ replicate slots 0 ∷ [] }

        blocks : List Slots
        blocks = with_last w.graph.blocks (replicate slots None)

        made : HeapState F
        made = with_root h roots after.names slots

        same_count : number ≡ count
        same_count =
            makes.number_is ∙ ap (λ (bs : List (List Address)). length bs) parts.blocks
            ∙ length-map w.graph.blocks (map (address_of_target w.addresses))

        longer : length (h.roots.blocks ++ replicate slots 0 ∷ []) ≡ length h.roots.blocks + 1
        longer = length-append h.roots.blocks (replicate slots 0 ∷ [])

        stay : ThingsStay h made
        stay = record {
          pools = λ n low. low;
          caches = omega arith;
          tables = λ k some. some;
          areas = λ k some. some;
          blocks = λ n low. omega (arith, low, longer);
          points = λ k some. some;
          dependencies = λ n low. low;
          chains = λ n low. low;
          transforms = refl;
        }

        are : AreOtherRoots layout past h w parts past.table_number past.area_number roots (h.live_roots + 1) (h.live_slots + slots)
            after.names w.graph.tables w.graph.areas blocks
            (with_last w.graph.names (record { name = name; thing = graph.BlocksThing count }))
        are = record {
          tables_are = parts.tables;
          ordered = parts.ordered;
          areas_are = parts.areas;
          blocks_are =
              ap (λ bs. bs ++ replicate slots 0 ∷ []) parts.blocks
              ∙ ap (λ b. map (map (address_of_target w.addresses)) w.graph.blocks ++ b ∷ [])
              (sym (map-replicate (address_of_target w.addresses) slots None))
              ∙ sym (map-with_last (map (address_of_target w.addresses)) w.graph.blocks (replicate slots None));
          roots_counted = ap (λ n. n + 1) parts.roots_counted ∙ sym (blocks_made_roots w.graph name slots);
          slots_counted = ap (λ n. n + slots) parts.slots_counted ∙ sym (blocks_made_slots w.graph name slots);
          framed_are = framed_added h.beside.frames h.roots.blocks w.graph.blocks w.pools w.graph.frames parts.framed (replicate slots None)
              (replicate slots 0) (few_slots passed);
          names_are = named_made past past h made w.graph.names w.graph.labels parts.names name (thing.Blocks number)
              (graph.BlocksThing count)
              makes.names (free_root passed) (ap graph.BlocksThing same_count) (λ other there. refl) stay
              (let e = makes.number_is in omega (arith, e, longer))
              (λ there. let e = makes.number_is in omega (arith, e, there)) refl refl;
        }

    blocks_alike : MakesAlike layout past h w (call.Blocks name slots) (check_root h name slots) (MakesBlocks h name slots)
    blocks_alike = record {
      models = model.refuse_taken w name >> model.refuse_root w slots;
      made = with_graph w (graph_with_blocks w.graph name slots);
      comes = checks_then (model.refuse_taken w name) (model.refuse_root w slots)
          (done (with_graph w (graph_with_blocks w.graph name slots)));
      alike = same_next (taken_same layout past h w parts name) (root_same layout past h w parts slots);
      formats = refl;
      keeps = λ key after makes. subst (λ (s : HeapState F). KeepsAll (collector_of h) (collector_of s)) (sym makes.state) (all_kept h);
      has = blocks_parts;
    }

  -- ---- the calls

  pub table_is_right : (result : Result ℕ Refusal) (after : HeapState F)
      → IsMaking h (check_root h name slots) (MakesTable h name slots) result after
      → IsRightMaking layout h (call.Table name slots) result after
  table_is_right result after making =
      making_is_right layout h (call.Table name slots) (check_root h name slots) (MakesTable h name slots) refl refl
      (λ w past parts reached. table_alike w past parts) result after making

  pub area_is_right : (result : Result ℕ Refusal) (after : HeapState F)
      → IsMaking h (check_root h name slots) (MakesArea h name slots) result after
      → IsRightMaking layout h (call.Area name slots) result after
  area_is_right result after making =
      making_is_right layout h (call.Area name slots) (check_root h name slots) (MakesArea h name slots) refl refl
      (λ w past parts reached. area_alike w past parts) result after making

  pub blocks_is_right : (result : Result ℕ Refusal) (after : HeapState F)
      → IsMaking h (check_root h name slots) (MakesBlocks h name slots) result after
      → IsRightMaking layout h (call.Blocks name slots) result after
  blocks_is_right result after making =
      making_is_right layout h (call.Blocks name slots) (check_root h name slots) (MakesBlocks h name slots) refl refl
      (λ w past parts reached. blocks_alike w past parts) result after making
