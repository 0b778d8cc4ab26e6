-- The parts of a heap still stand for those of a world after one thing was written in both.
use Rattle.std.proofs.Common.{◌≡◌, ◌∙◌, ℕ, refl, sym, List, length, map, Option, Some, arith}
use Rattle.std.specs.Prelude.{slice_set}
use Rattle.mps_base.specs.Address.{Address, Id}
use Rattle.mps_trace.specs.State.{FinalsState}
use Rattle.mps_format.specs.Layout.{Layout}
use Rattle.mps_format.specs.Pools.{policy_of_pool}
use Rattle.mps_model.specs.Allocating.{with_slot}
use Rattle.mps_model.specs.Checked.{Found, with_graph}
use Rattle.mps_model.specs.Accessing.{with_word}
use Rattle.mps_model.specs.Graph.{AreaWord, Object, Slots}
use Rattle.mps_model.specs.Making.{live_roots, live_slots}
use Rattle.mps_model.specs.World.{World, Dependency, is_copying_object, pairs_in}
use Rattle.mps_ld.specs.State.{LdState}
use Rattle.mps_root.specs.State.{RootsState, kept, with_item}
use Rattle.mps_trace_laws.specs.Summaries.Summed.{AreWordsSummed}
use Rattle.mps_root.specs.declared.roots.Stored.{Stored}
use Rattle.mps_heap_spec.specs.Areas.{with_area_word}
use Rattle.mps_heap_spec.specs.Finalizing.{with_finals}
use Rattle.mps_heap_spec.specs.declared.found.Entry.{Entry}
use Rattle.mps_heap_spec.specs.Objects as ours
use Rattle.mps_heap_spec.specs.State.{HeapState}
use Rattle.mps_refinement.specs.StandsFor.{Past, AreParts, AreSlots, AreWords, address_of_id, address_of_target, kept_of, stored_word, AreRegisteredAt, StandsAt}
use Rattle.mps_refinement.specs.Framed.{AreFramed}
use Rattle.mps_refinement.specs.Numbering.{AreNumbered, AreOrdered}
use Rattle.mps_refinement.proofs.Parts.Counts.{slot_written_roots, slot_written_slots, word_written_roots, word_written_slots}
use Rattle.mps_refinement.proofs.Parts.EntryWritten.{entry_written, kept_still}
use Rattle.mps_refinement.proofs.Parts.Named.{ThingsStay, named_alike}
use Rattle.mps_refinement.proofs.Parts.Ordering.{still_ordered}
use Rattle.mps_refinement.proofs.Parts.PartsByKind.{parts_of_kinds, arena_of, finals_of, image_of, points_of, pools_of, roots_of, states_of}
use Rattle.mps_refinement.proofs.Parts.PartsMade.{all_stay}
use Rattle.mps_refinement.proofs.Lookups.Lookups.{IsSlotEntry, IsWordEntry}
use Rattle.mps_refinement.proofs.Parts.ObjectKinds.{kinds_by_images}
use Rattle.mps_refinement.proofs.Parts.TransformParts.{transforms_still}

-- ---- the parts, where some of them are others

module _ {F : Type 0} (layout : F → Layout) (past : Past) (h : HeapState F) (w : World) (parts : AreParts layout past h w) where
  -- other slots, words of areas and places
  pub record AreRoots (roots : RootsState) (tables : List (Option Slots)) (areas : List (Option (List AreaWord))) (blocks : List Slots) :
      Type 0 where
    pub tables_are : AreNumbered (AreSlots w.addresses) past.table_number (kept roots.tables) tables
    pub ordered : AreOrdered past.table_number roots.order (kept roots.tables) tables
    pub areas_are : AreNumbered (AreWords w.addresses) past.area_number (kept roots.areas) areas
    pub blocks_are : roots.blocks ≡ map (map (address_of_target w.addresses)) blocks
    pub roots_counted : live_roots (record w.graph { tables = tables; areas = areas; blocks = blocks }) ≡ live_roots w.graph
    pub slots_counted : live_slots (record w.graph { tables = tables; areas = areas; blocks = blocks }) ≡ live_slots w.graph
    pub framed_are : AreFramed h.beside.frames roots.blocks blocks w.pools w.graph.frames
    pub stay : ThingsStay h (record h { roots = roots })

  pub roots_written : (roots : RootsState) (tables : List (Option Slots)) (areas : List (Option (List AreaWord))) (blocks : List Slots)
      → AreRoots roots tables areas blocks
      → AreParts layout past (record h { roots = roots })
      (with_graph w (record w.graph { tables = tables; areas = areas; blocks = blocks }))
  roots_written roots tables areas blocks are =
      parts_of_kinds (arena_of parts) (image_of parts) (
        are.tables_are,
        are.ordered,
        are.areas_are,
        are.blocks_are,
        parts.roots_counted ∙ sym are.roots_counted,
        parts.slots_counted ∙ sym are.slots_counted,
      )
      (points_of parts) (finals_of parts) parts.dependencies (pools_of parts)
      (named_alike h (record h { roots = roots }) past w.graph.names w.graph.labels parts.names (λ name. refl) refl are.stay)
      (parts.flips, parts.point_flips, parts.state, parts.beside, parts.transforms, are.framed_are)

  -- other words, and other objects where they lie, where what words refer to is in summaries
  pub words_written : (words summaries : List ℕ) (objects : List Object)
      → StandsAt past.time (record h.segs { words = words }) (with_graph w (record w.graph { objects = objects }))
      → AreWordsSummed layout (map policy_of_pool h.pools) (record h.segs { words = words; summaries = summaries })
      → AreParts layout past (record h { segs = record h.segs { words = words; summaries = summaries } })
      (with_graph w (record w.graph { objects = objects }))
  words_written words summaries objects image summed =
      let after : HeapState F = record h { segs = record h.segs { words = words; summaries = summaries } } in
      parts_of_kinds (arena_of parts) (image, parts.arena, summed) (roots_of parts) (points_of parts) (finals_of parts) parts.dependencies
      (pools_of parts)
      (named_alike h after past w.graph.names w.graph.labels parts.names (λ name. refl) refl
      (all_stay h after refl refl refl refl refl refl)) (
        parts.flips,
        parts.point_flips,
        parts.state,
        parts.beside,
        transforms_still past.transform_number (is_copying_object w)
            (is_copying_object (with_graph w (record w.graph { objects = objects }))) w.addresses w.addresses h.beside.transforms
            w.graph.transforms (pairs_in w.state) (λ id at paired there. (
              there,
              kinds_by_images past.time h.segs (record h.segs { words = words }) w objects refl parts.image image id at there,
            )) parts.transforms,
        parts.framed,
      )

  -- other registrations and messages
  pub finals_written : (finals : FinalsState) (registered messages : List Id)
      → AreRegisteredAt past.time w.addresses finals.registered registered
      → finals.messages ≡ map (address_of_id w.addresses) messages
      → AreParts layout past (with_finals h finals) (with_graph w (record w.graph { registered = registered; messages = messages }))
  finals_written finals registered messages are waiting =
      parts_of_kinds (arena_of parts) (image_of parts) (roots_of parts) (points_of parts) (are, waiting) parts.dependencies (pools_of parts)
      (named_alike h (with_finals h finals) past w.graph.names w.graph.labels parts.names (λ name. refl) refl
      (all_stay h (with_finals h finals) refl refl refl refl refl refl))
      (states_of parts)

  -- other epochs and zones of the dependencies
  pub dependencies_written : (states : List LdState) (dependencies : List Dependency) → states ≡ map kept_of dependencies
      → length states ≡ length h.dependencies
      → AreParts layout past (record h { dependencies = states }) (record w { dependencies = dependencies })
  dependencies_written states dependencies are count =
      parts_of_kinds (arena_of parts) (image_of parts) (roots_of parts) (points_of parts) (finals_of parts) are (pools_of parts)
      (named_alike h (record h { dependencies = states }) past w.graph.names w.graph.labels parts.names (λ name. refl) refl (record {
        pools = λ n low. low;
        caches = omega arith;
        tables = λ key some. some;
        areas = λ key some. some;
        blocks = λ n low. low;
        points = λ key some. some;
        dependencies = λ n low. omega (arith, low, count);
        chains = λ n low. low;
        transforms = refl;
      }))
      (states_of parts)

  -- ---- a slot, a word of an area

  pub slot_written : (index : ℕ) (entry : Entry Address) (found : Found (Option ℕ)) (at : Address) (target : Option ℕ)
      → IsSlotEntry past h w index entry found → at ≡ address_of_target w.addresses target
      → AreParts layout past (ours.with_slot h entry at) (with_graph w (with_slot w.graph found target))
  slot_written index entry found at target is same =
      let tables = slice_set w.graph.tables found.number (Some (slice_set found.list found.index target)) in
      roots_written (record h.roots { tables = with_item h.roots.tables entry.key entry.index at }) tables w.graph.areas w.graph.blocks
      (record {
        tables_are = entry_written (address_of_target w.addresses) past.table_number h.roots.tables w.graph.tables index entry
            found at target
            parts.tables is same;
        ordered = still_ordered parts.ordered found.number found.list (slice_set found.list found.index target) is.has
            (kept_still h.roots.tables entry.key entry.index at);
        areas_are = parts.areas;
        blocks_are = parts.blocks;
        roots_counted = slot_written_roots w.graph found target is.has;
        slots_counted = slot_written_slots w.graph found target is.has;
        framed_are = parts.framed;
        stay = record {
          pools = λ n low. low;
          caches = omega arith;
          tables = kept_still h.roots.tables entry.key entry.index at;
          areas = λ key some. some;
          blocks = λ n low. low;
          points = λ key some. some;
          dependencies = λ n low. low;
          chains = λ n low. low;
          transforms = refl;
        };
      })

  pub word_written : (index : ℕ) (entry : Entry Stored) (found : Found AreaWord) (stored : Stored) (word : AreaWord)
      → IsWordEntry past h w index entry found → stored ≡ stored_word w.addresses word
      → AreParts layout past (with_area_word h entry stored) (with_graph w (with_word w.graph found word))
  word_written index entry found stored word is same =
      let areas = slice_set w.graph.areas found.number (Some (slice_set found.list found.index word)) in
      roots_written (record h.roots { areas = with_item h.roots.areas entry.key entry.index stored }) w.graph.tables areas w.graph.blocks
      (record {
        tables_are = parts.tables;
        ordered = parts.ordered;
        areas_are = entry_written (stored_word w.addresses) past.area_number h.roots.areas w.graph.areas index entry found stored word
            parts.areas is same;
        blocks_are = parts.blocks;
        roots_counted = word_written_roots w.graph found word is.has;
        slots_counted = word_written_slots w.graph found word is.has;
        framed_are = parts.framed;
        stay = record {
          pools = λ n low. low;
          caches = omega arith;
          tables = λ key some. some;
          areas = kept_still h.roots.areas entry.key entry.index stored;
          blocks = λ n low. low;
          points = λ key some. some;
          dependencies = λ n low. low;
          chains = λ n low. low;
          transforms = refl;
        };
      })
