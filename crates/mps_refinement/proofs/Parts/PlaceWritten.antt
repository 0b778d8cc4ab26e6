-- The parts of a heap stand for those of a world after a place of a table of blocks was written in both.
use Rattle.std.proofs.Common.{◌≡◌, ◌∙◌, ℕ, ◌+◌, Bool, true, refl, sym, ap, subst, length, map, Option, Some, arith}
use Rattle.std.proofs.lemmas.Option.{slice_get-map}
use Rattle.std.specs.List.{list_all}
use Rattle.std.specs.Prelude.{count_by, is_some, option_map, slice_get, slice_set, sum_by}
use Rattle.mps_base.specs.Address.{Address, Id}
use Rattle.mps_changes.proofs.Frames.{blocks_in}
use Rattle.mps_format.specs.Layout.{Layout}
use Rattle.mps_model.specs.Allocating as model
use Rattle.mps_model.specs.Checked.{Found, with_graph}
use Rattle.mps_model.specs.Making.{length_of}
use Rattle.mps_model.specs.World.{World}
use Rattle.mps_root.specs.State.{with_place}
use Rattle.mps_heap_spec.specs.Manual.{with_block_place}
use Rattle.mps_heap_spec.specs.State.{HeapState}
use Rattle.mps_heap_spec.specs.declared.found.Entry.{Entry}
use Rattle.mps_refinement.specs.Framed.{AreFramed}
use Rattle.mps_refinement.specs.StandsFor.{AreParts, Past, address_of_target}
use Rattle.mps_refinement.proofs.Parts.BlockPlaces.{place_length, place_written, places_count, places_counted}
use Rattle.mps_refinement.proofs.Parts.FramedParts.{framed_written}
use Rattle.mps_refinement.proofs.Parts.PartsWritten.{roots_written}

-- where each block that a pool of frames has passes a test, and what stood in the place doesn't
pub block_place_written : {F : Type 0} (layout : F → Layout) (past : Past) (h : HeapState F) (w : World) → AreParts layout past h w
    → (entry : Entry Address) (found : Found (Option ℕ)) → found.number ≡ entry.key → entry.index ≡ found.index
    → slice_get w.graph.blocks found.number ≡ Some found.list → (at : Address) (block : Option ℕ)
    → at ≡ address_of_target w.addresses block
    → (test : Id → Bool) → list_all test (blocks_in w.graph.frames) ≡ true
    → ((id : Id) → slice_get found.list found.index ≡ Some (Some id) → test id ≡ true → ⊥)
    → AreParts layout past (with_block_place h entry at) (with_graph w (model.with_block_place w.graph found block))
block_place_written layout past h w parts entry found number index has at block same test all apart =
    let places = slice_set w.graph.blocks found.number (slice_set found.list found.index block) in
    roots_written layout past h w parts (record h.roots { blocks = with_place h.roots.blocks entry.key entry.index at }) w.graph.tables
    w.graph.areas places (record {
      tables_are = parts.tables;
      ordered = parts.ordered;
      areas_are = parts.areas;
      blocks_are =
          ap (λ bs. with_place bs entry.key entry.index at) parts.blocks
          ∙ ap (λ n. with_place (map (map (address_of_target w.addresses)) w.graph.blocks) n entry.index at) (sym number)
          ∙ ap (λ i. with_place (map (map (address_of_target w.addresses)) w.graph.blocks) found.number i at) index
          ∙ ap (λ a. with_place (map (map (address_of_target w.addresses)) w.graph.blocks) found.number found.index a) same
          ∙ place_written w.graph.blocks found.number found.index found.list block has (address_of_target w.addresses)
          (address_of_target w.addresses) refl (λ m k j there apart. refl);
      roots_counted = ap (λ n. count_by is_some w.graph.tables + count_by is_some w.graph.areas + n)
          (places_count w.graph.blocks found.number found.index found.list block has);
      slots_counted = ap (λ n. sum_by length_of w.graph.tables + sum_by length_of w.graph.areas + n)
          (places_counted w.graph.blocks found.number found.index found.list block has);
      framed_are =
          subst (λ n. AreFramed h.beside.frames (with_place h.roots.blocks n entry.index at) places w.pools w.graph.frames) number
          (subst (λ i. AreFramed h.beside.frames (with_place h.roots.blocks found.number i at) places w.pools w.graph.frames) (sym index)
          (framed_written h.beside.frames h.roots.blocks w.graph.blocks w.pools w.graph.frames parts.framed found.number found.index
          found.list (map (address_of_target w.addresses) found.list) block at has
          (ap (λ bs. slice_get bs found.number) parts.blocks
          ∙ slice_get-map (map (address_of_target w.addresses)) w.graph.blocks found.number
          ∙ ap (option_map (map (address_of_target w.addresses))) has) test all apart
          (places_counted w.graph.blocks found.number found.index found.list block has)));
      stay = record {
        pools = λ n low. low;
        caches = omega arith;
        tables = λ key some. some;
        areas = λ key some. some;
        blocks = λ n low.
            let long = ap (λ n. length (with_place h.roots.blocks n entry.index at)) (sym number)
            ∙ ap (λ i. length (with_place h.roots.blocks found.number i at)) index
            ∙ place_length w.graph.blocks found.number found.index found.list block has h.roots.blocks at in
            omega (arith, low, long);
        points = λ key some. some;
        dependencies = λ n low. low;
        chains = λ n low. low;
        transforms = refl;
      };
    })
