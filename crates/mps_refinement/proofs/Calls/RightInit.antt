-- The calls that initialise a reservation of a heap at rest are right.
use Rattle.std.proofs.Common.{◌≡◌, ◌∙◌, ℕ, ◌+◌, ◌<◌, Bool, true, false, refl, sym, ap, subst, List, [], length, map, Option, Some, Ok}
use Rattle.std.proofs.lemmas.Option.{get_or_from_slice_get}
use Rattle.std.specs.Prelude.{not, ◌==◌, slice_set, slice_index, if◌then◌else◌}
use Rattle.std.specs.Option.{option_map_or}
use Rattle.mps_base.specs.Address.{Address, word_of}
use Rattle.mps_base.specs.declared.names.Name.{Name}
use Rattle.mps_base.specs.declared.names.Slot.{Slot}
use Rattle.mps_base.specs.declared.refusal.Refusal.TheVariants as refusal
use Rattle.mps_buffer.specs.declared.point.Held.{Held}
use Rattle.mps_format.specs.Layout.{Layout}
use Rattle.mps_format.specs.Pools.{policy_of_pool}
use Rattle.mps_trace_laws.specs.Image.Image.{IsFixedWord}
use Rattle.mps_laws.proofs.Positions.LegalMoves.{HasLayout}
use Rattle.mps_laws.proofs.Same.{Same, fits, same_then, same_required}
use Rattle.mps_laws.proofs.Sound.SoundGraph.{IsSoundGraph, PassesOrNull}
use Rattle.mps_model.specs.declared.call.Call.TheVariants as call
use Rattle.mps_model.specs.Allocating as model
use Rattle.mps_model.specs.Answer.{Answer}
use Rattle.mps_model.specs.Checked.{Checked, Numbered, ◌>>=◌, ◌>>◌, done, number_at, reference_at, with_graph}
use Rattle.mps_model.specs.Graph as graph
use Rattle.mps_model.specs.Graph.{Cell, NumberCell, ReferenceCell, Reservation, retargeted, with_target_cell}
use Rattle.mps_model.specs.World.{World, is_live}
use Rattle.mps_seg.specs.Segs.{SegsState}
use Rattle.mps_trace_laws.specs.Summaries.Summed.{AreWordsSummed}
use Rattle.mps_heap_spec.specs.Allocating.{block_held, number_initialised, reference_initialised, with_reserved_reference, with_reserved_word}
use Rattle.mps_heap_spec.specs.Coming.{Comes}
use Rattle.mps_heap_spec.specs.Coming as coming
use Rattle.mps_heap_spec.specs.Finding.{number_cell_at, reference_cell_at}
use Rattle.mps_heap_spec.specs.declared.found.Block.{Block}
use Rattle.mps_heap_spec.specs.declared.found.CellFound.{CellFound}
use Rattle.mps_heap_spec.specs.declared.found.Kept.{Kept}
use Rattle.mps_heap_spec.specs.Finding as ours
use Rattle.mps_heap_spec.specs.Referring.{noting_reference}
use Rattle.mps_heap_spec.specs.State.{HeapState}
use Rattle.mps_refinement.proofs.Worlds.CollectorKept.{KeepsAll, all_kept}
use Rattle.mps_refinement.specs.Answering.{answer_to, says_ok}
use Rattle.mps_refinement.specs.RightStep.{IsRight}
use Rattle.mps_refinement.specs.StandsFor.{AreParts, IsHeld, Past, address_of_target, collector_of}
use Rattle.mps_refinement.proofs.Lookups.Cells.{IsReference, IsTargetAddress, number_cell_same, reference_cell_same, retargeted_is}
use Rattle.mps_refinement.proofs.Lookups.Found.{same_drop}
use Rattle.mps_refinement.proofs.Lookups.HeldCells.{block_of_held, held_cells, held_is_block, held_lawful, held_same, held_words}
use Rattle.mps_refinement.proofs.Worlds.Known.{is_kept_at}
use Rattle.mps_refinement.proofs.Lookups.LiveObjects.{reference_word, slot_passes}
use Rattle.mps_refinement.proofs.Lookups.Lookups.{IsPointFound, point_same, slot_same}
use Rattle.mps_refinement.proofs.Worlds.Steps.{HasParts, Leads, quiet_is_right}
use Rattle.mps_refinement.proofs.Summaries.CellWrites.{noting_is}
use Rattle.mps_refinement.proofs.Summaries.ReservedCells.{number_kept, reference_kept}
use Rattle.mps_refinement.proofs.Parts.WrittenReservation.{cell_is_fixed, number_is_fixed, reference_is_fixed, reservation_parts, target_address, target_lives}

abbrev ok : Answer
ok = Rattle.mps_model.specs.Answer.Replied Rattle.mps_model.specs.declared.reply.Reply.TheVariants.Ok

-- an `init` says `ok`
abbrev says : Unit {0} → Answer
says = says_ok

module _ {F : Type 0} (layout : F → Layout) (past : Past) (h : HeapState F) (w : World) (parts : AreParts layout past h w)
    (laid : HasLayout (w.grains + 1) w) (sound : IsSoundGraph w) (k : Kept Rattle.mps_buffer.specs.declared.point.Point.Point)
    (n : Numbered graph.Point)
    (found : IsPointFound past h w k n) (held : Held) (r : Reservation) (reserved : k.value.reservation ≡ Some held)
    (open_there : n.value.reservation ≡ Some r) (is : IsHeld (length w.flips) held r found.fit.memory.reserved_at) where
  -- the heap with a word written, and maybe a summary
  abbrev written_with : (word value : ℕ) (summaries : List ℕ) → HeapState F
  written_with word value summaries =
      record h { segs = record h.segs { words = slice_set h.segs.words word value; summaries = summaries } }

  -- a cell and its word are written, and nothing where a flip ended the reservation
  pub written_or_not : (i : ℕ) (new : Cell) (cells : List Cell) (word value : ℕ) (summaries : List ℕ) → cells ≡ slice_set r.cells i new
      → i < length r.cells → word ≡ word_of held.at.0 + i
      → (r.is_doomed ≡ false → IsFixedWord past.time.condemned w.addresses past.time.colours r.head new value)
      → (r.is_doomed ≡ false → AreWordsSummed layout (map policy_of_pool h.pools) (written_with word value summaries).segs)
      → Leads layout says h past w
      (record { answer = tt; state = if held.flips == h.points.flips then written_with word value summaries else h })
      (record { answer = ok; world = model.with_reserved_cells w n r cells })
  written_or_not i new cells word value summaries cells_are within word_is fixed summed =
      let flips = parts.point_flips in
      let doomed : r.is_doomed ≡ not (held.flips == h.points.flips) = is.doomed ∙ ap (λ f. not (held.flips == f)) (sym flips) in
      record {
        answer = refl;
        keeps = keeps_if (held.flips == h.points.flips);
        formats = formats_if r.is_doomed;
        has = of_flip (held.flips == h.points.flips) refl doomed;
      }
    where
      after : HeapState F
      after = written_with word value summaries

      keeps_if : (b : Bool) → KeepsAll (collector_of h) (collector_of (if b then after else h))
      keeps_if true = all_kept h
      keeps_if false = all_kept h

      formats_if : (b : Bool)
          → (if b then w else with_graph w (model.with_reservation w.graph n (Some (record r { cells = cells })))).formats ≡ w.formats
      formats_if true = refl
      formats_if false = refl

      of_flip : (b : Bool) → (held.flips == h.points.flips) ≡ b → r.is_doomed ≡ not b
          → HasParts layout past.time (if held.flips == h.points.flips then after else h)
          (if r.is_doomed then w else with_graph w (model.with_reservation w.graph n (Some (record r { cells = cells }))))
      of_flip true e live =
          subst (λ (b : Bool). HasParts layout past.time (if b then after else h)
          (if r.is_doomed then w else with_graph w (model.with_reservation w.graph n (Some (record r { cells = cells }))))) (sym e)
          (subst (λ (b : Bool). HasParts layout past.time after
          (if b then w else with_graph w (model.with_reservation w.graph n (Some (record r { cells = cells }))))) (sym live)
          (record {
            past = past;
            timed = refl;
            parts = reservation_parts layout past h w parts k.key n found.number k.value found.kept found.has found.fit held r reserved
                open_there is live i new cells word value cells_are within word_is (fixed live) summaries (summed live);
          }))
      of_flip false e doomed =
          subst (λ (b : Bool). HasParts layout past.time (if b then after else h)
          (if r.is_doomed then w else with_graph w (model.with_reservation w.graph n (Some (record r { cells = cells }))))) (sym e)
          (subst (λ (b : Bool). HasParts layout past.time h
          (if b then w else with_graph w (model.with_reservation w.graph n (Some (record r { cells = cells }))))) (sym doomed)
          (record { past = past; timed = refl; parts = parts }))

  abbrev block : Block F
  block =
      block_of_held layout past h w parts sound k.key n.number k.value n.value found.kept found.has found.fit.pool held r reserved
      open_there
      found.fit.memory.reserved_at is

  block_is : block_held layout h k.value held ≡ Ok block
  block_is =
      held_is_block layout past h w parts sound k.key n.number k.value n.value found.kept found.has found.fit.pool held r reserved
      open_there
      found.fit.memory.reserved_at is

  -- a number
  pub number_leads : (i value : ℕ)
      → Same (Leads layout says h past w)
      (block_held layout h k.value held >>= (λ b. number_cell_at layout h.segs.words b i
      >>= (λ cell. coming.done (with_reserved_word layout h held cell.word value))))
      (number_at r.cells i >> done (model.with_reserved_cells w n r (slice_set r.cells i (NumberCell value))))
  number_leads i value =
      subst (λ (x : Checked (Block F)). Same (Leads layout says h past w)
      (x >>= (λ b. number_cell_at layout h.segs.words b i >>= (λ cell. coming.done (with_reserved_word layout h held cell.word value))))
      (number_at r.cells i >> done (model.with_reserved_cells w n r (slice_set r.cells i (NumberCell value))))) (sym block_is)
      (same_drop (number_cell_same layout h.segs.words block r.cells
      (held_cells layout past h w parts sound k.key n.number k.value n.value found.kept found.has found.fit.pool held r reserved open_there
      found.fit.memory.reserved_at is)
      (held_words layout past h w parts sound k.key n.number k.value n.value found.kept found.has found.fit.pool held r reserved open_there
      found.fit.memory.reserved_at is) i)
      (λ cell old at. fits (written_or_not i (NumberCell value) (slice_set r.cells i (NumberCell value)) cell.word value h.segs.summaries
      refl at.is.within at.is.word (λ live. number_is_fixed past.time.condemned past.time.colours w.addresses r.head value)
      (λ live. number_kept layout past h w parts laid sound k.key n found.number k.value found.kept found.has found.fit held r reserved
      open_there is live i value cell old at))))

  -- a reference
  pub reference_leads : (i : ℕ) (from : Address) (target : Option ℕ) → from ≡ address_of_target w.addresses target
      → PassesOrNull (is_live w) target → PassesOrNull (is_kept_at past.time) target
      → Same (Leads layout says h past w)
      (block_held layout h k.value held >>= (λ b. reference_cell_at layout h.segs.words b i
      >>= (λ cell. coming.done (with_reserved_reference layout h held b cell from))))
      (reference_at r.cells i >> done (model.with_reserved_cells w n r (with_target_cell r.cells i target)))
  reference_leads i from target from_is live_target kept_target =
      subst (λ (x : Checked (Block F)). Same (Leads layout says h past w)
      (x >>= (λ b. reference_cell_at layout h.segs.words b i
      >>= (λ cell. coming.done (with_reserved_reference layout h held b cell from))))
      (reference_at r.cells i >> done (model.with_reserved_cells w n r (with_target_cell r.cells i target)))) (sym block_is)
      (same_drop (reference_cell_same layout h.segs.words block r.cells
      (held_cells layout past h w parts sound k.key n.number k.value n.value found.kept found.has found.fit.pool held r reserved open_there
      found.fit.memory.reserved_at is)
      (held_words layout past h w parts sound k.key n.number k.value n.value found.kept found.has found.fit.pool held r reserved open_there
      found.fit.memory.reserved_at is) i) (λ cell old at. fits (retargeted_leads cell old at)))
    where
      retargeted_leads : (cell : CellFound) (old : Option ℕ) → IsReference h.segs.words block.at r.cells i cell old
          → Leads layout says h past w (record {
            answer = tt;
            state = with_reserved_reference layout h held block cell from;
          }) (record {
            answer = ok;
            world = model.with_reserved_cells w n r (with_target_cell r.cells i target);
          })
      retargeted_leads cell old at =
          subst IsLed (sym noted)
          (written_or_not i (ReferenceCell target at.tag) (with_target_cell r.cells i target) cell.word value
          (noting_reference words block.at from).summaries
          (ap (λ o. option_map_or (λ c. slice_set r.cells i (retargeted c target)) o r.cells) at.is.cell)
          at.is.within at.is.word
          (λ live. reference_is_fixed past.time.condemned past.time.colours w.addresses r.head at.tag value target
          (new_word live) live_target kept_target)
          (λ live. subst (λ g. AreWordsSummed layout (map policy_of_pool h.pools) g) noted
          (reference_kept layout past h w parts laid sound k.key n found.number k.value found.kept found.has found.fit held r reserved
          open_there is live i cell old at from its_address (new_word live ∙ ap (λ a. a + at.tag) (sym from_is)))))
        where
          value : ℕ
          value = ours.retargeted (layout block.format) cell.value from

          words : SegsState
          words = record h.segs { words = slice_set h.segs.words cell.word value }

          noted : noting_reference words block.at from
              ≡ record words { summaries = (noting_reference words block.at from).summaries }
          noted = noting_is words block.at from

          -- the segments after the write have this outcome
          IsLed : SegsState → Type 0
          IsLed g =
              Leads layout says h past w
              (record { answer = tt; state = if held.flips == h.points.flips then record h { segs = g } else h })
              (record { answer = ok; world = model.with_reserved_cells w n r (with_target_cell r.cells i target) })

          its_address : IsTargetAddress from
          its_address = subst IsTargetAddress (sym from_is) (target_address layout past h w parts target live_target)

          fixed : r.is_doomed ≡ false → IsFixedWord past.time.condemned w.addresses past.time.colours r.head
              (ReferenceCell old at.tag) (slice_index h.segs.words (word_of held.at.0 + i))
          fixed live =
              cell_is_fixed layout past h w parts k.key n found.number k.value found.kept found.has found.fit held r reserved open_there is
              live i (ReferenceCell old at.tag) at.is.within at.is.cell

          -- what the cell's word had
          old_word : r.is_doomed ≡ false → cell.value ≡ address_of_target w.addresses old + at.tag
          old_word live =
              sym (ap (slice_index h.segs.words) (sym at.is.word) ∙ get_or_from_slice_get h.segs.words cell.word cell.value 0 at.is.value)
              ∙ reference_word w.addresses r.head (slice_index h.segs.words (word_of held.at.0 + i)) at.tag old (fixed live).holds

          new_word : r.is_doomed ≡ false
              → value ≡ address_of_target w.addresses target + at.tag
          new_word live =
              let lawful =
              held_lawful layout past h w parts sound k.key n.number k.value n.value found.kept found.has found.fit.pool held r reserved
              open_there found.fit.memory.reserved_at is in
              let old_live = target_lives w r.head (slice_index h.segs.words (word_of held.at.0 + i)) at.tag old (fixed live).holds in
              retargeted_is (layout block.format) lawful cell.value (address_of_target w.addresses old) at.tag at.low
              (target_address layout past h w parts old old_live) (old_word live) from its_address
              ∙ ap (λ a. a + at.tag) from_is

-- ---- the calls

module _ {F : Type 0} (layout : F → Layout) (h : HeapState F) (name : Name) (i : ℕ) where
  pub number_init_is_right : (value : ℕ) (result : Checked (Unit {0})) (after : HeapState F)
      → Comes h (number_initialised layout h name i value) result after
      → IsRight layout h (call.InitNumber name i value) [] (answer_to says result) after
  number_init_is_right value result after comes =
      quiet_is_right layout says h (call.InitNumber name i value) refl refl (number_initialised layout h name i value) result
      after (λ w past parts reached.
      same_then (point_same layout past h w parts name) (λ k n found.
      same_then (same_required refusal.NotOpen (held_same (length w.flips) found.fit.memory.reserved_at k.value.reservation
      n.value.reservation found.fit.reservation)) (λ held r is.
      number_leads layout past h w parts reached.laid reached.graph k n found held r is.0 is.1 is.2 i value))) comes

  pub reference_init_is_right : (source : Slot) (result : Checked (Unit {0})) (after : HeapState F)
      → Comes h (reference_initialised layout h name i source) result after
      → IsRight layout h (call.InitReference name i source) [] (answer_to says result) after
  reference_init_is_right source result after comes =
      quiet_is_right layout says h (call.InitReference name i source) refl refl
      (reference_initialised layout h name i source)
      result after (λ w past parts reached.
      same_then (point_same layout past h w parts name) (λ k n found.
      same_then (slot_same layout past h w parts source) (λ from target slot.
      same_then (same_required refusal.NotOpen (held_same (length w.flips) found.fit.memory.reserved_at k.value.reservation
      n.value.reservation found.fit.reservation)) (λ held r is.
      reference_leads layout past h w parts reached.laid reached.graph k n found held r is.0 is.1 is.2 i from.value target.value
      slot.fit.value
      (slot_passes layout past h w parts reached (is_live w) reached.held.slots source.index from target slot.fit)
      (slot_passes layout past h w parts reached (is_kept_at past.time) reached.kept.slots source.index from target slot.fit)))))
      comes
