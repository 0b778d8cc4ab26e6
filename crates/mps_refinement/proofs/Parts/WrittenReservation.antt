-- After a cell of a live reservation was written, and its word, the parts of a heap stand for those of the world after it.
use Rattle.std.proofs.Common.{◌≡◌, ◌∙◌, ℕ, ◌+◌, ◌<◌, false, refl, sym, ap, subst, List, [], length, map, Option, Some, None, is_some, inl, inr, arith, Bool, true}
use Rattle.std.proofs.lemmas.Option.{none-some, same_Some}
use Rattle.std.specs.Prelude.{slice_get, slice_set, slice_index, not}
use Rattle.std.specs.Option.{option_map_or}
use Rattle.mps_base.specs.Address.{Address, Id, word_of}
use Rattle.mps_buffer.specs.declared.point.Held.{Held}
use Rattle.mps_buffer.specs.declared.point.Point.{Point}
use Rattle.mps_buffer.specs.Points.{point_at}
use Rattle.mps_format.specs.Layout.{Layout}
use Rattle.mps_format.specs.Pools.{policy_of_pool}
use Rattle.mps_trace_laws.specs.Image.Image.{IsCellWord, IsFixedWord}
use Rattle.mps_trace_laws.specs.Image.Memory.{live_reservation, memory_in}
use Rattle.mps_trace_laws.proofs.Image.ClientLaws.{reservation_is_written}
use Rattle.mps_laws.proofs.Lookups.{entry_is_there, length-slice_set}
use Rattle.mps_laws.proofs.Sound.SoundGraph.{PassesOrNull}
use Rattle.mps_model.specs.Checked.{Numbered, with_graph}
use Rattle.mps_model.specs.Allocating as model
use Rattle.mps_model.specs.Graph as graph
use Rattle.mps_model.specs.Graph.{Cell, NumberCell, ReferenceCell, Reservation, entry_at}
use Rattle.mps_model.specs.World.{World, is_copying_pool, is_live}
use Rattle.mps_seg.specs.Segs.{SegsState}
use Rattle.mps_trace_laws.specs.Summaries.Summed.{AreWordsSummed}
use Rattle.mps_heap_spec.specs.State.{HeapState}
use Rattle.mps_refinement.specs.StandsFor.{AreHeldAlike, AreParts, BothHeld, IsHeld, IsPoint, Past, address_of_target, StandsAt, setting_at}
use Rattle.mps_refinement.proofs.Lookups.Cells.{IsTargetAddress}
use Rattle.mps_refinement.proofs.Parts.Counts.{reservation_written_points}
use Rattle.mps_refinement.proofs.Lookups.Found.{some_there}
use Rattle.mps_refinement.proofs.Parts.Numbering.{numbered_written}
use Rattle.mps_refinement.proofs.Parts.PointWritten.{points_anew, reservation_fits}
use Rattle.mps_refinement.proofs.Worlds.Ready.{live_is}
use Rattle.std.proofs.lemmas.Bool.{false≢true}
use Rattle.mps_abstract.specs.Colours.{Colours, is_white}

-- ---- what is written

-- a number is fixed
pub number_is_fixed : (condemned : List Id) (k : Colours) (addresses : List (Option Address)) (head value : ℕ)
    → IsFixedWord condemned addresses k head (NumberCell value) value
number_is_fixed condemned k addresses head value = record { holds = refl; not_white = λ t e. absurd (none-some t e) }

-- and so is a reference to null or to what is live
not_white : (b : Bool) → not b ≡ true → b ≡ false
not_white true e = absurd (false≢true e)
not_white false e = refl

pub reference_is_fixed : (condemned : List Id) (k : Colours) (addresses : List (Option Address)) (head tag word : ℕ) (target : Option Id)
    → word ≡ address_of_target addresses target + tag
    → PassesOrNull (λ id. is_some (entry_at addresses id)) target → PassesOrNull (λ id. not (is_white condemned k id)) target
    → IsFixedWord condemned addresses k head (ReferenceCell target tag) word
reference_is_fixed condemned k addresses head tag word None is live kept = record {
  holds = omega (arith, is);
  not_white = λ t e. absurd (none-some t e);
}
reference_is_fixed condemned k addresses head tag word (Some id) is live kept =
    let at = some_there (entry_at addresses id) live in
    record {
      holds = record {
        address = at.0;
        is = is ∙ ap (λ o. option_map_or (λ a. a) o 0 + tag) at.1;
        means = inl at.1;
      };
      not_white = λ t e. subst (λ n. is_white condemned k n ≡ false) (same_Some id t e) (not_white (is_white condemned k id) kept);
    }

-- what a reference refers to is null, or live
pub target_lives : (w : World) (head word tag : ℕ) (target : Option Id)
    → IsCellWord w.addresses [] head (ReferenceCell target tag) word → PassesOrNull (is_live w) target
target_lives w head word tag None e = tt
target_lives w head word tag (Some id) r =
    elim r.means [
      | inl e ↦ ap is_some e
      | inr e ↦ absurd (none-some r.address e)
    ]

module _ {F : Type 0} (layout : F → Layout) (past : Past) (h : HeapState F) (w : World) (parts : AreParts layout past h w) where
  -- what null or a live object has as its address
  pub target_address : (target : Option Id) → PassesOrNull (is_live w) target → IsTargetAddress (address_of_target w.addresses target)
  target_address None live = record { aligned = refl; small = omega arith }
  target_address (Some id) live =
      let at = some_there (entry_at w.addresses id) live in
      let address = parts.image.placed.address id at.0 at.1 in
      let is : at.0 ≡ address_of_target w.addresses (Some id) = ap (λ o. option_map_or (λ a. a) o 0) (sym at.1) in
      subst IsTargetAddress is (record { aligned = address.aligned; small = address.small })

  module _ (key : ℕ) (n : Numbered graph.Point) (number : n.number ≡ past.point_number key) (p : Point)
      (at_key : point_at h.points key ≡ Some p)
      (there : entry_at w.graph.points n.number ≡ Some n.value)
      (fit : IsPoint (length w.flips) (is_copying_pool w) w.point_memories n.number p n.value) (held : Held) (r : Reservation)
      (reserved : p.reservation ≡ Some held) (open_there : n.value.reservation ≡ Some r)
      (is : IsHeld (length w.flips) held r fit.memory.reserved_at) (live : r.is_doomed ≡ false) where
    now_live : live_reservation (Some n.value) ≡ Some r
    now_live = live_is (Some n.value) n.value r refl open_there live

    -- a cell of it holds the address that its target has now
    pub cell_is_fixed : (k : ℕ) (c : Cell) → k < length r.cells → slice_get r.cells k ≡ Some c
        → IsFixedWord past.time.condemned w.addresses past.time.colours r.head c (slice_index h.segs.words (word_of held.at.0 + k))
    cell_is_fixed k c lt e =
        let at = is.at in
        parts.image.fixed.reserved n.number k r (word_of held.at.0 + k) c
        (record {
          memory = fit.memory;
          reserved = live_is (entry_at w.graph.points n.number) n.value r there open_there live;
          has = fit.has;
          within = lt;
          is = ap (λ a. word_of a + k) at;
        }) e

    module _ (k : ℕ) (new : Cell) (cells : List Cell) (word value : ℕ) (cells_are : cells ≡ slice_set r.cells k new)
        (within : k < length r.cells)
        (word_is : word ≡ word_of held.at.0 + k) (fixed : IsFixedWord past.time.condemned w.addresses past.time.colours r.head new value)
        (summaries : List ℕ)
        (summed : AreWordsSummed layout (map policy_of_pool h.pools)
        (record h.segs { words = slice_set h.segs.words word value; summaries = summaries }))
      where
        abbrev written : Reservation
        written = record r { cells = cells }

        abbrev entry_written : graph.Point
        entry_written = record n.value { reservation = Some written }

        image_written : StandsAt past.time (record h.segs { words = slice_set h.segs.words word value })
            (with_graph w (model.with_reservation w.graph n (Some written)))
        image_written =
            let at : word_of fit.memory.reserved_at + k ≡ word = ap (λ a. word_of a + k) (sym is.at) ∙ sym word_is in
            subst (λ (x : ℕ). StandsAt past.time (record h.segs { words = slice_set h.segs.words x value })
            (with_graph w (model.with_reservation w.graph n (Some written)))) at
            (reservation_is_written (setting_at past.time h.segs w)
            (memory_in h.segs) w.addresses past.time.colours n.number (Some n.value) entry_written fit.memory r k new value parts.image
            (entry_is_there w.graph.points n.number n.value there) fit.has now_live within
            (live_is (Some entry_written) entry_written written refl refl live
            ∙ ap (λ (cs : List Cell). Some (record r { cells = cs })) cells_are) fixed)

        same_length : length cells ≡ length r.cells
        same_length = ap length cells_are ∙ length-slice_set r.cells k new

        fit_written : IsPoint (length w.flips) (is_copying_pool w) w.point_memories (past.point_number key) p entry_written
        fit_written =
            reservation_fits (length w.flips) (is_copying_pool w) w.point_memories n.number (past.point_number key) p n.value p.reservation
            (Some written) fit number
            (subst (λ o. AreHeldAlike (length w.flips) fit.memory.reserved_at o (Some written)) (sym reserved) (BothHeld (record {
              at = is.at;
              head = is.head;
              words = is.words ∙ sym same_length;
              doomed = is.doomed;
            })))

        abbrev segs_written : SegsState
        segs_written = record h.segs { words = slice_set h.segs.words word value; summaries = summaries }

        pub reservation_parts : AreParts layout past (record h { segs = segs_written })
            (with_graph w (model.with_reservation w.graph n (Some written)))
        reservation_parts =
            points_anew layout past h w parts segs_written h.points
            (slice_set w.graph.points n.number (Some entry_written)) w.segments w.point_memories
            (record {
              grains = refl;
              limit = refl;
              segments_are = parts.segments;
              image = image_written;
              arena = parts.arena;
              summed = summed;
              are = subst (λ j. Rattle.mps_refinement.specs.Numbering.AreNumbered
                  (IsPoint (length w.flips) (is_copying_pool w) w.point_memories) past.point_number (point_at h.points)
                  (slice_set w.graph.points j (Some entry_written))) (sym number)
                  (numbered_written (IsPoint (length w.flips) (is_copying_pool w) w.point_memories) past.point_number (point_at h.points)
                  (point_at h.points) w.graph.points parts.points key (λ other apart. refl) p p entry_written at_key at_key fit_written);
              counted = reservation_written_points w.graph n (Some written) there;
              flips = refl;
              there = λ other some. some;
            })
