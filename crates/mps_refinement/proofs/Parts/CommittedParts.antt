-- After a live reservation became a block the parts of a heap stand for those of the world with the new object.
use Rattle.std.proofs.Common.{◌≡◌, ◌∙◌, ℕ, ◌+◌, ◌*◌, ◌%◌, ◌<◌, ◌≤◌, true, false, refl, sym, ap, subst, List, [], ◌∷◌, ◌++◌, length, map, Option, Some, None, Contains, inl, inr, arith, is_some}
use Rattle.std.proofs.lemmas.Bool.{and_parts, cases_eq}
use Rattle.std.proofs.lemmas.Option.{none-some, same_Some}
use Rattle.std.specs.Prelude.{◌&&◌, not, slice_get, slice_set, if◌then◌else◌, ◌≢◌, Bool}
use Rattle.std.specs.List.{AllByRecursion}
use Rattle.std.specs.Option.{option_map_or}
use Rattle.mps_base.specs.Address.{Address, Id, word_of, address_of_grain, grain_of, max_grains, Word, address_of_word}
use Rattle.mps_base.specs.Run.{Run, IsAscending, end_of, with_run, without_run}
use Rattle.mps_base.specs.Segment.{Segment, grains_of_segment}
use Rattle.mps_extents.proofs.ContainedRuns.{taken_and_put}
use Rattle.mps_buffer.specs.declared.point.Held.{Held}
use Rattle.mps_buffer.specs.declared.point.Point.{Point}
use Rattle.mps_buffer.specs.Points.{point_at, with_point, with_block, after_close, run_of_held}
use Rattle.mps_format.specs.Layout.{Layout}
use Rattle.mps_trace_laws.specs.Image.Changes.{AreHome, IsAllocated, memory_allocated, memory_without_reservation, setting_with_points}
use Rattle.mps_trace_laws.specs.Image.Image.{Stands, is_white_over}
use Rattle.mps_trace_laws.specs.Image.Memory.{Memory, Setting, live_reservation, memory_in, pool_layout, words_of_arena}
use Rattle.mps_trace_laws.specs.Image.SegmentWords.{AreSegmentsInOrder}
use Rattle.mps_trace_laws.proofs.Image.ClientLaws.{block_is_committed, committed_cells_are_fixed}
use Rattle.mps_trace_laws.proofs.Image.SegmentWords.{segments_are_home}
use Rattle.mps_trace_laws.proofs.Image.BlockRuns.{contained_in_order}
use Rattle.mps_changes.proofs.OneMore.{parts_pass}
use Rattle.mps_laws.proofs.Positions.Covered.{covered-shapes, covered_ascending}
use Rattle.mps_laws.proofs.Positions.LegalMoves.{HasLayout}
use Rattle.mps_laws.proofs.Lookups.{entry_is_there}
use Rattle.mps_laws.proofs.Positions.Occupancy.{OfReservation, PointShape, occupancy_of, run_of, run_of_reservation, run_of_reserved, shape_of_point}
use Rattle.mps_laws.proofs.Positions.Segments.{AreAligned, IsAmong, among_aligned}
use Rattle.mps_model.specs.Checked.{Numbered}
use Rattle.mps_model.specs.Allocating as model
use Rattle.mps_model.specs.Graph as graph
use Rattle.mps_model.specs.Graph.{Object, Reservation, entry_at, with_last}
use Rattle.mps_model.specs.Making.{is_weak_rank}
use Rattle.mps_model.specs.World.{World, covered, extent, extents_of, is_copying_pool, is_live, object_is, reserved_extents, is_copying_object, pairs_in}
use Rattle.mps_heap_spec.specs.State.{HeapState}
use Rattle.mps_refinement.specs.StandsFor.{AreParts, NoneHeld, IsArena, IsHeld, IsPoint, Past, StandsAt, setting_at}
use Rattle.mps_refinement.proofs.Worlds.AtHand.{extent_there, there_after}
use Rattle.mps_refinement.proofs.Parts.Counts.{reservation_written_points}
use Rattle.mps_refinement.proofs.Worlds.Known.{IsKnown}
use Rattle.mps_refinement.proofs.Parts.ObjectMore.{areas_still, blocks_still, ids_still, tables_still, address_still}
use Rattle.mps_refinement.proofs.Parts.BesideParts.{beside_still}
use Rattle.mps_refinement.proofs.Parts.PartsByKind.{parts_of_kinds, arena_of, pools_of}
use Rattle.mps_refinement.proofs.Parts.Named.{named_alike}
use Rattle.mps_refinement.proofs.Parts.PointWritten.{other_point, points_stay, points_there, reservation_fits, resting_points, written_point}
use Rattle.mps_refinement.specs.Numbering.{AreNumbered}
use Rattle.mps_refinement.proofs.Parts.Numbering.{numbered_written}
use Rattle.mps_refinement.proofs.Worlds.Ready.{live_is}
use Rattle.mps_seg.specs.Segs.{SegsState}
use Rattle.mps_seg.specs.Collecting.{is_condemned_at, is_white_at}
use Rattle.mps_extents.specs.Table.{bit}
use Rattle.mps_trace_laws.proofs.Image.SegmentMarks.{keeping_marks}
use Rattle.mps_refinement.proofs.Parts.Registered.{as_before}
use Rattle.mps_refinement.proofs.Parts.CachesStill.{same_caches}
use Rattle.mps_model.proofs.Reaching.{list_all-contains}
use Rattle.mps_refinement.proofs.Parts.TransformParts.{transforms_still}
use Rattle.mps_refinement.proofs.Parts.ObjectKinds.{kind_with_last}
use Rattle.mps_refinement.proofs.Parts.PairsKept.{pairs_still}

-- ---- segments

pub segment_there : (s : Segment) (ss : List Segment) → IsAmong s ss → Contains ss s
segment_there s [] h = absurd h
segment_there s (t ∷ ts) (inl same) = (0, omega arith, same)
segment_there s (t ∷ ts) (inr later) =
    let k = segment_there s ts later in (Rattle.std.proofs.Common.suc k.0, (let low = k.1 in omega (arith, low)), k.2)

pub in_order_still : (low high most : ℕ) (rs : List Run) → high ≤ most → IsAscending low high rs → IsAscending low most rs
in_order_still low high most [] few ascending = omega (arith, few, ascending)
in_order_still low high most (r ∷ rs) few ascending = (ascending.0, ascending.1, in_order_still (end_of r) high most rs few ascending.2)

pub aligned_otherwise : (ss : List Segment) → AreAligned ss
    → AllByRecursion (λ (t : Segment). t.base ≡ address_of_grain (grain_of t.base)) ss
aligned_otherwise [] all = tt
aligned_otherwise (s ∷ ss) all = (sym all.0, aligned_otherwise ss all.1)

-- the segments in which a block that the client made is kept if it lies in a condemned segment: a collection that runs doesn't free it
abbrev pub with_new_kept : SegsState → (at : Address) → SegsState
with_new_kept s at = record s {
  marks = record s.marks { kept = if is_white_at s at then slice_set s.marks.kept (word_of at) true else s.marks.kept };
}

module _ {F : Type 0} (layout : F → Layout) (past : Past) (h : HeapState F) (w : World) (parts : AreParts layout past h w)
    (laid : HasLayout (w.grains + 1) w) (known : IsKnown past.time w) (key : ℕ) (n : Numbered graph.Point)
    (number : n.number ≡ past.point_number key) (p : Point)
    (at_key : point_at h.points key ≡ Some p) (there : entry_at w.graph.points n.number ≡ Some n.value)
    (fit : IsPoint (length w.flips) (is_copying_pool w) w.point_memories n.number p n.value) (held : Held) (r : Reservation)
    (reserved : p.reservation ≡ Some held) (open_there : n.value.reservation ≡ Some r)
    (is : IsHeld (length w.flips) held r fit.memory.reserved_at) (live : r.is_doomed ≡ false)
    (wide : is_white_at h.segs held.at.0 ≡ true → length h.segs.marks.kept ≡ words_of_arena h.segs.grains) where
  abbrev at : Address
  at = fit.memory.reserved_at

  abbrev size : ℕ
  size = length r.cells

  -- the new object, and the point without its reservation
  abbrev pub new_object : Object
  new_object = model.committed_object n.value r

  abbrev pub entry_closed : graph.Point
  entry_closed = record n.value { reservation = None }

  abbrev pub points_closed : List (Option graph.Point)
  points_closed = slice_set w.graph.points n.number (Some entry_closed)

  abbrev pub world_made : World
  world_made = record w {
    graph = record w.graph { objects = with_last w.graph.objects new_object; points = points_closed };
    addresses = with_last w.addresses (Some at);
  }

  abbrev pub segs_made : SegsState
  segs_made = with_new_kept (with_block h.segs held) held.at.0

  abbrev pub heap_made : HeapState F
  heap_made = record h { segs = segs_made; points = with_point h.points key (Some (after_close p)) }

  run_is : extent at size ≡ run_of_held held
  run_is = ap (λ (a : Address). extent a size) (sym is.at) ∙ ap (λ (k : ℕ). extent held.at.0 k) (sym is.words)

  live_there : live_reservation (entry_at w.graph.points n.number) ≡ Some r
  live_there = live_is (entry_at w.graph.points n.number) n.value r there open_there live

  some : 0 < size
  some = parts.image.placed.reserved_positive n.number r live_there

  -- ---- it lies in a segment of its pool

  segments_ascend : AreSegmentsInOrder h.segs.segments
  segments_ascend =
      subst AreSegmentsInOrder (sym parts.segments) (record {
        aligned = aligned_otherwise w.segments laid.aligned;
        ascending = in_order_still 1 (w.grains + 1) (max_grains + 1) (map grains_of_segment w.segments)
            (let most = parts.arena.at_most in let grains = parts.grains in omega (arith, most, grains)) laid.ascending;
      })

  abbrev setting : Setting
  setting = setting_at past.time h.segs w

  home : AreHome setting at size n.value.pool
  home =
      let g = occupancy_of w in
      let shape : entry_at g.points n.number ≡ shape_of_point (Some n.value) =
      Rattle.mps_refinement.proofs.Parts.ReservedImage.shape_there w.graph.points n.number n.value there in
      let words : Rattle.mps_laws.proofs.Positions.Occupancy.reserved_words n.value.reservation ≡ Some size =
      ap Rattle.mps_laws.proofs.Positions.Occupancy.reserved_words open_there ∙ ap (λ b. if b then None else Some size) live in
      let run : run_of g (OfReservation n.number) ≡ extent at size =
      ap (λ o. run_of_reservation o (slice_get w.point_memories n.number)) shape
      ∙ ap (λ o. run_of_reserved o (slice_get w.point_memories n.number)) words ∙ ap (run_of_reserved (Some size)) fit.has in
      let from : (run_of g (OfReservation n.number)).from ≡ word_of at = ap (λ (x : Run). x.from) run in
      let count : (run_of g (OfReservation n.number)).count ≡ size = ap (λ (x : Run). x.count) run in
      let lies = laid.placed.homes (OfReservation n.number) (omega (arith, count, some)) in
      let a = among_aligned lies.segment w.segments laid.aligned lies.held in
      let pool : lies.segment.pool ≡ n.value.pool =
      lies.of_pool ∙ ap (λ o. option_map_or (λ (x : PointShape). x.pool) o 0) shape in
      let words_at : at % 8 ≡ 0 = ap (λ (x : ℕ). x % 8) (sym is.at) ∙ parts.arena.aligned key p held at_key reserved in
      subst (AreHome setting at size) pool
      (segments_are_home h.segs w.graph.objects w.graph.points w.point_memories
      (pool_layout w) past.time.at_flip past.time.condemned past.time.is_read lies.segment at size
      segments_ascend (subst (λ (ss : List Segment). Contains ss lies.segment) (sym parts.segments)
      (segment_there lies.segment w.segments lies.held))
      words_at some (omega (arith, lies.above, from)) (omega (arith, lies.below, from, count, a)))

  -- ---- its words stand for the new object

  covered_there : Contains h.segs.covered (run_of_held held)
  covered_there =
      subst (λ (x : Run). Contains h.segs.covered x) run_is
      (subst (λ (rs : List Run). Contains rs (extent at size)) (sym parts.image.runs.covered)
      (contained_in_order (extents_of w.graph.objects w.addresses ++ reserved_extents w.graph.points w.point_memories) (extent at size)
      (there_after (extents_of w.graph.objects w.addresses) (reserved_extents w.graph.points w.point_memories) (extent at size)
      (extent_there w.graph.points w.point_memories n.number n.value r fit.memory there open_there live fit.has))))

  covered_in_order : IsAscending 0 (512 * (w.grains + 1)) h.segs.covered
  covered_in_order =
      subst (IsAscending 0 (512 * (w.grains + 1))) (sym (parts.image.runs.covered ∙ covered-shapes w))
      (covered_ascending (w.grains + 1) (occupancy_of w) laid)

  abbrev memory_with : (run : Run) → (covered : List Run) → Memory
  memory_with run covered = record (memory_in h.segs) {
    kept = (memory_in segs_made).kept;
    blocks = with_run run h.segs.blocks;
    reservations = without_run run.from h.segs.reservations;
    covered = covered;
  }

  memory_is : memory_allocated (memory_without_reservation (memory_in h.segs) at) h.segs.words (memory_in segs_made).kept at size
      ≡ memory_in segs_made
  memory_is =
      ap (λ (run : Run). memory_with run (with_run run (without_run run.from h.segs.covered))) run_is
      ∙ ap (memory_with (run_of_held held))
      (taken_and_put 0 (512 * (w.grains + 1)) h.segs.covered (run_of_held held) covered_in_order covered_there)

  -- its mark is set if it lies in a condemned segment, and no other is
  is_aligned : held.at.0 % 8 ≡ 0
  is_aligned = parts.arena.aligned key p held at_key reserved

  word_is : address_of_word (word_of at) ≡ held.at.0
  word_is = let a = is_aligned in let e = is.at in omega (arith, a, e)

  within : is_white_at h.segs held.at.0 ≡ true → word_of held.at.0 < length h.segs.marks.kept
  within white =
      let e = is.at in
      let long = wide white in
      let low = parts.image.placed.reserved_within n.number 0 r (word_of at + 0) (record {
        memory = fit.memory;
        reserved = live_there;
        has = fit.has;
        within = some;
        is = refl;
      }) in
      omega (arith, e, long, low)

  mark_made : is_white_over setting.is_condemned_over (memory_in segs_made).kept (word_of at) ≡ false
  mark_made = subst (λ (x : Address). (is_condemned_at h.segs x && not ((memory_in segs_made).kept (word_of at))) ≡ false) (sym word_is)
      (subst (λ (x : Address). (is_condemned_at h.segs held.at.0 && not ((memory_in segs_made).kept (word_of x))) ≡ false) is.at
      (marked_or_not (is_white_at h.segs held.at.0) refl))
    where
      marked_or_not : (b : Bool) → is_white_at h.segs held.at.0 ≡ b
          → (is_condemned_at h.segs held.at.0 && not (bit (if is_white_at h.segs held.at.0
          then slice_set h.segs.marks.kept (word_of held.at.0) true else h.segs.marks.kept) (word_of held.at.0))) ≡ false
      marked_or_not true e =
          ap (λ b. is_condemned_at h.segs held.at.0 && not (bit (if b
          then slice_set h.segs.marks.kept (word_of held.at.0) true else h.segs.marks.kept) (word_of held.at.0))) e
          ∙ ap (λ b. is_condemned_at h.segs held.at.0 && not b) (keeping_marks h.segs held.at.0 (within e)).set
          ∙ with_false (is_condemned_at h.segs held.at.0)
        where
          with_false : (b : Bool) → (b && false) ≡ false
          with_false true = refl
          with_false false = refl
      marked_or_not false e =
          ap (λ b. is_condemned_at h.segs held.at.0 && not (bit (if b
          then slice_set h.segs.marks.kept (word_of held.at.0) true else h.segs.marks.kept) (word_of held.at.0))) e ∙ e

  others_still : (x : Word) → x ≢ word_of at → (memory_in segs_made).kept x ≡ (memory_in h.segs).kept x
  others_still x apart = of_white (is_white_at h.segs held.at.0) refl
    where
      of_white : (b : Bool) → is_white_at h.segs held.at.0 ≡ b → bit
          (if b then slice_set h.segs.marks.kept (word_of held.at.0) true else h.segs.marks.kept) x
          ≡ bit h.segs.marks.kept x
      of_white true white = (keeping_marks h.segs held.at.0 (within white)).others x (λ same. apart (same ∙ ap word_of is.at))
      of_white false white = refl

  allocated : IsAllocated (setting_with_points setting points_closed w.point_memories)
      (memory_without_reservation (memory_in h.segs) at) w.addresses past.time.colours new_object at h.segs.words (memory_in segs_made).kept
  allocated = record {
    numbered = known.formed.addresses;
    positive = some;
    not_white = known.unused.not_white;
    not_grey = known.unused.not_grey;
    fresh = known.unused.fresh;
    mark = mark_made;
    kept_others = others_still;
    long = refl;
    cells = λ i c e.
        committed_cells_are_fixed setting (memory_in h.segs) w.addresses past.time.colours n.number (Some n.value) fit.memory r parts.image
        (entry_is_there w.graph.points n.number n.value there) fit.has (live_is (Some n.value) n.value r refl open_there live) i c e;
    others = λ x apart. refl;
  }

  image_made : StandsAt past.time segs_made world_made
  image_made =
      subst (λ (m : Memory). Stands (setting_at past.time segs_made world_made) m world_made.addresses past.time.colours) memory_is
      (block_is_committed setting (memory_in h.segs) w.addresses past.time.colours n.number
      (Some n.value) entry_closed fit.memory r n.value.pool
      (is_weak_rank n.value.rank) (memory_in segs_made).kept parts.image (entry_is_there w.graph.points n.number n.value there) fit.has
      (live_is (Some n.value) n.value r refl open_there live) refl allocated home)

  -- ---- the parts

  resting_made : IsArena h.segs.grains (with_point h.points key (Some (after_close p)))
  resting_made =
      resting_points h.segs.grains h.points (with_point h.points key (Some (after_close p)))
      parts.arena (λ k x other e f.
      elim (cases_eq k key) [
        | inl same ↦
            let own : after_close p ≡ x =
            same_Some (after_close p) x (sym (ap (point_at (with_point h.points key (Some (after_close p)))) same
            ∙ written_point h.points key p (Some (after_close p)) at_key) ∙ e) in
            absurd (none-some other (ap (λ (y : Point). y.reservation) own ∙ f))
        | inr apart ↦ sym (other_point h.points key k (Some (after_close p)) apart) ∙ e
      ])

  fit_closed : IsPoint (length w.flips) (is_copying_pool w) w.point_memories (past.point_number key) (after_close p) entry_closed
  fit_closed =
      reservation_fits (length w.flips) (is_copying_pool w) w.point_memories n.number (past.point_number key) p n.value None None fit number
      NoneHeld

  registered_live : Rattle.mps_laws.proofs.Sound.HeldIds.All (is_live w) w.graph.registered
  registered_live = weaker w.graph.registered known.formed.registered
    where
      weaker : (ids : List Id) → Rattle.mps_laws.proofs.Sound.HeldIds.All (Rattle.mps_model.specs.WellFormed.is_live_automatic w) ids
          → Rattle.mps_laws.proofs.Sound.HeldIds.All (is_live w) ids
      weaker ids all =
          Rattle.mps_laws.proofs.Sound.HeldIds.all-weaker (Rattle.mps_model.specs.WellFormed.is_live_automatic w) (is_live w)
          (λ id both. (and_parts (is_live w id) (Rattle.mps_model.specs.World.object_is Rattle.mps_model.specs.Graph.is_automatic w id)
          both).0) ids all

  points_made : AreNumbered (IsPoint (length w.flips) (is_copying_pool w) w.point_memories) past.point_number
      (point_at (with_point h.points key (Some (after_close p)))) points_closed
  points_made =
      subst (λ j. AreNumbered (IsPoint (length w.flips) (is_copying_pool w) w.point_memories) past.point_number
      (point_at (with_point h.points key (Some (after_close p)))) (slice_set w.graph.points j (Some entry_closed))) (sym number)
      (numbered_written (IsPoint (length w.flips) (is_copying_pool w) w.point_memories) past.point_number (point_at h.points)
      (point_at (with_point h.points key (Some (after_close p)))) w.graph.points parts.points key
      (λ other apart. other_point h.points key other (Some (after_close p)) apart) p (after_close p) entry_closed at_key
      (written_point h.points key p (Some (after_close p)) at_key) fit_closed)

  pub made_parts : AreParts layout past heap_made world_made
  made_parts =
      parts_of_kinds (arena_of parts)
      (image_made, resting_made, record { sized = parts.summed.sized; each = parts.summed.each }) (
        tables_still w.addresses at w.graph.tables known.held.slots parts.tables,
        parts.ordered,
        areas_still w.addresses at w.graph.areas known.held.holds parts.areas,
        parts.blocks ∙ sym (blocks_still w.addresses at w.graph.blocks
            (parts_pass (is_live w) (graph.ids_in_places w.graph) (graph.ids_in_caches w.graph) known.live.blocks).0),
        parts.roots_counted,
        parts.slots_counted,
      )
      (points_made, parts.points_counted ∙ sym (reservation_written_points w.graph n None there)) (
        as_before w.addresses past.time.at_flip (with_last w.addresses (Some at)) (is_live w)
            (λ id alive. address_still w.addresses at id alive) past.time.next past.time.registered_before h.finals.registered
            w.graph.registered registered_live parts.registered,
        parts.messages ∙ sym (ids_still w.addresses at w.graph.messages known.held.messages),
      )
      parts.dependencies (pools_of parts)
      (named_alike h heap_made past w.graph.names w.graph.labels parts.names (λ name. refl) refl
      (points_stay layout past h w parts segs_made
      (with_point h.points key (Some (after_close p))) (points_there h.points key p (after_close p) at_key))) (
        parts.flips,
        parts.point_flips,
        parts.state,
        beside_still _ _ _ _ parts.beside _ _ _
            (same_caches w.addresses (with_last w.addresses (Some at)) w.graph.caches (λ id cached.
            address_still w.addresses at id (list_all-contains (is_live w) (graph.ids_in_caches w.graph) id
            (parts_pass (is_live w) (graph.ids_in_places w.graph) (graph.ids_in_caches w.graph) known.live.blocks).1 cached)))
            (pairs_still w known.graph known.formed.dependents (with_last w.addresses (Some at)) (λ id passes.
            address_still w.addresses at id (and_parts (is_live w id) (object_is graph.is_automatic w id) passes).0)),
        transforms_still past.transform_number (is_copying_object w) (is_copying_object world_made) w.addresses world_made.addresses
            h.beside.transforms w.graph.transforms (pairs_in w.state) (λ id was paired there.
            let o = parts.image.placed.exists id was there in (
              address_still w.addresses at id (ap is_some there) ∙ there,
              kind_with_last (is_copying_pool w) w.graph.objects new_object id o.0 o.1,
            )) parts.transforms,
        parts.framed,
      )
