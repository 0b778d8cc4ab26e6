-- A `reserve` that finds a place, or takes a segment, in the world in which it is judged: what its act comes to, and its own moves.
use Rattle.std.proofs.Common.{◌≡◌, ◌∙◌, ℕ, zero, suc, ◌+◌, ◌*◌, ◌<◌, ◌≤◌, true, false, refl, sym, ap, List, [], ◌∷◌, length, Option, Some, None, Ok, Err, arith}
use Rattle.std.proofs.lemmas.Bool.{and_from, eq-eqb, le-leb}
use Rattle.std.proofs.lemmas.List.{length-map}
use Rattle.std.specs.Prelude.{◌==◌, map, slice_get, slice_set, if◌then◌else◌}
use Rattle.std.specs.Option.{option_map_or}
use Rattle.mps_base.specs.Address.{Address, word_of, address_of_word, address_of_grain, grains_needed}
use Rattle.mps_base.specs.Placement.{Placement, Place, NewSegment}
use Rattle.mps_base.specs.Run.{Run, lowest_fitting}
use Rattle.mps_base.specs.Segment.{Segment, grains_of_segment, words_of_segment, with_segment, same_rank, gaps_of}
use Rattle.mps_base.specs.declared.moves.Move.{Move}
use Rattle.mps_base.specs.declared.names.Name.{Name}
use Rattle.mps_base.specs.declared.names.Rank.TheVariants as rank
use Rattle.mps_base.specs.declared.refusal.Refusal.{Refusal}
use Rattle.mps_model.specs.Graph.{Point, Reservation, entry_at}
use Rattle.mps_model.specs.World.{World, PointMemory, covered, is_copying_pool}
use Rattle.mps_model.specs.Checked.{Checked, ◌>>=◌, ◌>>◌, done, as_point, number_named, point_named}
use Rattle.mps_model.specs.Allocating.{Reserving, act_reserve, check_reserve, refuse_without_place, address_of_placement, with_reservation, with_reserved, without_front, buffer_after}
use Rattle.mps_model.specs.Placement.{ForReserve, placement_of, placement_at_point, placement_at_front, placement_in_gaps, new_segment_for, buffer_of}
use Rattle.mps_model.specs.Effect.{holding, segment_of_move}
use Rattle.mps_model.specs.History.{after_own_segment, rank_of_point, segment_taken, segment_of_reserve, segment_where_judged, with_buffer, with_segment_for_point}
use Rattle.mps_laws.proofs.Acts.{point_named-is}
use Rattle.mps_laws.proofs.Positions.Covered.{covered-shapes}
use Rattle.mps_laws.proofs.Positions.Gaps.{same_rank-self}
use Rattle.mps_laws.proofs.Positions.Holding.{IsFresh, need_of_placement, own_buffer}
use Rattle.mps_laws.proofs.Positions.LegalMoves.{HasLayout, fresh_segment}
use Rattle.mps_laws.proofs.Lookups.{there_is, entry_within}
use Rattle.mps_laws.proofs.Positions.Occupancy.{occupancy_of, shape_of_point}
use Rattle.mps_laws.proofs.Replays.ReserveSteps.{new_for}
use Rattle.mps_refinement.proofs.Worlds.OwnGap.{gap_of_new, gap_of_fresh}
use Rattle.mps_refinement.proofs.Calls.Reserving.{reserve_in, reserve_from}

-- what is written twice was written once
written_twice : {X : Type 0} (xs : List X) (n : ℕ) (x y : X) → slice_set (slice_set xs n x) n y ≡ slice_set xs n y
written_twice [] n x y = refl
written_twice (z ∷ xs) zero x y = refl
written_twice (z ∷ xs) (suc n) x y = ap (λ rest. z ∷ rest) (written_twice xs n x y)

-- where nothing that is held serves no gap fits
no_gap : (v : World) (free : List Run) (words grain grains : ℕ) → placement_in_gaps v free words ≡ NewSegment grain grains
    → lowest_fitting words free ≡ None
no_gap v free words grain grains e = of_one (lowest_fitting words free) e
  where
    of_one : (o : Option ℕ) → option_map_or Place o (new_segment_for v words) ≡ NewSegment grain grains → o ≡ None
    of_one None h = refl
    of_one (Some n) h = absurd (cc)

module _ (w : World) (name : Name) (head : ℕ) (b : Reserving)
    (check : check_reserve w name head ≡ Ok b) (point : point_named w name ≡ Ok b.point) where
  abbrev pub size : ℕ
  size = length b.cells

  abbrev pub reservation : Reservation
  reservation = record { head = head; cells = b.cells; is_doomed = false }

  -- the world with the reservation, with these segments, and with this at the point
  abbrev pub reserved_world : List Segment → PointMemory → World
  reserved_world segments there = record w {
    graph = with_reservation w.graph b.point (Some reservation);
    segments = segments;
    point_memories = slice_set w.point_memories b.point.number there;
  }

  there : entry_at w.graph.points b.point.number ≡ Some b.point.value
  there = (point_named-is w name b.point point).1

  placed_as : placement_of w (ForReserve b.point.number size) ≡ placement_at_point w b.point.number b.point.value size
  placed_as =
      ap (λ o. option_map_or (λ x. placement_at_point w b.point.number x size) o (new_segment_for w size)) there

  own_is : (q : Placement) → placement_of w (ForReserve b.point.number size) ≡ q
      → segment_where_judged w name head ≡ segment_taken b.point.value.pool q
  own_is q e = ap (segment_of_reserve w) check ∙ ap (segment_taken b.point.value.pool) e

  -- the own moves of a reserve, the world after them, and what its act comes to there
  pub record IsReservedBy (own_moves : List Move) (out : World) : Type 0 where
    pub own : own_moves ≡ segment_where_judged w name head
    pub taken : World
    pub moved : after_own_segment w own_moves (number_named w name as_point) ≡ taken
    pub acts : act_reserve w taken name head ≡ done out

  -- refused for want of a place
  pub refused_there : (why : Refusal) (q : Placement) → placement_of w (ForReserve b.point.number size) ≡ q
      → refuse_without_place q ≡ Err why → segment_taken b.point.value.pool q ≡ []
      → ([] ≡ segment_where_judged w name head) × (act_reserve w w name head ≡ Err why)
  refused_there why q e none taken = (
    sym (own_is q e ∙ taken),
    ap (reserve_from w w name head) check ∙ ap (λ p. refuse_without_place p >> reserve_in w name head b.cells) e
        ∙ ap (λ (x : Checked (Unit {0})). x >> reserve_in w name head b.cells) none,
  )

  acted : (v : World) (q : Placement) (at : Address) → point_named v name ≡ Ok b.point
      → placement_of w (ForReserve b.point.number size) ≡ q
      → refuse_without_place q ≡ Ok tt → address_of_placement (placement_of v (ForReserve b.point.number size)) ≡ at
      → act_reserve w v name head ≡ done (with_reserved v b.point reservation at)
  acted v q at named e fits address =
      ap (reserve_from w v name head) check ∙ ap (λ p. refuse_without_place p >> reserve_in v name head b.cells) e
      ∙ ap (λ (x : Checked (Unit {0})). x >> reserve_in v name head b.cells) fits
      ∙ ap (λ x. x >>= (λ p. done (with_reserved v p (record { head = head; cells = b.cells; is_doomed = false })
      (address_of_placement (placement_of v (ForReserve p.number (length b.cells))))))) named
      ∙ ap (λ a. done (with_reserved v b.point reservation a)) address

  -- at a place in what is held
  pub reserved_at_place : (word : ℕ) → placement_of w (ForReserve b.point.number size) ≡ Place word
      → IsReservedBy [] (reserved_world w.segments
      (record { reserved_at = address_of_word word; buffer = buffer_after w b.point.number b.point.value size }))
  reserved_at_place word e = record {
    own = sym (own_is (Place word) e);
    taken = w;
    moved = refl;
    acts = acted w (Place word) (address_of_word word) point e refl (ap address_of_placement e);
  }

  -- in a new segment
  module _ (laid : HasLayout (w.grains + 1) w) (grain grains : ℕ) (some : 0 < size)
      (new : placement_of w (ForReserve b.point.number size) ≡ NewSegment grain grains) where
    abbrev pub own : Segment
    own = record (segment_of_move (address_of_grain grain) grains b.point.value.pool 0) { rank = rank_of_point w b.point.number }

    pub own_rank : own.rank ≡ b.point.value.rank
    own_rank = ap (λ o. option_map_or (λ (x : Point). x.rank) o rank.Exact) there

    found_new : new_segment_for w size ≡ NewSegment grain grains
    found_new = new_for w b.point.number b.point.value size grain grains (sym placed_as ∙ new)

    pub own_fresh : IsFresh (w.grains + 1) w.segments own
    own_fresh =
        let f = fresh_segment (w.grains + 1) w size grain grains b.point.value.pool 0 (address_of_grain grain) laid some found_new refl in
        record { aligned = f.aligned; ascending = f.ascending }

    pub own_size : size ≤ 512 * grains
    own_size =
        let counted = need_of_placement w.grains w.limit (map grains_of_segment w.segments) (grains_needed size) grain grains found_new in
        omega (arith, counted)

    memory_there : (m : PointMemory) × (slice_get w.point_memories b.point.number ≡ Some m)
    memory_there =
        there_is w.point_memories b.point.number
        (omega (
          arith,
          laid.memories,
          length-map w.graph.points shape_of_point,
          entry_within w.graph.points b.point.number b.point.value there,
        ))

    -- what the point has in the arena after it
    abbrev pub memory_in_own : PointMemory
    memory_in_own = record {
      reserved_at = address_of_grain grain;
      buffer =
          if is_copying_pool w b.point.value.pool then without_front (words_of_segment own) size else buffer_of w b.point.number;
    }

    abbrev moves_made : List Rattle.mps_base.specs.declared.moves.Move.Move
    moves_made = segment_taken b.point.value.pool (NewSegment grain grains)

    abbrev buffered : World
    buffered = record (holding w own) { point_memories = with_buffer w.point_memories b.point.number (words_of_segment own) }

    taken : (v : World) → with_segment_for_point w (segment_of_move (address_of_grain grain) grains b.point.value.pool 0)
        b.point.number ≡ v
        → after_own_segment w moves_made (number_named w name as_point) ≡ v
    taken v e = ap (after_own_segment w moves_made) (point_named-is w name b.point point).0 ∙ e

    right_in : (v : World) (m : PointMemory)
        → with_segment_for_point w (segment_of_move (address_of_grain grain) grains b.point.value.pool 0) b.point.number ≡ v
        → point_named v name ≡ Ok b.point → placement_of v (ForReserve b.point.number size) ≡ Place (word_of (address_of_grain grain))
        → with_reserved v b.point reservation (address_of_grain grain) ≡ reserved_world (with_segment own w.segments) m
        → IsReservedBy moves_made
        ((reserved_world (with_segment own w.segments) m))
    right_in v m moved named place same =
        let at : address_of_word (word_of (address_of_grain grain)) ≡ address_of_grain grain = omega arith in
        record {
          own = sym (own_is (NewSegment grain grains) new);
          taken = v;
          moved = taken v moved;
          acts =
              acted v (NewSegment grain grains) (address_of_grain grain) named new refl (ap address_of_placement place ∙ at)
              ∙ ap done same;
        }

    in_buffer : is_copying_pool w b.point.value.pool ≡ true
        → IsReservedBy moves_made
        ((reserved_world (with_segment own w.segments)
        (record { reserved_at = address_of_grain grain; buffer = without_front (words_of_segment own) size })))
    in_buffer copying =
        let hand : buffer_of buffered b.point.number ≡ words_of_segment own =
        own_buffer w.point_memories b.point.number (words_of_segment own) memory_there.0 memory_there.1 in
        let m : PointMemory = record { reserved_at = address_of_grain grain; buffer = without_front (words_of_segment own) size } in
        right_in buffered m
        (ap (λ c. if c then buffered else holding w own) copying) point
        (ap (λ o. option_map_or (λ x. placement_at_point buffered b.point.number x size) o (new_segment_for buffered size)) there
        ∙ ap (λ c. if c then placement_at_front buffered (buffer_of buffered b.point.number) size
        else placement_in_gaps buffered (gaps_of (covered buffered) buffered.segments b.point.value.pool b.point.value.rank) size) copying
        ∙ ap (λ r. placement_at_front buffered r size) hand
        ∙ ap (λ c. if c then Place (words_of_segment own).from else new_segment_for buffered size) (le-leb size (512 * grains) own_size))
        (ap (λ r. with_memory (record { reserved_at = address_of_grain grain; buffer = r }))
        (ap (λ c. if c then without_front (buffer_of buffered b.point.number) size else buffer_of buffered b.point.number) copying
        ∙ ap (λ r. without_front r size) hand)
        ∙ ap (λ ms. record (reserved_world (with_segment own w.segments) m) { point_memories = ms })
        (ap (λ o. slice_set (option_map_or (λ (x : PointMemory).
        slice_set w.point_memories b.point.number (record x { buffer = words_of_segment own })) o w.point_memories) b.point.number m)
        memory_there.1
        ∙ written_twice w.point_memories b.point.number (record (memory_there.0) { buffer = words_of_segment own }) m))
      where
        with_memory : PointMemory → World
        with_memory x = record (reserved_world (with_segment own w.segments) x) {
          point_memories = slice_set (with_buffer w.point_memories b.point.number (words_of_segment own)) b.point.number x;
        }

    in_gap : is_copying_pool w b.point.value.pool ≡ false
        → IsReservedBy moves_made
        ((reserved_world (with_segment own w.segments)
        (record { reserved_at = address_of_grain grain; buffer = buffer_of w b.point.number })))
    in_gap manual =
        let v = holding w own in
        let p = b.point.value in
        let none = no_gap w (gaps_of (covered w) w.segments p.pool p.rank) size grain grains
        (sym (ap (λ c. if c then placement_at_front w (buffer_of w b.point.number) size
        else placement_in_gaps w (gaps_of (covered w) w.segments p.pool p.rank) size) manual) ∙ sym placed_as ∙ new) in
        let opened : Rattle.mps_base.specs.Segment.is_open_to p.pool p.rank own ≡ true =
        and_from (p.pool == p.pool) (same_rank own.rank p.rank) (eq-eqb p.pool p.pool refl)
        (ap (λ r. same_rank r p.rank) own_rank ∙ same_rank-self p.rank) in
        let fits : lowest_fitting size (gaps_of (covered w) (with_segment own w.segments) p.pool p.rank)
        ≡ Some (word_of (address_of_grain grain)) =
        gap_of_new (covered w) p.pool p.rank size (word_of (address_of_grain grain)) own w.segments opened
        (ap (λ rs. lowest_fitting size (Rattle.mps_base.specs.Segment.gaps_in rs own)) (covered-shapes w)
        ∙ gap_of_fresh (w.grains + 1) (occupancy_of w) laid own own_fresh size some own_size) none in
        right_in v (record { reserved_at = address_of_grain grain; buffer = buffer_of w b.point.number })
        (ap (λ c. if c then buffered else holding w own) manual) point
        (ap (λ o. option_map_or (λ x. placement_at_point v b.point.number x size) o (new_segment_for v size)) there
        ∙ ap (λ c. if c then placement_at_front v (buffer_of v b.point.number) size
        else placement_in_gaps v (gaps_of (covered v) v.segments p.pool p.rank) size) manual
        ∙ ap (λ o. option_map_or Place o (new_segment_for v size)) fits)
        (ap (λ r. reserved_world (with_segment own w.segments) (record { reserved_at = address_of_grain grain; buffer = r }))
        (ap (λ c. if c then without_front (buffer_of w b.point.number) size else buffer_of w b.point.number) manual))

    pub reserved_in_new : IsReservedBy moves_made
        ((reserved_world (with_segment own w.segments) memory_in_own))
    reserved_in_new =
        elim (is_copying_pool w b.point.value.pool) as (λ c. is_copying_pool w b.point.value.pool ≡ c
        → IsReservedBy moves_made
        ((reserved_world (with_segment own w.segments) (record {
          reserved_at = address_of_grain grain;
          buffer = if c then without_front (words_of_segment own) size else buffer_of w b.point.number;
        })))) [
          | true ↦ in_buffer
          | false ↦ in_gap
        ] refl
