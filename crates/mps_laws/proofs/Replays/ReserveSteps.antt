-- The law of replay for a step that reserves: its poll, the segment that it takes, and the reservation.
use Rattle.std.proofs.Common.{◌≡◌, ◌∙◌, ℕ, suc, ◌-◌, ◌*◌, ◌<◌, ◌≤◌, Bool, true, false, refl, sym, ap, List, [], ◌∷◌, ◌++◌, length, take, Some, subst, arith}
use Rattle.std.proofs.lemmas.Bool.{le-leb}
use Rattle.std.proofs.lemmas.Option.{slice_get-map}
use Rattle.std.specs.Prelude.{map, slice_get, slice_set, option_map, option_and_then, nat_le, filter, if◌then◌else◌, not}
use Rattle.std.specs.Option.{option_map_or}
use Rattle.mps_base.specs.Address.{Address, word_of, address_of_word, address_of_grain, grains_needed}
use Rattle.mps_base.specs.Placement.{Place, NewSegment}
use Rattle.mps_base.specs.Run.{lowest_fitting}
use Rattle.mps_base.specs.Segment.{Segment, words_of_segment, grains_of_segment, gaps_of}
use Rattle.mps_base.specs.declared.moves.Move.{Move}
use Rattle.mps_base.specs.declared.names.Rank.TheVariants as rank
use Rattle.mps_model.specs.Graph.{Point, Reservation, Cell, entry_at}
use Rattle.mps_model.specs.Collection.{Collection}
use Rattle.mps_model.specs.World.{World, PointMemory, covered, is_copying_pool, Pool, is_copying_kind}
use Rattle.mps_model.specs.Making.{is_weak_rank}
use Rattle.mps_model.specs.Checked.{Numbered}
use Rattle.mps_model.specs.Allocating.{address_of_placement, with_reserved, buffer_after, without_front}
use Rattle.mps_model.specs.Placement.{ForReserve, placement_of, placement_at_point, placement_at_front, placement_in_gaps, new_segment_for, buffer_of}
use Rattle.mps_model.specs.Effect.{holding, segment_of_move}
use Rattle.mps_model.specs.LegalMove.{IsPlaceAt}
use Rattle.mps_model.specs.History.{own_segment, moves_of_poll, is_segment_taken, with_buffer, rank_of_point}
use Rattle.mps_laws.proofs.Lookups.{map-slice_set, there_is, entry_within, entry_is_there}
use Rattle.mps_laws.proofs.Positions.Occupancy.{PointShape, shape_of_point, reserved_words, occupancy_of}
use Rattle.mps_laws.proofs.Positions.LaidOut.{IsLaidOut, IsRightlyRanked, is_staying_kind, kind_in}
use Rattle.mps_laws.proofs.Positions.Covered.{covered_in, covered-shapes}
use Rattle.mps_laws.proofs.Positions.Gaps.{room_in_gap, gap_in_empty}
use Rattle.mps_laws.proofs.Positions.Holding.{IsFresh, need_of_placement, held_laid_out, buffered_laid_out, fresh_unoccupied, own_buffer}
use Rattle.mps_laws.proofs.Positions.LegalMoves.{HasLayout, at_front, fresh_segment}
use Rattle.mps_laws.proofs.Replays.ManualSteps.{place_in_gaps, new_in_gaps}
use Rattle.mps_laws.proofs.Positions.Reserving.{reserved_laid_out, buffer_reserved_laid_out}
use Rattle.mps_laws.proofs.Positions.Segments.{among_new}

-- ---- the moves of a poll, and then the own segment

length-filter : {X : Type 0} (p : X → Bool) (xs : List X) → length (filter p xs) ≤ length xs
length-filter p [] = omega arith
length-filter p (x ∷ xs) =
    elim (p x) as (λ b. length (if b then x ∷ filter p xs else filter p xs) ≤ length (x ∷ xs)) [
      | true ↦ (let rest = length-filter p xs in omega (arith, rest))
      | false ↦ (let rest = length-filter p xs in omega (arith, rest))
    ]

own_length : (m : Move) (ms : List Move) → length (own_segment (m ∷ ms)) ≤ length (m ∷ ms)
own_length m [] = length-filter is_segment_taken (m ∷ [])
own_length m (n ∷ ms) = let rest = own_length n ms in omega (arith, rest)

take_less : (m : Move) (ms : List Move) (k : ℕ) → k ≤ length ms → take (length (m ∷ ms) - k) (m ∷ ms) ≡ m ∷ take (length ms - k) ms
take_less m ms k h =
    ap (λ (n : ℕ). take n (m ∷ ms)) (let e : length (m ∷ ms) - k ≡ suc (length ms - k) = omega (arith, h) in e)

pub poll_then_own : (ms : List Move) → moves_of_poll ms ++ own_segment ms ≡ ms
poll_then_own [] = refl
poll_then_own (m ∷ []) =
    elim (is_segment_taken m) as (λ b. take (1 - length (if b then m ∷ [] else [])) (m ∷ []) ++ (if b then m ∷ [] else []) ≡ m ∷ []) [
      | true ↦ refl
      | false ↦ refl
    ]
poll_then_own (m ∷ n ∷ ms) =
    ap (λ (xs : List Move). xs ++ own_segment (n ∷ ms)) (take_less m (n ∷ ms) (length (own_segment (n ∷ ms))) (own_length n ms))
    ∙ ap (λ (xs : List Move). m ∷ xs) (poll_then_own (n ∷ ms))

-- ---- a reservation at its place

shape_there : (w : World) (n : ℕ) (p : Point) → entry_at w.graph.points n ≡ Some p
    → entry_at (map shape_of_point w.graph.points) n ≡ shape_of_point (Some p)
shape_there w n p e =
    ap (λ o. option_and_then (λ entry. entry) o)
    (slice_get-map shape_of_point w.graph.points n ∙ ap (option_map shape_of_point) (entry_is_there w.graph.points n p e))

module _ (limit : ℕ) (a : World) (laid : HasLayout limit a) (p : Numbered Point) (there : entry_at a.graph.points p.number ≡ Some p.value)
    (head : ℕ) (cells : List Cell) (some : 0 < length cells) (exists : (q : Pool) × (slice_get a.pools p.value.pool ≡ Some q)) where
  abbrev reservation : Reservation
  reservation = record { head = head; cells = cells; is_doomed = false }

  abbrev shape : PointShape
  shape = record { pool = p.value.pool; rank = p.value.rank; reserved = reserved_words p.value.reservation }

  abbrev memory : Address → PointMemory
  memory at = record { reserved_at = at; buffer = buffer_after a p.number p.value (length cells) }

  reserved_is : (at : Address) → occupancy_of (with_reserved a p reservation at) ≡ record (occupancy_of a) {
    points = slice_set (map shape_of_point a.graph.points) p.number (Some (record shape { reserved = Some (length cells) }));
    memories = slice_set a.point_memories p.number (memory at);
  }
  reserved_is at =
      ap (λ ps. record (occupancy_of (with_reserved a p reservation at)) { points = ps })
      (map-slice_set shape_of_point a.graph.points p.number (Some (record p.value { reservation = Some reservation })))

  placed_as : placement_of a (ForReserve p.number (length cells)) ≡ placement_at_point a p.number p.value (length cells)
  placed_as =
      ap (λ o. option_map_or (λ x. placement_at_point a p.number x (length cells)) o (new_segment_for a (length cells))) there

  in_buffer : (word : ℕ) → is_copying_pool a p.value.pool ≡ true → placement_at_front a (buffer_of a p.number) (length cells) ≡ Place word
      → HasLayout limit (with_reserved a p reservation (address_of_word word))
  in_buffer word copying e =
      let front = at_front a (buffer_of a p.number) (length cells) (address_of_word word)
      (subst (λ q. IsPlaceAt q (address_of_word word)) (sym e) refl) in
      subst (IsLaidOut limit) (sym (reserved_is (address_of_word word)))
      (buffer_reserved_laid_out limit (occupancy_of a) laid p.number shape (shape_there a p.number p.value there)
      (memory (address_of_word word))
      (length cells) some (record {
        fits = front.0;
        at_front = front.1;
        rest = ap (λ b. if b then without_front (buffer_of a p.number) (length cells) else buffer_of a p.number) copying;
      }))

  stays : is_copying_pool a p.value.pool ≡ false → kind_in is_staying_kind a.pools p.value.pool ≡ true
  stays manual =
      ap (λ o. option_map_or (λ (q : Pool). is_staying_kind q.kind) o false) exists.1
      ∙ ap not (sym (ap (λ o. option_map_or (λ (q : Pool). is_copying_kind q.kind) o false) exists.1) ∙ manual)

  in_gap : (word : ℕ) → is_copying_pool a p.value.pool ≡ false
      → placement_in_gaps a (gaps_of (covered a) a.segments p.value.pool p.value.rank) (length cells) ≡ Place word
      → HasLayout limit (with_reserved a p reservation (address_of_word word))
  in_gap word manual e =
      let found = place_in_gaps a (gaps_of (covered a) a.segments p.value.pool p.value.rank) (length cells) word e in
      let room = room_in_gap limit (occupancy_of a) laid p.value.pool p.value.rank (length cells) word some manual
      (ap (λ c. lowest_fitting (length cells) (gaps_of c a.segments p.value.pool p.value.rank)) (sym (covered-shapes a)) ∙ found) in
      let at : word_of (address_of_word word) ≡ word = omega arith in
      subst (IsLaidOut limit) (sym (reserved_is (address_of_word word)))
      (reserved_laid_out limit (occupancy_of a) laid p.number shape (shape_there a p.number p.value there) (memory (address_of_word word))
      (length cells) some (record {
        buffer = ap (λ b. if b then without_front (buffer_of a p.number) (length cells) else buffer_of a p.number) manual;
        segment = room.segment;
        held = room.held;
        of_pool = room.of_pool;
        of_rank = room.of_rank;
        above = omega (arith, room.above, at);
        below = omega (arith, room.below, at);
        staying = ap (kind_in is_staying_kind a.pools) room.of_pool ∙ stays manual;
        unoccupied = λ o n c d. room.unoccupied o n c (omega (arith, d.0, at)) (omega (arith, d.1, at));
      }))

  -- where the placement is a place in what is held
  pub reserved_at_place : (word : ℕ) → placement_of a (ForReserve p.number (length cells)) ≡ Place word
      → HasLayout limit (with_reserved a p reservation (address_of_placement (placement_of a (ForReserve p.number (length cells)))))
  reserved_at_place word e =
      subst (λ q. HasLayout limit (with_reserved a p reservation (address_of_placement q))) (sym e)
      (elim (is_copying_pool a p.value.pool) as (λ b. is_copying_pool a p.value.pool ≡ b
      → (if b then placement_at_front a (buffer_of a p.number) (length cells)
      else placement_in_gaps a (gaps_of (covered a) a.segments p.value.pool p.value.rank) (length cells)) ≡ Place word
      → HasLayout limit (with_reserved a p reservation (address_of_word word))) [
        | true ↦ (λ is f. in_buffer word is f)
        | false ↦ (λ isnt f. in_gap word isnt f)
      ] refl (sym placed_as ∙ e))

-- ---- a reservation in a new segment

-- where nothing that is held serves, a segment fits in the free grains
pub new_for : (v : World) (n : ℕ) (p : Point) (words grain grains : ℕ) → placement_at_point v n p words ≡ NewSegment grain grains
    → new_segment_for v words ≡ NewSegment grain grains
new_for v n p words grain grains e =
    elim (is_copying_pool v p.pool) as (λ b. (if b then placement_at_front v (buffer_of v n) words
    else placement_in_gaps v (gaps_of (covered v) v.segments p.pool p.rank) words) ≡ NewSegment grain grains
    → new_segment_for v words ≡ NewSegment grain grains) [
      | true ↦
          (λ f. elim (nat_le words (buffer_of v n).count) as (λ b.
          (if b then Place (buffer_of v n).from else new_segment_for v words) ≡ NewSegment grain grains
          → new_segment_for v words ≡ NewSegment grain grains) [
            | true ↦ (λ h. absurd (cc))
            | false ↦ (λ h. h)
          ] f)
      | false ↦ (λ f. new_in_gaps v (gaps_of (covered v) v.segments p.pool p.rank) words grain grains f)
    ] e

module _ (limit : ℕ) (v : World) (laid : HasLayout limit v) (p : Numbered Point) (there : entry_at v.graph.points p.number ≡ Some p.value)
    (head : ℕ) (cells : List Cell) (some : 0 < length cells) (grain grains : ℕ)
    (new : placement_of v (ForReserve p.number (length cells)) ≡ NewSegment grain grains) (change : Collection → Collection)
    (each : (c : Collection) → (change c).condemned_segments ≡ c.condemned_segments)
    (exists : (q : Pool) × (slice_get v.pools p.value.pool ≡ Some q)) where
  abbrev reservation' : Reservation
  reservation' = record { head = head; cells = cells; is_doomed = false }

  abbrev own : Segment
  own = record (segment_of_move (address_of_grain grain) grains p.value.pool 0) { rank = rank_of_point v p.number }

  found_new : new_segment_for v (length cells) ≡ NewSegment grain grains
  found_new =
      new_for v p.number p.value (length cells) grain grains
      (sym (ap (λ o. option_map_or (λ x. placement_at_point v p.number x (length cells)) o (new_segment_for v (length cells))) there) ∙ new)

  own_rank : own.rank ≡ p.value.rank
  own_rank = ap (λ o. option_map_or (λ (x : Point). x.rank) o rank.Exact) there

  own_fresh : IsFresh limit v.segments own
  own_fresh =
      let f = fresh_segment limit v (length cells) grain grains p.value.pool 0 (address_of_grain grain) laid some found_new refl in
      record { aligned = f.aligned; ascending = f.ascending }

  own_size : length cells ≤ 512 * grains
  own_size =
      let counted = need_of_placement v.grains v.limit (map grains_of_segment v.segments)
      (grains_needed (length cells)) grain grains found_new in
      omega (arith, counted)

  own_ranked : IsRightlyRanked v.pools own
  own_ranked h =
      (laid.points p.number (record { pool = p.value.pool; rank = p.value.rank; reserved = reserved_words p.value.reservation })
      (shape_there v p.number p.value there)).weak (ap is_weak_rank (sym own_rank) ∙ h)

  abbrev with_change : World → World
  with_change u = Rattle.mps_model.specs.Effect.with_collection u change

  as_changed : (u : World) → HasLayout limit u → HasLayout limit (with_change u)
  as_changed u h = subst (IsLaidOut limit) (sym (Rattle.mps_laws.proofs.Positions.LegalMoves.collection_kept u change each)) h

  -- at hand at the point
  abbrev buffered_world : World
  buffered_world = record (holding v own) { point_memories = with_buffer v.point_memories p.number (words_of_segment own) }

  own_memory : (m : PointMemory) × (slice_get v.point_memories p.number ≡ Some m)
  own_memory =
      there_is v.point_memories p.number
      (omega (
        arith,
        laid.memories,
        Rattle.std.proofs.lemmas.List.length-map v.graph.points shape_of_point,
        entry_within v.graph.points p.number p.value there,
      ))

  pub in_own_buffer : is_copying_pool v p.value.pool ≡ true
      → HasLayout limit (with_reserved (with_change buffered_world) p reservation'
      (address_of_placement (placement_of (with_change buffered_world) (ForReserve p.number (length cells)))))
  in_own_buffer copying =
      let a = with_change buffered_world in
      let laid' : HasLayout limit a =
      as_changed buffered_world
      (buffered_laid_out limit (occupancy_of v) own laid own_fresh p.number
      (record { pool = p.value.pool; rank = p.value.rank; reserved = reserved_words p.value.reservation })
      (shape_there v p.number p.value there) refl own_rank own_ranked copying) in
      let buffer : buffer_of a p.number ≡ words_of_segment own =
      own_buffer v.point_memories p.number (words_of_segment own) own_memory.0 own_memory.1 in
      reserved_at_place limit a laid' p there head cells some exists (words_of_segment own).from
      (ap (λ o. option_map_or (λ x. placement_at_point a p.number x (length cells)) o (new_segment_for a (length cells))) there
      ∙ ap (λ b. if b then placement_at_front a (buffer_of a p.number) (length cells)
      else placement_in_gaps a (gaps_of (covered a) a.segments p.value.pool p.value.rank) (length cells)) copying
      ∙ ap (λ r. placement_at_front a r (length cells)) buffer
      ∙ ap (λ b. if b then Place (words_of_segment own).from else new_segment_for a (length cells))
      (le-leb (length cells) (512 * grains) own_size))

  -- in the gap of all of it
  pub in_own_gap : is_copying_pool v p.value.pool ≡ false
      → HasLayout limit (with_reserved (with_change (holding v own)) p reservation'
      (address_of_placement (placement_of (with_change (holding v own)) (ForReserve p.number (length cells)))))
  in_own_gap manual =
      let a = with_change (holding v own) in
      let laid' : HasLayout limit a = as_changed (holding v own) (held_laid_out limit (occupancy_of v) own laid own_fresh own_ranked) in
      let gap = gap_in_empty limit (occupancy_of a) laid' own (length cells) (among_new own v.segments)
      (λ o n c d. fresh_unoccupied limit (occupancy_of v) own laid own_fresh o n c d) some own_size in
      let fits : lowest_fitting (length cells) (gaps_of (covered a) a.segments p.value.pool p.value.rank) ≡ Some gap.0 =
      ap (λ c. lowest_fitting (length cells) (gaps_of c a.segments p.value.pool p.value.rank)) (covered-shapes a)
      ∙ ap (λ r. lowest_fitting (length cells) (gaps_of (covered_in (occupancy_of a)) a.segments p.value.pool r)) (sym own_rank) ∙ gap.1 in
      reserved_at_place limit a laid' p there head cells some exists gap.0
      (ap (λ o. option_map_or (λ x. placement_at_point a p.number x (length cells)) o (new_segment_for a (length cells))) there
      ∙ ap (λ b. if b then placement_at_front a (buffer_of a p.number) (length cells)
      else placement_in_gaps a (gaps_of (covered a) a.segments p.value.pool p.value.rank) (length cells)) manual
      ∙ ap (λ o. option_map_or Place o (new_segment_for a (length cells))) fits)
