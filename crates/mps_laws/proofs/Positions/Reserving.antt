-- A reservation is made, in a buffer or where nobody had words, and becomes a block: the arena stays laid out.
use Rattle.std.proofs.Common.{◌≡◌, ◌∙◌, ◌⊎◌, ℕ, ◌+◌, ◌-◌, ◌<◌, ◌≤◌, Bool, true, false, refl, sym, ap, List, length, Option, Some, None, subst, inl, inr, arith}
use Rattle.std.proofs.lemmas.Bool.{cases_eq, false≢true}
use Rattle.std.proofs.lemmas.Option.{none-some, same_Some, slice_get_within}
use Rattle.std.specs.Prelude.{slice_get, slice_set, ◌≢◌}
use Rattle.std.specs.Option.{option_map_or}
use Rattle.mps_base.specs.Address.{word_of, address_of_word}
use Rattle.mps_base.specs.Run.{Run, Covers, end_of}
use Rattle.mps_base.specs.Segment.{Segment, words_of_segment}
use Rattle.mps_base.specs.declared.names.Rank.{Rank}
use Rattle.mps_base.specs.declared.names.Rank.TheVariants as rank
use Rattle.mps_model.specs.Graph.{entry_at, with_last}
use Rattle.mps_model.specs.Making.{is_weak_rank}
use Rattle.mps_model.specs.World.{PointMemory, extent}
use Rattle.mps_model.specs.Allocating.{without_front}
use Rattle.mps_laws.proofs.Lookups.{entry_at-set_same, entry_at-set_other, entry_within, entry_within_set, slice_get-set_same, slice_get-set_other, length-slice_set, there_is}
use Rattle.mps_laws.proofs.Positions.Occupancy.{Occupancy, Occupant, OfBlock, OfReservation, OfBuffer, OfTail, Shape, PointShape, run_of, run_of_block, run_of_reservation, run_of_reserved, run_of_buffer, rank_where}
use Rattle.mps_laws.proofs.Positions.LaidOut.{IsLaidOut, IsRightShape, IsRightPointShape, IsKept, IsGiven, placed_given, placed_new, laid_out_again, is_staying_kind, kind_in}
use Rattle.mps_laws.proofs.Positions.Making.{blocks_kept, new_run, new_pool, new_rank, right_shapes, more_lengths}
use Rattle.mps_laws.proofs.Positions.Segments.{IsAmong}

abbrev is_reservation : Occupant → Bool
is_reservation (OfReservation point) = true
is_reservation _ = false

abbrev is_buffer : Occupant → Bool
is_buffer (OfBuffer point) = true
is_buffer _ = false

abbrev point_in : Occupant → ℕ
point_in (OfReservation point) = point
point_in (OfBuffer point) = point
point_in _ = 0

pub rank_where-weak : (r : Rank) → rank_where (is_weak_rank r) ≡ r
rank_where-weak rank.Exact = refl
rank_where-weak rank.Weak = refl

module _ (limit : ℕ) (g : Occupancy) (laid : IsLaidOut limit g) (n : ℕ) (p : PointShape) (there : entry_at g.points n ≡ Some p) where
  -- the point with another reservation
  abbrev pub reserving : Option ℕ → PointShape
  reserving reserved = record p { reserved = reserved }

  abbrev pub points_with : Option ℕ → List (Option PointShape)
  points_with reserved = slice_set g.points n (Some (reserving reserved))

  own_point : (reserved : Option ℕ) → entry_at (points_with reserved) n ≡ Some (reserving reserved)
  own_point reserved = entry_at-set_same g.points n (Some (reserving reserved)) (entry_within g.points n p there)

  same_pool : (reserved : Option ℕ) (q : ℕ)
      → option_map_or (λ (x : PointShape). x.pool) (entry_at (points_with reserved) q) 0 ≡ option_map_or (λ (x : PointShape). x.pool)
      (entry_at g.points q) 0
  same_pool reserved q =
      elim (cases_eq n q) [
        | inl e ↦
            subst (λ (k : ℕ). option_map_or (λ (x : PointShape). x.pool) (entry_at (points_with reserved) k) 0
            ≡ option_map_or (λ (x : PointShape). x.pool) (entry_at g.points k) 0) e
            (ap (λ o. option_map_or (λ (x : PointShape). x.pool) o 0) (own_point reserved)
            ∙ sym (ap (λ o. option_map_or (λ (x : PointShape). x.pool) o 0) there))
        | inr other ↦
            ap (λ o. option_map_or (λ (x : PointShape). x.pool) o 0) (entry_at-set_other g.points n q (Some (reserving reserved)) other)
      ]

  same_rank : (reserved : Option ℕ) (q : ℕ)
      → option_map_or (λ (x : PointShape). x.rank) (entry_at (points_with reserved) q) rank.Exact
      ≡ option_map_or (λ (x : PointShape). x.rank) (entry_at g.points q) rank.Exact
  same_rank reserved q =
      elim (cases_eq n q) [
        | inl e ↦
            subst (λ (k : ℕ). option_map_or (λ (x : PointShape). x.rank) (entry_at (points_with reserved) k) rank.Exact
            ≡ option_map_or (λ (x : PointShape). x.rank) (entry_at g.points k) rank.Exact) e
            (ap (λ o. option_map_or (λ (x : PointShape). x.rank) o rank.Exact) (own_point reserved)
            ∙ sym (ap (λ o. option_map_or (λ (x : PointShape). x.rank) o rank.Exact) there))
        | inr other ↦
            ap (λ o. option_map_or (λ (x : PointShape). x.rank) o rank.Exact)
            (entry_at-set_other g.points n q (Some (reserving reserved)) other)
      ]

  own_pool : (o : Option PointShape) → o ≡ Some p → option_map_or (λ (x : PointShape). x.pool) o 0 ≡ p.pool
  own_pool o e = ap (λ x. option_map_or (λ (y : PointShape). y.pool) x 0) e

  own_rank : (o : Option PointShape) → o ≡ Some p → option_map_or (λ (x : PointShape). x.rank) o rank.Exact ≡ p.rank
  own_rank o e = ap (λ x. option_map_or (λ (y : PointShape). y.rank) x rank.Exact) e

  right_with : (reserved : Option ℕ) → ((words : ℕ) → reserved ≡ Some words → 0 < words)
      → (k : ℕ) (q : PointShape) → entry_at (points_with reserved) k ≡ Some q → IsRightPointShape g.pools q
  right_with reserved some k q e =
      elim (entry_within_set g.points n k q (Some (reserving reserved)) e) [
        | inl f ↦
            subst (IsRightPointShape g.pools) (same_Some (reserving reserved) q f.1)
            (record { some = some; weak = (laid.points n p there).weak })
        | inr f ↦ laid.points k q f.1
      ]

  memory_there : (m : PointMemory) × (slice_get g.memories n ≡ Some m)
  memory_there = there_is g.memories n (omega (arith, laid.memories, entry_within g.points n p there))

  -- ---- a reservation is made

  module _ (m : PointMemory) (words : ℕ) (some : 0 < words) where
    abbrev pub memories_with : List PointMemory
    memories_with = slice_set g.memories n m

    own_memory : slice_get memories_with n ≡ Some m
    own_memory = slice_get-set_same g.memories n m (slice_get_within g.memories n memory_there.0 memory_there.1)

    abbrev pub after_reserving : Occupancy
    after_reserving = record g { points = points_with (Some words); memories = memories_with }

    reserved_run : run_of after_reserving (OfReservation n) ≡ extent m.reserved_at words
    reserved_run =
        ap (λ o. run_of_reservation o (slice_get memories_with n)) (own_point (Some words)) ∙ ap (run_of_reserved (Some words)) own_memory

    buffer_run : run_of after_reserving (OfBuffer n) ≡ m.buffer
    buffer_run = ap run_of_buffer own_memory

    other_reservation : (q : ℕ) → n ≢ q → IsKept g after_reserving (OfReservation q)
    other_reservation q other = inl (record {
      run =
          ap (λ o. run_of_reservation o (slice_get memories_with q)) (entry_at-set_other g.points n q (Some (reserving (Some words))) other)
          ∙ ap (run_of_reservation (entry_at g.points q)) (slice_get-set_other g.memories n q m other);
      pool = same_pool (Some words) q;
      rank = same_rank (Some words) q;
    })

    other_buffer : (q : ℕ) → n ≢ q → IsKept g after_reserving (OfBuffer q)
    other_buffer q other = inl (record {
      run = ap run_of_buffer (slice_get-set_other g.memories n q m other);
      pool = same_pool (Some words) q;
      rank = same_rank (Some words) q;
    })

    reserving_lengths : length memories_with ≡ length (points_with (Some words))
    reserving_lengths = length-slice_set g.memories n m ∙ laid.memories ∙ sym (length-slice_set g.points n (Some (reserving (Some words))))

    from_is : (run_of after_reserving (OfReservation n)).from ≡ word_of m.reserved_at
    from_is = ap (λ (r : Run). r.from) reserved_run

    count_is : (run_of after_reserving (OfReservation n)).count ≡ words
    count_is = ap (λ (r : Run). r.count) reserved_run

    -- where nobody had words, and what is at hand stays
    pub record IsRoomToReserve : Type 0 where
      pub buffer : m.buffer ≡ run_of g (OfBuffer n)
      pub segment : Segment
      pub held : IsAmong segment g.segments
      pub of_pool : segment.pool ≡ p.pool
      pub of_rank : segment.rank ≡ p.rank
      pub above : (words_of_segment segment).from ≤ word_of m.reserved_at
      pub below : word_of m.reserved_at + words ≤ end_of (words_of_segment segment)
      pub staying : kind_in is_staying_kind g.pools segment.pool ≡ true
      pub unoccupied : (o : Occupant) (k : ℕ) → Covers (run_of g o) k → Covers (extent m.reserved_at words) k → ⊥

    room_kept : IsRoomToReserve → (o : Occupant) → (o ≡ OfReservation n) ⊎ IsKept g after_reserving o
    room_kept room (OfBlock id) = inr (inl (record { run = refl; pool = refl; rank = refl }))
    room_kept room (OfTail pool generation) = inr (inl (record { run = refl; pool = refl; rank = refl }))
    room_kept room (OfReservation q) =
        elim (cases_eq n q) [
          | inl e ↦ inl (ap OfReservation (sym e))
          | inr other ↦ inr (other_reservation q other)
        ]
    room_kept room (OfBuffer q) =
        elim (cases_eq n q) [
          | inl e ↦
              subst (λ (k : ℕ). (OfBuffer k ≡ OfReservation n) ⊎ IsKept g after_reserving (OfBuffer k)) e
              (inr (inl (record {
                run = buffer_run ∙ room.buffer;
                pool = same_pool (Some words) n;
                rank = same_rank (Some words) n;
              })))
          | inr other ↦ inr (other_buffer q other)
        ]

    pub reserved_laid_out : IsRoomToReserve → IsLaidOut limit after_reserving
    reserved_laid_out room =
        laid_out_again limit g g.shapes g.addresses (points_with
        (Some words)) memories_with g.tails laid laid.keyed laid.lengths reserving_lengths
        laid.shapes
        (right_with (Some words) (λ k e. subst (λ (x : ℕ). 0 < x) (same_Some words k e) some))
        (placed_new g g.shapes g.addresses (points_with (Some words)) memories_with g.tails (OfReservation n) (room_kept room)
        (λ _. record {
          segment = room.segment;
          held = room.held;
          of_pool = room.of_pool ∙ sym (same_pool (Some words) n ∙ own_pool (entry_at g.points n) there);
          of_rank = room.of_rank ∙ sym (same_rank (Some words) n ∙ own_rank (entry_at g.points n) there);
          above = omega (arith, room.above, from_is);
          below = omega (arith, room.below, from_is, count_is);
          copying = λ e. absurd (false≢true e);
          spared = λ e. absurd (false≢true e);
          to_end = λ e. absurd (false≢true e);
          uncondemned = λ e. inr room.staying;
        })
        (λ o k c d. room.unoccupied o k c (subst (λ (r : Run). Covers r k) reserved_run d)) laid.placed)

    -- at a prefix of the buffer, which keeps the rest
    pub record IsInBuffer : Type 0 where
      pub fits : words ≤ (run_of g (OfBuffer n)).count
      pub at_front : address_of_word (run_of g (OfBuffer n)).from ≡ m.reserved_at
      pub rest : m.buffer ≡ without_front (run_of g (OfBuffer n)) words

    buffer_kept : (o : Occupant)
        → (o ≡ OfReservation n) ⊎ ((o ≡ OfBuffer n) ⊎ ((o ≢ OfBuffer n) × IsKept g after_reserving o))
    buffer_kept (OfBlock id) = inr (inr ((λ e. false≢true (ap is_buffer e)), inl (record { run = refl; pool = refl; rank = refl })))
    buffer_kept (OfTail pool generation) = inr (inr (
      (λ e. false≢true (ap is_buffer e)),
      inl (record { run = refl; pool = refl; rank = refl }),
    ))
    buffer_kept (OfReservation q) =
        elim (cases_eq n q) [
          | inl e ↦ inl (ap OfReservation (sym e))
          | inr other ↦ inr (inr ((λ e. false≢true (ap is_buffer e)), other_reservation q other))
        ]
    buffer_kept (OfBuffer q) =
        elim (cases_eq n q) [
          | inl e ↦ inr (inl (ap OfBuffer (sym e)))
          | inr other ↦ inr (inr ((λ e. other (sym (ap point_in e))), other_buffer q other))
        ]

    given_buffer : IsInBuffer → IsGiven g g.shapes g.addresses (points_with (Some words)) memories_with g.tails (OfBuffer n)
        (OfReservation n)
    given_buffer i =
        let own = run_of g (OfBuffer n) in
        let h = laid.placed.homes (OfBuffer n) (omega (arith, some, i.fits)) in
        let at = i.at_front in
        let first : word_of m.reserved_at ≡ (run_of g (OfBuffer n)).from = omega (arith, at) in
        let from' : (run_of after_reserving (OfBuffer n)).from ≡ (run_of g (OfBuffer n)).from + words =
        ap (λ (r : Run). r.from) (buffer_run ∙ i.rest) in
        let count' : (run_of after_reserving (OfBuffer n)).count ≡ (run_of g (OfBuffer n)).count - words =
        ap (λ (r : Run). r.count) (buffer_run ∙ i.rest) in
        record {
          kept = buffer_kept;
          home = λ _. record {
            segment = h.segment;
            held = h.held;
            of_pool = h.of_pool ∙ sym (same_pool (Some words) n);
            of_rank = h.of_rank ∙ sym (same_rank (Some words) n);
            above = omega (arith, h.above, from_is, first);
            below = omega (arith, h.below, from_is, count_is, first, i.fits);
            copying = λ e. absurd (false≢true e);
            spared = λ e. absurd (false≢true e);
            to_end = λ e. absurd (false≢true e);
            uncondemned = λ e. inl (h.spared refl);
          };
          rest_home = λ _. record {
            segment = h.segment;
            held = h.held;
            of_pool = h.of_pool ∙ sym (same_pool (Some words) n);
            of_rank = h.of_rank ∙ sym (same_rank (Some words) n);
            above = omega (arith, h.above, from');
            below = omega (arith, h.below, from', count', i.fits);
            copying = h.copying;
            spared = h.spared;
            to_end = λ e. absurd (false≢true e);
            uncondemned = λ e. absurd (false≢true e);
          };
          given = λ k c. (omega (arith, c.0, from_is, first), omega (arith, c.1, from_is, first, count_is, i.fits));
          rest = λ k c. (omega (arith, c.0, from'), omega (arith, c.1, from', count', i.fits));
          cut = λ k c d. omega (arith, c.1, from_is, first, count_is, d.0, from');
        }

    pub buffer_reserved_laid_out : IsInBuffer → IsLaidOut limit after_reserving
    buffer_reserved_laid_out i =
        laid_out_again limit g g.shapes g.addresses (points_with
        (Some words)) memories_with g.tails laid laid.keyed laid.lengths reserving_lengths
        laid.shapes
        (right_with (Some words) (λ k e. subst (λ (x : ℕ). 0 < x) (same_Some words k e) some))
        (placed_given g g.shapes g.addresses (points_with (Some words)) memories_with g.tails (OfBuffer n) (OfReservation n)
        (given_buffer i)
        laid.placed)

  -- ---- a reservation becomes a block

  module _ (m : PointMemory) (words : ℕ) (reserved : p.reserved ≡ Some words) (memory : slice_get g.memories n ≡ Some m) where
    abbrev pub shape_committed : Shape
    shape_committed = record { pool = p.pool; words = words; is_weak = is_weak_rank p.rank }

    right_committed : IsRightShape g.pools shape_committed
    right_committed = record { some = (laid.points n p there).some words reserved; weak = (laid.points n p there).weak }

    abbrev pub after_committing : Occupancy
    after_committing = record g {
      shapes = with_last g.shapes shape_committed;
      addresses = with_last g.addresses (Some m.reserved_at);
      points = points_with None;
    }

    before_run : run_of g (OfReservation n) ≡ extent m.reserved_at words
    before_run =
        ap (λ o. run_of_reservation o (slice_get g.memories n)) there ∙ ap (λ r. run_of_reserved r (slice_get g.memories n)) reserved
        ∙ ap (run_of_reserved (Some words)) memory

    none_reserved : (o : Option PointMemory) → (run_of_reservation (Some (reserving None)) o).count ≡ 0
    none_reserved o = refl

    gone_run : (run_of after_committing (OfReservation n)).count ≡ 0
    gone_run = ap (λ o. (run_of_reservation o (slice_get g.memories n)).count) (own_point None) ∙ none_reserved (slice_get g.memories n)

    committed_kept : (o : Occupant)
        → (o ≡ OfBlock (length g.shapes)) ⊎ ((o ≡ OfReservation n) ⊎ ((o ≢ OfReservation n) × IsKept g after_committing o))
    committed_kept (OfBlock id) =
        elim (blocks_kept limit g laid shape_committed m.reserved_at right_committed (points_with None) id) [
          | inl e ↦ inl e
          | inr k ↦ inr (inr ((λ e. false≢true (ap is_reservation e)), k))
        ]
    committed_kept (OfReservation q) =
        elim (cases_eq n q) [
          | inl e ↦ inr (inl (ap OfReservation (sym e)))
          | inr other ↦ inr (inr (
            (λ e. other (sym (ap point_in e))),
            inl (record {
              run =
                  ap (λ o. run_of_reservation o (slice_get g.memories q)) (entry_at-set_other g.points n q (Some (reserving None)) other);
              pool = same_pool None q;
              rank = same_rank None q;
            }),
          ))
        ]
    committed_kept (OfBuffer q) =
        inr (inr ((λ e. false≢true (ap is_reservation e)), inl (record { run = refl; pool = same_pool None q; rank = same_rank None q })))
    committed_kept (OfTail pool generation) =
        inr (inr ((λ e. false≢true (ap is_reservation e)), inl (record { run = refl; pool = refl; rank = refl })))

    given_block : IsGiven g (with_last g.shapes shape_committed) (with_last g.addresses (Some m.reserved_at))
        (points_with None) g.memories g.tails
        (OfReservation n) (OfBlock (length g.shapes))
    given_block =
        let some = (laid.points n p there).some words reserved in
        let run = new_run limit g laid shape_committed m.reserved_at right_committed (points_with None) in
        let from : (run_of after_committing (OfBlock (length g.shapes))).from ≡ word_of m.reserved_at = ap (λ (r : Run). r.from) run in
        let count : (run_of after_committing (OfBlock (length g.shapes))).count ≡ words = ap (λ (r : Run). r.count) run in
        let from' : (run_of g (OfReservation n)).from ≡ word_of m.reserved_at = ap (λ (r : Run). r.from) before_run in
        let count' : (run_of g (OfReservation n)).count ≡ words = ap (λ (r : Run). r.count) before_run in
        let h = laid.placed.homes (OfReservation n) (omega (arith, count', some)) in
        record {
          kept = committed_kept;
          home = λ _. record {
            segment = h.segment;
            held = h.held;
            of_pool =
                h.of_pool ∙ own_pool (entry_at g.points n) there
                ∙ sym (new_pool limit g laid shape_committed m.reserved_at right_committed (points_with None));
            of_rank =
                h.of_rank ∙ own_rank (entry_at g.points n) there ∙ sym (rank_where-weak p.rank)
                ∙ sym (new_rank limit g laid shape_committed m.reserved_at right_committed (points_with None));
            above = omega (arith, h.above, from, from');
            below = omega (arith, h.below, from, from', count, count');
            copying = λ e. absurd (false≢true e);
            spared = λ e. absurd (false≢true e);
            to_end = λ e. absurd (false≢true e);
            uncondemned = λ e. absurd (false≢true e);
          };
          rest_home = λ h'. absurd (omega (arith, gone_run, h'));
          given = λ k c. (omega (arith, c.0, from, from'), omega (arith, c.1, from, from', count, count'));
          rest = λ k c. absurd (omega (arith, gone_run, c.0, c.1));
          cut = λ k c d. omega (arith, gone_run, d.0, d.1);
        }

    pub committed_laid_out : IsLaidOut limit after_committing
    committed_laid_out =
        laid_out_again limit g (with_last g.shapes shape_committed) (with_last g.addresses (Some m.reserved_at))
        (points_with None) g.memories
        g.tails laid laid.keyed (more_lengths limit g laid shape_committed m.reserved_at right_committed)
        (laid.memories ∙ sym (length-slice_set g.points n (Some (reserving None))))
        (right_shapes limit g laid shape_committed m.reserved_at right_committed) (right_with None (λ k e. absurd (none-some k e)))
        (placed_given g (with_last g.shapes shape_committed) (with_last g.addresses (Some m.reserved_at))
        (points_with None) g.memories g.tails
        (OfReservation n) (OfBlock (length g.shapes)) given_block laid.placed)

    -- where it lies no live block begins
    pub committed_free : (j : ℕ) → entry_at g.addresses j ≡ Some m.reserved_at → ⊥
    committed_free j e =
        let some = (laid.points n p there).some words reserved in
        let t = there_is g.shapes j (omega (arith, laid.lengths, entry_within g.addresses j m.reserved_at e)) in
        let run : run_of g (OfBlock j) ≡ extent m.reserved_at (t.0).words =
        ap (λ o. run_of_block o (entry_at g.addresses j)) t.1 ∙ ap (run_of_block (Some t.0)) e in
        let others = (laid.shapes j t.0 t.1).some in
        let from : (run_of g (OfBlock j)).from ≡ word_of m.reserved_at = ap (λ (r : Run). r.from) run in
        let count : (run_of g (OfBlock j)).count ≡ (t.0).words = ap (λ (r : Run). r.count) run in
        let from' : (run_of g (OfReservation n)).from ≡ word_of m.reserved_at = ap (λ (r : Run). r.from) before_run in
        let count' : (run_of g (OfReservation n)).count ≡ words = ap (λ (r : Run). r.count) before_run in
        false≢true (ap is_reservation (laid.placed.apart (OfBlock j) (OfReservation n) (word_of m.reserved_at)
        (omega (arith, from), omega (arith, from, count, others)) (omega (arith, from'), omega (arith, from', count', some))))
