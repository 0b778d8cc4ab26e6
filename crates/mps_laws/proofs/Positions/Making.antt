-- What calls make: an arena of other grains, a pool more, a point more or one dropped, a block where a reservation was, a new
-- block or reservation where nobody had words, a reservation at a prefix of a buffer. The arena stays laid out.
use Rattle.std.proofs.Common.{◌≡◌, ◌∙◌, ◌⊎◌, ℕ, zero, suc, ◌+◌, ◌<◌, ◌≤◌, refl, sym, ap, List, [], ◌∷◌, length, Option, Some, None, subst, inl, inr, arith}
use Rattle.std.proofs.lemmas.Bool.{cases_eq, cases_order, false≢true}
use Rattle.std.proofs.lemmas.Option.{none-some, same_Some}
use Rattle.std.specs.Prelude.{map, slice_get, slice_set}
use Rattle.std.specs.Option.{option_map_or}
use Rattle.mps_base.specs.Address.{Address, word_of}
use Rattle.mps_base.specs.Run.{Run, Covers, IsAscending, end_of}
use Rattle.mps_base.specs.Segment.{Segment, grains_of_segment, words_of_segment}
use Rattle.mps_base.specs.declared.names.Rank.{Rank}
use Rattle.mps_base.specs.declared.names.Rank.TheVariants as rank
use Rattle.mps_model.specs.Graph.{entry_at, with_last}
use Rattle.mps_model.specs.World.{Pool, PointMemory, extent, is_copying_kind, is_weak_kind}
use Rattle.mps_laws.proofs.InOrder.{all_weaker}
use Rattle.mps_laws.proofs.Lookups.{slice_get-last, slice_get-at_last, slice_get-after_last, slice_get-set_other, entry_at-last, entry_at-at_last, entry_at-after_last, entry_at-set_other, entry_at-set_none, entry_within, entry_within_set, length-with_last, length-slice_set, there_is}
use Rattle.mps_laws.proofs.Positions.Occupancy.{Occupancy, Occupant, OfBlock, OfReservation, OfBuffer, OfTail, Shape, PointShape, run_of, run_of_block, run_of_reservation, run_of_reserved, run_of_buffer, pool_of_occupant, rank_of_occupant, rank_where}
use Rattle.mps_laws.proofs.Positions.LaidOut.{Home, IsLaidOut, IsRightShape, IsRightPointShape, IsRightlyRanked, IsKept, placed_kept, placed_new, laid_out_again, home_otherwise, is_staying_kind}
use Rattle.mps_laws.proofs.Sound.PoolKinds.{kind_in-more}
use Rattle.mps_laws.proofs.Positions.Segments.{IsAmong}

-- ---- the arena, and a pool more

ascending_higher : (low limit limit' : ℕ) (rs : List Run) → limit ≤ limit' → IsAscending low limit rs → IsAscending low limit' rs
ascending_higher low limit limit' [] h asc = omega (arith, h, asc)
ascending_higher low limit limit' (r ∷ rs) h asc = (asc.0, asc.1, ascending_higher (end_of r) limit limit' rs h asc.2)

pub arena_laid_out : (limit limit' grains : ℕ) (g : Occupancy) → limit ≤ limit' → grains < limit' → IsLaidOut limit g
    → IsLaidOut limit' (record g { grains = grains })
arena_laid_out limit limit' grains g order range laid = record {
  in_range = range;
  lengths = laid.lengths;
  memories = laid.memories;
  shapes = laid.shapes;
  points = laid.points;
  ascending = ascending_higher 1 limit limit' (map grains_of_segment g.segments) order laid.ascending;
  aligned = laid.aligned;
  ranked = laid.ranked;
  condemned = laid.condemned;
  distinct = laid.distinct;
  keyed = laid.keyed;
  placed = record { apart = laid.placed.apart; homes = laid.placed.homes };
}

in_more_pools : {segments : List Segment} {condemned : List Address} {pool : ℕ} {at_rank : Rank} {r : Run} (pools : List Pool) (p : Pool)
    (o : Occupant)
    → Home segments pools condemned o pool at_rank r → Home segments (with_last pools p) condemned o pool at_rank r
in_more_pools {condemned = condemned} pools p o home =
    home_otherwise (with_last pools p) condemned home
    (λ h. kind_in-more is_copying_kind pools p home.segment.pool (home.copying h)) home.spared (λ h.
    elim (home.uncondemned h) [
      | inl free ↦ inl free
      | inr staying ↦ inr (kind_in-more is_staying_kind pools p home.segment.pool staying)
    ])

pub pool_laid_out : (limit : ℕ) (p : Pool) (g : Occupancy) → IsLaidOut limit g → IsLaidOut limit (record g { pools = with_last g.pools p })
pool_laid_out limit p g laid = record {
  in_range = laid.in_range;
  lengths = laid.lengths;
  memories = laid.memories;
  shapes = λ id s e.
      let right = laid.shapes id s e in record { some = right.some; weak = λ h. kind_in-more is_weak_kind g.pools p s.pool (right.weak h) };
  points = λ n q e.
      let right = laid.points n q e in record { some = right.some; weak = λ h. kind_in-more is_weak_kind g.pools p q.pool (right.weak h) };
  ascending = laid.ascending;
  aligned = laid.aligned;
  ranked =
      all_weaker (IsRightlyRanked g.pools) (IsRightlyRanked (with_last g.pools p)) g.segments
      (λ s right h. kind_in-more is_weak_kind g.pools p s.pool (right h)) laid.ranked;
  condemned = laid.condemned;
  distinct = laid.distinct;
  keyed = laid.keyed;
  placed = record { apart = laid.placed.apart; homes = λ o some. in_more_pools g.pools p o (laid.placed.homes o some) };
}

-- ---- points

module _ (limit : ℕ) (g : Occupancy) (laid : IsLaidOut limit g) where
  -- a point more, without reservation and with nothing at hand
  pub record IsNewPoint (p : PointShape) (m : PointMemory) : Type 0 where
    pub closed : p.reserved ≡ None
    pub nothing : m.buffer.count ≡ 0
    pub right : IsRightPointShape g.pools p

  module _ (p : PointShape) (m : PointMemory) (new : IsNewPoint p m) where
    abbrev pub with_point_shape : Occupancy
    with_point_shape = record g { points = with_last g.points (Some p); memories = with_last g.memories m }

    closed_run : (o : Option PointMemory) → (run_of_reservation (Some p) o).count ≡ 0
    closed_run o = ap (λ r. (run_of_reserved r o).count) new.closed

    none_run : (o : Option PointMemory) → (run_of_reservation None o).count ≡ 0
    none_run o = refl

    point_kept : (o : Occupant) → IsKept g with_point_shape o
    point_kept (OfBlock id) = inl (record { run = refl; pool = refl; rank = refl })
    point_kept (OfTail pool generation) = inl (record { run = refl; pool = refl; rank = refl })
    point_kept (OfReservation n) =
        elim (cases_order n (length g.points)) [
          | inl e ↦
              inr (ap (λ q. (run_of_reservation q (slice_get (with_last g.memories m) n)).count)
              (ap (entry_at (with_last g.points (Some p))) e ∙ entry_at-at_last g.points (Some p))
              ∙ closed_run (slice_get (with_last g.memories m) n))
          | inr (inl low) ↦
              let same = entry_at-last g.points (Some p) n low in
              inl (record {
                run =
                    ap (λ q. run_of_reservation q (slice_get (with_last g.memories m) n)) same
                    ∙ ap (run_of_reservation (entry_at g.points n)) (slice_get-last g.memories m n (omega (arith, low, laid.memories)));
                pool = ap (λ q. option_map_or (λ (x : PointShape). x.pool) q 0) same;
                rank = ap (λ q. option_map_or (λ (x : PointShape). x.rank) q rank.Exact) same;
              })
          | inr (inr high) ↦
              inr (ap (λ q. (run_of_reservation q (slice_get (with_last g.memories m) n)).count)
              (entry_at-after_last g.points (Some p) n high)
              ∙ none_run (slice_get (with_last g.memories m) n))
        ]
    point_kept (OfBuffer n) =
        elim (cases_order n (length g.points)) [
          | inl e ↦
              inr (ap (λ q. (run_of_buffer q).count)
              (ap (slice_get (with_last g.memories m)) (e ∙ sym laid.memories) ∙ slice_get-at_last g.memories m)
              ∙ new.nothing)
          | inr (inl low) ↦
              let same = entry_at-last g.points (Some p) n low in
              inl (record {
                run = ap run_of_buffer (slice_get-last g.memories m n (omega (arith, low, laid.memories)));
                pool = ap (λ q. option_map_or (λ (x : PointShape). x.pool) q 0) same;
                rank = ap (λ q. option_map_or (λ (x : PointShape). x.rank) q rank.Exact) same;
              })
          | inr (inr high) ↦
              inr (ap (λ q. (run_of_buffer q).count) (slice_get-after_last g.memories m n (omega (arith, high, laid.memories))))
        ]

    right_points : (n : ℕ) (q : PointShape) → entry_at (with_last g.points (Some p)) n ≡ Some q → IsRightPointShape g.pools q
    right_points n q e =
        elim (cases_order n (length g.points)) [
          | inl f ↦
              subst (IsRightPointShape g.pools)
              (same_Some p q (sym (ap (entry_at (with_last g.points (Some p))) f ∙ entry_at-at_last g.points (Some p)) ∙ e)) new.right
          | inr (inl low) ↦ laid.points n q (sym (entry_at-last g.points (Some p) n low) ∙ e)
          | inr (inr high) ↦ absurd (none-some q (sym (entry_at-after_last g.points (Some p) n high) ∙ e))
        ]

    pub point_laid_out : IsLaidOut limit with_point_shape
    point_laid_out =
        laid_out_again limit g g.shapes g.addresses (with_last g.points (Some p))
        (with_last g.memories m) g.tails laid laid.keyed laid.lengths
        (length-with_last g.memories m ∙ ap (λ n. n + 1) laid.memories ∙ sym (length-with_last g.points (Some p))) laid.shapes right_points
        (placed_kept g g.shapes g.addresses (with_last g.points (Some p)) (with_last g.memories m) g.tails point_kept laid.placed)

  -- a point is dropped
  module _ (point : ℕ) (m : PointMemory) (nothing : m.buffer.count ≡ 0) where
    abbrev pub without_point_shape : Occupancy
    without_point_shape = record g { points = slice_set g.points point None; memories = slice_set g.memories point m }

    dropped_reservation : (n : ℕ) → IsKept g without_point_shape (OfReservation n)
    dropped_reservation n =
        elim (cases_eq point n) [
          | inl e ↦
              inr (subst (λ (k : ℕ). (run_of_reservation (entry_at (slice_set g.points point None) k)
              (slice_get (slice_set g.memories point m) k)).count ≡ 0) e
              (ap (λ q. (run_of_reservation q (slice_get (slice_set g.memories point m) point)).count) (entry_at-set_none g.points point)))
          | inr other ↦
              let same = entry_at-set_other g.points point n None other in
              inl (record {
                run =
                    ap (λ q. run_of_reservation q (slice_get (slice_set g.memories point m) n)) same
                    ∙ ap (run_of_reservation (entry_at g.points n)) (slice_get-set_other g.memories point n m other);
                pool = ap (λ q. option_map_or (λ (x : PointShape). x.pool) q 0) same;
                rank = ap (λ q. option_map_or (λ (x : PointShape). x.rank) q rank.Exact) same;
              })
        ]

    written_buffer : (memories : List PointMemory) (n : ℕ) → (run_of_buffer (slice_get (slice_set memories n m) n)).count ≡ 0
    written_buffer [] n = refl
    written_buffer (x ∷ xs) zero = nothing
    written_buffer (x ∷ xs) (suc n) = written_buffer xs n

    dropped_buffer : (n : ℕ) → IsKept g without_point_shape (OfBuffer n)
    dropped_buffer n =
        elim (cases_eq point n) [
          | inl e ↦
              inr (subst (λ (k : ℕ). (run_of_buffer (slice_get (slice_set g.memories point m) k)).count ≡ 0) e
              (written_buffer g.memories point))
          | inr other ↦
              let same = entry_at-set_other g.points point n None other in
              inl (record {
                run = ap run_of_buffer (slice_get-set_other g.memories point n m other);
                pool = ap (λ q. option_map_or (λ (x : PointShape). x.pool) q 0) same;
                rank = ap (λ q. option_map_or (λ (x : PointShape). x.rank) q rank.Exact) same;
              })
        ]

    dropped_kept : (o : Occupant) → IsKept g without_point_shape o
    dropped_kept (OfBlock id) = inl (record { run = refl; pool = refl; rank = refl })
    dropped_kept (OfTail pool generation) = inl (record { run = refl; pool = refl; rank = refl })
    dropped_kept (OfReservation n) = dropped_reservation n
    dropped_kept (OfBuffer n) = dropped_buffer n

    right_rest : (n : ℕ) (q : PointShape) → entry_at (slice_set g.points point None) n ≡ Some q → IsRightPointShape g.pools q
    right_rest n q e =
        elim (entry_within_set g.points point n q None e) [
          | inl f ↦ absurd (none-some q f.1)
          | inr f ↦ laid.points n q f.1
        ]

    pub dropped_laid_out : IsLaidOut limit without_point_shape
    dropped_laid_out =
        laid_out_again limit g g.shapes g.addresses (slice_set g.points point None)
        (slice_set g.memories point m) g.tails laid laid.keyed laid.lengths
        (length-slice_set g.memories point m ∙ laid.memories ∙ sym (length-slice_set g.points point None)) laid.shapes right_rest
        (placed_kept g g.shapes g.addresses (slice_set g.points point None) (slice_set g.memories point m) g.tails dropped_kept laid.placed)

  -- ---- a new block

  module _ (s : Shape) (at : Address) (right : IsRightShape g.pools s) where
    abbrev pub with_block_at : List (Option PointShape) → Occupancy
    with_block_at points = record g { shapes = with_last g.shapes s; addresses = with_last g.addresses (Some at); points = points }

    pub new_run : (points : List (Option PointShape)) → run_of (with_block_at points) (OfBlock (length g.shapes)) ≡ extent at s.words
    new_run points =
        ap (λ o. run_of_block o (entry_at (with_last g.addresses (Some at)) (length g.shapes))) (slice_get-at_last g.shapes s)
        ∙ ap (run_of_block (Some s)) (ap (entry_at (with_last g.addresses (Some at))) (sym laid.lengths)
        ∙ entry_at-at_last g.addresses (Some at))

    pub new_pool : (points : List (Option PointShape)) → pool_of_occupant (with_block_at points) (OfBlock (length g.shapes)) ≡ s.pool
    new_pool points = ap (λ o. option_map_or (λ (t : Shape). t.pool) o 0) (slice_get-at_last g.shapes s)

    pub new_rank : (points : List (Option PointShape)) → rank_of_occupant (with_block_at points)
        (OfBlock (length g.shapes)) ≡ rank_where s.is_weak
    new_rank points = ap (λ o. option_map_or (λ (t : Shape). rank_where t.is_weak) o rank.Exact) (slice_get-at_last g.shapes s)

    pub blocks_kept : (points : List (Option PointShape)) (id : ℕ)
        → (OfBlock id ≡ OfBlock (length g.shapes)) ⊎ IsKept g (with_block_at points) (OfBlock id)
    blocks_kept points id =
        elim (cases_order id (length g.shapes)) [
          | inl e ↦ inl (ap OfBlock e)
          | inr (inl low) ↦
              let same = slice_get-last g.shapes s id low in
              inr (inl (record {
                run =
                    ap (λ o. run_of_block o (entry_at (with_last g.addresses (Some at)) id)) same
                    ∙ ap (run_of_block (slice_get g.shapes id)) (entry_at-last g.addresses (Some at) id (omega (arith, low, laid.lengths)));
                pool = ap (λ o. option_map_or (λ (t : Shape). t.pool) o 0) same;
                rank = ap (λ o. option_map_or (λ (t : Shape). rank_where t.is_weak) o rank.Exact) same;
              }))
          | inr (inr high) ↦
              inr (inr (ap (λ o. (run_of_block o (entry_at (with_last g.addresses (Some at)) id)).count)
              (slice_get-after_last g.shapes s id high)))
        ]

    pub right_shapes : (id : ℕ) (t : Shape) → slice_get (with_last g.shapes s) id ≡ Some t → IsRightShape g.pools t
    right_shapes id t e =
        elim (cases_order id (length g.shapes)) [
          | inl f ↦
              subst (IsRightShape g.pools)
              (same_Some s t (sym (ap (slice_get (with_last g.shapes s)) f ∙ slice_get-at_last g.shapes s) ∙ e)) right
          | inr (inl low) ↦ laid.shapes id t (sym (slice_get-last g.shapes s id low) ∙ e)
          | inr (inr high) ↦ absurd (none-some t (sym (slice_get-after_last g.shapes s id high) ∙ e))
        ]

    pub more_lengths : length (with_last g.addresses (Some at)) ≡ length (with_last g.shapes s)
    more_lengths = length-with_last g.addresses (Some at) ∙ ap (λ n. n + 1) laid.lengths ∙ sym (length-with_last g.shapes s)

    -- where nobody had words
    pub record IsRoom : Type 0 where
      pub segment : Segment
      pub held : IsAmong segment g.segments
      pub of_pool : segment.pool ≡ s.pool
      pub of_rank : segment.rank ≡ rank_where s.is_weak
      pub above : (words_of_segment segment).from ≤ word_of at
      pub below : word_of at + s.words ≤ end_of (words_of_segment segment)
      pub unoccupied : (o : Occupant) (n : ℕ) → Covers (run_of g o) n → Covers (extent at s.words) n → ⊥

    block_kept : (o : Occupant) → (o ≡ OfBlock (length g.shapes)) ⊎ IsKept g (with_block_at g.points) o
    block_kept (OfBlock id) = blocks_kept g.points id
    block_kept (OfReservation n) = inr (inl (record { run = refl; pool = refl; rank = refl }))
    block_kept (OfBuffer n) = inr (inl (record { run = refl; pool = refl; rank = refl }))
    block_kept (OfTail pool generation) = inr (inl (record { run = refl; pool = refl; rank = refl }))

    pub block_laid_out : IsRoom → IsLaidOut limit (with_block_at g.points)
    block_laid_out room =
        let run = new_run g.points in
        let from : (run_of (with_block_at g.points) (OfBlock (length g.shapes))).from ≡ word_of at = ap (λ (r : Run). r.from) run in
        let count : (run_of (with_block_at g.points) (OfBlock (length g.shapes))).count ≡ s.words = ap (λ (r : Run). r.count) run in
        laid_out_again limit g (with_last g.shapes s) (with_last g.addresses
        (Some at)) g.points g.memories g.tails laid laid.keyed more_lengths
        laid.memories right_shapes laid.points
        (placed_new g (with_last g.shapes s) (with_last g.addresses (Some at)) g.points g.memories g.tails
        (OfBlock (length g.shapes)) block_kept
        (λ _. record {
          segment = room.segment;
          held = room.held;
          of_pool = room.of_pool ∙ sym (new_pool g.points);
          of_rank = room.of_rank ∙ sym (new_rank g.points);
          above = omega (arith, room.above, from);
          below = omega (arith, room.below, from, count);
          copying = λ e. absurd (false≢true e);
          spared = λ e. absurd (false≢true e);
          to_end = λ e. absurd (false≢true e);
          uncondemned = λ e. absurd (false≢true e);
        })
        (λ o n c d. room.unoccupied o n c (subst (λ (r : Run). Covers r n) run d)) laid.placed)

    pub room_free : IsRoom → (j : ℕ) → entry_at g.addresses j ≡ Some at → ⊥
    room_free room j e =
        let t = there_is g.shapes j (omega (arith, laid.lengths, entry_within g.addresses j at e)) in
        let run : run_of g (OfBlock j) ≡ extent at (t.0).words =
        ap (λ o. run_of_block o (entry_at g.addresses j)) t.1 ∙ ap (run_of_block (Some t.0)) e in
        let others = (laid.shapes j t.0 t.1).some in
        let from : (run_of g (OfBlock j)).from ≡ word_of at = ap (λ (r : Run). r.from) run in
        let count : (run_of g (OfBlock j)).count ≡ (t.0).words = ap (λ (r : Run). r.count) run in
        room.unoccupied (OfBlock j) (word_of at) (omega (arith, from), omega (arith, from, count, others))
        (omega arith, omega (arith, right.some))
