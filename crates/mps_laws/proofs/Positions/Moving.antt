-- A block that moves to a prefix of the words at hand, and a block that is freed: the arena stays laid out.
use Rattle.std.proofs.Common.{◌≡◌, ◌∙◌, ◌⊎◌, ℕ, ◌+◌, ◌-◌, ◌*◌, ◌<◌, ◌≤◌, true, refl, sym, ap, List, Option, Some, None, subst, inl, inr, arith}
use Rattle.std.proofs.lemmas.Bool.{cases_Bool, cases_eq, false≢true}
use Rattle.std.proofs.lemmas.Option.{slice_get_within}
use Rattle.std.specs.Prelude.{slice_get, slice_set, ◌≢◌}
use Rattle.std.specs.Option.{option_map_or}
use Rattle.mps_base.specs.Address.{word_of, address_of_word}
use Rattle.mps_base.specs.Run.{Run}
use Rattle.mps_base.specs.Segment.{Segment, segment_over, end_of_segment}
use Rattle.mps_base.specs.declared.names.Rank.TheVariants as rank
use Rattle.mps_model.specs.Graph.{entry_at}
use Rattle.mps_model.specs.World.{extent, empty_run, is_copying_kind}
use Rattle.mps_model.specs.Effect.{rest_of_segment}
use Rattle.mps_laws.proofs.Lookups.{entry_at-set_same, entry_at-set_other, entry_at-set_none, length-slice_set, there_is, entry_within}
use Rattle.mps_laws.proofs.Positions.Occupancy.{Occupancy, Occupant, OfBlock, OfReservation, OfBuffer, OfTail, Shape, run_of, run_of_block, run_of_tail, rank_where}
use Rattle.mps_laws.proofs.Positions.LaidOut.{HomeOf, IsLaidOut, IsKept, IsGiven, kind_in, is_tail, placed_given, placed_kept, laid_out_again}
use Rattle.mps_laws.proofs.Sound.PoolKinds.{not_copying_and_weak}
use Rattle.mps_laws.proofs.Positions.Segments.{IsAligned, among_aligned, found_segment}
use Rattle.mps_laws.proofs.Positions.Tails.{with_tail_of, own_tail, cases_tail, keyed_with}

abbrev tail_pool : Occupant → ℕ
tail_pool (OfTail pool generation) = pool
tail_pool _ = 0

abbrev tail_generation : Occupant → ℕ
tail_generation (OfTail pool generation) = generation
tail_generation _ = 0

abbrev run_from : (from count : ℕ) → Run
run_from from count = record { from = from; count = count }

run_is : (a b c d : ℕ) → a ≡ c → b ≡ d → run_from a b ≡ run_from c d
run_is a b c d e f = rw (e, f) refl

-- the words after a block of n words at an address, in its segment
abbrev pub words_after_in : List Segment → (address words : ℕ) → Run
words_after_in segments address words =
    option_map_or (λ s. rest_of_segment s (address + 8 * words)) (segment_over segments address) empty_run

-- an object of a copying pool whose block fits in the words at hand, and begins there
pub record IsMoving (g : Occupancy) (id to : ℕ) (s : Shape) (generation : ℕ) : Type 0 where
  pub shape : slice_get g.shapes id ≡ Some s
  pub fits : s.words ≤ (run_of_tail g.tails s.pool generation).count
  pub at_front : address_of_word (run_of_tail g.tails s.pool generation).from ≡ to
  pub copying : kind_in is_copying_kind g.pools s.pool ≡ true

module _ (limit : ℕ) (g : Occupancy) (id to generation : ℕ) (s : Shape) (laid : IsLaidOut limit g) (m : IsMoving g id to s generation) where
  abbrev own : Run
  own = run_of_tail g.tails s.pool generation

  abbrev rest : Run
  rest = words_after_in g.segments to s.words

  abbrev pub after_moving_to : Occupancy
  after_moving_to = record g { addresses = slice_set g.addresses id (Some to); tails = with_tail_of g.tails s.pool generation rest }

  some : 0 < s.words
  some = (laid.shapes id s m.shape).some

  tail_home : HomeOf g (OfTail s.pool generation)
  tail_home = laid.placed.homes (OfTail s.pool generation) (omega (arith, some, m.fits))

  home_aligned : IsAligned tail_home.segment
  home_aligned = among_aligned tail_home.segment g.segments laid.aligned tail_home.held

  rest_is : rest ≡ run_from (own.from + s.words) (own.count - s.words)
  rest_is =
      let here = found_segment 1 limit g.segments tail_home.segment laid.ascending laid.aligned tail_home.held own.from
      (omega (arith, tail_home.above), omega (arith, tail_home.below, some, m.fits)) in
      let ends = tail_home.to_end refl in
      let a = home_aligned in
      ap (λ n. words_after_in g.segments n s.words) (sym m.at_front)
      ∙ ap (λ o. option_map_or (λ (t : Segment). rest_of_segment t (address_of_word own.from + 8 * s.words)) o empty_run) here
      ∙ run_is (word_of (address_of_word own.from + 8 * s.words))
      (word_of (end_of_segment tail_home.segment) - word_of (address_of_word own.from + 8 * s.words))
      (own.from + s.words) (own.count - s.words) (omega arith) (omega (arith, ends, a))

  block_run : run_of after_moving_to (OfBlock id) ≡ run_from own.from s.words
  block_run =
      ap (λ o. run_of_block o (entry_at (slice_set g.addresses id (Some to)) id)) m.shape
      ∙ ap (run_of_block (Some s)) (entry_at-set_same g.addresses id (Some to)
      (omega (arith, laid.lengths, slice_get_within g.shapes id s m.shape)))
      ∙ ap (λ n. run_from n s.words) (let at = m.at_front in let e : word_of to ≡ own.from = omega (arith, at) in e)

  tail_run : run_of after_moving_to (OfTail s.pool generation) ≡ run_from (own.from + s.words) (own.count - s.words)
  tail_run = own_tail g.tails s.pool generation rest ∙ rest_is

  not_weak : rank_where s.is_weak ≡ rank.Exact
  not_weak =
      elim (cases_Bool s.is_weak) [
        | inl is ↦ absurd (not_copying_and_weak g.pools s.pool m.copying ((laid.shapes id s m.shape).weak is))
        | inr isnt ↦ ap rank_where isnt
      ]

  kept : (o : Occupant)
      → (o ≡ OfBlock id) ⊎ ((o ≡ OfTail s.pool generation) ⊎ ((o ≢ OfTail s.pool generation) × IsKept g after_moving_to o))
  kept (OfBlock j) =
      elim (cases_eq id j) [
        | inl e ↦ inl (ap OfBlock (sym e))
        | inr n ↦ inr (inr (
          (λ e. false≢true (ap is_tail e)),
          inl (record {
            run = ap (run_of_block (slice_get g.shapes j)) (entry_at-set_other g.addresses id j (Some to) n);
            pool = refl;
            rank = refl;
          }),
        ))
      ]
  kept (OfReservation point) = inr (inr ((λ e. false≢true (ap is_tail e)), inl (record { run = refl; pool = refl; rank = refl })))
  kept (OfBuffer point) = inr (inr ((λ e. false≢true (ap is_tail e)), inl (record { run = refl; pool = refl; rank = refl })))
  kept (OfTail p n) =
      elim (cases_tail g.tails s.pool generation p n rest) [
        | inl e ↦ inr (inl (ap (λ q. OfTail q n) e.0 ∙ ap (λ k. OfTail s.pool k) e.1))
        | inr k ↦ inr (inr (
          (λ e. k.0 (sym (ap tail_pool e)) (sym (ap tail_generation e))),
          inl (record { run = k.1; pool = refl; rank = refl }),
        ))
      ]

  given : IsGiven g g.shapes (slice_set g.addresses id (Some to)) g.points g.memories (with_tail_of g.tails s.pool generation rest)
      (OfTail s.pool generation) (OfBlock id)
  given =
      let h = tail_home in
      let from : (run_of after_moving_to (OfBlock id)).from ≡ own.from = ap (λ (r : Run). r.from) block_run in
      let count : (run_of after_moving_to (OfBlock id)).count ≡ s.words = ap (λ (r : Run). r.count) block_run in
      let from' : (run_of after_moving_to (OfTail s.pool generation)).from ≡ own.from + s.words = ap (λ (r : Run). r.from) tail_run in
      let count' : (run_of after_moving_to (OfTail s.pool generation)).count ≡ own.count - s.words = ap (λ (r : Run). r.count) tail_run in
      record {
        kept = kept;
        home = λ _. record {
          segment = h.segment;
          held = h.held;
          of_pool = h.of_pool ∙ sym (ap (λ o. option_map_or (λ (t : Shape). t.pool) o 0) m.shape);
          of_rank =
              h.of_rank ∙ sym not_weak
              ∙ sym (ap (λ o. option_map_or (λ (t : Shape). rank_where t.is_weak) o rank.Exact) m.shape);
          above = omega (arith, h.above, from);
          below = omega (arith, h.below, from, count, m.fits);
          copying = λ e. absurd (false≢true e);
          spared = λ e. absurd (false≢true e);
          to_end = λ e. absurd (false≢true e);
          uncondemned = λ e. absurd (false≢true e);
        };
        rest_home = λ _. record {
          segment = h.segment;
          held = h.held;
          of_pool = h.of_pool;
          of_rank = h.of_rank;
          above = omega (arith, h.above, from');
          below = omega (arith, h.below, from', count', m.fits);
          copying = h.copying;
          spared = h.spared;
          to_end = λ e. (let ends = h.to_end e in omega (arith, ends, from', count', m.fits));
          uncondemned = λ e. absurd (false≢true e);
        };
        given = λ n c. (omega (arith, c.0, from), omega (arith, c.1, from, count, m.fits));
        rest = λ n c. (omega (arith, c.0, from'), omega (arith, c.1, from', count', m.fits));
        cut = λ n c d. omega (arith, c.1, from, count, d.0, from');
      }

  pub moved_laid_out : IsLaidOut limit after_moving_to
  moved_laid_out =
      laid_out_again limit g g.shapes (slice_set g.addresses id (Some to)) g.points g.memories
      (with_tail_of g.tails s.pool generation rest) laid (keyed_with g.tails s.pool generation rest laid.keyed)
      (length-slice_set g.addresses id (Some to) ∙ laid.lengths) laid.memories laid.shapes
      laid.points
      (placed_given g g.shapes (slice_set g.addresses id (Some to)) g.points g.memories
      (with_tail_of g.tails s.pool generation rest) (OfTail s.pool generation) (OfBlock id) given laid.placed)

  -- where it moves to no live block begins
  pub moved_to_free : (j : ℕ) → entry_at g.addresses j ≡ Some to → ⊥
  moved_to_free j e =
      let t = there_is g.shapes j (omega (arith, laid.lengths, entry_within g.addresses j to e)) in
      let run : run_of g (OfBlock j) ≡ extent to (t.0).words =
      ap (λ o. run_of_block o (entry_at g.addresses j)) t.1 ∙ ap (run_of_block (Some t.0)) e in
      let others = (laid.shapes j t.0 t.1).some in
      let at = m.at_front in
      let from : (run_of g (OfBlock j)).from ≡ own.from = ap (λ (r : Run). r.from) run
      ∙ (let w : word_of to ≡ own.from = omega (arith, at) in w) in
      let count : (run_of g (OfBlock j)).count ≡ (t.0).words = ap (λ (r : Run). r.count) run in
      false≢true (ap is_tail (laid.placed.apart (OfBlock j) (OfTail s.pool generation) own.from
      (omega (arith, from), omega (arith, from, count, others)) (omega arith, omega (arith, some, m.fits))))

-- ---- a block is freed

no_address : (o : Option Shape) → (run_of_block o None).count ≡ 0
no_address None = refl
no_address (Some s) = refl

module _ (limit : ℕ) (g : Occupancy) (id : ℕ) (laid : IsLaidOut limit g) where
  freed_kept : (o : Occupant) → IsKept g (record g { addresses = slice_set g.addresses id None }) o
  freed_kept (OfBlock j) =
      elim (cases_eq id j) [
        | inl e ↦ inr (subst (λ (k : ℕ). (run_of_block (slice_get g.shapes k) (entry_at (slice_set g.addresses id None) k)).count ≡ 0) e
            (ap (λ a. (run_of_block (slice_get g.shapes id) a).count) (entry_at-set_none g.addresses id)
            ∙ no_address (slice_get g.shapes id)))
        | inr n ↦ inl (record {
          run = ap (run_of_block (slice_get g.shapes j)) (entry_at-set_other g.addresses id j None n);
          pool = refl;
          rank = refl;
        })
      ]
  freed_kept (OfReservation point) = inl (record { run = refl; pool = refl; rank = refl })
  freed_kept (OfBuffer point) = inl (record { run = refl; pool = refl; rank = refl })
  freed_kept (OfTail p n) = inl (record { run = refl; pool = refl; rank = refl })

  pub freed_laid_out : IsLaidOut limit (record g { addresses = slice_set g.addresses id None })
  freed_laid_out =
      laid_out_again limit g g.shapes (slice_set g.addresses id None) g.points g.memories g.tails laid laid.keyed
      (length-slice_set g.addresses id None ∙ laid.lengths) laid.memories laid.shapes laid.points
      (placed_kept g g.shapes (slice_set g.addresses id None) g.points g.memories g.tails freed_kept laid.placed)
