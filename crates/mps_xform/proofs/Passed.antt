-- The segments of an arena are passed in ascending order.
use Rattle.std.proofs.Common.{ℕ, ◌<◌, ◌≤◌, ◌%◌, ◌≡◌, ◌≢◌, ◌==◌, false, Option, Some, None, List, Contains, length, refl, sym, ap, ◌∙◌, subst, inl, inr, arith}
use Rattle.std.specs.Prelude.{option_map}
use Rattle.std.specs.Option.{option_map_or}
use Rattle.std.proofs.lemmas.Bool.{cases_lt, ne_eqb}
use Rattle.mps_base.specs.Address.{Address, Word, word_of, address_of_word, bytes_of_word}
use Rattle.mps_base.specs.Segment.{Segment, segment_over, end_of_segment}
use Rattle.mps_base.specs.declared.address.Addr.{Addr}
use Rattle.mps_format.specs.Layout.{Layout}
use Rattle.mps_seg.specs.Segs.{SegsState, segment_from, base_address}
use Rattle.mps_xform.specs.Applying.{CanApply, after_apply, after_apply_below, is_in_pool}
use Rattle.mps_xform.specs.Passing.{IsAppliedBelow, IsSpanOf}
use Rattle.mps_xform.specs.Summed.{AreBlocksSummed}
use Rattle.mps_xform.proofs.Applied.{parts_below, passed_to, none_elsewhere}
use Rattle.mps_xform.proofs.Walked.{LowestSegment, next_segment as lowest_segment, no_segment, over_is, over_in, bounds, apart_segments}

-- a pass has come to an address: the segments before it are done, and none lies across it
pub record IsPassed (f : Layout) (to : Address → Option Address) (pool : ℕ) (s now : SegsState) (from : Address) : Type 0 where
  pub state : now ≡ after_apply_below f to s pool (word_of from)
  pub aligned : from % bytes_of_word ≡ 0
  pub within : word_of from ≤ length s.words
  pub bounded : (t : Segment) → Contains s.segments t → t.base < from → end_of_segment t ≤ from

outside : (s : SegsState) (pool i : ℕ) → ((t : Segment) → segment_over s.segments (address_of_word i) ≡ Some t → ⊥)
    → is_in_pool s pool i ≡ false
outside s pool i none = by_segment (segment_over s.segments (address_of_word i)) refl
  where
    by_segment : (o : Option Segment) → segment_over s.segments (address_of_word i) ≡ o
        → option_map_or (λ t. t.pool == pool) (segment_over s.segments (address_of_word i)) false ≡ false
    by_segment None is = ap (λ (o : Option Segment). option_map_or (λ t. t.pool == pool) o false) is
    by_segment (Some t) is = absurd (none t is)

module _ (f : Layout) (to : Address → Option Address) (pool : ℕ) (s : SegsState) (can : CanApply f s pool) where
  pub none_yet : IsPassed f to pool s s 0
  none_yet = record { state = refl; aligned = refl; within = omega arith; bounded = λ t there below. absurd (omega (arith, below)) }

  module _ (now : SegsState) (from : Address) (passed : IsPassed f to pool s now from) where
    segments_same : now.segments ≡ s.segments
    segments_same = ap (λ (t : SegsState). t.segments) passed.state ∙ (parts_below f to s pool (word_of from)).segments

    -- no segment lies over a word between here and the next one
    gap_passed : (high : Word) → word_of from ≤ high
        → ((t : Segment) → Contains s.segments t → from ≤ t.base → word_of t.base < high → t.base % bytes_of_word ≡ 0 → ⊥)
        → after_apply_below f to s pool high ≡ after_apply_below f to s pool (word_of from)
    gap_passed high above none =
        passed_to f to s pool (word_of from) high above (λ i over below.
        none_elsewhere f to s pool i (outside s pool i (λ t is.
        let o = over_is s.segments (address_of_word i) t is in
        elim (cases_lt t.base from) [
          | inl before ↦ omega (arith, passed.bounded t o.there before, o.below, over, passed.aligned)
          | inr past ↦
              let b = bounds 0 s.segments t can.segments o.there in
              none t o.there past (omega (arith, o.above, below, b.aligned)) b.aligned
        ])))

    -- where no segment is left, all is done
    pub rest_passed : None ≡ option_map base_address (segment_from now.segments from) → now ≡ after_apply f to s pool
    rest_passed is =
        let is' : None ≡ option_map base_address (segment_from s.segments from) =
        is ∙ ap (λ (ts : List Segment). option_map base_address (segment_from ts from)) segments_same in
        passed.state
        ∙ sym (gap_passed (length s.words) passed.within (λ t there above below aligned. no_segment s.segments from is' t there above))

    module _ (base : Addr) (is : Some base ≡ option_map base_address (segment_from now.segments from)) where
      pub next : LowestSegment s.segments from base.0
      next =
          lowest_segment 0 s.segments from base can.segments
          (is ∙ ap (λ (ts : List Segment). option_map base_address (segment_from ts from)) segments_same)

      pub listed : Contains now.segments next.segment
      listed = let P : List Segment → Type 0 = λ ts. Contains ts next.segment in subst P (sym segments_same) next.there

      pub is_aligned : base.0 % bytes_of_word ≡ 0
      is_aligned = ap (λ (a : Address). a % bytes_of_word) (sym next.begins)
          ∙ (bounds 0 s.segments next.segment can.segments next.there).aligned

      pub is_long : base.0 < end_of_segment next.segment
      is_long = omega (arith, next.begins, (bounds 0 s.segments next.segment can.segments next.there).some)

      pub in_arena : word_of (end_of_segment next.segment) ≤ length s.words
      in_arena = can.in_arena next.segment next.there

      -- up to this segment
      pub to_segment : now ≡ after_apply_below f to s pool (word_of base.0)
      to_segment =
          passed.state
          ∙ sym (gap_passed (word_of base.0) (omega (arith, next.above)) (λ t there above below aligned.
          omega (arith, next.first t there above, below, aligned)))

      pub begun : AreBlocksSummed f s pool → IsAppliedBelow f to pool s now (word_of base.0)
      begun summed = record { can = can; summed = summed; state = to_segment }

      pub span : (end : Address) → end ≡ end_of_segment next.segment → next.segment.pool ≡ pool → IsSpanOf now.segments pool base.0 end
      span end ends of_pool = record { segment = next.segment; there = listed; of_pool = of_pool; begins = next.begins; ends = sym ends }

      -- a segment of another pool is passed over
      pub another : next.segment.pool ≢ pool → now ≡ after_apply_below f to s pool (word_of (end_of_segment next.segment))
      another other =
          to_segment
          ∙ sym (passed_to f to s pool (word_of base.0) (word_of (end_of_segment next.segment)) (omega (arith, is_long)) (λ i over below.
          none_elsewhere f to s pool i
          (ap (λ (o : Option Segment). option_map_or (λ u. u.pool == pool) o false)
          (over_in 0 s.segments next.segment (address_of_word i) can.segments next.there (omega (arith, over, next.begins, is_aligned))
          (omega (arith, below)))
          ∙ ne_eqb next.segment.pool pool other)))

      -- a segment is done
      pub passed_on : (after : SegsState) (end : Address) → end ≡ end_of_segment next.segment
          → after ≡ after_apply_below f to s pool (word_of end) → IsPassed f to pool s after end
      passed_on after end ends is = record {
        state = is;
        aligned = omega (arith, ends, next.begins, is_aligned);
        within = omega (arith, ends, in_arena);
        bounded = λ t there below.
            elim (apart_segments 0 s.segments t next.segment can.segments there next.there) [
              | inl same ↦ omega (arith, ends, ap (λ (u : Segment). end_of_segment u) same)
              | inr apart ↦ elim apart [
                | inl before ↦ omega (arith, before, ends, is_long, next.begins)
                | inr past ↦ absurd (omega (arith, past, below, ends))
              ]
            ];
      }
