-- A segment is passed over if its summary has the zone of no old address, and what was summed in another pool still is.
use Rattle.std.proofs.Common.{ℕ, ◌+◌, ◌-◌, ◌<◌, ◌≤◌, ◌≡◌, ◌≢◌, ◌==◌, true, false, IsTrue, Option, Some, None, List, Contains, length, refl, sym, ap, ◌∙◌, subst, inl, inr, arith}
use Rattle.std.specs.Prelude.{nat_eq, option_map, slice_index}
use Rattle.std.specs.Map.{lookup}
use Rattle.std.specs.Option.{option_map_or}
use Rattle.std.proofs.lemmas.Bool.{cases_Bool, cases_lt, false≢true, ne_eqb}
use Rattle.mps_base.specs.Address.{Address, Word, address_of_word, grain_of, word_of, zone_of}
use Rattle.mps_base.specs.Run.{Run, end_of}
use Rattle.mps_base.specs.Segment.{Segment, end_of_segment}
use Rattle.mps_base.specs.Zones.{zones_meet, zone_bit_of}
use Rattle.mps_base.proofs.Runs.{contained_bounds}
use Rattle.mps_format.specs.Layout.{Layout}
use Rattle.mps_seg.specs.Collecting.{summary_at}
use Rattle.mps_seg.specs.Extents.{run_over}
use Rattle.mps_seg.specs.Segs.{SegsState}
use Rattle.mps_xform.specs.declared.transforms.Pair.{Pair}
use Rattle.mps_xform.specs.Applying.{CanApply, after_apply, after_apply_below, is_in_pool, is_reference_word, replacement}
use Rattle.mps_xform.specs.Passing.{AreNoneIn, IsAppliedBelow, IsSpanOf, new_in}
use Rattle.mps_xform.specs.Summed.{AreBlocksSummed, IsRunSummed}
use Rattle.mps_xform.proofs.Applied.{none_elsewhere, none_of_numbers, of_reference, passed_to}
use Rattle.mps_xform.proofs.Done.{word_is}
use Rattle.mps_xform.proofs.Noting.{KeepsRest, pass_keeps, same_blocks, same_segments}
use Rattle.mps_xform.proofs.Segments.{BlockOver, block_over, whole_in}
use Rattle.mps_xform.proofs.SummedRuns.{summed_again, summed_in}
use Rattle.mps_xform.proofs.Walked.{bounds, over_in}
use Rattle.mps_xform.proofs.Zones.{in_both}

-- a summary that meets none of the zones in which all old addresses lie has the zone of none
pub none_in : (entries : List (ℕ × Pair)) (zones summary : ℕ) → lookup (nat_eq 0) entries ≡ None → zones_meet summary zones ≡ false
    → ((old : ℕ) → zones_meet (zone_bit_of old) zones ≡ false → lookup (nat_eq old) entries ≡ None)
    → AreNoneIn (new_in entries) summary
none_in entries zones summary null apart outside = record {
  null = new_of 0 null;
  each = λ old meets.
      elim (cases_Bool (zones_meet (zone_bit_of old) zones)) [
        | inl both ↦ absurd (false≢true (sym apart ∙ in_both summary zones (zone_of old) meets both))
        | inr other ↦ new_of old (outside old other)
      ];
}
  where
    new_of : (old : ℕ) → lookup (nat_eq old) entries ≡ None → new_in entries old ≡ None
    new_of old is = ap (λ (o : Option Pair). option_map (λ p. p.new.0) o) is

module _ (f : Layout) (to : Address → Option Address) (s : SegsState) (pool : ℕ) (initial : SegsState) (base end : Address)
    (begun : IsAppliedBelow f to pool s initial (word_of base)) (span : IsSpanOf initial.segments pool base end)
    (none : AreNoneIn to (summary_at initial base)) where
  kept : KeepsRest s initial
  kept = let P : SegsState → Type 0 = λ x. KeepsRest s x in subst P (sym begun.state) (pass_keeps f to s pool (word_of base))

  there : Contains s.segments span.segment
  there = let P : List Segment → Type 0 = λ ts. Contains ts span.segment in subst P (same_segments kept) span.there

  -- a reference of a run that is summed in the summary leads to no old address
  to_none : (r : Run) (k : ℕ) → IsRunSummed f s.words (summary_at s base) r → k < r.count
      → IsTrue (f.is_reference (slice_index s.words r.from) k) → to (f.target (slice_index s.words (r.from + k))) ≡ None
  to_none r k summed few reference =
      let target : Address = f.target (slice_index s.words (r.from + k)) in
      elim (cases_lt 0 target) [
        | inl some ↦ none.each target (kept.zones (grain_of base) (zone_of target) (summed k few reference some))
        | inr null ↦ let is : target ≡ 0 = omega (arith, null) in ap to is ∙ none.null
      ]

  -- so no word of a block of the segment has a replacement
  none_in_block : (i at : Word) → word_of base ≤ i → i < word_of end → run_over s.blocks i ≡ Some at → is_reference_word f s i ≡ true
      → to (f.target (slice_index s.words i)) ≡ None
  none_in_block i at above below over reference =
      let b : BlockOver s.blocks i at = block_over s.blocks i at over in
      let r : Run = b.run in
      let k : ℕ = i - r.from in
      let low = ap word_of span.begins in
      let high = ap word_of span.ends in
      let whole = whole_in (word_of span.segment.base) (word_of (end_of_segment span.segment)) s.blocks r
      (begun.can.whole span.segment there) b.there in
      let from : word_of span.segment.base ≤ r.from = begins_in (word_of span.segment.base) r.from (end_of r) i whole.1
      (omega (arith, above, low)) b.below in
      let summed = begun.summed span.segment r there span.of_pool b.there from
      (omega (arith, b.begins, b.above, below, high)) in
      let is : r.from + k ≡ i = omega (arith, b.begins, b.above) in
      let its : f.is_reference (slice_index s.words r.from) k ≡ true =
      ap (λ (w : ℕ). f.is_reference (slice_index s.words w) (i - w)) b.begins
      ∙ sym (ap (λ (o : Option ℕ). option_map_or (λ w. f.is_reference (slice_index s.words w) (i - w)) o false) over)
      ∙ reference
      in
      let P : Address → Type 0 = λ a. IsRunSummed f s.words (summary_at s a) r in
      ap (λ (w : ℕ). to (f.target (slice_index s.words w))) (sym is)
      ∙ to_none r k (subst P span.begins summed) (omega (arith, is, b.below)) its
    where
      begins_in : (low from end word : ℕ) → (from < low → end ≤ low) → low ≤ word → word < end → low ≤ from
      begins_in low from end word before above below =
          elim (cases_lt from low) [
            | inl earlier ↦ absurd (omega (arith, before earlier, above, below))
            | inr later ↦ later
          ]

  none_at : (i : Word) → word_of base ≤ i → i < word_of end → replacement f to s pool i ≡ None
  none_at i above below =
      elim (cases_Bool (is_reference_word f s i)) [
        | inr number ↦ none_of_numbers f to s pool i number
        | inl reference ↦
            elim (cases_Bool (is_in_pool s pool i)) [
              | inr other ↦ none_elsewhere f to s pool i other
              | inl inside ↦ of_reference f to s pool i inside reference ∙ of_block (run_over s.blocks i) refl reference
            ]
      ]
    where
      of_block : (o : Option Word) → run_over s.blocks i ≡ o → is_reference_word f s i ≡ true
          → to (f.target (slice_index s.words i)) ≡ None
      of_block (Some at) over reference = none_in_block i at above below over reference
      of_block None over reference =
          absurd (false≢true
          (sym (ap (λ (o : Option ℕ). option_map_or (λ w. f.is_reference (slice_index s.words w) (i - w)) o false) over) ∙ reference))

  pub segment_passed : initial ≡ after_apply_below f to s pool (word_of end)
  segment_passed =
      let b = bounds 0 s.segments span.segment begun.can.segments there in
      begun.state
      ∙ sym (passed_to f to s pool (word_of base) (word_of end) (omega (arith, b.some, span.begins, span.ends)) none_at)

-- ---- other pools

module _ (f : Layout) (to : Address → Option Address) (s : SegsState) (pool : ℕ) (can : CanApply f s pool) where
  pub still_summed : (layout : Layout) (other : ℕ) → other ≢ pool → AreBlocksSummed layout s other
      → AreBlocksSummed layout (after_apply f to s pool) other
  still_summed layout other apart summed t r there of_pool listed above below =
      summed_in layout after.words (summary_at s t.base) (summary_at after t.base) r (kept.zones (grain_of t.base))
      (summed_again layout s.words after.words (summary_at s t.base) r r
      (contained_bounds 0 (length s.words) s.blocks r can.blocks was_listed).1 (omega arith) same_word
      (summed t r was_there of_pool was_listed above below))
    where
      after : SegsState
      after = after_apply f to s pool

      kept : KeepsRest s (after_apply f to s pool)
      kept = pass_keeps f to s pool (length s.words)

      was_there : Contains s.segments t
      was_there = let P : List Segment → Type 0 = λ ts. Contains ts t in subst P (same_segments kept) there

      was_listed : Contains s.blocks r
      was_listed = let P : List Run → Type 0 = λ rs. Contains rs r in subst P (same_blocks kept) listed

      outside : (k : ℕ) → k < r.count → is_in_pool s pool (r.from + k) ≡ false
      outside k few =
          let b = bounds 0 s.segments t can.segments was_there in
          let ends = (whole_in (word_of t.base) (word_of (end_of_segment t)) s.blocks r (can.whole t was_there) was_listed).0 above below in
          ap (λ (o : Option Segment). option_map_or (λ u. u.pool == pool) o false)
          (over_in 0 s.segments t (address_of_word (r.from + k)) can.segments was_there (omega (arith, above, b.aligned))
          (omega (arith, few, ends, b.aligned)))
          ∙ ne_eqb t.pool pool (λ same. apart (sym of_pool ∙ same))

      same_word : (k : ℕ) → k < r.count → slice_index (after_apply f to s pool).words (r.from + k) ≡ slice_index s.words (r.from + k)
      same_word k few =
          word_is f to s pool can (r.from + k)
          ∙ ap (λ (o : Option Address). option_map_or (λ at. f.retarget (slice_index s.words (r.from + k)) at) o
          (slice_index s.words (r.from + k))) (none_elsewhere f to s pool (r.from + k) (outside k few))
