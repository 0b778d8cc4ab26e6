-- Words stay summed where a run that is left has the words that it had, in a segment with the zones that it had, and each other one is
-- summed by itself.
use Rattle.std.proofs.Common.{◌≡◌, ◌∙◌, ◌⊎◌, ℕ, ◌+◌, ◌<◌, sym, ap, subst, List, length, Option, Some, Contains, inl, inr, arith}
use Rattle.std.specs.Prelude.{slice_get, slice_index}
use Rattle.mps_base.specs.Address.{grain_of, address_of_word}
use Rattle.mps_base.specs.Run.{Run}
use Rattle.mps_base.specs.Segment.{Segment, segment_over}
use Rattle.mps_format.specs.Layout.{Layout}
use Rattle.mps_format.specs.declared.pool.Policy.{Policy}
use Rattle.mps_seg.specs.Collecting.{summary_at}
use Rattle.mps_seg.specs.Segs.{SegsState, new_segments}
use Rattle.mps_trace_laws.specs.Summaries.Summed.{AreWordsSummed}
use Rattle.mps_xform.specs.Summed.{IsRunSummed}
use Rattle.mps_xform.proofs.SummedRuns.{summed_again, summed_in}
use Rattle.mps_xform.proofs.Zones.{AreZonesOf}
use Rattle.std.proofs.lemmas.List.{length-replicate}

-- a run was there, in the same segment, whose summary has lost no zone, and no word of it was written
pub record IsRunKept (s after : SegsState) (r : Run) (t : Segment) : Type 0 where
  pub covered : Contains s.covered r
  pub over : segment_over s.segments (address_of_word r.from) ≡ Some t
  pub zones : AreZonesOf (summary_at s t.base) (summary_at after t.base)
  pub some : 0 < r.count
  pub words : (k : ℕ) → k < r.count → slice_index after.words (r.from + k) ≡ slice_index s.words (r.from + k)

module _ {F : Type 0} (layout : F → Layout) (formats : List (Option (Policy F))) (s after : SegsState)
    (summed : AreWordsSummed layout formats s) where
  pub run_summed : (r : Run) (t : Segment) (format : Policy F) → slice_get formats t.pool ≡ Some (Some format) → IsRunKept s after r t
      → IsRunSummed (layout format.format) after.words (summary_at after t.base) r
  run_summed r t format listed kept =
      summed_in (layout format.format) after.words (summary_at s t.base) (summary_at after t.base) r kept.zones
      (summed_again (layout format.format) s.words after.words (summary_at s t.base) r r kept.some (omega arith) kept.words
      (summed.each r t format kept.covered kept.over listed))

  pub words_summed : length after.summaries ≡ after.grains + 1
      → ((r : Run) (t : Segment) (format : Policy F) → Contains after.covered r
      → segment_over after.segments (address_of_word r.from) ≡ Some t → slice_get formats t.pool ≡ Some (Some format)
      → IsRunKept s after r t ⊎ IsRunSummed (layout format.format) after.words (summary_at after t.base) r)
      → AreWordsSummed layout formats after
  words_summed sized each = record {
    sized = sized;
    each = λ r t format covered over listed.
        elim (each r t format covered over listed) [
          | inl kept ↦ run_summed r t format listed kept
          | inr own ↦ own
        ];
  }

  -- where fewer runs are covered, and what they lie in is as it was
  pub fewer_summed : after.grains ≡ s.grains → after.words ≡ s.words → after.summaries ≡ s.summaries
      → ((r : Run) (t : Segment) → segment_over after.segments (address_of_word r.from) ≡ Some t
      → segment_over s.segments (address_of_word r.from) ≡ Some t)
      → ((r : Run) → Contains after.covered r → Contains s.covered r) → AreWordsSummed layout formats after
  fewer_summed grains words summaries over covered = record {
    sized = ap (λ (ss : List ℕ). length ss) summaries ∙ summed.sized ∙ ap (λ (n : ℕ). n + 1) (sym grains);
    each = λ r t format there is_over listed.
        let P : List ℕ → Type 0 = λ ws. IsRunSummed (layout format.format) ws (summary_at after t.base) r in
        let Q : List ℕ → Type 0 = λ ss. IsRunSummed (layout format.format) s.words (slice_index ss (grain_of t.base)) r in
        subst P (sym words)
        (subst Q (sym summaries) (summed.each r t format (covered r there) (over r t is_over) listed));
  }

-- in a new arena there is nothing
pub new_summed : {F : Type 0} (layout : F → Layout) (formats : List (Option (Policy F))) (grains limit : ℕ)
    → AreWordsSummed layout formats (new_segments grains limit)
new_summed layout formats grains limit = record {
  sized = length-replicate (grains + 1) 0;
  each = λ r t format there over listed. absurd (omega (arith, there.1));
}
