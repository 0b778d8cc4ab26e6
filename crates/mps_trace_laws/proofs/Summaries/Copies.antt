-- Where a block is copied each run stays summed: the words of others don't change, and no summary loses a zone.
use Rattle.std.proofs.Common.{◌≡◌, ◌≢◌, ◌⊎◌, ℕ, ◌+◌, ◌<◌, ◌≤◌, ◌∙◌, sym, List, Option, Some, Contains, subst, inl, inr, arith}
use Rattle.std.proofs.lemmas.Bool.{true≢false}
use Rattle.std.specs.Prelude.{slice_get, slice_index}
use Rattle.mps_base.specs.Address.{Address, word_of, address_of_word}
use Rattle.mps_base.specs.Run.{Run, IsAscending, with_run, without_run, end_of}
use Rattle.mps_base.specs.Segment.{Segment, segment_over}
use Rattle.mps_base.proofs.Runs.{contained_bounds}
use Rattle.mps_extents.proofs.ApartRuns.{apart_each, uncovered_taken, covers_contained, has_word-true}
use Rattle.mps_extents.proofs.ContainedRuns.{contains_put_cases, contains_without}
use Rattle.mps_format.specs.Layout.{Layout}
use Rattle.mps_format.specs.declared.pool.Policy.{Policy}
use Rattle.mps_seg.specs.Collecting.{summary_at}
use Rattle.mps_seg.specs.Moving.{run_at}
use Rattle.mps_seg.specs.Segs.{SegsState}
use Rattle.mps_amc.specs.Moving.{AreCopied}
use Rattle.mps_trace_laws.specs.Summaries.Summed.{AreRunsSummed}
use Rattle.mps_xform.specs.Summed.{IsRunSummed}
use Rattle.mps_xform.proofs.Zones.{AreZonesOf}
use Rattle.mps_xform.proofs.SummedRuns.{summed_in, summed_again}

-- the run that was taken out isn't left
not_taken : (low high : ℕ) (rs : List Run) (r s : Run) → IsAscending low high rs → Contains rs r → Contains (without_run r.from rs) s
    → s.from ≢ r.from
not_taken low high rs r s ascending there left same =
    let some = contained_bounds low high rs r ascending there in
    let others = contained_bounds low high rs s ascending (contains_without r.from s rs left) in
    let free = uncovered_taken low high rs r r.from ascending there (has_word-true r r.from (omega arith) (omega (arith, some.1))) in
    let covered =
    covers_contained (without_run r.from rs) s r.from left (has_word-true s r.from (omega (arith, same)) (omega (arith, same, others.1)))
    in
    true≢false (sym covered ∙ free)

-- a word above a run or below it is none of its words
not_among : (n from size k : ℕ) → (from + size ≤ n) ⊎ (n < from) → k < size → n ≢ from + k
not_among n from size k (inl above) few e = absurd (omega (arith, above, few, e))
not_among n from size k (inr below) few e = absurd (omega (arith, below, e))

-- the segment over each run is as before, and its summary has lost no zone
abbrev pub AreSegmentsKept : SegsState → SegsState → Type 0
AreSegmentsKept s s' =
    (r : Run) (t : Segment) → Contains s.covered r → segment_over s'.segments (address_of_word r.from) ≡ Some t
    → (segment_over s.segments (address_of_word r.from) ≡ Some t) × AreZonesOf (summary_at s t.base) (summary_at s' t.base)

module _ {F : Type 0} (layout : F → Layout) (formats : List (Option (Policy F))) (s s' : SegsState) (f : Layout) (from to : Address)
    (size high : ℕ) (ascending : IsAscending 0 high s.covered) (block : Contains s.covered (run_at from size))
    (apart : (r : Run) → Contains s.covered r → (word_of to + size ≤ r.from) ⊎ (end_of r ≤ word_of to))
    (copied : AreCopied f s.words s'.words from to size)
    (covered_is : s'.covered ≡ with_run (run_at to size) (without_run (word_of from) s.covered)) (kept : AreSegmentsKept s s')
    (own : (t : Segment) (format : Policy F) → segment_over s'.segments (address_of_word (word_of to)) ≡ Some t
    → slice_get formats t.pool ≡ Some (Some format)
    → IsRunSummed (layout format.format) s'.words (summary_at s' t.base) (run_at to size))
  where
    -- a run that is none of the block's
    other_run : (r : Run) → Contains (without_run (word_of from) s.covered) r → (t : Segment) (format : Policy F)
        → segment_over s'.segments (address_of_word r.from) ≡ Some t → slice_get formats t.pool ≡ Some (Some format)
        → AreRunsSummed layout formats s → IsRunSummed (layout format.format) s'.words (summary_at s' t.base) r
    other_run r left t format over listed summed =
        let there = contains_without (word_of from) r s.covered left in
        let was = kept r t there over in
        let some = contained_bounds 0 high s.covered r ascending there in
        let not_its = not_taken 0 high s.covered (run_at from size) r ascending block left in
        let from_apart : (word_of from + size ≤ r.from) ⊎ (end_of r ≤ word_of from) =
        elim (apart_each 0 high s.covered (run_at from size) r ascending block there) [
          | inl same ↦ absurd (not_its (sym same))
          | inr beside ↦ beside
        ]
        in
        let same : (k : ℕ) → k < r.count → slice_index s'.words (r.from + k) ≡ slice_index s.words (r.from + k) =
        λ k few. copied.others (r.from + k)
        (λ j inside. not_among (r.from + k) (word_of from) size j
        (elim from_apart [ inl after ↦ inl (omega (arith, after)) | inr before ↦ inr (omega (arith, before, few)) ]) inside)
        (λ j inside. not_among (r.from + k) (word_of to) size j
        (elim (apart r there) [ inl after ↦ inl (omega (arith, after)) | inr before ↦ inr (omega (arith, before, few)) ]) inside)
        in
        summed_in (layout format.format) s'.words (summary_at s t.base) (summary_at s' t.base) r was.1
        (summed_again (layout format.format) s.words s'.words (summary_at s t.base) r r some.1 (omega arith) same
        (summed r t format there was.0 listed))

    pub copy_summed : AreRunsSummed layout formats s → AreRunsSummed layout formats s'
    copy_summed summed r t format there over listed =
        let P : List Run → Type 0 = λ rs. Contains rs r in
        elim (contains_put_cases (run_at to size) r (without_run (word_of from) s.covered) (subst P covered_is there)) [
          | inl same ↦
              let Q : Run → Type 0 = λ q. segment_over s'.segments (address_of_word q.from) ≡ Some t in
              let R : Run → Type 0 = λ q. IsRunSummed (layout format.format) s'.words (summary_at s' t.base) q in
              subst R same (own t format (subst Q (sym same) over) listed)
          | inr left ↦ other_run r left t format over listed summed
        ]
