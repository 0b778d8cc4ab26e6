-- A block is freed, and its segment may be given back: what is left stays summed.
use Rattle.std.proofs.Common.{◌≡◌, ℕ, refl, List, map, Option, Some}
use Rattle.mps_base.specs.Address.{Address, address_of_word, word_of}
use Rattle.mps_base.specs.Run.{IsAscending}
use Rattle.mps_base.specs.Segment.{Segment, grains_of_segment, is_in_segment, segment_over, without_segment}
use Rattle.mps_extents.proofs.ContainedRuns.{contains_without}
use Rattle.mps_format.specs.Layout.{Layout}
use Rattle.mps_format.specs.declared.pool.Policy.{Policy}
use Rattle.mps_laws.proofs.Positions.Segments.{AreAligned, among_aligned, among_without, found_among, found_segment, of_in_segment}
use Rattle.mps_seg.specs.Segs.{SegsState}
use Rattle.mps_trace_laws.specs.Summaries.Summed.{AreWordsSummed}
use Rattle.mps_refinement.proofs.Summaries.Kept.{fewer_summed}
use Rattle.mps_pools.specs.Manual.{block_removed}

module _ {F : Type 0} (layout : F → Layout) (formats : List (Option (Policy F))) (s : SegsState) (limit : ℕ)
    (aligned : AreAligned s.segments) (ascending : IsAscending 1 limit (map grains_of_segment s.segments))
    (summed : AreWordsSummed layout formats s) where
  -- what lies in a segment that is left lay in it
  over_before : (base : Address) (n : ℕ) (u : Segment) → segment_over (without_segment s.segments base) (address_of_word n) ≡ Some u
      → segment_over s.segments (address_of_word n) ≡ Some u
  over_before base n u over =
      let found = found_among (λ (v : Segment). is_in_segment v (address_of_word n)) (without_segment s.segments base) u over in
      let held = among_without base u s.segments found.0 in
      found_segment 1 limit s.segments u ascending aligned held n
      (of_in_segment u n (among_aligned u s.segments aligned held) found.1)

  pub removed_summed : (at : Address) → AreWordsSummed layout formats (block_removed s at)
  removed_summed at =
      fewer_summed layout formats s (block_removed s at) summed refl refl refl (λ r u over. over)
      (λ r there. contains_without (word_of at) r s.covered there)

  pub given_summed : (at base : Address)
      → AreWordsSummed layout formats (record (block_removed s at) { segments = without_segment s.segments base })
  given_summed at base =
      fewer_summed layout formats s (record (block_removed s at) { segments = without_segment s.segments base }) summed refl refl refl
      (λ r u over. over_before base r.from u over) (λ r there. contains_without (word_of at) r s.covered there)
