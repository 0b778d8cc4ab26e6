-- The next condemned segment can be reclaimed: it is held, its base is aligned, blocks are in order, and there is room. And the
-- order of segments.
use Rattle.std.proofs.Common.{◌≡◌, ℕ, ◌+◌, ◌<◌, ◌≤◌, subst, List, [], ◌∷◌, inl, inr, arith}
use Rattle.std.specs.Prelude.{◌^◌, Contains, map}
use Rattle.std.specs.List.{AllByRecursion}
use Rattle.mps_base.proofs.Runs.{IsAscending-bounds}
use Rattle.mps_base.specs.Address.{Address, max_grains, grain_of, address_of_grain}
use Rattle.mps_base.specs.Run.{IsAscending, end_of}
use Rattle.mps_base.specs.Segment.{Segment, grains_of_segment}
use Rattle.mps_seg.specs.Segs.{SegsState}
use Rattle.mps_trace.specs.Condemned.{AreAscending, AreInOrder}
use Rattle.mps_trace_laws.proofs.Reclaim.SegmentBounds.{segment_cases, contains_no_segment}
use Rattle.mps_trace_laws.specs.Image.SegmentWords.{AreSegmentsInOrder}

-- ---- segments

bases_ascend : (low high : ℕ) (base : Address) (ss : List Segment)
    → AllByRecursion (λ (t : Segment). t.base ≡ address_of_grain (grain_of t.base)) ss
    → IsAscending low high (map grains_of_segment ss) → ((n : ℕ) → low ≤ n → base ≤ address_of_grain n) → AreAscending base ss
bases_ascend low high base [] aligned asc above = tt
bases_ascend low high base (t ∷ ss) aligned asc above = (
  (let here = above (grain_of t.base) asc.0 in omega (arith, here, aligned.0)),
  bases_ascend (end_of (grains_of_segment t)) high (t.base + 1) ss aligned.1 asc.2
      (λ n past. omega (arith, past, asc.1, aligned.0)),
)

small_bases : (low high : ℕ) (ss : List Segment) (t : Segment)
    → AllByRecursion (λ (u : Segment). u.base ≡ address_of_grain (grain_of u.base)) ss
    → IsAscending low high (map grains_of_segment ss) → high ≤ max_grains + 1 → Contains ss t → t.base < 2 ^ 32
small_bases low high [] t aligned asc most there = absurd (contains_no_segment t there)
small_bases low high (s ∷ ss) t aligned asc most there =
    let bound = IsAscending-bounds (end_of (grains_of_segment s)) high (map grains_of_segment ss) asc.2 in
    let base = aligned.0 in
    elim (segment_cases ss t s there) [
      | inl same ↦
          subst (λ (x : Segment). x.base < 2 ^ 32) same (omega (arith, bound, base, most))
      | inr later ↦ small_bases (end_of (grains_of_segment s)) high ss t aligned.1 asc.2 most later
    ]

-- segments in order are in the order that a search for the next condemned one needs
pub segments_are_in_order : (g : SegsState) → AreSegmentsInOrder g.segments → AreInOrder g
segments_are_in_order g order = record {
  ascending = bases_ascend 1 (max_grains + 1) 0 g.segments order.aligned order.ascending (λ n above. omega arith);
  small = λ t held. small_bases 1 (max_grains + 1) g.segments t order.aligned order.ascending (omega arith) held;
}
