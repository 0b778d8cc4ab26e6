-- The words of a held segment: the segment over each of them is that one.
use Rattle.std.proofs.Common.{◌≡◌, ◌∙◌, ◌⊎◌, ℕ, zero, suc, ◌+◌, ◌<◌, ◌≤◌, true, false, sym, ap, subst, List, [], ◌∷◌, map, Option, Some, Contains, inl, inr, arith}
use Rattle.std.proofs.lemmas.Bool.{le-leb, lt-ltb, le-ltb, and_from, and_right, cond-true, cond-false}
use Rattle.std.specs.Prelude.{nat_le, nat_lt, option_map, ◌%◌, Bool}
use Rattle.std.specs.List.{AllByRecursion}
use Rattle.mps_base.specs.Address.{Word, word_of, address_of_grain, address_of_word, grain_of, max_grains, Address, Id}
use Rattle.mps_base.specs.Run.{Covers, IsAscending, end_of}
use Rattle.mps_base.specs.Segment.{Segment, grains_of_segment, words_of_segment, end_of_segment, is_in_segment, segment_over}
use Rattle.mps_base.proofs.Runs.{contains_first, contains_later, contained_bounds}
use Rattle.mps_model.specs.World.{PointMemory}
use Rattle.mps_seg.specs.Collecting.{bit_of}
use Rattle.mps_trace_laws.specs.Image.Memory.{setting_in}
use Rattle.mps_trace_laws.specs.Image.SegmentWords.{AreSegmentsInOrder}
use Rattle.mps_format.specs.Layout.{Layout}
use Rattle.mps_seg.specs.Segs.{SegsState}
use Rattle.mps_model.specs.Graph.{Object, Point}
use Rattle.mps_trace_laws.specs.Image.Changes.{AreHome}

contains_cases : (ss : List Segment) (t s : Segment) → Contains (s ∷ ss) t → (s ≡ t) ⊎ Contains ss t
contains_cases ss t s (zero, within, is) = inl is
contains_cases ss t s (suc k, within, is) = inr (k, omega arith, is)

contains_none : (t : Segment) → Contains [] t → ⊥
contains_none t (k, within, is) = omega arith

-- its grains are among the grains
grains_among : (ss : List Segment) (t : Segment) → Contains ss t → Contains (map grains_of_segment ss) (grains_of_segment t)
grains_among [] t there = absurd (contains_none t there)
grains_among (s ∷ ss) t there =
    elim (contains_cases ss t s there) [
      | inl same ↦
          subst (λ (x : Segment). Contains (grains_of_segment s ∷ map grains_of_segment ss) (grains_of_segment x)) same
          (contains_first (map grains_of_segment ss) (grains_of_segment s))
      | inr later ↦
          contains_later (map grains_of_segment ss) (grains_of_segment t) (grains_of_segment s) (grains_among ss t later)
    ]

aligned_at : (ss : List Segment) (t : Segment) → AllByRecursion (λ (x : Segment). x.base ≡ address_of_grain (grain_of x.base)) ss
    → Contains ss t → t.base ≡ address_of_grain (grain_of t.base)
aligned_at [] t aligned there = absurd (contains_none t there)
aligned_at (s ∷ ss) t aligned there =
    elim (contains_cases ss t s there) [
      | inl same ↦ subst (λ (x : Segment). x.base ≡ address_of_grain (grain_of x.base)) same aligned.0
      | inr later ↦ aligned_at ss t aligned.1 later
    ]

-- a word of a segment lies in it, and not in one that ends before
inside : (t : Segment) (n : Word) → t.base ≡ address_of_grain (grain_of t.base) → Covers (words_of_segment t) n
    → is_in_segment t (address_of_word n) ≡ true
inside t n aligned covers =
    and_from (nat_le t.base (address_of_word n)) (nat_lt (address_of_word n) (end_of_segment t))
    (le-leb t.base (address_of_word n) (omega (arith, aligned, covers.0)))
    (lt-ltb (address_of_word n) (end_of_segment t) (omega (arith, aligned, covers.1)))

outside : (s : Segment) (n : Word) → end_of_segment s ≤ address_of_word n → is_in_segment s (address_of_word n) ≡ false
outside s n past =
    and_right (nat_le s.base (address_of_word n)) (nat_lt (address_of_word n) (end_of_segment s))
    (le-ltb (address_of_word n) (end_of_segment s) past)

pub over_word : (low limit : ℕ) (ss : List Segment) (t : Segment) (n : Word)
    → AllByRecursion (λ (x : Segment). x.base ≡ address_of_grain (grain_of x.base)) ss → IsAscending low limit (map grains_of_segment ss)
    → Contains ss t → Covers (words_of_segment t) n → segment_over ss (address_of_word n) ≡ Some t
over_word low limit [] t n aligned ascending there covers = absurd (contains_none t there)
over_word low limit (s ∷ ss) t n aligned ascending there covers =
    elim (contains_cases ss t s there) [
      | inl same ↦
          cond-true (is_in_segment s (address_of_word n)) (Some s) (segment_over ss (address_of_word n))
          (inside s n aligned.0 (subst (λ (x : Segment). Covers (words_of_segment x) n) (sym same) covers))
          ∙ ap Some same
      | inr later ↦
          let bounds =
          contained_bounds (end_of (grains_of_segment s)) limit (map grains_of_segment ss) (grains_of_segment t) ascending.2
          (grains_among ss t later)
          in
          let past : end_of_segment s ≤ address_of_word n = omega (arith, bounds.0, aligned.0, aligned_at ss t aligned.1 later, covers.0) in
          cond-false (is_in_segment s (address_of_word n)) (Some s) (segment_over ss (address_of_word n)) (outside s n past)
          ∙ over_word (end_of (grains_of_segment s)) limit ss t n aligned.1 ascending.2 later covers
    ]

-- words of one held segment are home to its pool
pub segments_are_home : (g : SegsState) (objects : List Object) (points : List (Option Point)) (memories : List PointMemory)
    (layout : ℕ → Layout)
    (at_flip : List (Option Address)) (condemned : List Id) (is_read : Id → Bool) (t : Segment) (at : Address) (size : ℕ)
    → AreSegmentsInOrder g.segments → Contains g.segments t → at % 8 ≡ 0 → 0 < size → word_of t.base ≤ word_of at
    → word_of at + size ≤ word_of (end_of_segment t)
    → AreHome (setting_in g objects points memories layout at_flip condemned is_read) at size t.pool
segments_are_home g objects points memories layout at_flip condemned is_read t at size order there aligned some above below =
    let base = aligned_at g.segments t order.aligned there in
    let bounds =
    contained_bounds 1 (max_grains + 1) (map grains_of_segment g.segments) (grains_of_segment t) order.ascending
    (grains_among g.segments t there)
    in
    let found : (k : ℕ) → k < size → segment_over g.segments (address_of_word (word_of at + k)) ≡ Some t =
    λ k lt. over_word 1 (max_grains + 1) g.segments t (word_of at + k) order.aligned order.ascending there
    (omega (arith, above), omega (arith, below, lt, base))
    in
    let first : segment_over g.segments (address_of_word (word_of at)) ≡ Some t =
    ap (λ n. segment_over g.segments (address_of_word n)) (let e : word_of at ≡ word_of at + 0 = omega arith in e) ∙ found 0 some
    in
    record {
      address = record {
        not_null = omega (arith, above, base, bounds.0);
        aligned = aligned;
        small = omega (arith, below, some, base, bounds.2);
      };
      over = λ k lt. ap (option_map (λ (x : Segment). x.pool)) (found k lt);
      whole = λ k lt.
          ap (λ (o : Option Segment). bit_of g.condemned (option_map (λ (x : Segment). grain_of x.base) o)) (found k lt ∙ sym first);
    }
