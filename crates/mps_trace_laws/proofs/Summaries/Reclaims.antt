-- A reclaim keeps each word summed: what is left has the words that it had, in the segment in which it was.
use Rattle.std.proofs.Common.{◌≡◌, ◌∙◌, ℕ, ◌+◌, ◌<◌, refl, sym, ap, List, [], ◌∷◌, ◌++◌, length, Option, Some, Contains, subst, arith}
use Rattle.std.proofs.lemmas.Option.{same_Some}
use Rattle.std.specs.Prelude.{◌==◌, not, slice_index}
use Rattle.std.specs.List.{AllByRecursion}
use Rattle.mps_base.specs.Address.{Address, word_of, grain_of, address_of_word}
use Rattle.mps_base.specs.Run.{Run, runs_within}
use Rattle.mps_base.specs.Segment.{Segment, segment_over, without_segment, end_of_segment}
use Rattle.mps_base.specs.Trail.{Moves}
use Rattle.mps_base.specs.declared.address.Addr.{Addr}
use Rattle.mps_extents.proofs.ContainedRuns.{contains_without}
use Rattle.mps_format.specs.Layout.{Layout}
use Rattle.mps_format.specs.declared.pool.Policy.{Policy}
use Rattle.mps_seg.specs.Collecting.{summary_at}
use Rattle.mps_seg.specs.Condemned.{IsNextCondemned}
use Rattle.mps_seg.specs.Reclaiming.{AreBlocksUnwritten, IsSwept, is_given, is_used, freed_in, lost_of, without_block, without_blocks}
use Rattle.mps_seg.specs.Segs.{SegsState}
use Rattle.mps_seg.proofs.Found.{over_is_there}
use Rattle.mps_seg.proofs.Lost.{segments_after, words_after}
use Rattle.mps_model.specs.World.{World, extents_of, reserved_extents}
use Rattle.mps_abstract.specs.Colours.{Colours, AreAllScanned}
use Rattle.mps_model.specs.Collection.{Collection}
use Rattle.mps_laws.proofs.InOrder.{all_append}
use Rattle.mps_laws.proofs.Positions.ApartRuns.{all_in_order}
use Rattle.mps_trace_laws.specs.Reclaim.Freed.{addresses_of, addresses_without}
use Rattle.mps_trace_laws.specs.Reclaim.Left.{AreReservationsUnwritten}
use Rattle.mps_trace_laws.specs.Reclaim.Units.{FreesFor}
use Rattle.mps_trace_laws.specs.Summaries.Summed.{AreWordsSummed}
use Rattle.mps_xform.specs.Summed.{IsRunSummed}
use Rattle.mps_trace_laws.proofs.Image.BlockRuns.{all_contained}
use Rattle.mps_trace_laws.proofs.Image.Extents.{all_extents, all_reserved}
use Rattle.mps_trace_laws.proofs.Reclaim.HeldSegments.{over, over_base, was_held}
use Rattle.mps_trace_laws.proofs.Reclaim.Reclaimed.{freed_stands, grains_after, inside_same}
use Rattle.mps_trace_laws.proofs.Reclaim.SegmentBounds.{over_inside, segment_bounds, aligned_in}
use Rattle.mps_xform.proofs.SummedRuns.{summed_again}

-- what frees leave
covered_before : (rs : List Run) (g : SegsState) (r : Run) → Contains (without_blocks rs g).covered r → Contains g.covered r
covered_before [] g r there = there
covered_before (q ∷ rs) g r there = contains_without q.from r g.covered (covered_before rs (without_block q g) r there)

summaries_after : (rs : List Run) (g : SegsState) → (without_blocks rs g).summaries ≡ g.summaries
summaries_after [] g = refl
summaries_after (q ∷ rs) g = summaries_after rs (without_block q g)

module _ {F : Type 0} (layout : F → Layout) (formats : List (Option (Policy F))) (g : SegsState) (w : World) (c : Collection)
    (k : Colours) (pools : ℕ → Layout) (frees : FreesFor g w c k pools) (scanned : AreAllScanned k) (from : Address) (base : Addr)
    (lowest : IsNextCondemned g from base.0) (summed : AreWordsSummed layout formats g) where
  abbrev t : Segment
  t = lowest.segment

  abbrev freed : SegsState
  freed = freed_in g t

  freed_over : (u : Segment) → segment_over g.segments base.0 ≡ Some u → u ≡ t
  freed_over u found =
      same_Some u t (sym found ∙ ap (segment_over g.segments) (sym lowest.begins)
      ∙ over_base g.segments frees.stands.order t lowest.listed)

  zones_are : (u : Segment) → summary_at freed u.base ≡ summary_at g u.base
  zones_are u = ap (λ ss. slice_index ss (grain_of u.base)) (summaries_after (lost_of g t) g)

  -- ---- the segment is given back

  still_over : (r : Run) (v : Segment)
      → segment_over (without_segment g.segments t.base) (address_of_word r.from) ≡ Some v
      → segment_over g.segments (address_of_word r.from) ≡ Some v
  still_over r v found =
      let ss = without_segment g.segments t.base in
      let there = over_is_there ss (address_of_word r.from) v found in
      let held = (was_held (λ s. not (s.base == t.base)) g.segments v there).0 in
      let bounds = segment_bounds v (address_of_word r.from) (over_inside ss (address_of_word r.from) v found) in
      let begins = aligned_in g.segments v frees.stands.order.aligned held in
      over g.segments frees.stands.order v r.from held (omega (arith, bounds.0)) (omega (arith, bounds.1, begins))

  given_summed : AreWordsSummed layout formats (record freed { segments = without_segment g.segments t.base })
  given_summed = record {
    sized = ap (λ (ss : List ℕ). length ss) (summaries_after (lost_of g t) g) ∙ summed.sized
        ∙ ap (λ n. n + 1) (sym (grains_after (lost_of g t) g));
    each = λ r v format there found listed.
        let P : List ℕ → Type 0 = λ ws. IsRunSummed (layout format.format) ws (summary_at freed v.base) r in
        let Q : ℕ → Type 0 = λ z. IsRunSummed (layout format.format) g.words z r in
        subst P (sym (words_after (lost_of g t) g))
        (subst Q (sym (zones_are v))
        (summed.each r v format (covered_before (lost_of g t) g r there) (still_over r v found) listed));
  }

  -- ---- something is left in it

  module _ (words : List ℕ)
      (unwritten : AreBlocksUnwritten (word_of t.base) (word_of (end_of_segment t))
      (runs_within (word_of t.base) (word_of (end_of_segment t)) freed.blocks) g.words words)
      (reserved : AreReservationsUnwritten w.graph.points w.point_memories g.words words) where
    record IsLeft (r : Run) : Type 0 where
      some : 0 < r.count
      same : (j : ℕ) → j < r.count → slice_index words (r.from + j) ≡ slice_index g.words (r.from + j)

    all_left : AllByRecursion IsLeft freed.covered
    all_left =
        let objects = w.graph.objects in
        let points = w.graph.points in
        let memories = w.point_memories in
        let left = addresses_without
        (addresses_of (lost_of g t)) w.addresses in
        let st =
        freed_stands g objects points memories pools c.condemned k w.addresses t frees.stands scanned lowest.listed
        lowest.condemned
        in
        subst (AllByRecursion IsLeft) (sym st.runs.covered)
        (all_in_order IsLeft (extents_of objects left ++ reserved_extents points memories)
        (all_append IsLeft (extents_of objects left) (reserved_extents points memories)
        (all_extents IsLeft objects left (λ id a o e object. record {
          some = st.placed.positive id a o e object;
          same = λ j few.
              inside_same g objects points memories pools c.condemned k w.addresses t frees.stands scanned lowest.listed lowest.condemned
              words unwritten reserved id j o (word_of a + j)
              (record { at = a; address = e; object = object; within = few; is = refl });
        }))
        (all_reserved IsLeft points memories (λ i r m live has. record {
          some = st.placed.reserved_positive i r live;
          same = λ j few.
              reserved i j r (word_of m.reserved_at + j)
              (record { memory = m; reserved = live; has = has; within = few; is = refl });
        }))))

    used_summed : AreWordsSummed layout formats (record freed { words = words })
    used_summed = record {
      sized = ap (λ (ss : List ℕ). length ss) (summaries_after (lost_of g t) g) ∙ summed.sized
          ∙ ap (λ n. n + 1) (sym (grains_after (lost_of g t) g));
      each = λ r v format there found listed.
          let left = all_contained IsLeft freed.covered r all_left there in
          let Q : ℕ → Type 0 = λ z. IsRunSummed (layout format.format) g.words z r in
          let found_before =
          ap (λ ss. segment_over ss (address_of_word r.from)) (sym (segments_after (lost_of g t) g)) ∙ found
          in
          summed_again (layout format.format) g.words words (summary_at freed v.base) r r left.some (omega arith) left.same
          (subst Q (sym (zones_are v))
          (summed.each r v format (covered_before (lost_of g t) g r there) found_before listed));
    }

  pub reclaim_summed : (m m' : Moves) (g' : SegsState) → IsSwept g m base g' m'
      → AreReservationsUnwritten w.graph.points w.point_memories g.words g'.words → AreWordsSummed layout formats g'
  reclaim_summed m m' g' (is_given u found empty state trail) reserved =
      let P : Segment → Type 0 =
      λ v. AreWordsSummed layout formats (record (freed_in g v) { segments = without_segment g.segments base.0 })
      in
      let Q : Address → Type 0 = λ a. AreWordsSummed layout formats (record freed { segments = without_segment g.segments a }) in
      let R : SegsState → Type 0 = λ s. AreWordsSummed layout formats s in
      subst R (sym state) (subst P (sym (freed_over u found)) (subst Q lowest.begins given_summed))
  reclaim_summed m m' g' (is_used u found used state unwritten trail) reserved =
      let same = freed_over u found in
      let P : Segment → Type 0 = λ v. AreWordsSummed layout formats (record (freed_in g v) { words = g'.words }) in
      let R : SegsState → Type 0 = λ s. AreWordsSummed layout formats s in
      let low : word_of base.0 ≡ word_of t.base = ap word_of (sym lowest.begins) in
      let Q : ℕ → Segment → Type 0 = λ from v.
      AreBlocksUnwritten from (word_of (end_of_segment v))
      (runs_within from (word_of (end_of_segment v)) (freed_in g v).blocks) g.words g'.words
      in
      let S : ℕ → Type 0 = λ from. Q from t in
      let T : Segment → Type 0 = λ v. Q (word_of base.0) v in
      subst R (sym state) (subst P (sym same) (used_summed g'.words (subst S low (subst T same unwritten)) reserved))
