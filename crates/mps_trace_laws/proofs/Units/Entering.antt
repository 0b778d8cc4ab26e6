-- The last band begins where nothing is grey in words and no registration is due.
use Rattle.std.proofs.Common.{◌≡◌, ◌∙◌, ℕ, ◌<◌, ◌≤◌, Bool, true, false, refl, sym, subst, List, [], ◌∷◌, Contains, inl, inr, arith}
use Rattle.std.proofs.lemmas.Bool.{cases_Bool, true≢false}
use Rattle.std.specs.Prelude.{◌||◌, ◌+◌, ◌*◌, map, Option}
use Rattle.std.specs.List.{AllByRecursion}
use Rattle.mps_base.specs.Address.{Address, word_of, max_grains, grain_of, address_of_grain, words_of_grain}
use Rattle.mps_base.specs.Run.{Run, IsAscending, end_of}
use Rattle.mps_base.specs.Segment.{Segment, end_of_segment, grains_of_segment}
use Rattle.mps_base.proofs.Runs.{IsAscending-bounds}
use Rattle.mps_extents.specs.Table.{bit}
use Rattle.mps_model.specs.Accessing.{address_or_null}
use Rattle.mps_abstract.specs.Colours.{AreAllScanned, is_grey}
use Rattle.mps_abstract.specs.Collecting.{Collecting, Running, AreAllExamined, IsDrainedIn}
use Rattle.mps_abstract.proofs.Addresses.{address_of-live}
use Rattle.mps_trace_laws.specs.Image.Memory.{pool_layout}
use Rattle.mps_trace_laws.specs.Image.SegmentWords.{AreSegmentsInOrder}
use Rattle.mps_seg.specs.Segs.{SegsState}
use Rattle.mps_trace.specs.Examine.{IsOneDue, IsNoneDue}
use Rattle.mps_trace.specs.Scan.{IsDrained}
use Rattle.mps_trace.specs.Splat.{HasNoMark}
use Rattle.mps_trace.specs.State.{FinalsState}
use Rattle.mps_trace.specs.Trace.{Traced}
use Rattle.mps_trace_laws.specs.Fix.Ranks.{DoMarksShow}
use Rattle.mps_trace_laws.specs.Fix.Tracing.{AreHeld, setting_of}
use Rattle.mps_trace_laws.proofs.Fix.RankedMarks.{objects_are_ranked, ranked_marks_show}
use Rattle.mps_model.specs.Graph.{is_automatic}
use Rattle.mps_model.specs.World.{object_is}
use Rattle.mps_trace_laws.proofs.Reclaim.SegmentBounds.{segment_cases, contains_no_segment}
use Rattle.mps_trace_laws.proofs.Reclaim.LastBand.{the_last_band_begins}
use Rattle.mps_trace_laws.specs.Units.Standing.{StandsTracing, StandsReclaiming, tracing, reclaiming, AreInArena, UnitStands}
use Rattle.mps_format.specs.declared.pool.Policy.{Policy}
use Rattle.mps_format.specs.Layout.{Layout}
use Rattle.mps_trace.specs.GenState.{ChainsState}
use Rattle.mps_trace.specs.declared.running.Running.{Running as RunningState}

-- ---- segments

aligned_so : (ss : List Segment) → AllByRecursion (λ (t : Segment). address_of_grain (grain_of t.base) ≡ t.base) ss
    → AllByRecursion (λ (t : Segment). t.base ≡ address_of_grain (grain_of t.base)) ss
aligned_so [] all = tt
aligned_so (t ∷ ss) all = (sym all.0, aligned_so ss all.1)

ascending_below : (low high high' : ℕ) (rs : List Run) → high ≤ high' → IsAscending low high rs → IsAscending low high' rs
ascending_below low high high' [] up asc = omega (arith, up, asc)
ascending_below low high high' (r ∷ rs) up asc = (asc.0, asc.1, ascending_below (end_of r) high high' rs up asc.2)

pub held_in_order : (s : SegsState) → AreHeld s → AreSegmentsInOrder s.segments
held_in_order s held = record {
  aligned = aligned_so s.segments held.aligned;
  ascending =
      ascending_below 1 (s.grains + 1) (max_grains + 1) (map grains_of_segment s.segments)
      (let small = held.small in omega (arith, small)) held.ascending;
}

ends_below : (low high : ℕ) (ss : List Segment) (t : Segment)
    → AllByRecursion (λ (u : Segment). address_of_grain (grain_of u.base) ≡ u.base) ss
    → IsAscending low high (map grains_of_segment ss) → Contains ss t → word_of (end_of_segment t) ≤ words_of_grain * high
ends_below low high [] t aligned asc there = absurd (contains_no_segment t there)
ends_below low high (s ∷ ss) t aligned asc there =
    let bound = IsAscending-bounds (end_of (grains_of_segment s)) high (map grains_of_segment ss) asc.2 in
    let base = aligned.0 in
    elim (segment_cases ss t s there) [
      | inl same ↦ subst (λ (x : Segment). word_of (end_of_segment x) ≤ words_of_grain * high) same (omega (arith, bound, base))
      | inr later ↦ ends_below (end_of (grains_of_segment s)) high ss t aligned.1 asc.2 later
    ]

pub held_inside : (s : SegsState) → AreHeld s → AreInArena s
held_inside s held t there = ends_below 1 (s.grains + 1) s.segments t held.aligned held.ascending there

-- ---- nothing is grey

either_is : (a b : Bool) → a ≡ false → b ≡ false → (a || b) ≡ false
either_is false false first second = refl
either_is true b first second = absurd (true≢false first)
either_is false true first second = absurd (true≢false second)

module _ {F : Type 0} (layout : F → Rattle.mps_format.specs.Layout.Layout) (formats : List (Rattle.std.specs.Prelude.Option (Policy F)))
    (of : Rattle.mps_trace.specs.GenState.ChainsState) (at_flip : List (Rattle.std.specs.Prelude.Option Address)) (x : Traced)
    (y : Collecting) (run : Running y) (st : StandsTracing layout formats of at_flip x y) where
  -- marks show which objects are weak
  pub marks_show : DoMarksShow x.segs y
  marks_show =
      let set = setting_of x.segs at_flip y in
      let image = st.traces.state.image in
      ranked_marks_show x.segs set y (object_is is_automatic y.world) st.ranked
      (objects_are_ranked x.segs set y.world image.placed refl (held_in_order x.segs st.traces.state.held) st.housed) image.marks run.grey

module _ {F : Type 0} (layout : F → Rattle.mps_format.specs.Layout.Layout) (formats : List (Rattle.std.specs.Prelude.Option (Policy F)))
    (of : Rattle.mps_trace.specs.GenState.ChainsState) (at_flip : List (Rattle.std.specs.Prelude.Option Address)) (x : Traced)
    (y : Collecting) (run : Running y) (st : StandsTracing layout formats of at_flip x y) (scanned : HasNoMark x.segs) where
  none_grey : AreAllScanned y.colours
  none_grey id =
      elim (cases_Bool (is_grey y.colours id)) [
        | inr black ↦ black
        | inl grey ↦
            let at = address_or_null y.world id in
            st.traces.state.image.marks.grey_there id at (address_of-live y.world id (run.grey.grey_live id grey))
            ∙ either_is (bit x.segs.marks.exact (word_of at)) (bit x.segs.marks.weak (word_of at)) (scanned.exact (word_of at))
            (scanned.weak (word_of at))
      ]

  pub entered : AreAllExamined y → StandsReclaiming x y
  entered examined = record {
    segments = st.traces.state.segments;
    frees =
        the_last_band_begins x.segs y.world y.running y.colours (pool_layout y.world) at_flip none_grey st.traces.state.image
        (held_in_order x.segs st.traces.state.held) st.housed (sym st.traces.state.segments.same_segments)
        st.traces.state.condemned.is_bit;
    scanned = none_grey;
    examined = examined;
    inside = held_inside x.segs st.traces.state.held;
    room = st.traces.room;
  }

module _ {F : Type 0} (layout : F → Layout) (formats : List (Option (Policy F))) (of : ChainsState) (at_flip : List (Option Address))
    (x : Traced) (f : FinalsState) (run : RunningState) (y : Collecting) (stands : UnitStands layout formats of at_flip x f run y) where
  -- where no registration is due all are examined
  pub all_examined : IsNoneDue run → AreAllExamined y
  all_examined none =
      let most = stands.running.examined.up_to in
      let next = stands.next in
      let before = stands.before in
      omega (arith, none, most, next, before)

  -- where nothing is grey besides the state stands in the last band
  pub the_last_band_is_entered : HasNoMark x.segs → IsNoneDue run → StandsReclaiming x y
  the_last_band_is_entered scanned none =
      elim stands.band [
        | tracing st ↦ entered layout formats of at_flip x y stands.running st scanned (all_examined none)
        | reclaiming st last ↦ st
      ]

  -- where one is due objects are traced
  pub due_before : IsOneDue run → y.next < y.running.registered_before
  due_before due =
      let next = stands.next in
      let before = stands.before in
      omega (arith, due, next, before)

  pub due_is_traced : IsOneDue run → StandsTracing layout formats of at_flip x y
  due_is_traced due =
      elim stands.band [
        | tracing st ↦ st
        | reclaiming st last ↦ absurd (let less = due_before due in let all = st.examined in omega (arith, less, all))
      ]

  -- and where no block has an exact mark nothing but weak objects is grey
  pub drained_so : StandsTracing layout formats of at_flip x y → IsDrained x.segs → IsDrainedIn y
  drained_so st drained = (marks_show layout formats of at_flip x y stands.running st).drained drained
