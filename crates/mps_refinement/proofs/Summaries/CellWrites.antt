-- A word of a block or of a reservation is written: each word stays summed where it is no reference, where it leads to what it did or to
-- null, and where what it leads to is noted.
use Rattle.std.proofs.Common.{◌≡◌, ◌∙◌, ℕ, ◌+◌, ◌%◌, ◌<◌, Bool, true, false, refl, sym, ap, List, length, Option, None, Some, Contains, subst, inl, inr, arith}
use Rattle.std.proofs.lemmas.Bool.{cases_eq, eqb-true, false≢true}
use Rattle.std.proofs.lemmas.List.{get_or-set_other, length-set}
use Rattle.std.proofs.lemmas.Option.{same_Some}
use Rattle.std.specs.Prelude.{IsTrue, ◌==◌, if◌then◌else◌, option_map, slice_get, slice_index, slice_set}
use Rattle.mps_base.specs.Address.{Address, Grain, word_of, grain_of, address_of_word}
use Rattle.mps_base.specs.Run.{IsAscending}
use Rattle.mps_base.specs.Segment.{Segment, segment_over}
use Rattle.mps_base.specs.Zones.{zones_meet, zone_bit_of}
use Rattle.mps_base.proofs.Runs.{contained_bounds}
use Rattle.mps_extents.proofs.ApartRuns.{apart_each}
use Rattle.mps_format.specs.Layout.{Layout}
use Rattle.mps_format.specs.declared.pool.Policy.{Policy}
use Rattle.mps_model.specs.World.{extent}
use Rattle.mps_seg.specs.Collecting.{first_grain_over, noting, noting_in, summary_at}
use Rattle.mps_seg.specs.Segs.{SegsState}
use Rattle.mps_trace_laws.specs.Fix.Tracing.{AreHeld}
use Rattle.mps_trace_laws.specs.Summaries.Summed.{AreWordsSummed}
use Rattle.mps_trace_laws.proofs.Summaries.Moves.{has_summary}
use Rattle.mps_xform.proofs.SummedRuns.{summed_again}
use Rattle.mps_trace_laws.proofs.Summaries.Writes.{write_summed}
use Rattle.mps_xform.proofs.Noting.{noted, others_noted, zone_noted}
use Rattle.mps_xform.proofs.Zones.{AreZonesOf}
use Rattle.mps_heap_spec.specs.Referring.{noting_reference}
use Rattle.mps_heap_spec.specs.State.{HeapState}
use Rattle.mps_refinement.specs.StandsFor.{collector_of}
use Rattle.mps_refinement.proofs.Worlds.CollectorKept.{KeepsAll, all_kept}

-- ---- a note changes summaries alone

noted_in : (s : SegsState) (o : Option Grain) (to : Address) → noting_in s o to ≡ record s { summaries = (noting_in s o to).summaries }
noted_in s None to = refl
noted_in s (Some grain) to = refl

pub noting_is : (s : SegsState) (block to : Address)
    → noting_reference s block to ≡ record s { summaries = (noting_reference s block to).summaries }
noting_is s block to = of_test (to == 0)
  where
    of_test : (b : Bool) → (if b then s else noting s block to) ≡ record s { summaries = (if b then s else noting s block to).summaries }
    of_test true = refl
    of_test false = noted_in s (first_grain_over s block) to

-- so the collector has what it had, where a word is written and noted
pub noting_kept : {F : Type 0} (h : HeapState F) (words : List ℕ) (block to : Address)
    → KeepsAll (collector_of h) (collector_of (record h { segs = noting_reference (record h.segs { words = words }) block to }))
noting_kept h words block to =
    let P : SegsState → Type 0 = λ g. KeepsAll (collector_of h) (collector_of (record h { segs = g })) in
    subst P (sym (noting_is (record h.segs { words = words }) block to)) (all_kept h)

-- ---- a word is written

-- the blocks in the segment over an address are read by this format
pub record AreReadBy {F : Type 0} (layout : F → Layout) (formats : List (Option (Policy F))) (s : SegsState) (at : Address)
    (f : Layout) : Type 0 where
  pub segment : Segment
  pub over : segment_over s.segments at ≡ Some segment
  pub reads : (policy : Policy F) → slice_get formats segment.pool ≡ Some (Some policy) → layout policy.format ≡ f

module _ {F : Type 0} (layout : F → Layout) (formats : List (Option (Policy F))) (s : SegsState)
    (summed : AreWordsSummed layout formats s) (high : ℕ) (ascending : IsAscending 0 high s.covered) (at : Address) (count : ℕ)
    (aligned : at % 8 ≡ 0) (there : Contains s.covered (extent at count)) (cell value : ℕ) (inside : cell < count) where
  abbrev words : List ℕ
  words = slice_set s.words (word_of at + cell) value

  begins : at ≡ address_of_word (word_of at)
  begins = omega (arith, aligned)

  -- ---- a block of a format

  module _ (f : Layout) (of : AreReadBy layout formats s at f) (later : 0 < cell) (in_words : word_of at + cell < length s.words) where
    abbrev first : Grain
    first = grain_of of.segment.base

    same_segment : (t : Segment) → segment_over s.segments (address_of_word (word_of at)) ≡ Some t → of.segment ≡ t
    same_segment t over = same_Some of.segment t (sym of.over ∙ ap (segment_over s.segments) begins ∙ over)

    -- the word leads to zones that are in a summary
    abbrev IsZoned : Layout → (zones : ℕ) → Type 0
    IsZoned g zones =
        IsTrue (g.is_reference (slice_index s.words (word_of at)) cell) → 0 < g.target value
        → zones_meet (zone_bit_of (g.target value)) zones ≡ true

    written : (zones : List ℕ) → length zones ≡ length s.summaries
        → ((t : Segment) → AreZonesOf (summary_at s t.base) (slice_index zones (grain_of t.base)))
        → ((policy : Policy F) → slice_get formats of.segment.pool ≡ Some (Some policy) → IsZoned f (slice_index zones first))
        → AreWordsSummed layout formats (record s { words = words; summaries = zones })
    written zones sized more own = record {
      sized = sized ∙ summed.sized;
      each =
          write_summed layout formats s high ascending (extent at count) there cell value later inside in_words zones more
          (λ t policy over listed.
          let same = same_segment t over in
          let listed_there = ap (λ (u : Segment). slice_get formats u.pool) same ∙ listed in
          let P : Segment → Type 0 = λ u. IsZoned f (slice_index zones (grain_of u.base)) in
          let Q : Layout → Type 0 = λ g. IsZoned g (slice_index zones (grain_of t.base)) in
          subst Q (sym (of.reads policy listed_there)) (subst P same (own policy listed_there))) summed.each;
    }

    -- a number
    pub number_summed : f.is_reference (slice_index s.words (word_of at)) cell ≡ false
        → AreWordsSummed layout formats (record s { words = words })
    number_summed number =
        written s.summaries refl (λ t k h. h) (λ policy listed reference some. absurd (false≢true (sym number ∙ reference)))

    -- a reference to what the word led to before
    pub same_target_summed : f.target value ≡ f.target (slice_index s.words (word_of at + cell))
        → AreWordsSummed layout formats (record s { words = words })
    same_target_summed same =
        written s.summaries refl (λ t k h. h) (λ policy listed reference some.
        let over = ap (segment_over s.segments) (sym begins) ∙ of.over in
        let zones = summary_at s of.segment.base in
        let P : Layout → Type 0 = λ g.
        IsTrue (g.is_reference (slice_index s.words (word_of at)) cell) → 0 < g.target (slice_index s.words (word_of at + cell))
        → zones_meet (zone_bit_of (g.target (slice_index s.words (word_of at + cell)))) zones ≡ true
        in
        let Q : Address → Type 0 = λ a. zones_meet (zone_bit_of a) zones ≡ true in
        let was = subst P (of.reads policy listed) (summed.each (extent at count) of.segment policy there over listed cell inside) in
        subst Q (sym same) (was reference (omega (arith, some, same))))

    -- a reference to null
    null_summed : f.target value ≡ 0 → AreWordsSummed layout formats (record s { words = words })
    null_summed null = written s.summaries refl (λ t k h. h) (λ policy listed reference some. absurd (omega (arith, some, null)))

    -- a reference to an address, which is noted where it isn't null
    pub reference_summed : AreHeld s → (to : Address) → f.target value ≡ to
        → AreWordsSummed layout formats (noting_reference (record s { words = words }) at to)
    reference_summed held to leads = of_test (to == 0) refl
      where
        within : first < length s.summaries
        within = has_summary s held summed.sized at of.segment aligned of.over

        zones : List ℕ
        zones = noted s.summaries first to within

        is_noted : AreWordsSummed layout formats (record s { words = words; summaries = zones })
        is_noted =
            written zones (length-set s.summaries first _) (λ t. others_noted s.summaries first to within (grain_of t.base))
            (λ policy listed reference some.
            let P : Address → Type 0 = λ a. zones_meet (zone_bit_of a) (slice_index zones first) ≡ true in
            subst P (sym leads) (zone_noted s.summaries first to within))

        of_test : (b : Bool) → (to == 0) ≡ b
            → AreWordsSummed layout formats
            (if b then record s { words = words } else noting (record s { words = words }) at to)
        of_test true is = null_summed (leads ∙ eqb-true to 0 is)
        of_test false is =
            let P : SegsState → Type 0 = λ g. AreWordsSummed layout formats g in
            subst P
            (sym (ap (λ (o : Option Segment). noting_in (record s { words = words }) (option_map (λ (t : Segment). grain_of t.base) o) to)
            of.over))
            is_noted

  -- ---- a block without a format

  -- no collection reads its words
  pub unread_summed : ((t : Segment) (policy : Policy F) → segment_over s.segments (address_of_word (word_of at)) ≡ Some t
      → slice_get formats t.pool ≡ Some (Some policy) → ⊥)
      → AreWordsSummed layout formats (record s { words = words })
  unread_summed none = record {
    sized = summed.sized;
    each = λ r t policy its over listed.
        elim (cases_eq (word_of at) r.from) [
          | inl same ↦
              let P : ℕ → Type 0 = λ n. segment_over s.segments (address_of_word n) ≡ Some t in
              absurd (none t policy (subst P (sym same) over) listed)
          | inr other ↦
              let some = contained_bounds 0 high s.covered r ascending its in
              let beside = apart_each 0 high s.covered (extent at count) r ascending there its in
              summed_again (layout policy.format) s.words words (summary_at s t.base) r r some.1 (omega arith)
              (λ k few. get_or-set_other s.words (word_of at + cell) (r.from + k) value 0 (λ e. elim beside [
                | inl same ↦ absurd (other same)
                | inr apart ↦ elim apart [
                  | inl after ↦ absurd (omega (arith, after, inside, e))
                  | inr before ↦ absurd (omega (arith, before, few, e))
                ]
              ])) (summed.each r t policy its over listed)
        ];
  }
