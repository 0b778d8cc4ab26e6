-- A word of a block is written: each run stays summed if the zone to which the word leads is in the summary then.
use Rattle.std.proofs.Common.{◌≡◌, ◌≢◌, ◌∙◌, ℕ, ◌+◌, ◌<◌, true, sym, ap, List, length, Option, Some, Contains, subst, inl, inr, arith}
use Rattle.std.proofs.lemmas.Bool.{cases_eq}
use Rattle.std.proofs.lemmas.List.{get_or-set_same, get_or-set_other}
use Rattle.std.specs.Prelude.{IsTrue, slice_get, slice_index, slice_set}
use Rattle.mps_base.specs.Address.{grain_of, address_of_word}
use Rattle.mps_base.specs.Run.{Run, IsAscending}
use Rattle.mps_base.specs.Segment.{Segment, segment_over}
use Rattle.mps_base.specs.Zones.{zones_meet, zone_bit_of}
use Rattle.mps_base.proofs.Runs.{contained_bounds}
use Rattle.mps_extents.proofs.ApartRuns.{apart_each}
use Rattle.mps_format.specs.Layout.{Layout}
use Rattle.mps_format.specs.declared.pool.Policy.{Policy}
use Rattle.mps_seg.specs.Collecting.{summary_at}
use Rattle.mps_seg.specs.Segs.{SegsState}
use Rattle.mps_trace_laws.specs.Summaries.Summed.{AreRunsSummed}
use Rattle.mps_xform.specs.Summed.{IsRunSummed}
use Rattle.mps_xform.proofs.Zones.{AreZonesOf}
use Rattle.mps_xform.proofs.SummedRuns.{summed_in, summed_again}

module _ {F : Type 0} (layout : F → Layout) (formats : List (Option (Policy F))) (s : SegsState) (high : ℕ)
    (ascending : IsAscending 0 high s.covered) (r : Run) (there : Contains s.covered r) (cell value : ℕ) (later : 0 < cell)
    (inside : cell < r.count) (in_words : r.from + cell < length s.words)
  where
    abbrev words : List ℕ
    words = slice_set s.words (r.from + cell) value

    other_word : (n : ℕ) → n ≢ r.from + cell → slice_index words n ≡ slice_index s.words n
    other_word n other = get_or-set_other s.words (r.from + cell) n value 0 other

    own_word : slice_index words (r.from + cell) ≡ value
    own_word = get_or-set_same s.words (r.from + cell) value 0 in_words

    -- a run that begins elsewhere doesn't have the word
    other_run : (f : Layout) (zones : ℕ) (q : Run) → Contains s.covered q → r.from ≢ q.from → IsRunSummed f s.words zones q
        → IsRunSummed f words zones q
    other_run f zones q its other summed =
        let some = contained_bounds 0 high s.covered q ascending its in
        let beside = apart_each 0 high s.covered r q ascending there its in
        summed_again f s.words words zones q q some.1 (omega arith)
        (λ k few. other_word (q.from + k) (λ e. elim beside [
          | inl same ↦ absurd (other same)
          | inr apart ↦ elim apart [
            | inl after ↦ absurd (omega (arith, after, inside, e))
            | inr before ↦ absurd (omega (arith, before, few, e))
          ]
        ])) summed

    -- a run that begins there has its other words as before
    own_run : (f : Layout) (zones : ℕ) (q : Run) → r.from ≡ q.from
        → (IsTrue (f.is_reference (slice_index s.words q.from) cell) → 0 < f.target value
        → zones_meet (zone_bit_of (f.target value)) zones ≡ true)
        → IsRunSummed f s.words zones q → IsRunSummed f words zones q
    own_run f zones q same own summed k few reference some =
        let head : slice_index words q.from ≡ slice_index s.words q.from =
        other_word q.from (λ e. absurd (omega (arith, e, same, later)))
        in
        let P : ℕ → Type 0 = λ h. IsTrue (f.is_reference h k) in
        let Q : ℕ → Type 0 = λ w. 0 < f.target w in
        let R : ℕ → Type 0 = λ w. zones_meet (zone_bit_of (f.target w)) zones ≡ true in
        elim (cases_eq k cell) [
          | inl here ↦
              let at : q.from + k ≡ r.from + cell = omega (arith, here, same) in
              let is : slice_index words (q.from + k) ≡ value = ap (λ n. slice_index words n) at ∙ own_word in
              let S : ℕ → Type 0 = λ j. IsTrue (f.is_reference (slice_index s.words q.from) j) in
              subst R (sym is) (own (subst S here (subst P head reference)) (subst Q is some))
          | inr other ↦
              let is = other_word (q.from + k) (λ e. other (omega (arith, e, same))) in
              subst R (sym is) (summed k few (subst P head reference) (subst Q is some))
        ]

    -- no summary has lost a zone, and that of the block has the zone to which the word leads
    pub write_summed : (summaries : List ℕ)
        → ((t : Segment) → AreZonesOf (summary_at s t.base) (slice_index summaries (grain_of t.base)))
        → ((t : Segment) (format : Policy F) → segment_over s.segments (address_of_word r.from) ≡ Some t
        → slice_get formats t.pool ≡ Some (Some format)
        → IsTrue ((layout format.format).is_reference (slice_index s.words r.from) cell) → 0 < (layout format.format).target value
        → zones_meet (zone_bit_of ((layout format.format).target value)) (slice_index summaries (grain_of t.base)) ≡ true)
        → AreRunsSummed layout formats s → AreRunsSummed layout formats (record s { words = words; summaries = summaries })
    write_summed summaries more own summed q t format its over listed =
        let f = layout format.format in
        let zones = slice_index summaries (grain_of t.base) in
        let old = summed_in f s.words (summary_at s t.base) zones q (more t) (summed q t format its over listed) in
        elim (cases_eq r.from q.from) [
          | inl same ↦
              let P : ℕ → Type 0 = λ n. segment_over s.segments (address_of_word n) ≡ Some t in
              let Q : ℕ → Type 0 = λ n. IsTrue (f.is_reference (slice_index s.words n) cell) in
              own_run f zones q same
              (λ reference some. own t format (subst P (sym same) over) listed (subst Q (sym same) reference) some) old
          | inr other ↦ other_run f zones q its other old
        ]
