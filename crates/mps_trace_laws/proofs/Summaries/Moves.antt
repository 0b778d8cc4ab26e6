-- A block moves, to words of its pool: what is noted then keeps each run summed. So does a segment that is taken.
use Rattle.std.proofs.Common.{◌≡◌, ◌∙◌, ◌⊎◌, ℕ, ◌+◌, ◌%◌, ◌<◌, ◌≤◌, refl, sym, ap, List, length, Option, Some, Contains, subst, arith}
use Rattle.std.proofs.lemmas.List.{get_or-set_other, length-set}
use Rattle.std.proofs.lemmas.Option.{same_Some}
use Rattle.std.specs.Prelude.{option_map, slice_get, slice_index}
use Rattle.mps_base.specs.Address.{Address, Grain, word_of, grain_of, address_of_word}
use Rattle.mps_base.specs.Run.{Run, Covers, IsAscending, end_of}
use Rattle.mps_base.specs.Segment.{Segment, segment_over}
use Rattle.mps_base.proofs.Runs.{contained_bounds}
use Rattle.mps_format.specs.Layout.{Layout}
use Rattle.mps_format.specs.declared.pool.Policy.{Policy}
use Rattle.mps_seg.specs.Collecting.{first_grain_over, summary_at}
use Rattle.mps_seg.specs.Segs.{SegsState}
use Rattle.mps_amc.specs.Moving.{AreCopied, moved_to, run_at, size_at}
use Rattle.mps_trace.specs.Noting.{copy_noted, summaries_of_copy, zones_of_block}
use Rattle.mps_laws.proofs.Positions.Segments.{segment_bounds}
use Rattle.mps_trace_laws.specs.Fix.Tracing.{AreHeld, HasTables}
use Rattle.mps_trace_laws.specs.Summaries.Summed.{AreWordsSummed}
use Rattle.mps_xform.specs.Summed.{IsRunSummed}
use Rattle.mps_trace_laws.proofs.Fix.Growing.{IsFree, with_one, over_is, over_still, other_grain}
use Rattle.mps_xform.proofs.Zones.{AreZonesOf}
use Rattle.mps_xform.proofs.SummedRuns.{summed_again}
use Rattle.mps_trace_laws.proofs.Summaries.CopyZones.{still_there, same_length, copy_is_noted}
use Rattle.mps_trace_laws.proofs.Summaries.Copies.{AreSegmentsKept, copy_summed}

-- the first grain of a segment over a word has a summary
pub has_summary : (g : SegsState) → AreHeld g → length g.summaries ≡ g.grains + 1 → (at : Address) (t : Segment) → at % 8 ≡ 0
    → segment_over g.segments at ≡ Some t → grain_of t.base < length g.summaries
has_summary g held sized at t aligned over =
    let e : at ≡ address_of_word (word_of at) = omega (arith, aligned) in
    let is = over_is g held (word_of at) t (ap (segment_over g.segments) (sym e) ∙ over) in
    let bounds = segment_bounds 1 (g.grains + 1) g.segments t held.ascending is.among in
    omega (arith, bounds.1, bounds.2, sized)

module _ {F : Type 0} (layout : F → Layout) (formats : List (Option (Policy F))) (g : SegsState) (held : AreHeld g) (s u : Segment)
    (format : Policy F) (at to : Address) (size high : ℕ) (ws : List ℕ) (ascending : IsAscending 0 high g.covered)
    (at_aligned : at % 8 ≡ 0) (to_aligned : to % 8 ≡ 0) (over : segment_over g.segments at ≡ Some s)
    (over_to : segment_over g.segments to ≡ Some u) (same_pool : u.pool ≡ s.pool) (listed : slice_get formats s.pool ≡ Some (Some format))
    (block : Contains g.covered (run_at at size)) (whole : size ≡ size_at (layout format.format) g.words at)
    (apart : (r : Run) → Contains g.covered r → (word_of to + size ≤ r.from) ⊎ (end_of r ≤ word_of to))
    (copied : AreCopied (layout format.format) g.words ws at to size) (summed : AreWordsSummed layout formats g)
  where
    abbrev f : Layout
    f = layout format.format

    abbrev moved : SegsState
    moved = record (moved_to g at to size) { words = ws }

    abbrev after : SegsState
    after = copy_noted f moved at to

    abbrev first : Segment → Grain
    first t = grain_of t.base

    abbrev noted : List ℕ
    noted = summaries_of_copy g.summaries (Some (first s)) (Some (first u)) (zones_of_block f ws to)

    noted_is : after.summaries ≡ noted
    noted_is =
        ap (λ o. summaries_of_copy g.summaries (option_map first o) (first_grain_over moved to) (zones_of_block f ws to)) over
        ∙ ap (λ o. summaries_of_copy g.summaries (Some (first s)) (option_map first o) (zones_of_block f ws to)) over_to

    within : first u < length g.summaries
    within = has_summary g held summed.sized to u to_aligned over_to

    kept : AreSegmentsKept g after
    kept r t there over_there = (
      over_there,
      subst (λ (ss : List ℕ). AreZonesOf (summary_at g t.base) (slice_index ss (first t))) (sym noted_is)
          (still_there g.summaries (first s) (first u) (zones_of_block f ws to) within (first t)),
    )

    some : 0 < size
    some = (contained_bounds 0 high g.covered (run_at at size) ascending block).1

    -- its head is as before
    whole_there : size ≡ f.size (slice_index ws (word_of to))
    whole_there =
        let there : word_of to + 0 ≡ word_of to = omega arith in
        let here : word_of at ≡ word_of at + 0 = omega arith in
        whole
        ∙ ap (λ i. f.size (slice_index g.words i)) here
        ∙ ap f.size (sym (copied.copied 0 some))
        ∙ ap (λ i. f.size (slice_index ws i)) there

    over_at : segment_over g.segments (address_of_word (run_at at size).from) ≡ Some s
    over_at = let e : address_of_word (word_of at) ≡ at = omega (arith, at_aligned) in ap (segment_over g.segments) e ∙ over

    its_zones : IsRunSummed f ws (slice_index after.summaries (first u)) (run_at to size)
    its_zones =
        let old = summed.each (run_at at size) s format block over_at listed in
        let again =
        summed_again f g.words ws (summary_at g s.base) (run_at at size) (run_at to size) some (omega arith) copied.copied old
        in
        subst (λ (ss : List ℕ). IsRunSummed f ws (slice_index ss (first u)) (run_at to size)) (sym noted_is)
        (copy_is_noted g.summaries (first s) (first u) f ws to size within whole_there again)

    own : (t : Segment) (other : Policy F) → segment_over after.segments (address_of_word (word_of to)) ≡ Some t
        → slice_get formats t.pool ≡ Some (Some other)
        → IsRunSummed (layout other.format) after.words (summary_at after t.base) (run_at to size)
    own t other over_there is_listed =
        let e : to ≡ address_of_word (word_of to) = omega (arith, to_aligned) in
        let same : u ≡ t = same_Some u t (sym over_to ∙ ap (segment_over g.segments) e ∙ over_there) in
        let pool : s.pool ≡ t.pool = sym same_pool ∙ ap (λ (v : Segment). v.pool) same in
        let policy : format ≡ other =
        same_Some format other (same_Some (Some format) (Some other) (sym listed ∙ ap (slice_get formats) pool ∙ is_listed))
        in
        let P : Segment → Type 0 = λ v. IsRunSummed f ws (slice_index after.summaries (first v)) (run_at to size) in
        let Q : Policy F → Type 0 =
        λ q. IsRunSummed (layout q.format) ws (slice_index after.summaries (first t)) (run_at to size)
        in
        subst Q policy (subst P same its_zones)

    pub move_summed : AreWordsSummed layout formats after
    move_summed = record {
      sized =
          ap (λ (ss : List ℕ). length ss) noted_is
          ∙ same_length g.summaries (first s) (first u) (zones_of_block f ws to) within
          ∙ summed.sized;
      each =
          copy_summed layout formats g after f at to size high ascending block apart
          (record { long = copied.long; copied = copied.copied; begins = copied.begins; leads = copied.leads; others = copied.others }) refl
          kept own summed.each;
    }

-- each word of a block or of a reservation lies in a segment
abbrev pub AreRunsHeld : SegsState → Type 0
AreRunsHeld g =
    (r : Run) (n : ℕ) → Contains g.covered r → Covers r n
    → (t : Segment) × (segment_over g.segments (address_of_word n) ≡ Some t)

module _ {F : Type 0} (layout : F → Layout) (formats : List (Option (Policy F))) (g : SegsState) (held : AreHeld g) (tables : HasTables g)
    (high : ℕ) (ascending : IsAscending 0 high g.covered) (runs_held : AreRunsHeld g) (u : Segment) (free : IsFree g u) where
  -- a segment that is taken has nothing in it
  pub taken_summed : AreWordsSummed layout formats g → AreWordsSummed layout formats (with_one g u)
  taken_summed summed = record {
    sized = length-set g.summaries (grain_of u.base) 0 ∙ summed.sized;
    each = λ r t format there over listed.
        let some = (contained_bounds 0 high g.covered r ascending there).1 in
        let was = runs_held r r.from there (omega arith, omega (arith, some)) in
        let now = over_still g held tables u free r.from was.0 was.1 in
        let same : was.0 ≡ t = same_Some was.0 t (sym now ∙ over) in
        let P : Segment → Type 0 = λ v. segment_over g.segments (address_of_word r.from) ≡ Some v in
        let over_before = subst P same was.1 in
        let apart = other_grain g held tables u free t (over_is g held r.from t over_before).among in
        let zones : summary_at (with_one g u) t.base ≡ summary_at g t.base =
        get_or-set_other g.summaries (grain_of u.base) (grain_of t.base) 0 0 apart
        in
        let Q : ℕ → Type 0 = λ z. IsRunSummed (layout format.format) g.words z r in
        subst Q (sym zones) (summed.each r t format there over_before listed);
  }
