-- A run is covered that wasn't, maybe in a new segment: what was summed stays so, if the new run is summed by itself. It is where all of
-- its words are 0, but for a valid head.
use Rattle.std.proofs.Common.{◌≡◌, ◌∙◌, ℕ, zero, suc, ◌+◌, ◌<◌, refl, sym, ap, subst, List, length, Option, Some, Contains, inl, inr, arith}
use Rattle.std.proofs.lemmas.List.{get_or-set_other, length-set}
use Rattle.std.proofs.lemmas.Option.{same_Some}
use Rattle.std.specs.Prelude.{IsTrue, ◌≢◌, map, slice_get, slice_index}
use Rattle.mps_base.specs.Address.{grain_of, address_of_word}
use Rattle.mps_base.specs.Placement.{Placement, Place, NewSegment, OverLimit, NoFreeRun}
use Rattle.mps_base.specs.Run.{Run, IsAscending, with_run}
use Rattle.mps_base.specs.Segment.{Segment, grains_of_segment, segment_over}
use Rattle.mps_base.specs.declared.names.Rank.{Rank}
use Rattle.mps_extents.proofs.ApartRuns.{apart_from_put}
use Rattle.mps_extents.proofs.ContainedRuns.{contains_put_cases}
use Rattle.mps_format.specs.Layout.{IsLawful, Layout}
use Rattle.mps_format.specs.declared.pool.Policy.{Policy}
use Rattle.mps_laws.proofs.Positions.LegalMoves.{HasLayout}
use Rattle.mps_laws.proofs.Positions.Segments.{AreAligned, IsAmong}
use Rattle.mps_model.specs.World.{World}
use Rattle.mps_seg.specs.Collecting.{summary_at}
use Rattle.mps_seg.specs.Segs.{SegsState, noted_for, segments_after}
use Rattle.mps_trace_laws.specs.Summaries.Summed.{AreWordsSummed}
use Rattle.mps_xform.specs.Summed.{IsRunSummed}
use Rattle.mps_xform.proofs.Zones.{AreZonesOf}
use Rattle.mps_heap_spec.specs.State.{HeapState}
use Rattle.mps_refinement.specs.StandsFor.{AreParts, Past}
use Rattle.mps_refinement.proofs.Parts.SegmentsTaken.{new_apart, over_same}
use Rattle.mps_refinement.proofs.Summaries.Homes.{home_of, over_home, over_now}
use Rattle.mps_refinement.proofs.Summaries.Kept.{IsRunKept, words_summed}

-- ---- words that are 0

-- a reference of 0 leads to 0
pub null_target : (f : Layout) → IsLawful f → f.target 0 ≡ 0
null_target f lawful = let e = lawful.target_drops_tag 0 (omega arith) in omega (arith, e)

-- a run whose words are 0 but for its head, which isn't a reference
pub zero_summed : (f : Layout) → IsLawful f → (words : List ℕ) (zones : ℕ) (r : Run)
    → (IsTrue (f.is_reference (slice_index words r.from) 0) → 0 < f.target (slice_index words (r.from + 0)) → ⊥)
    → ((k : ℕ) → 0 < k → k < r.count → slice_index words (r.from + k) ≡ 0) → IsRunSummed f words zones r
zero_summed f lawful words zones r head zeros zero few reference some = absurd (head reference some)
zero_summed f lawful words zones r head zeros (suc k) few reference some =
    let none : f.target (slice_index words (r.from + suc k)) ≡ 0 = ap f.target (zeros (suc k) (omega arith) few) ∙ null_target f lawful in
    absurd (omega (arith, some, none))

-- ---- a run more

-- a run was there, in a segment that is held still, with its zones
pub record StaysHeld (s after : SegsState) (r : Run) : Type 0 where
  pub segment : Segment
  pub some : 0 < r.count
  pub over : segment_over s.segments (address_of_word r.from) ≡ Some segment
  pub over_after : segment_over after.segments (address_of_word r.from) ≡ Some segment
  pub zones : summary_at after segment.base ≡ summary_at s segment.base

module _ {F : Type 0} (layout : F → Layout) (formats : List (Option (Policy F))) (s after : SegsState)
    (summed : AreWordsSummed layout formats s) (new : Run) (high : ℕ) (covered : after.covered ≡ with_run new s.covered)
    (ascending : IsAscending 0 high (with_run new s.covered)) (sized : length after.summaries ≡ after.grains + 1)
    (others : (n : ℕ) → ((l : ℕ) → l < new.count → n ≢ new.from + l) → slice_index after.words n ≡ slice_index s.words n)
    (stay : (r : Run) → Contains s.covered r → StaysHeld s after r)
    (own : (t : Segment) (format : Policy F) → segment_over after.segments (address_of_word new.from) ≡ Some t
    → slice_get formats t.pool ≡ Some (Some format)
    → IsRunSummed (layout format.format) after.words (summary_at after t.base) new) where
  old_kept : (r : Run) (t : Segment) → Contains s.covered r → segment_over after.segments (address_of_word r.from) ≡ Some t
      → IsRunKept s after r t
  old_kept r t there over =
      let held = stay r there in
      let same : held.segment ≡ t = same_Some held.segment t (sym held.over_after ∙ over) in
      let P : ℕ → Type 0 = λ z. AreZonesOf (summary_at s held.segment.base) z in
      subst (λ (u : Segment). IsRunKept s after r u) same (record {
        covered = there;
        over = held.over;
        zones = subst P (sym held.zones) (λ k h. h);
        some = held.some;
        words = λ k few.
            others (r.from + k) (λ l low is.
            elim (apart_from_put 0 high s.covered new r ascending there) [
              | inl above ↦ absurd (omega (arith, above, low, is))
              | inr below ↦ absurd (omega (arith, below, few, is))
            ]);
      })

  pub new_run_summed : AreWordsSummed layout formats after
  new_run_summed =
      words_summed layout formats s after summed sized (λ r t format there over listed.
      elim (contains_put_cases new r s.covered (subst (λ (rs : List Run). Contains rs r) covered there)) [
        | inl same ↦
            let P : Run → Type 0 = λ q. IsRunSummed (layout format.format) after.words (summary_at after t.base) q in
            let Q : Run → Type 0 = λ q. segment_over after.segments (address_of_word q.from) ≡ Some t in
            inr (subst P same (own t format (subst Q (sym same) over) listed))
        | inr old ↦ inl (old_kept r t old over)
      ])

-- ---- a placement

-- a summary of a held segment stays where a segment is taken
note_stays : (q : Placement) (pool generation : ℕ) (rank : Rank) (limit : ℕ) (ss : List Segment) (notes : List ℕ) → AreAligned ss
    → IsAscending 1 limit (map grains_of_segment (segments_after q pool generation rank ss)) → (t : Segment) → IsAmong t ss
    → slice_index (noted_for q 0 notes) (grain_of t.base) ≡ slice_index notes (grain_of t.base)
note_stays (Place word) pool generation rank limit ss notes aligned up t there = refl
note_stays (NewSegment grain grains) pool generation rank limit ss notes aligned up t there =
    get_or-set_other notes grain (grain_of t.base) 0 0 (new_apart pool generation grain grains rank limit ss aligned up t there)
note_stays (OverLimit committed need limit) pool generation rank high ss notes aligned up t there = refl
note_stays (NoFreeRun need longest) pool generation rank limit ss notes aligned up t there = refl

pub notes_sized : (q : Placement) (notes : List ℕ) → length (noted_for q 0 notes) ≡ length notes
notes_sized (Place word) notes = refl
notes_sized (NewSegment grain grains) notes = length-set notes grain 0
notes_sized (OverLimit committed need limit) notes = refl
notes_sized (NoFreeRun need longest) notes = refl

module _ {F : Type 0} (layout : F → Layout) (past : Past) (h : HeapState F) (w : World) (parts : AreParts layout past h w)
    (laid : HasLayout (w.grains + 1) w) (q : Placement) (pool generation : ℕ) (rank : Rank)
    (aligned_now : AreAligned (segments_after q pool generation rank w.segments))
    (ascending_now : IsAscending 1 (w.grains + 1) (map grains_of_segment (segments_after q pool generation rank w.segments)))
    (after : SegsState) (segments_are : after.segments ≡ segments_after q pool generation rank w.segments)
    (summaries_are : after.summaries ≡ noted_for q 0 h.segs.summaries) where
  abbrev IsAny : (pool : ℕ) → Type 0
  IsAny number = Unit {0}

  pub stays_held : (r : Run) → Contains h.segs.covered r → StaysHeld h.segs after r
  stays_held r covered =
      let home = home_of layout past h w parts laid IsAny (λ o hand some. tt) r covered in
      record {
        segment = home.segment;
        some = home.some;
        over = over_now layout past h w parts laid IsAny (λ o hand some. tt) r covered;
        over_after =
            ap (λ (ss : List Segment). segment_over ss (address_of_word r.from)) segments_are
            ∙ over_same q pool generation rank (w.grains + 1) w.segments h.segs.condemned laid.aligned laid.ascending aligned_now
            ascending_now r.from home.segment (over_home layout past h w parts laid IsAny (λ o hand some. tt) r covered);
        zones =
            ap (λ (notes : List ℕ). slice_index notes (grain_of home.segment.base)) summaries_are
            ∙ note_stays q pool generation rank (w.grains + 1) w.segments h.segs.summaries laid.aligned ascending_now home.segment
            home.held;
      }
