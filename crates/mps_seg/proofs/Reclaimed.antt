-- A segment that is reclaimed: its words, and what is known once its blocks that weren't kept are freed.
use Rattle.std.proofs.Common.{ℕ, ◌+◌, ◌*◌, ◌<◌, ◌≤◌, ◌≡◌, List, [], ◌∷◌, length, Contains, Some, refl, sym, ap, ◌∙◌, subst, inl, inr, arith}
use Rattle.std.proofs.lemmas.List.Filters.{length-filter_both}
use Rattle.std.proofs.lemmas.Option.{same_Some}
use Rattle.std.specs.Prelude.{not}
use Rattle.mps_base.specs.Address.{Address, Word, word_of, words_of_grain}
use Rattle.mps_base.specs.Run.{Run, IsAscending, runs_within}
use Rattle.mps_base.specs.Segment.{Segment, segment_over, end_of_segment, without_segment}
use Rattle.mps_base.specs.Trail.{Moves}
use Rattle.mps_seg.specs.Segs.{SegsState}
use Rattle.mps_seg.specs.Collecting.{info_of}
use Rattle.mps_seg.specs.declared.segment_info.SegmentInfo.{SegmentInfo}
use Rattle.mps_seg.specs.Reclaiming.{IsSpan, CanReclaim, is_lost, lost_between, lost_of, freed_in, moves_freed_in}
use Rattle.mps_seg.proofs.Found.{over_is_there}
use Rattle.mps_seg.proofs.Lost.{span_after, segments_after, spare_after}
use Rattle.mps_seg.proofs.Within.{within_here, within_later, sides}

-- ---- what it needs

within_few : (low high : Word) (rs : List Run) → length (runs_within low high rs) ≤ length rs
within_few low high [] = omega arith
within_few low high (r ∷ rs) =
    let rest = within_few low high rs in
    elim (sides low high r.from) [
      | inl (from, under) ↦ omega (arith, rest, ap (λ (xs : List Run). length xs) (within_here low high r rs from under))
      | inr out ↦ omega (arith, rest, ap (λ (xs : List Run). length xs) (within_later low high r rs out))
    ]

lost_few : (low high : Word) (s : SegsState) → length (lost_between low high s) ≤ length s.blocks
lost_few low high s =
    let both = length-filter_both (is_lost s) (λ r. not (is_lost s r)) (λ r. refl) (runs_within low high s.blocks) in
    omega (arith, both, within_few low high s.blocks)

-- there is room for a move for each block
pub with_room_for_all : (s : SegsState) (base : Address) (spare : ℕ) (t : Segment) → segment_over s.segments base ≡ Some t → t.base ≡ base
    → word_of (end_of_segment t) ≤ words_of_grain * (s.grains + 1) → IsAscending 0 (words_of_grain * (s.grains + 1)) s.blocks
    → length s.blocks < spare → CanReclaim s base spare
with_room_for_all s base spare t over begins inside ordered room = record {
  segment = t;
  over = over;
  begins = begins;
  inside = inside;
  ordered = ordered;
  room = omega (arith, room, lost_few (word_of base) (word_of (end_of_segment t)) s);
}

-- ---- what is known of it

module _ (s : SegsState) (base : Address) (spare : ℕ) (can : CanReclaim s base spare) where
  pub listed : Contains s.segments can.segment
  listed = over_is_there s.segments base can.segment can.over

  pub is_mine : (t : Segment) → segment_over s.segments base ≡ Some t → can.segment ≡ t
  is_mine t over = same_Some can.segment t (sym can.over ∙ over)

  pub lost_from_base : lost_between (word_of base) (word_of (end_of_segment can.segment)) s ≡ lost_of s can.segment
  lost_from_base = ap (λ (low : Address). lost_between (word_of low) (word_of (end_of_segment can.segment)) s) (sym can.begins)

  -- the segment has as many grains as it is said to have
  pub end_fits : (info : SegmentInfo) (n : ℕ) → ((t : Segment) → Contains s.segments t → t.base ≡ base → info ≡ info_of s t)
      → n ≡ info.grains → word_of (base + 4096 * n) ≡ word_of (end_of_segment can.segment)
  end_fits info n known counted =
      let grains = counted ∙ ap (λ (i : SegmentInfo). i.grains) (known can.segment listed can.begins) in
      let same : base + 4096 * n ≡ end_of_segment can.segment = omega (arith, can.begins, grains) in
      ap (λ (a : ℕ). word_of a) same

  module _ (end : Address) (fits : word_of end ≡ word_of (end_of_segment can.segment)) where
    pub span_of : IsSpan s base end
    span_of = record {
      segment = can.segment;
      over = can.over;
      begins = can.begins;
      ends = sym fits;
      inside = omega (arith, can.inside, fits);
      ordered = can.ordered;
    }

  -- there is room for one move more
  pub room_left : (moves m : Moves) → moves.spare ≡ spare → m ≡ moves_freed_in s can.segment moves → 0 < m.spare
  room_left moves m same is =
      omega (
        arith,
        same,
        ap (λ (x : Moves). x.spare) is,
        spare_after (lost_of s can.segment) moves,
        can.room,
        ap (λ (xs : List Run). length xs) lost_from_base,
      )

  module _ (x : SegsState) (freed : x ≡ freed_in s can.segment) where
    pub still_listed : Contains x.segments can.segment
    still_listed =
        let P : List Segment → Type 0 = λ ss. Contains ss can.segment in
        subst P (sym (ap (λ (y : SegsState). y.segments) freed ∙ segments_after (lost_of s can.segment) s)) listed

    pub still_span : (end : Address) → word_of end ≡ word_of (end_of_segment can.segment) → IsSpan x base end
    still_span end fits =
        let P : SegsState → Type 0 = λ y. IsSpan y base end in
        subst P (sym freed) (span_after (lost_of s can.segment) s base end (span_of end fits))

    pub given_then : (y : SegsState) → y ≡ record x { segments = without_segment x.segments base }
        → y ≡ record (freed_in s can.segment) { segments = without_segment s.segments base }
    given_then y is =
        let Q : SegsState → SegsState = λ z. record z { segments = without_segment z.segments base } in
        let R : List Segment → SegsState = λ ss. record (freed_in s can.segment) { segments = without_segment ss base } in
        is ∙ ap Q freed ∙ ap R (segments_after (lost_of s can.segment) s)
