-- The first grain of the segment in which an address lies that lies in one, and the entries of the tables for it.
use Rattle.std.proofs.Common.{ℕ, ◌<◌, ◌≡◌, ◌≢◌, length, get_or, inl, inr, arith, Option, Some, None, option_map}
use Rattle.std.proofs.lemmas.Bool.{cases_lt, cases_eq}
use Rattle.mps_base.specs.Address.{grain_of}
use Rattle.mps_base.specs.Segment.{Segment, segment_over}
use Rattle.mps_seg.specs.Segs.{SegsState, base_address}
use Rattle.mps_seg.specs.declared.segs.Segs.TheInside.{Inside}
use Rattle.mps_seg.proofs.FirstGrain.{first_of, first_grain_is, entry_over}
use Rattle.mps_seg.proofs.Seen.{seen_by, IsSoundInside}
use Rattle.mps_seg.proofs.SegmentOver.{no_segment_past, segment_of_first}

-- an address in a segment has one over it
over_some : (o : Option Segment) (t : Segment) → o ≡ Some t → None ≢ option_map base_address o
over_some None t is none = let never : None ≡ Some t = is in cc
over_some (Some u) t is none = let never : None ≡ Some (base_address u) = none in cc

module _ (s : Inside) (seen : SegsState) (at : ℕ) (sound : IsSoundInside s) (is : seen_by s ≡ seen) where
  pub grain_within : (t : Segment) → segment_over seen.segments at ≡ Some t → grain_of at < length s.firsts.items
  grain_within t over =
      elim (cases_lt (grain_of at) (length s.firsts.items)) [
        | inl within ↦ within
        | inr past ↦ absurd (over_some (segment_over seen.segments at) t over (no_segment_past s seen at sound is past))
      ]

  pub held_grain_is : (t : Segment) (x : ℕ) → segment_over seen.segments at ≡ Some t
      → x ≡ get_or s.firsts.items (grain_of at) x → Some x ≡ first_of (segment_over seen.segments at)
  held_grain_is t x over given =
      let first = segment_of_first s seen at sound is x (grain_within t over) given in
      elim (cases_eq x 0) [
        | inl none ↦ absurd (over_some (segment_over seen.segments at) t over (first.0 none))
        | inr some ↦ first_grain_is (segment_over seen.segments at) x (first.1 some)
      ]

  -- the tables have an entry for that grain
  pub in_table : (grain : ℕ) → Some grain ≡ first_of (segment_over seen.segments at) → grain < length s.table.items
  in_table grain given = (entry_over s seen at grain is given).2.within

  pub in_summaries : (grain : ℕ) → Some grain ≡ first_of (segment_over seen.segments at) → grain < length s.summaries.items
  in_summaries grain given = omega (arith, in_table grain given, sound.0.size, sound.2.summaries_size)
