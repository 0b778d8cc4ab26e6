-- The condemned segment over an address, and what a fix asks of it.
use Rattle.std.proofs.Common.{◌≡◌, true, false, Option, Some, None, refl, ap, ◌∙◌, inl, inr}
use Rattle.std.proofs.lemmas.Bool.{cases_Bool, cond-true, cond-false}
use Rattle.mps_base.specs.Address.{Address, grain_of}
use Rattle.mps_base.specs.Segment.{Segment, segment_over}
use Rattle.mps_bits.specs.Table.{bit}
use Rattle.mps_seg.specs.Segs.{SegsState}
use Rattle.mps_seg.specs.declared.entry.CondemnedSegment.{CondemnedSegment}
use Rattle.mps_seg.specs.Collecting.{bit_of, owner_of, owner_if_condemned, asked_of, asked_if_condemned, condemned_owner_at, is_condemned_at}
use Rattle.mps_seg.proofs.FirstGrain.{first_of}

module _ (s : SegsState) (at : Address) where
  pub one_condemned : (t : Segment) → segment_over s.segments at ≡ Some t → bit s.condemned (grain_of t.base) ≡ true
      → (condemned_owner_at s at ≡ Some (owner_of t)) × (is_condemned_at s at ≡ true)
  one_condemned t over condemned = (
    ap (λ (o : Option Segment). owner_if_condemned s o) over
        ∙ cond-true (bit s.condemned (grain_of t.base)) (Some (owner_of t)) None condemned,
    ap (λ (o : Option Segment). bit_of s.condemned (first_of o)) over ∙ condemned,
  )

-- the same of what a fix asks of the segment over an address
module _ (s : SegsState) (at : Address) where
  pub none_asked : None ≡ asked_if_condemned s (segment_over s.segments at)
      → (condemned_owner_at s at ≡ None) × (is_condemned_at s at ≡ false)
  none_asked is = go (segment_over s.segments at) refl is
    where
      go : (o : Option Segment) → segment_over s.segments at ≡ o → None ≡ asked_if_condemned s o
          → (condemned_owner_at s at ≡ None) × (is_condemned_at s at ≡ false)
      go None over asked = (
        ap (λ (x : Option Segment). owner_if_condemned s x) over,
        ap (λ (x : Option Segment). bit_of s.condemned (first_of x)) over,
      )
      go (Some t) over asked =
          elim (cases_Bool (bit s.condemned (grain_of t.base))) [
            | inl set ↦
                let never : None ≡ Some (asked_of t) =
                asked ∙ cond-true (bit s.condemned (grain_of t.base)) (Some (asked_of t)) None set
                in
                cc
            | inr clear ↦ (
              ap (λ (x : Option Segment). owner_if_condemned s x) over
                  ∙ cond-false (bit s.condemned (grain_of t.base)) (Some (owner_of t)) None clear,
              ap (λ (x : Option Segment). bit_of s.condemned (first_of x)) over ∙ clear,
            )
          ]

  -- a condemned segment over an address, of which this is asked
  pub record IsAsked (asked : CondemnedSegment) : Type 0 where
    pub segment : Segment
    pub over : segment_over s.segments at ≡ Some segment
    pub is : asked ≡ asked_of segment
    pub condemned : bit s.condemned (grain_of segment.base) ≡ true

  pub some_asked : (asked : CondemnedSegment) → Some asked ≡ asked_if_condemned s (segment_over s.segments at) → IsAsked asked
  some_asked asked is = go (segment_over s.segments at) refl is
    where
      go : (o : Option Segment) → segment_over s.segments at ≡ o → Some asked ≡ asked_if_condemned s o → IsAsked asked
      go None over same = let never : Some asked ≡ None = same in cc
      go (Some t) over same =
          elim (cases_Bool (bit s.condemned (grain_of t.base))) [
            | inl set ↦
                let both : Some asked ≡ Some (asked_of t) =
                same ∙ cond-true (bit s.condemned (grain_of t.base)) (Some (asked_of t)) None set
                in
                let one : asked ≡ asked_of t = cc in
                record { segment = t; over = over; is = one; condemned = set }
            | inr clear ↦
                let never : Some asked ≡ None =
                same ∙ cond-false (bit s.condemned (grain_of t.base)) (Some (asked_of t)) None clear
                in
                cc
          ]
