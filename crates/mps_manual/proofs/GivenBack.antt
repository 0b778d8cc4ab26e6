-- The segment in which an address lies, and what is given back of it.
use Rattle.std.proofs.Common.{ℕ, suc, ◌≡◌, ◌≢◌, Bool, true, false, List, [], ◌∷◌, Option, Some, None, option_map, Contains, refl, sym, ap, ◌∙◌, inl, inr, arith}
use Rattle.std.proofs.lemmas.Bool.{cases_Bool, cond-true, cond-false}
use Rattle.mps_base.specs.Address.{word_of}
use Rattle.mps_base.specs.Run.{Run, runs_within}
use Rattle.mps_base.specs.Segment.{Segment, is_in_segment, end_of_segment, segment_over, without_segment}
use Rattle.mps_base.specs.Trail.{Moves, with_move}
use Rattle.mps_base.specs.declared.address.Addr.{Addr}
use Rattle.mps_base.specs.declared.moves.Move.TheVariants.{Unseg}
use Rattle.mps_seg.specs.Segs.{SegsState, IsEmptyAt, IsUsed, base_address}
use Rattle.mps_manual.specs.Manual.{is_none, is_unused, given_back, moves_given_back}

-- the segment in which an address lies begins at a base
pub record Over (ss : List Segment) (at : ℕ) (base : Addr) : Type 0 where
  pub segment : Segment
  pub listed : Contains ss segment
  pub begins : segment.base ≡ base.0
  pub over : segment_over ss at ≡ Some segment

pub found_over : (ss : List Segment) (at : ℕ) (base : Addr) → Some base ≡ option_map base_address (segment_over ss at) → Over ss at base
found_over [] at base is = let never : Some base ≡ None = is in cc
found_over (s ∷ ss) at base is =
    let here : Bool = is_in_segment s at in
    elim (cases_Bool here) [
      | inl has ↦
          let first = cond-true here (Some s) (segment_over ss at) has in
          let both : Some base ≡ Some (base_address s) = is ∙ ap (λ (o : Option Segment). option_map base_address o) first in
          let same : base ≡ base_address s = cc in
          record { segment = s; listed = (0, omega arith, refl); begins = sym (ap (λ (a : Addr). a.0) same); over = first }
      | inr other ↦
          let rest = cond-false here (Some s) (segment_over ss at) other in
          let later = found_over ss at base (is ∙ ap (λ (o : Option Segment). option_map base_address o) rest) in
          record {
            segment = later.segment;
            listed = (suc later.listed.0, omega (arith, later.listed.1), later.listed.2);
            begins = later.begins;
            over = rest ∙ later.over;
          }
    ]

some_left : (rs : List Run) → rs ≢ [] → is_none rs ≡ false
some_left [] some = absurd (some refl)
some_left (r ∷ rs) some = refl

-- what is given back of a segment that is empty, and of one that isn't
module _ (s : SegsState) (at : ℕ) (base : Addr) (moves : Moves) (o : Over s.segments at base) where
  pub is_given : IsEmptyAt s base.0 o.segment
      → record s { segments = without_segment s.segments base.0 } ≡ given_back s (segment_over s.segments at)
  is_given empty =
      let unused : is_unused s.covered o.segment ≡ true = ap (λ (rs : List Run). is_none rs) empty.empty in
      ap (λ (b : ℕ). record s { segments = without_segment s.segments b }) (sym o.begins)
      ∙ sym (cond-true (is_unused s.covered o.segment) (record s { segments = without_segment s.segments o.segment.base }) s unused)
      ∙ ap (λ (t : Option Segment). given_back s t) (sym o.over)

  pub is_told : IsEmptyAt s base.0 o.segment → with_move moves (Unseg base) ≡ moves_given_back s.covered (segment_over s.segments at) moves
  is_told empty =
      let unused : is_unused s.covered o.segment ≡ true = ap (λ (rs : List Run). is_none rs) empty.empty in
      ap (λ (b : ℕ). with_move moves (Unseg (record { 0 = b }))) (sym o.begins)
      ∙ sym (cond-true (is_unused s.covered o.segment) (with_move moves (Unseg (record { 0 = o.segment.base }))) moves unused)
      ∙ ap (λ (t : Option Segment). moves_given_back s.covered t moves) (sym o.over)

  pub none_given : IsUsed s o.segment → s ≡ given_back s (segment_over s.segments at)
  none_given used =
      let some = some_left (runs_within (word_of o.segment.base) (word_of (end_of_segment o.segment)) s.covered) used in
      sym (cond-false (is_unused s.covered o.segment) (record s { segments = without_segment s.segments o.segment.base }) s some)
      ∙ ap (λ (t : Option Segment). given_back s t) (sym o.over)

  pub none_told : IsUsed s o.segment → moves ≡ moves_given_back s.covered (segment_over s.segments at) moves
  none_told used =
      let some = some_left (runs_within (word_of o.segment.base) (word_of (end_of_segment o.segment)) s.covered) used in
      sym (cond-false (is_unused s.covered o.segment) (with_move moves (Unseg (record { 0 = o.segment.base }))) moves some)
      ∙ ap (λ (t : Option Segment). moves_given_back s.covered t moves) (sym o.over)
