-- A block that stays where it is notes nothing.
use Rattle.std.proofs.Common.{ℕ, ◌==◌, ◌≡◌, Option, Some, None, List, bit_or, refl, sym, ap, subst}
use Rattle.std.proofs.lemmas.Bool.{cond-true, eq-eqb}
use Rattle.std.specs.Prelude.{slice_index, slice_set}
use Rattle.std.specs.Int.Bits.{or_self}
use Rattle.mps_base.specs.Address.{Address}
use Rattle.mps_format.specs.Layout.{Layout}
use Rattle.mps_seg.specs.Segs.{SegsState}
use Rattle.mps_seg.specs.Collecting.{first_grain_over}
use Rattle.mps_trace.specs.Noting.{summaries_of_copy, zones_of_block, copy_noted}

-- its segment has all zones that it has
same_summaries : (summaries : List ℕ) (over : Option ℕ) (zones : ℕ) → summaries_of_copy summaries over over zones ≡ summaries
same_summaries summaries None zones = refl
same_summaries summaries (Some grain) zones =
    let known = slice_index summaries grain in
    cond-true (bit_or known known == known) summaries (slice_set summaries grain (bit_or known zones))
    (eq-eqb (bit_or known known) known (or_self known))

pub nothing_noted : (f : Layout) (s : SegsState) (from to : Address) → from ≡ to → s ≡ copy_noted f s from to
nothing_noted f s from to same =
    let P : Address → Type 0 = λ at. s ≡ copy_noted f s from at in
    let Q : List ℕ → SegsState = λ noted. record s { summaries = noted } in
    subst P same (ap Q (sym (same_summaries s.summaries (first_grain_over s from) (zones_of_block f s.words from))))
