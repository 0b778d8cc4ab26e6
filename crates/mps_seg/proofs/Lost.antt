-- What stays where blocks that weren't kept are freed.
use Rattle.std.proofs.Common.{◌+◌, ◌-◌, ◌*◌, ◌≡◌, List, [], ◌∷◌, length, refl, ◌∙◌, arith}
use Rattle.mps_base.specs.Address.{Address, words_of_grain}
use Rattle.mps_base.specs.Run.{Run}
use Rattle.mps_base.proofs.Runs.{IsAscending-without_run}
use Rattle.mps_base.specs.Trail.{Moves, with_move}
use Rattle.mps_base.specs.declared.moves.Move.TheVariants.{Free}
use Rattle.mps_seg.specs.Segs.{SegsState, at_word}
use Rattle.mps_seg.specs.Reclaiming.{without_block, without_blocks, moves_freed, IsSpan}

-- ---- what stays

pub span_without : (s : SegsState) (r : Run) (base end : Address) → IsSpan s base end → IsSpan (without_block r s) base end
span_without s r base end span = record {
  segment = span.segment;
  over = span.over;
  begins = span.begins;
  ends = span.ends;
  inside = span.inside;
  ordered = IsAscending-without_run 0 (words_of_grain * (s.grains + 1)) r.from s.blocks span.ordered;
}

pub span_after : (rs : List Run) (s : SegsState) (base end : Address) → IsSpan s base end → IsSpan (without_blocks rs s) base end
span_after [] s base end span = span
span_after (r ∷ rs) s base end span = span_after rs (without_block r s) base end (span_without s r base end span)

pub segments_after : (rs : List Run) (s : SegsState) → (without_blocks rs s).segments ≡ s.segments
segments_after [] s = refl
segments_after (r ∷ rs) s = segments_after rs (without_block r s)

pub words_after : (rs : List Run) (s : SegsState) → (without_blocks rs s).words ≡ s.words
words_after [] s = refl
words_after (r ∷ rs) s = words_after rs (without_block r s)

pub spare_after : (rs : List Run) (moves : Moves) → (moves_freed rs moves).spare ≡ moves.spare - length rs
spare_after [] moves = omega arith
spare_after (r ∷ rs) moves = spare_after rs (with_move moves (Free (at_word r.from))) ∙ omega arith
