-- Segments of which only words were written.
use Rattle.std.proofs.Common.{◌≡◌, sym, ap, ◌∙◌, subst}
use Rattle.mps_base.specs.Address.{Address}
use Rattle.mps_seg.specs.Segs.{SegsState}
use Rattle.mps_amc.specs.Reclaiming.{IsSpan}

pub words_written : (s s' s'' : SegsState) → s' ≡ record s { words = s'.words } → s'' ≡ record s' { words = s''.words }
    → s'' ≡ record s { words = s''.words }
words_written s s' s'' first second = second ∙ ap (λ (x : SegsState). let y : SegsState = record x { words = s''.words } in y) first

pub blocks_written : (s s' : SegsState) → s' ≡ record s { words = s'.words } → s'.blocks ≡ s.blocks
blocks_written s s' written = ap (λ (x : SegsState). x.blocks) written

pub span_written : (s s' : SegsState) (base end : Address) → s' ≡ record s { words = s'.words } → IsSpan s base end → IsSpan s' base end
span_written s s' base end written span =
    let P : SegsState → Type 0 = λ x. IsSpan x base end in
    let there : IsSpan (record s { words = s'.words }) base end = record {
      segment = span.segment;
      over = span.over;
      begins = span.begins;
      ends = span.ends;
      inside = span.inside;
      ordered = span.ordered;
    } in
    subst P (sym written) there
