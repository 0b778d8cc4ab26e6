use Rattle.std.proofs.Common.{ℕ, List, Option, option_map, drop, sym, ap, ◌∙◌}
use Rattle.mps_seg.specs.Segs.{SegsState, base_address, segment_from}
use Rattle.mps_seg.specs.Table.{first_entry}
use Rattle.mps_seg.specs.declared.entry.Entry.{Entry}
use Rattle.mps_seg.proofs.NextSegment.{next_is}
use Rattle.mps_seg.proofs.SegmentOver.{base_of_grain}
use Rattle.mps_seg.proofs.segs.Segs.next_segment.Goals as goal

pub returns-in_err-next : goal.returns-in_err-next
returns-in_err-next c =
    let table = c.self.inside.table.items in
    let start = c.grain_from-start.result in
    let answer = c.first_entry_from.ensures.value ∙ ap (λ (es : List Entry). first_entry start (drop start es)) c.deref.ensures.value in
    c.from_residual.ensures ∙ ap (λ (o : Option ℕ). option_map base_of_grain o) (sym c.in_err-next.was ∙ answer)
    ∙ next_is table c.args.from.0 start c.grain_from-start.ensures.sound c.grain_from-start.ensures.lowest
    ∙ ap (λ (st : SegsState). option_map base_address (segment_from st.segments c.args.from.0)) c.self.view_is

pub returns : goal.returns
returns c =
    let table = c.self.inside.table.items in
    let start = c.grain_from-start.result in
    let answer = c.first_entry_from.ensures.value ∙ ap (λ (es : List Entry). first_entry start (drop start es)) c.deref.ensures.value in
    ap (λ (o : Option ℕ). option_map base_of_grain o) (sym c.in_ok-next.was ∙ answer)
    ∙ next_is table c.args.from.0 start c.grain_from-start.ensures.sound c.grain_from-start.ensures.lowest
    ∙ ap (λ (st : SegsState). option_map base_address (segment_from st.segments c.args.from.0)) c.self.view_is
