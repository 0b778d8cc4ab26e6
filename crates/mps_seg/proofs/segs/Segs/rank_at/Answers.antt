use Rattle.std.proofs.Common.{◌≡◌, Option, sym, ap, ◌∙◌}
use Rattle.std.proofs.lemmas.List.{get_or_read}
use Rattle.mps_base.specs.Segment.{Segment}
use Rattle.mps_seg.specs.Collecting.{rank_of}
use Rattle.mps_seg.specs.declared.entry.Entry.TheVariants.{Free, First}
use Rattle.mps_seg.proofs.FirstGrain.{entry_over}
use Rattle.mps_seg.proofs.segs.Segs.rank_at.Goals as goal

pub returns-in-First : goal.returns-in-First
returns-in-First c =
    let s = c.self.inside in
    let over = entry_over s c.args.self.now c.args.at.0 c.in-Some.grain c.self.view_is c.in-Some.ensures.value in
    let t = over.0 in
    let read = get_or_read s.table.items c.in-Some.grain c.index.result.now over.2.within c.index.ensures Free ∙ over.2.is in
    let both : First c.in-First.grains c.in-First.pool c.in-First.generation c.in-First.rank ≡ First t.grains t.pool t.generation t.rank =
    sym c.in-First.is ∙ read
    in
    let same : c.in-First.rank ≡ t.rank = cc in
    same ∙ ap (λ (o : Option Segment). rank_of o) (sym over.1)

pub returns-in-Free : goal.returns-in-Free
returns-in-Free c =
    let s = c.self.inside in
    let over = entry_over s c.args.self.now c.args.at.0 c.in-Some.grain c.self.view_is c.in-Some.ensures.value in
    let t = over.0 in
    let read = get_or_read s.table.items c.in-Some.grain c.index.result.now over.2.within c.index.ensures Free ∙ over.2.is in
    let never : Free ≡ First t.grains t.pool t.generation t.rank = sym c.in-Free.is ∙ read in
    cc
