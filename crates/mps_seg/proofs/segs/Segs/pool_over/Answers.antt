use Rattle.std.proofs.Common.{◌≡◌, Some, sym, ap, ◌∙◌, arith}
use Rattle.std.proofs.lemmas.List.{get_or_read}
use Rattle.mps_base.specs.Segment.{Segment}
use Rattle.mps_seg.specs.declared.entry.Entry.TheVariants.{Free, First}
use Rattle.mps_seg.proofs.FirstGrain.{entry_over}
use Rattle.mps_seg.proofs.HeldGrain.{in_table}
use Rattle.mps_seg.proofs.segs.Segs.pool_over.Goals as goal

pub index-requires : goal.index-requires
index-requires c =
    let s = c.self.inside in
    let within = in_table s c.args.self.now c.args.at.0 c.self.invariant c.self.view_is c.held_grain.result c.held_grain.ensures in
    omega (arith, within, s.table.ok.0)

pub unreachable-requires : goal.unreachable-requires
unreachable-requires c =
    let s = c.self.inside in
    let over = entry_over s c.args.self.now c.args.at.0 c.held_grain.result c.self.view_is c.held_grain.ensures in
    let t = over.0 in
    let read = get_or_read s.table.items c.held_grain.result c.index.result.now over.2.within c.index.ensures Free ∙ over.2.is in
    let never : Free ≡ First t.grains t.pool t.generation t.rank = sym c.in_default.is ∙ read in
    cc

pub returns : goal.returns
returns c =
    let s = c.self.inside in
    let over = entry_over s c.args.self.now c.args.at.0 c.held_grain.result c.self.view_is c.held_grain.ensures in
    let t = over.0 in
    let read = get_or_read s.table.items c.held_grain.result c.index.result.now over.2.within c.index.ensures Free ∙ over.2.is in
    let both : First c.in-First.grains c.in-First.pool c.in-First.generation c.in-First.rank ≡ First t.grains t.pool t.generation t.rank =
    sym c.in-First.is ∙ read
    in
    let here : c.in-First.pool ≡ t.pool = cc in
    record {
      pool = λ u found.
          let both : Some t ≡ Some u = sym over.1 ∙ found in
          let same : t ≡ u = cc in
          here ∙ ap (λ (x : Segment). x.pool) same;
    }
