use Rattle.std.proofs.Common.{refl, ap, ◌∙◌}
use Rattle.mps_root.specs.State.{RootsState, with_item}
use Rattle.mps_root.proofs.Rows.{row_written}
use Rattle.mps_root.proofs.roots.Roots.set_word.Goals as goal

pub returns : goal.returns
returns c =
    let old = c.self.inside in
    ap (λ areas. record (Rattle.mps_root.specs.contracts.roots.Roots.the_view old) { areas = areas })
    (row_written (λ words. words.items) old.areas.slots c.args.key c.args.index c.args.word c.index_mut.result.now _
    c.index_mut.ensures.value refl)
    ∙ ap (λ (s : RootsState). record s { areas = with_item s.areas c.args.key c.args.index c.args.word }) c.self.view_is
