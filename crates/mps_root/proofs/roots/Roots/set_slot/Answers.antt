use Rattle.std.proofs.Common.{refl, ap, ◌∙◌}
use Rattle.mps_root.specs.State.{RootsState, with_item}
use Rattle.mps_root.proofs.Rows.{row_written}
use Rattle.mps_root.proofs.roots.Roots.set_slot.Goals as goal

pub returns : goal.returns
returns c =
    let old = c.self.inside in
    ap (λ tables. record (Rattle.mps_root.specs.contracts.roots.Roots.the_view old) { tables = tables })
    (row_written (λ slots. slots.items) old.tables.slots c.args.key c.args.index c.args.address c.index_mut.result.now _
    c.index_mut.ensures.value refl)
    ∙ ap (λ (s : RootsState). record s { tables = with_item s.tables c.args.key c.args.index c.args.address }) c.self.view_is
