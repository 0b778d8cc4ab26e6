use Rattle.std.proofs.Common.{ℕ, List, ap, map, ◌∙◌}
use Rattle.std.specs.Option.{option_map}
use Rattle.mps_root.specs.State.{RootsState, without, without_key}
use Rattle.mps_root.specs.contracts.roots.Roots.{the_view}
use Rattle.mps_root.proofs.Rows.{row_dropped}
use Rattle.mps_root.proofs.roots.Roots.drop_table.Goals as goal

pub returns : goal.returns
returns c =
    let old = c.self.inside in
    let rows = map (option_map (λ slots. slots.items)) c.remove.new.self.slots in
    ap (λ (order : List ℕ). record (the_view old) { tables = rows; order = order }) c.forget_key.ensures
    ∙ ap (λ tables. record (the_view old) { tables = tables; order = without_key old.order.items c.args.key })
    (ap (λ slots. map (option_map (λ row. row.items)) slots) c.remove.ensures.slots
    ∙ row_dropped (λ row. row.items) old.tables.slots c.args.key)
    ∙ ap (λ (s : RootsState). record s { tables = without s.tables c.args.key; order = without_key s.order c.args.key }) c.self.view_is
