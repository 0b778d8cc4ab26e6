use Rattle.std.proofs.Common.{ap, map, ◌∙◌}
use Rattle.std.specs.Option.{option_map}
use Rattle.mps_root.specs.State.{RootsState, without}
use Rattle.mps_root.specs.contracts.roots.Roots.{the_view}
use Rattle.mps_root.proofs.Rows.{row_dropped}
use Rattle.mps_root.proofs.roots.Roots.drop_area.Goals as goal

pub returns : goal.returns
returns c =
    let old = c.self.inside in
    ap (λ areas. record (the_view old) { areas = areas })
    (ap (λ slots. map (option_map (λ words. words.items)) slots) c.remove.ensures.slots
    ∙ row_dropped (λ words. words.items) old.areas.slots c.args.key)
    ∙ ap (λ (s : RootsState). record s { areas = without s.areas c.args.key }) c.self.view_is
