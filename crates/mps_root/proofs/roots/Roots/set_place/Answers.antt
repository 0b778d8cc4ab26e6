use Rattle.std.proofs.Common.{◌<◌, length, refl, sym, subst, ap, ◌∙◌}
use Rattle.mps_root.specs.State.{RootsState, with_place}
use Rattle.mps_root.specs.contracts.roots.Roots.{the_view}
use Rattle.mps_root.proofs.Rows.{place_written}
use Rattle.mps_root.proofs.roots.Roots.set_place.Goals as goal

pub returns : goal.returns
returns c =
    let old = c.self.inside in
    let P : RootsState → Type 0 = λ s. c.args.number < length s.blocks in
    ap (λ blocks. record (the_view old) { blocks = blocks })
    (place_written (λ places. places.items) old.blocks.items c.args.number c.args.index c.args.address c.index_mut.result.now _
    (subst P (sym c.self.view_is) c.requires.table) c.index_mut.ensures.value refl)
    ∙ ap (λ (s : RootsState). record s { blocks = with_place s.blocks c.args.number c.args.index c.args.address }) c.self.view_is
