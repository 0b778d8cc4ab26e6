use Rattle.std.proofs.Common.{◌<◌, length, refl, sym, subst, ap, ◌∙◌}
use Rattle.mps_amc.specs.Amc.{AmcState, with_tail}
use Rattle.mps_amc.proofs.Tails.{item_written}
use Rattle.mps_amc.proofs.amc.Amc.set_tail.Goals as goal

pub returns : goal.returns
returns c =
    let old = c.self.inside in
    let P : AmcState → Type 0 = λ s. c.args.pool < length s.tails in
    ap (λ tails. record { tails = tails })
    (item_written (λ row. row.items) old.tails.items c.args.pool c.args.generation c.args.tail c.index_mut.result.now _
    (subst P (sym c.self.view_is) c.requires.pool_listed) c.index_mut.ensures.value refl)
    ∙ ap (λ (s : AmcState). with_tail s c.args.pool c.args.generation c.args.tail) c.self.view_is
