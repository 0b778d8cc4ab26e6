use Rattle.std.proofs.Common.{ℕ, Bool, List, ap, ◌∙◌, arith}
use Rattle.mps_bits.specs.Table.{table_of, next_set_below}
use Rattle.mps_bits.proofs.Tables.{length_of_table, next_set_below_is}
use Rattle.mps_bits.proofs.bits.Bits.next_set_below.Goals as goal

pub lowest_set-requires : goal.lowest_set-requires
lowest_set-requires c =
    let size = length_of_table c.self.inside.words.items c.self.inside.len c.args.self.now c.self.view_is in
    omega (arith, size, c.requires, c.deref.ensures.len)

pub returns : goal.returns
returns c =
    let size = length_of_table c.self.inside.words.items c.self.inside.len c.args.self.now c.self.view_is in
    next_set_below_is c.deref.result.now c.self.inside.len c.args.from c.args.to c.lowest_set.result (omega (arith, size, c.requires))
    c.lowest_set.ensures
    ∙ ap (λ (ws : List ℕ). next_set_below (table_of ws c.self.inside.len) c.args.from c.args.to) c.deref.ensures.value
    ∙ ap (λ (t : List Bool). next_set_below t c.args.from c.args.to) c.self.view_is
