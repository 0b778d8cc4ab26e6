use Rattle.std.proofs.Common.{ℕ, Bool, List, ap, ◌∙◌, arith}
use Rattle.mps_bits.specs.Table.{table_of, count_set}
use Rattle.mps_bits.proofs.Tables.{length_of_table, count_set_is}
use Rattle.mps_bits.proofs.bits.Bits.count_set.Goals as goal

pub count_set-requires : goal.count_set-requires
count_set-requires c =
    let size = length_of_table c.self.inside.words.items c.self.inside.len c.args.self.now c.self.view_is in
    omega (arith, size, c.requires.in_table, c.deref.ensures.len)

pub returns : goal.returns
returns c =
    let size = length_of_table c.self.inside.words.items c.self.inside.len c.args.self.now c.self.view_is in
    c.count_set.ensures
    ∙ count_set_is c.deref.result.now c.self.inside.len c.args.from c.args.to c.requires.ordered
    (omega (arith, size, c.requires.in_table))
    ∙ ap (λ (ws : List ℕ). count_set (table_of ws c.self.inside.len) c.args.from c.args.to) c.deref.ensures.value
    ∙ ap (λ (t : List Bool). count_set t c.args.from c.args.to) c.self.view_is
