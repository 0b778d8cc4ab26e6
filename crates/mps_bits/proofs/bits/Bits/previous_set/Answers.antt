use Rattle.std.proofs.Common.{ℕ, Bool, List, ap, ◌∙◌, arith}
use Rattle.mps_bits.specs.Table.{table_of, previous_set}
use Rattle.mps_bits.proofs.Tables.{length_of_table, previous_set_is}
use Rattle.mps_bits.proofs.bits.Bits.previous_set.Goals as goal

pub overflow_add-at : goal.overflow_add-at
overflow_add-at c =
    let size = length_of_table c.self.inside.words.items c.self.inside.len c.args.self.now c.self.view_is in
    omega (arith, size, c.requires)

pub highest_set-requires : goal.highest_set-requires
highest_set-requires c =
    let size = length_of_table c.self.inside.words.items c.self.inside.len c.args.self.now c.self.view_is in
    omega (arith, size, c.requires, c.deref.ensures.len)

pub returns : goal.returns
returns c =
    let size = length_of_table c.self.inside.words.items c.self.inside.len c.args.self.now c.self.view_is in
    previous_set_is c.deref.result.now c.self.inside.len c.args.at c.highest_set.result (omega (arith, size, c.requires))
    c.highest_set.ensures
    ∙ ap (λ (ws : List ℕ). previous_set (table_of ws c.self.inside.len) c.args.at) c.deref.ensures.value
    ∙ ap (λ (t : List Bool). previous_set t c.args.at) c.self.view_is
