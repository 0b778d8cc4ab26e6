use Rattle.std.proofs.Common.{ℕ, eqb, Bool, List, sym, ap, ◌∙◌, arith}
use Rattle.mps_bits.specs.Row.{bit_in}
use Rattle.mps_bits.specs.Table.{bit}
use Rattle.mps_bits.proofs.Tables.{bit-table_of, length_of_table}
use Rattle.mps_bits.proofs.bits.Bits.test.Goals as goal

pub is_set-requires : goal.is_set-requires
is_set-requires c =
    let size = length_of_table c.self.inside.words.items c.self.inside.len c.args.self.now c.self.view_is in
    omega (arith, size, c.requires, c.deref.ensures.len)

pub returns : goal.returns
returns c =
    let size = length_of_table c.self.inside.words.items c.self.inside.len c.args.self.now c.self.view_is in
    let words = c.deref.ensures.value in
    c.is_set.ensures ∙ ap (λ (ws : List ℕ). eqb (bit_in ws c.args.at) 1) words
    ∙ sym (bit-table_of c.self.inside.words.items c.self.inside.len c.args.at (omega (arith, size, c.requires)))
    ∙ ap (λ (t : List Bool). bit t c.args.at) c.self.view_is
