use Rattle.std.proofs.Common.{ℕ, Bool, List, set, sym, ap, ◌∙◌, arith}
use Rattle.std.proofs.lemmas.List.{with_items_is}
use Rattle.std.specs.Vec.{with_items}
use Rattle.mps_bits.specs.Table.{table_of}
use Rattle.mps_bits.proofs.Tables.{length-table_of, length_of_table, table_set}
use Rattle.mps_bits.proofs.bits.Bits.write.Goals as goal

pub write_bit-requires : goal.write_bit-requires
write_bit-requires c =
    let size = length_of_table c.self.inside.words.items c.self.inside.len c.args.self.now c.self.view_is in
    omega (arith, size, c.requires, c.deref_mut.ensures.len)

pub returns-clause-state : goal.returns-clause-state
returns-clause-state c =
    let size = length_of_table c.self.inside.words.items c.self.inside.len c.args.self.now c.self.view_is in
    let old = c.deref_mut.ensures.value in
    let new = with_items_is c.self.inside.words c.write_bit.new.words (omega (arith, c.write_bit.auto.words, c.deref_mut.ensures.len)) in
    ap (λ (ws : List ℕ). table_of ws c.self.inside.len) new
    ∙ table_set c.deref_mut.result.now c.write_bit.new.words c.self.inside.len c.args.at c.args.value (omega (arith, size, c.requires))
    c.write_bit.ensures.same c.write_bit.ensures.unchanged
    ∙ ap (λ (ws : List ℕ). set (table_of ws c.self.inside.len) c.args.at c.args.value) old
    ∙ ap (λ (t : List Bool). set t c.args.at c.args.value) c.self.view_is

pub returns-clause-len : goal.returns-clause-len
returns-clause-len c =
    length-table_of (with_items c.self.inside.words c.write_bit.new.words).items c.self.inside.len
    ∙ sym (length_of_table c.self.inside.words.items c.self.inside.len c.args.self.now c.self.view_is)
