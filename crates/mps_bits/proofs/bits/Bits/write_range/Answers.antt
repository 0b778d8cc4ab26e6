use Rattle.std.proofs.Common.{ℕ, Bool, List, sym, ap, ◌∙◌, arith}
use Rattle.std.proofs.lemmas.List.{with_items_is}
use Rattle.std.specs.Vec.{with_items}
use Rattle.mps_bits.specs.Table.{table_of, with_range}
use Rattle.mps_bits.proofs.Tables.{length-table_of, length_of_table, table_range}
use Rattle.mps_bits.proofs.bits.Bits.write_range.Goals as goal

pub write_range-requires : goal.write_range-requires
write_range-requires c =
    let size = length_of_table c.self.inside.words.items c.self.inside.len c.args.self.now c.self.view_is in
    omega (arith, size, c.requires.in_table, c.deref_mut.ensures.len)

pub returns-clause-state : goal.returns-clause-state
returns-clause-state c =
    let size = length_of_table c.self.inside.words.items c.self.inside.len c.args.self.now c.self.view_is in
    let old = c.deref_mut.ensures.value in
    let new =
    with_items_is c.self.inside.words c.write_range.new.words (omega (arith, c.write_range.auto.words, c.deref_mut.ensures.len))
    in
    ap (λ (ws : List ℕ). table_of ws c.self.inside.len) new
    ∙ table_range c.deref_mut.result.now c.write_range.new.words c.self.inside.len c.args.from c.args.to c.args.value c.requires.ordered
    (omega (arith, size, c.requires.in_table)) c.write_range.ensures.inside c.write_range.ensures.unchanged
    ∙ ap (λ (ws : List ℕ). with_range (table_of ws c.self.inside.len) c.args.from c.args.to c.args.value) old
    ∙ ap (λ (t : List Bool). with_range t c.args.from c.args.to c.args.value) c.self.view_is

pub returns-clause-len : goal.returns-clause-len
returns-clause-len c =
    length-table_of (with_items c.self.inside.words c.write_range.new.words).items c.self.inside.len
    ∙ sym (length_of_table c.self.inside.words.items c.self.inside.len c.args.self.now c.self.view_is)
