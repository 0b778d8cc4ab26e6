use Rattle.std.proofs.Common.{ℕ, ◌+◌, Bool, List, sym, ap, ◌∙◌, arith}
use Rattle.std.proofs.lemmas.List.{with_items_is}
use Rattle.std.specs.Vec.{with_items}
use Rattle.mps_bits.specs.Table.{table_of, with_range}
use Rattle.mps_bits.proofs.Tables.{length-table_of, length_of_table, table_range}
use Rattle.mps_bits.proofs.bits.Bits.write_in_word.Goals as goal

pub write_in_word-requires-clause-in_row : goal.write_in_word-requires-clause-in_row
write_in_word-requires-clause-in_row c =
    let size = length_of_table c.self.inside.words.items c.self.inside.len c.args.self.now c.self.view_is in
    omega (arith, size, c.requires.in_table, c.deref_mut.ensures.len)

pub returns-clause-state : goal.returns-clause-state
returns-clause-state c =
    let size = length_of_table c.self.inside.words.items c.self.inside.len c.args.self.now c.self.view_is in
    let from = c.args.from in
    let to = c.args.from + c.args.count in
    let old = c.deref_mut.ensures.value in
    let new =
    with_items_is c.self.inside.words c.write_in_word.new.words
    (omega (arith, c.write_in_word.auto.words, c.deref_mut.ensures.len))
    in
    ap (λ (ws : List ℕ). table_of ws c.self.inside.len) new
    ∙ table_range c.deref_mut.result.now c.write_in_word.new.words c.self.inside.len from to c.args.value (omega arith)
    (omega (arith, size, c.requires.in_table)) c.write_in_word.ensures.inside c.write_in_word.ensures.unchanged
    ∙ ap (λ (ws : List ℕ). with_range (table_of ws c.self.inside.len) from to c.args.value) old
    ∙ ap (λ (t : List Bool). with_range t from to c.args.value) c.self.view_is

pub returns-clause-len : goal.returns-clause-len
returns-clause-len c =
    length-table_of (with_items c.self.inside.words c.write_in_word.new.words).items c.self.inside.len
    ∙ sym (length_of_table c.self.inside.words.items c.self.inside.len c.args.self.now c.self.view_is)
