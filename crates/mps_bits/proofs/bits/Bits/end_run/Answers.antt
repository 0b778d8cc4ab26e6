use Rattle.std.proofs.Common.{ℕ, ◌-◌, Bool, true, false, List, set, sym, ap, ◌∙◌, arith}
use Rattle.std.proofs.lemmas.List.{with_items_is}
use Rattle.std.specs.Vec.{with_items}
use Rattle.mps_bits.specs.Table.{table_of, with_range}
use Rattle.mps_bits.proofs.Tables.{length-table_of, length_of_table, table_ended}
use Rattle.mps_bits.proofs.bits.Bits.end_run.Goals as goal

pub end_run-requires-clause-in_row : goal.end_run-requires-clause-in_row
end_run-requires-clause-in_row c =
    let size = length_of_table c.self.inside.words.items c.self.inside.len c.args.self.now c.self.view_is in
    omega (arith, size, c.requires.in_table, c.deref_mut.ensures.len)

pub returns-clause-state : goal.returns-clause-state
returns-clause-state c =
    let size = length_of_table c.self.inside.words.items c.self.inside.len c.args.self.now c.self.view_is in
    let old = c.deref_mut.ensures.value in
    let new = with_items_is c.self.inside.words c.end_run.new.words (omega (arith, c.end_run.auto.words, c.deref_mut.ensures.len)) in
    ap (λ (ws : List ℕ). table_of ws c.self.inside.len) new
    ∙ table_ended c.deref_mut.result.now c.end_run.new.words c.self.inside.len c.args.from c.args.to c.requires.nonempty
    (omega (arith, size, c.requires.in_table)) c.end_run.ensures.last c.end_run.ensures.others c.end_run.ensures.unchanged
    ∙ ap (λ (ws : List ℕ). set (with_range (table_of ws c.self.inside.len) c.args.from c.args.to false) (c.args.to - 1) true) old
    ∙ ap (λ (t : List Bool). set (with_range t c.args.from c.args.to false) (c.args.to - 1) true) c.self.view_is

pub returns-clause-len : goal.returns-clause-len
returns-clause-len c =
    length-table_of (with_items c.self.inside.words c.end_run.new.words).items c.self.inside.len
    ∙ sym (length_of_table c.self.inside.words.items c.self.inside.len c.args.self.now c.self.view_is)
