use Rattle.std.proofs.Common.{ℕ, Bool, List, ap, ◌∙◌, arith}
use Rattle.mps_bits.specs.Table.{table_of, lowest_clear_run}
use Rattle.mps_bits.proofs.Tables.{length_of_table, lowest_clear_run_is}
use Rattle.mps_bits.proofs.bits.Bits.lowest_clear_run.Goals as goal

pub lowest_clear_run-requires-clause-in_row : goal.lowest_clear_run-requires-clause-in_row
lowest_clear_run-requires-clause-in_row c =
    let size = length_of_table c.self.inside.words.items c.self.inside.len c.args.self.now c.self.view_is in
    omega (arith, size, c.requires.in_table, c.deref.ensures.len)

pub returns : goal.returns
returns c =
    let size = length_of_table c.self.inside.words.items c.self.inside.len c.args.self.now c.self.view_is in
    lowest_clear_run_is c.deref.result.now c.self.inside.len c.args.from c.args.to c.args.count c.lowest_clear_run.result
    (omega (arith, size, c.requires.in_table)) c.lowest_clear_run.ensures
    ∙ ap (λ (ws : List ℕ). lowest_clear_run (table_of ws c.self.inside.len) c.args.from c.args.to c.args.count) c.deref.ensures.value
    ∙ ap (λ (t : List Bool). lowest_clear_run t c.args.from c.args.to c.args.count) c.self.view_is
