use Rattle.std.proofs.Common.{ℕ, List, false, replicate, ap, sym, ◌∙◌, rules}
use Rattle.std.specs.Vec.{vec_len}
use Rattle.mps_bits.specs.Row.{bit_in}
use Rattle.mps_bits.proofs.Row.{bit_in-zeros}
use Rattle.mps_bits.proofs.Tables.{length_of_table, table_new}
use Rattle.mps_bits.proofs.bits.Bits.clear_all.Goals as goal

pub returns : goal.returns
returns c =
    let s = c.self.inside in
    table_new c.fill.new.self.items s.len (λ i within. ap (λ (ws : List ℕ). bit_in ws i) (c.fill.ensures.items (λ y same. search rules))
    ∙ bit_in-zeros (vec_len s.words) i)
    ∙ ap (λ (n : ℕ). replicate n false) (sym (length_of_table s.words.items s.len c.args.self.now c.self.view_is))
