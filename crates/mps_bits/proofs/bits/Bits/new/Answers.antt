use Rattle.std.proofs.Common.{ℕ, ◌+◌, ◌/◌, List, ap, ◌∙◌}
use Rattle.mps_bits.specs.Row.{bit_in}
use Rattle.mps_bits.proofs.Row.{bit_in-zeros}
use Rattle.mps_bits.proofs.Tables.{table_new}
use Rattle.mps_bits.proofs.bits.Bits.new.Goals as goal

pub returns : goal.returns
returns c =
    table_new c.in_ok-words.words.items c.args.len
    (λ i within. ap (λ (ws : List ℕ). bit_in ws i) (c.in_ok-words.ensures.items_if_clones_equal (λ y h. h)) ∙ bit_in-zeros
    ((c.args.len + 63) / 64) i)
