use Rattle.std.proofs.Common.{ℕ, Bool, List, ap, ◌∙◌}
use Rattle.mps_bits.specs.Table.{table_of, next_set}
use Rattle.mps_bits.proofs.Tables.{next_set_is}
use Rattle.mps_bits.proofs.bits.Bits.next_set.Goals as goal

pub returns : goal.returns
returns c =
    next_set_is c.deref.result.now c.self.inside.len c.args.from c.lowest_set.result c.lowest_set.ensures
    ∙ ap (λ (ws : List ℕ). next_set (table_of ws c.self.inside.len) c.args.from) c.deref.ensures.value
    ∙ ap (λ (t : List Bool). next_set t c.args.from) c.self.view_is
