-- The letter and the colon stand before the number.
use Rattle.std.proofs.Common.{◌∙◌, ap, List, ℕ, ◌++◌, decimal, arith}
use Rattle.mps_format.proofs.Buffers.{first_two}
use Rattle.mps_format.proofs.put.put_single.Goals as goal

pub returns-clause-text : goal.returns-clause-text
returns-clause-text c = c.put_decimal.ensures.text
    ∙ ap (λ (t : List ℕ). t ++ decimal c.args.number) (first_two c.args.out.now c.args.letter 58 (omega arith))
