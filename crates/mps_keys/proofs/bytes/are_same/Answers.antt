use Rattle.std.proofs.Common.{rules}
use Rattle.mps_keys.proofs.Halves.{last_half}
use Rattle.mps_keys.proofs.bytes.are_same.Goals as goal

pub returns-then-number_of : goal.returns-then-number_of
returns-then-number_of c =
    last_half c.args.these.now c.args.those.now c.number_of.result c.number_of-2.result c.number_of-then-number_of.result
    c.number_of-then-number_of-2.result (search rules) (search rules) c.number_of.ensures.bytes c.number_of-2.ensures.bytes
    c.number_of-then-number_of.ensures.bytes c.number_of-then-number_of-2.ensures.bytes c.number_of-then-number_of.ensures.value
    c.number_of-then-number_of-2.ensures.value c.if-number_of.true
