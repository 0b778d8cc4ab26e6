use Rattle.std.proofs.Common.{arith}
use Rattle.mps_root.proofs.Order.{removed_at, not_there}
use Rattle.mps_root.proofs.roots.index_of.Goals as goal

pub returns-then-keys-index : goal.returns-then-keys-index
returns-then-keys-index c = (
  c.loop-index-test.true,
  removed_at c.args.keys.now c.loop-index.index c.args.key c.loop-index-test.true c.if-keys-index.true
      c.loop-index.invariant,
)

pub returns : goal.returns
returns c = not_there c.args.keys.now c.args.key (λ j below. c.loop-index.invariant j (omega (arith, below, c.loop-index-test.false)))
