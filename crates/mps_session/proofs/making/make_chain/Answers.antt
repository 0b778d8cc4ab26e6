use Rattle.std.proofs.Common.{rules}
use Rattle.mps_session.proofs.Answering.{of_capacities}
use Rattle.mps_session.proofs.making.make_chain.Goals as goal

pub returns : goal.returns
returns c = record {
  right = of_capacities c.args.chain c.args.count c.args.capacities _ c.chain.result (search rules) (search rules)
      c.chain.ensures.right;
}
