use Rattle.std.proofs.Common.{sym, subst}
use Rattle.mps_model.specs.declared.call.Call.{Call}
use Rattle.mps_session.specs.Standing.{IsAnswered}
use Rattle.mps_session.proofs.Answering.{answered_moving}
use Rattle.mps_session.proofs.collecting.answer.Goals as goal

pub returns-in-Start-clause-right : goal.returns-in-Start-clause-right
returns-in-Start-clause-right c = answered_moving c.in-Start.is c.requires.empty c.done.ensures c.start.ensures.right

pub returns-in-StartChain-clause-right : goal.returns-in-StartChain-clause-right
returns-in-StartChain-clause-right c =
    answered_moving c.in-StartChain.is c.requires.empty c.done-in-StartChain.ensures c.start_chain.ensures.right

pub returns-in-Collect-clause-right : goal.returns-in-Collect-clause-right
returns-in-Collect-clause-right c =
    subst (λ (k : Call). IsAnswered c.args.heap.now k c.collect.new.trail.moves c.collect.result c.collect.new.heap) (sym c.in-Collect.is)
    c.collect.ensures.right

pub returns-in-Park-clause-right : goal.returns-in-Park-clause-right
returns-in-Park-clause-right c =
    subst (λ (k : Call). IsAnswered c.args.heap.now k c.park.new.trail.moves c.park.result c.park.new.heap) (sym c.in-Park.is)
    c.park.ensures.right

pub returns-in-Step-clause-right : goal.returns-in-Step-clause-right
returns-in-Step-clause-right c =
    subst (λ (k : Call). IsAnswered c.args.heap.now k c.step.new.trail.moves c.step.result c.step.new.heap) (sym c.in-Step.is)
    c.step.ensures.right
