use Rattle.std.proofs.Common.{ap}
use Rattle.mps_model.specs.Answer.{Replied}
use Rattle.mps_model.specs.declared.reply.Reply.TheVariants as reply
use Rattle.mps_session.proofs.Answering.{answered}
use Rattle.mps_session.proofs.arena.answer.Goals as goal

pub returns-in-Limit-clause-right : goal.returns-in-Limit-clause-right
returns-in-Limit-clause-right c = answered c.in-Limit.is c.done.ensures c.limit.ensures.right

pub returns-in-Committed-clause-right : goal.returns-in-Committed-clause-right
returns-in-Committed-clause-right c =
    answered c.in-Committed.is (record { told = λ arena. ap (λ n. Replied (reply.Number n)) c.from.ensures })
    c.committed.ensures.right

pub returns-in-DropRoot-clause-right : goal.returns-in-DropRoot-clause-right
returns-in-DropRoot-clause-right c = answered c.in-DropRoot.is c.done-in-DropRoot.ensures c.drop_root.ensures.right

pub returns-in-DropPoint-clause-right : goal.returns-in-DropPoint-clause-right
returns-in-DropPoint-clause-right c = answered c.in-DropPoint.is c.done-in-DropPoint.ensures c.drop_point.ensures.right

pub returns-in-Intern-clause-right : goal.returns-in-Intern-clause-right
returns-in-Intern-clause-right c = answered c.in-Intern.is c.interned.ensures c.intern.ensures.right
