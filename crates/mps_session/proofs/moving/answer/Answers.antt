use Rattle.mps_session.proofs.Answering.{answered_moving}
use Rattle.mps_session.proofs.moving.answer.Goals as goal

pub returns-in-Reserve-clause-right : goal.returns-in-Reserve-clause-right
returns-in-Reserve-clause-right c = answered_moving c.in-Reserve.is c.requires.empty c.done.ensures c.reserve.ensures.right

pub returns-in-Commit-clause-right : goal.returns-in-Commit-clause-right
returns-in-Commit-clause-right c =
    answered_moving c.in-Commit.is c.requires.empty c.committed.ensures c.commit.ensures.right

pub returns-in-Get-clause-right : goal.returns-in-Get-clause-right
returns-in-Get-clause-right c =
    answered_moving c.in-Get.is c.requires.empty c.done-in-Get.ensures c.get.ensures.right
