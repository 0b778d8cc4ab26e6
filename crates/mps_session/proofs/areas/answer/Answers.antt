use Rattle.mps_session.proofs.Answering.{answered}
use Rattle.mps_session.proofs.areas.answer.Goals as goal

pub returns-in-Poke-clause-right : goal.returns-in-Poke-clause-right
returns-in-Poke-clause-right c = answered c.in-Poke.is c.block.ensures c.poke.ensures.right

pub returns-in-Pin-clause-right : goal.returns-in-Pin-clause-right
returns-in-Pin-clause-right c = answered c.in-Pin.is c.done.ensures c.pin.ensures.right

pub returns-in-Take-clause-right : goal.returns-in-Take-clause-right
returns-in-Take-clause-right c = answered c.in-Take.is c.done-in-Take.ensures c.take.ensures.right

pub returns-in-Finalize-clause-right : goal.returns-in-Finalize-clause-right
returns-in-Finalize-clause-right c = answered c.in-Finalize.is c.done-in-Finalize.ensures c.finalize.ensures.right

pub returns-in-Definalize-clause-right : goal.returns-in-Definalize-clause-right
returns-in-Definalize-clause-right c = answered c.in-Definalize.is c.done-in-Definalize.ensures c.definalize.ensures.right

pub returns-in-Message-clause-right : goal.returns-in-Message-clause-right
returns-in-Message-clause-right c = answered c.in-Message.is c.message-in-Message.ensures c.message.ensures.right

pub returns-in-DependencyReset-clause-right : goal.returns-in-DependencyReset-clause-right
returns-in-DependencyReset-clause-right c = answered c.in-DependencyReset.is c.done-in-DependencyReset.ensures c.ld_reset.ensures.right

pub returns-in-DependencyAdd-clause-right : goal.returns-in-DependencyAdd-clause-right
returns-in-DependencyAdd-clause-right c = answered c.in-DependencyAdd.is c.done-in-DependencyAdd.ensures c.ld_add.ensures.right

pub returns-in-DependencyMerge-clause-right : goal.returns-in-DependencyMerge-clause-right
returns-in-DependencyMerge-clause-right c = answered c.in-DependencyMerge.is c.done-in-DependencyMerge.ensures c.ld_merge.ensures.right

pub returns-in-Peek-clause-right : goal.returns-in-Peek-clause-right
returns-in-Peek-clause-right c = answered c.in-Peek.is c.word.ensures c.peek.ensures.right

pub returns-in-DependencyStale-clause-right : goal.returns-in-DependencyStale-clause-right
returns-in-DependencyStale-clause-right c = answered c.in-DependencyStale.is c.yes_or_no.ensures c.ld_stale.ensures.right

pub returns-in-Transform-clause-right : goal.returns-in-Transform-clause-right
returns-in-Transform-clause-right c = answered c.in-Transform.is c.done-in-Transform.ensures c.transform.ensures.right

pub returns-in-TransformAdd-clause-right : goal.returns-in-TransformAdd-clause-right
returns-in-TransformAdd-clause-right c = answered c.in-TransformAdd.is c.done-in-TransformAdd.ensures c.transadd.ensures.right

pub returns-in-TransformApply-clause-right : goal.returns-in-TransformApply-clause-right
returns-in-TransformApply-clause-right c =
    answered c.in-TransformApply.is c.yes_or_no-in-TransformApply.ensures c.transapply.ensures.right

pub returns-in-TransformDrop-clause-right : goal.returns-in-TransformDrop-clause-right
returns-in-TransformDrop-clause-right c = answered c.in-TransformDrop.is c.done-in-TransformDrop.ensures c.transdrop.ensures.right

pub returns-in-Depend-clause-right : goal.returns-in-Depend-clause-right
returns-in-Depend-clause-right c = answered c.in-Depend.is c.done-in-Depend.ensures c.depend.ensures.right

pub returns-in-Undepend-clause-right : goal.returns-in-Undepend-clause-right
returns-in-Undepend-clause-right c = answered c.in-Undepend.is c.done-in-Undepend.ensures c.undepend.ensures.right
