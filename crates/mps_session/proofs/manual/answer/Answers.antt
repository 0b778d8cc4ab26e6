use Rattle.std.proofs.Common.{arith}
use Rattle.mps_session.proofs.Answering.{answered_moving, answered_still}
use Rattle.mps_session.proofs.manual.answer.Goals as goal

pub returns-in-Alloc-clause-right : goal.returns-in-Alloc-clause-right
returns-in-Alloc-clause-right c =
    answered_moving c.in-Alloc.is c.requires.empty c.done.ensures c.alloc.ensures.right

pub returns-in-Free-clause-right : goal.returns-in-Free-clause-right
returns-in-Free-clause-right c =
    answered_moving c.in-Free.is c.requires.empty c.done-in-Free.ensures c.free.ensures.right

pub returns-in-CacheAlloc-clause-right : goal.returns-in-CacheAlloc-clause-right
returns-in-CacheAlloc-clause-right c =
    answered_moving c.in-CacheAlloc.is c.requires.empty c.done-in-CacheAlloc.ensures c.calloc.ensures.right

pub returns-in-CacheFree-clause-right : goal.returns-in-CacheFree-clause-right
returns-in-CacheFree-clause-right c =
    answered_moving c.in-CacheFree.is c.requires.empty c.done-in-CacheFree.ensures c.cfree.ensures.right

pub returns-in-CacheFlush-clause-right : goal.returns-in-CacheFlush-clause-right
returns-in-CacheFlush-clause-right c =
    answered_moving c.in-CacheFlush.is c.requires.empty c.done-in-CacheFlush.ensures c.cflush.ensures.right

pub returns-in-Push-clause-right : goal.returns-in-Push-clause-right
returns-in-Push-clause-right c = answered_still c.in-Push.is c.requires.empty c.count.ensures c.push.ensures.right

pub pop-requires : goal.pop-requires
pop-requires c =
    let few = c.most_moves.ensures.pops c.in-Pop.pool c.in-Pop.frame in
    let value = c.most_moves.ensures.value in
    let fits = c.requires.fits in
    record { fits = omega (arith, few, value, fits) }

pub returns-in-Pop-clause-right : goal.returns-in-Pop-clause-right
returns-in-Pop-clause-right c =
    answered_moving c.in-Pop.is c.requires.empty c.done-in-Pop.ensures c.pop.ensures.right
