use Rattle.std.proofs.Common.{sym, subst}
use Rattle.mps_model.specs.declared.call.Call.{Call}
use Rattle.mps_session.specs.Standing.{IsAnswered}
use Rattle.mps_session.proofs.caching.answer.Goals as goal

pub returns-in-Cache-clause-right : goal.returns-in-Cache-clause-right
returns-in-Cache-clause-right c =
    subst (λ (k : Call). IsAnswered c.args.heap.now k _ c.make_cache.result c.make_cache.new.heap) (sym c.in-Cache.is) c.make_cache.ensures
