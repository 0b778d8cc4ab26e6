use Rattle.std.proofs.Common.{rules, refl}
use Rattle.mps_session.proofs.Answering.{answered, of_classes}
use Rattle.mps_session.proofs.caching.make_cache.Goals as goal

pub returns : goal.returns
returns c =
    let given = c.class_sizes-classes in
    answered refl c.done.ensures
    (of_classes c.args.cache c.args.pool c.args.count c.args.sizes c.args.limits given.result _ given.ensures.sizes
    given.ensures.limits (search rules) (search rules) c.cache.ensures.right)
