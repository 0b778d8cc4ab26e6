use Rattle.std.proofs.lemmas.Result.{err_from_is_err_and}
use Rattle.mps_format.specs.declared.pool.Pool.TheVariants as kind_of_pool
use Rattle.mps_heap_making.proofs.Outcomes.{no_pool_on, pool_on}
use Rattle.mps_heap_making.proofs.making.pool_on_chain.Goals as goal

pub returns-in_err-on : goal.returns-in_err-on
returns-in_err-on g c =
    let p = err_from_is_err_and c.from_residual.result c.from_residual.ensures.1 in
    rw (p.1, p.2) (no_pool_on c.args.state.now c.args.name c.args.chain (kind_of_pool.Automatic c.args.kind c.args.format)
    c.in_err-on.ensures.value)

pub returns : goal.returns
returns g c =
    pool_on c.args.state.now c.args.name c.args.chain (kind_of_pool.Automatic c.args.kind c.args.format) c.in_ok-on.on
    c.make_pool.result c.make_pool.new.state c.in_ok-on.ensures.value c.make_pool.ensures
