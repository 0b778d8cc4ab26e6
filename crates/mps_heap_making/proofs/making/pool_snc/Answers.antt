use Rattle.std.proofs.lemmas.Result.{err_from_is_err_and}
use Rattle.mps_heap_making.proofs.Outcomes.{is_refused, is_made}
use Rattle.mps_heap_making.proofs.making.pool_snc.Goals as goal

pub returns-in_err-check_pool : goal.returns-in_err-check_pool
returns-in_err-check_pool g c =
    let p = err_from_is_err_and c.from_residual.result c.from_residual.ensures.1 in
    rw (p.1, p.2) (is_refused c.in_err-check_pool.ensures.value)

pub returns : goal.returns
returns g c =
    is_made c.make_pool_of_frames.result c.make_pool_of_frames.new.state c.in_ok-check_pool.ensures.value
    c.make_pool_of_frames.ensures
