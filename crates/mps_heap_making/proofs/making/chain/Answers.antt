use Rattle.std.proofs.lemmas.Result.{err_from_is_err_and}
use Rattle.mps_heap_making.proofs.Outcomes.{is_refused, is_made}
use Rattle.mps_heap_making.proofs.making.chain.Goals as goal

pub returns-in_err-check_chain : goal.returns-in_err-check_chain
returns-in_err-check_chain g c =
    let p = err_from_is_err_and c.from_residual.result c.from_residual.ensures.1 in
    rw (p.1, p.2) (is_refused c.in_err-check_chain.ensures.value)

pub returns : goal.returns
returns g c = is_made c.make_chain.result c.make_chain.new.state c.in_ok-check_chain.ensures.value c.make_chain.ensures
