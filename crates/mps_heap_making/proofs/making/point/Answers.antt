use Rattle.std.proofs.lemmas.Result.{err_from_is_err_and}
use Rattle.mps_heap_making.proofs.Outcomes.{no_point, point_in}
use Rattle.mps_heap_making.proofs.making.point.Goals as goal

pub returns-in_err-of : goal.returns-in_err-of
returns-in_err-of g c =
    let p = err_from_is_err_and c.from_residual.result c.from_residual.ensures.1 in
    rw (p.1, p.2) (no_point c.args.state.now c.args.name c.args.pool c.args.rank c.in_err-of.ensures.value)

pub returns : goal.returns
returns g c =
    point_in c.args.state.now c.args.name c.args.pool c.args.rank c.in_ok-of.of c.make_point.result c.make_point.new.state
    c.in_ok-of.ensures.value c.make_point.ensures
