use Rattle.std.proofs.Common.{rules}
use Rattle.std.proofs.lemmas.Result.{err_from_is_err_and}
use Rattle.mps_heap_making.proofs.Dropping.{no_point, an_open_point, a_point}
use Rattle.mps_heap_making.proofs.making.drop_point.Goals as goal

pub returns-in_err-point : goal.returns-in_err-point
returns-in_err-point g c =
    let p = err_from_is_err_and c.from_residual.result c.from_residual.ensures.1 in
    rw (p.1, p.2) (no_point c.args.state.now c.args.name c.in_err-point.ensures.value)

pub returns-then-is_some : goal.returns-then-is_some
returns-then-is_some g c =
    an_open_point c.args.state.now c.args.name c.in_ok-point.point c.in_ok-point.ensures.value (search rules)

pub returns : goal.returns
returns g c =
    a_point c.args.state.now c.args.name c.in_ok-point.point c.in_ok-point.ensures.value _ (search rules) (search rules) (search rules)
