use Rattle.std.proofs.Common.{refl}
use Rattle.std.proofs.lemmas.Result.{err_from_is_err_and}
use Rattle.mps_heap_transforming.proofs.Outcomes.{a_transform, no_transform}
use Rattle.mps_heap_transforming.proofs.transforming.transdrop.Goals as goal

pub returns-in_err-number : goal.returns-in_err-number
returns-in_err-number g c =
    let p = err_from_is_err_and c.from_residual.result c.from_residual.ensures.1 in
    rw (p.1, p.2) (no_transform c.args.state.now c.args.name c.in_err-number.ensures.value)

pub returns : goal.returns
returns g c =
    a_transform c.state.view_is c.in_ok-number.ensures.value c.drop_transform.ensures c.drop_name.ensures.dropped refl
