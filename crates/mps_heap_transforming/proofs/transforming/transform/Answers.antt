use Rattle.std.proofs.Common.{refl, sym}
use Rattle.std.proofs.lemmas.Result.{err_from_is_err_and}
use Rattle.mps_heap_spec.specs.Transforming.{NotTransformed}
use Rattle.mps_heap_transforming.proofs.Outcomes.{is_transformed}
use Rattle.mps_heap_transforming.proofs.transforming.transform.Goals as goal

pub returns-in_err-check_transform : goal.returns-in_err-check_transform
returns-in_err-check_transform g c =
    let p = err_from_is_err_and c.from_residual.result c.from_residual.ensures.1 in
    rw (p.1, p.2) (NotTransformed (sym c.in_err-check_transform.ensures.value))

pub returns : goal.returns
returns g c =
    is_transformed c.state.view_is c.in_ok-check_transform.ensures.value c.make-number.ensures.number c.make-number.ensures.state
    c.take.ensures.names refl
