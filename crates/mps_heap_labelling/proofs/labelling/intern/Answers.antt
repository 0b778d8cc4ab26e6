use Rattle.std.proofs.Common.{refl, sym}
use Rattle.std.proofs.lemmas.Result.{err_from_is_err_and}
use Rattle.mps_heap_spec.specs.Labelling.{NotInterned}
use Rattle.mps_heap_labelling.proofs.Interning.{is_interned}
use Rattle.mps_heap_labelling.proofs.labelling.intern.Goals as goal

pub returns-in_err-check_label : goal.returns-in_err-check_label
returns-in_err-check_label g c =
    let p = err_from_is_err_and c.from_residual.result c.from_residual.ensures.1 in
    record { outcome = rw (p.1, p.2) (NotInterned (sym c.in_err-check_label.ensures.value)) }

pub returns : goal.returns
returns g c = record {
  outcome = is_interned c.state.view_is c.in_ok-check_label.ensures.value c.label_count-number.ensures c.take.ensures.names refl;
}
