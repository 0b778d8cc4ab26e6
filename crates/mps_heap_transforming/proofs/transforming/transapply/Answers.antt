use Rattle.std.proofs.Common.{refl}
use Rattle.std.proofs.lemmas.Result.{err_from_is_err_and}
use Rattle.mps_heap_transforming.proofs.Applying.{is_applied, kept_from, not_applied}
use Rattle.mps_heap_transforming.proofs.transforming.transapply.Goals as goal

pub returns-in_err-number : goal.returns-in_err-number
returns-in_err-number g c =
    let p = err_from_is_err_and c.from_residual.result c.from_residual.ensures.1 in
    record { outcome = rw (p.1, p.2) (not_applied c.in_err-number.ensures.value) }

pub returns-then-blocked : goal.returns-then-blocked
returns-then-blocked g c = record {
  outcome = kept_from c.state.view_is c.in_ok-number.ensures.value c.blocked.ensures.unchanged c.blocked.ensures.value c.if-blocked.true;
}

pub returns : goal.returns
returns g c = record {
  outcome =
      is_applied c.state.view_is c.in_ok-number.ensures.value c.blocked.ensures.unchanged c.blocked.ensures.value c.if-blocked.false
      c.apply_to_pools.ensures.state c.state-2.view_is c.apply_slots.ensures.slots c.apply_slots.ensures.unchanged
      c.drop_transform.ensures c.drop_name.ensures.dropped refl;
}
