use Rattle.std.proofs.Common.{Err, Ok, ap, sym, subst, ◌∙◌}
use Rattle.std.proofs.lemmas.Result.{err_from_is_err_and}
use Rattle.mps_heap_spec.specs.Polling.{IsPolled}
use Rattle.mps_heap_allocating.proofs.Polling.{nothing_polled, refused_reserve, unpolled_so}
use Rattle.mps_heap_allocating.proofs.allocating.reserve.Goals as goal

pub returns-in_err-r : goal.returns-in_err-r
returns-in_err-r g c =
    let given = err_from_is_err_and c.from_residual.result c.from_residual.ensures.1 in
    refused_reserve g.F.Format.layout c.args.state.now c.args.trail.now c.args.name c.args.head c.in_err-r.field-0.0
    (sym c.in_err-r.ensures.value) c.from_residual.result (given.1 ∙ ap Err given.2)

pub returns : goal.returns
returns g c =
    let layout = g.F.Format.layout in
    let h = c.args.state.now in
    let m = c.args.trail.now in
    let idle = c.has_work.ensures c.if-has_work.false in
    record {
      polled = h;
      trail_polled = m;
      poll = subst (λ x. IsPolled layout h m x h m) c.in_ok-r.ensures.value
          (unpolled_so layout h m (Ok c.in_ok-r.r) (λ polling. nothing_polled layout h m idle.0 idle.1));
      comes = c.reserve_checked.ensures;
    }

pub reserve_with_work-requires-clause-checked : goal.reserve_with_work-requires-clause-checked
reserve_with_work-requires-clause-checked g c = (c.in_ok-r.r.point.value, c.in_ok-r.ensures.closed, sym c.in_ok-r.ensures.value)

pub reserve_checked-requires-clause-checked : goal.reserve_checked-requires-clause-checked
reserve_checked-requires-clause-checked g c = (c.in_ok-r.r.point.value, c.in_ok-r.ensures.closed, sym c.in_ok-r.ensures.value)
