use Rattle.std.proofs.Common.{◌∙◌, sym}
use Rattle.mps_heap_transforming.proofs.Applying.{may_apply, open_refused}
use Rattle.mps_heap_transforming.proofs.transforming.check_apply.Goals as goal

pub returns-then-has_live_reservation-clause-value : goal.returns-then-has_live_reservation-clause-value
returns-then-has_live_reservation-clause-value g c =
    open_refused _ c.args.state.now c.args.name c.in_ok-number.number c.state.view_is c.in_ok-number.ensures.value
    (sym c.is_parked.ensures ∙ c.if-not-is_parked.false) (sym c.has_live_reservation.ensures ∙ c.if-has_live_reservation.true)

pub returns-clause-value : goal.returns-clause-value
returns-clause-value g c =
    may_apply _ c.args.state.now c.args.name c.in_ok-number.number c.state.view_is c.in_ok-number.ensures.value
    (sym c.is_parked.ensures ∙ c.if-not-is_parked.false) (sym c.has_live_reservation.ensures ∙ c.if-has_live_reservation.false)
