use Rattle.std.proofs.Common.{◌∙◌, ap, refl, rules, sym}
use Rattle.mps_heap_spec.proofs.Following.{left_alone, then_followed}
use Rattle.mps_heap_spec.specs.State.{HeapState}
use Rattle.mps_heap_spec.specs.Units.{none_runs}
use Rattle.mps_heap_state.proofs.UnitsOfPools.{units_done, units_ready}
use Rattle.mps_heap_state.proofs.units.do_units.Goals as goal

pub finish-state-inside-requires : goal.finish-state-inside-requires
finish-state-inside-requires g c =
    units_ready g.F.Format.layout c.args.state.now _ c.state.view_is c.args.trail.now c.in-Some.running c.in-Some.is c.args.n c.requires

pub returns-in_default : goal.returns-in_default
returns-in_default g c =
    left_alone
    (none_runs (ap (λ (h : HeapState g.row.F.Denot). h.running) (sym c.state.view_is) ∙ c.in_default.is) refl refl)

pub returns : goal.returns
returns g c =
    then_followed _
    (units_done g.F.Format.layout c.args.state.now _ c.state.view_is c.args.trail.now c.in-Some.running c.in-Some.is c.args.n _
    c.finish-state-inside.new.trail c.finish-state-inside.result c.finish-state-inside.ensures.goes_on
    c.finish-state-inside.ensures.ended (search rules)) (search rules) c.follow.ensures
