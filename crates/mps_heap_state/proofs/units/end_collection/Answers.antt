use Rattle.std.proofs.Common.{ap, ap₂, subst, ◌∙◌}
use Rattle.mps_trace.specs.Collect.{most_units}
use Rattle.mps_heap_spec.specs.Following.{Follows}
use Rattle.mps_heap_spec.specs.State.{HeapState}
use Rattle.mps_heap_spec.specs.Units.{HasDoneUnits, units_to_end}
use Rattle.mps_heap_state.proofs.units.end_collection.Goals as goal

pub returns : goal.returns
returns g c =
    let layout = g.F.Format.layout in
    let m = c.args.trail.now in
    subst (λ n. Follows layout m (HasDoneUnits layout c.args.state.now m n) c.do_units.new.state c.do_units.new.trail)
    (c.most_units-most.ensures.value ∙ ap₂ most_units c.grains.ensures.value c.registered.ensures
    ∙ ap (λ (h : HeapState g.row.F.Denot). units_to_end h) c.state.view_is) c.do_units.ensures
