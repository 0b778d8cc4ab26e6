use Rattle.std.proofs.Common.{◌∙◌, inl, inr, refl, sym, ap, rules}
use Rattle.std.proofs.lemmas.Option.{none-some}
use Rattle.mps_heap_spec.proofs.Following.{left_alone, then_followed}
use Rattle.mps_heap_spec.specs.State.{HeapState}
use Rattle.mps_heap_spec.specs.Units.{none_runs}
use Rattle.mps_heap_state.proofs.UnitsOfPools.{units_done, units_ready}
use Rattle.mps_heap_code.proofs.Following.{is_more, progress_at, running_after}
use Rattle.mps_heap_code.proofs.steps.step.Goals as goal

pub count_units-state-inside-requires : goal.count_units-state-inside-requires
count_units-state-inside-requires g c =
    let unclamped = sym (ap (λ (h : HeapState g.row.F.Denot). h.arena) c.state.view_is) ∙ c.in-Unclamped.is in
    units_ready g.F.Format.layout c.args.state.now _ c.state.view_is c.args.trail.now c.in-Some.running c.in-Some.is c.args.n
    (c.requires unclamped)

pub returns-in_default-running-clause-stepped : goal.returns-in_default-running-clause-stepped
returns-in_default-running-clause-stepped g c =
    let unclamped = sym (ap (λ (h : HeapState g.row.F.Denot). h.arena) c.state.view_is) ∙ c.in-Unclamped.is in
    let rests = sym (ap (λ (h : HeapState g.row.F.Denot). h.running) c.state.view_is) ∙ c.in_default-running.is in
    record {
      done = λ e. left_alone (none_runs rests refl refl);
      still = λ other. absurd (other unclamped);
      answered = ap progress_at (sym rests);
    }

pub returns-clause-stepped : goal.returns-clause-stepped
returns-clause-stepped g c =
    let unclamped = sym (ap (λ (h : HeapState g.row.F.Denot). h.arena) c.state.view_is) ∙ c.in-Unclamped.is in
    record {
      done = λ e. then_followed _
          (units_done g.F.Format.layout c.args.state.now _ c.state.view_is c.args.trail.now c.in-Some.running c.in-Some.is c.args.n
          _ c.count_units-state-inside.new.trail c.count_units-state-inside.result c.count_units-state-inside.ensures.goes_on
          c.count_units-state-inside.ensures.ended (search rules)) (search rules) c.follow.ensures;
      still = λ other. absurd (other unclamped);
      answered = c.progress-2.ensures;
    }

pub returns-clause-ticked : goal.returns-clause-ticked
returns-clause-ticked g c =
    let unclamped = sym (ap (λ (h : HeapState g.row.F.Denot). h.arena) c.state.view_is) ∙ c.in-Unclamped.is in
    let runs = sym (ap (λ (h : HeapState g.row.F.Denot). h.running) c.state.view_is) ∙ c.in-Some.is in
    let units = c.count_units-state-inside in
    let layout = g.F.Format.layout in
    let left = running_after layout _ _
    (units_done layout c.args.state.now _ c.state.view_is c.args.trail.now c.in-Some.running c.in-Some.is c.args.n _ units.new.trail
    units.result units.ensures.goes_on units.ensures.ended (search rules)) c.follow.ensures in
    record {
      all = λ e more. units.ensures.all (is_more units.result (ap progress_at (sym left) ∙ sym c.progress-2.ensures ∙ more));
      at_most = units.ensures.at_most;
      none = λ e. elim e [
        | inl other ↦ absurd (other unclamped)
        | inr rests ↦ absurd (none-some c.in-Some.running (sym rests ∙ runs))
      ];
    }
