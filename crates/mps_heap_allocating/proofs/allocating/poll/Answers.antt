use Rattle.std.proofs.Common.{rules, ◌≡◌, ◌∙◌, true, false, is_some, Some, sym, ap, subst}
use Rattle.std.specs.Option.{option_map}
use Rattle.mps_gen.specs.Due.{in_numbers}
use Rattle.mps_gen.specs.State.{ChainsState}
use Rattle.mps_heap_allocating.proofs.Polling.{may_flip, units_polled}
use Rattle.mps_heap_allocating.proofs.allocating.poll.Goals as goal
use Rattle.mps_heap_spec.specs.Polling.{due_in}
use Rattle.mps_heap_spec.specs.State.{HeapState}
use Rattle.mps_policy.specs.Due.{due_now}

pub returns-then-is_some : goal.returns-then-is_some
returns-then-is_some g c =
    let P : HeapState g.row.F.Denot → Type 0 = λ h. is_some h.running ≡ true in
    units_polled g.F.Format.layout c.args.state.now c.args.trail.now c.do_units.new.state c.do_units.new.trail
    (subst P c.state.view_is (search rules)) c.do_units.ensures

pub begin-requires : goal.begin-requires
begin-requires g c =
    let P : HeapState g.row.F.Denot → Type 0 = λ h. is_some h.running ≡ false in
    let Q : HeapState g.row.F.Denot → Type 0 = λ h. option_map in_numbers (due_in h) ≡ Some c.in-Some.due in
    may_flip g.F.Format.layout c.args.state.now c.args.trail.now c.in-Some.due c.requires.flip
    (subst P c.state.view_is (search rules))
    (subst Q c.state.view_is
    (sym (c.due_now.ensures
    ∙ ap (λ (k : ChainsState). option_map in_numbers (due_now k c.state.inside.segs.segments)) c.chains.ensures) ∙ c.in-Some.is))
