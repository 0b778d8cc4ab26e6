use Rattle.std.proofs.Common.{subst, sym}
use Rattle.mps_heap_spec.specs.Finalizing.{CanUnregister}
use Rattle.mps_heap_code.proofs.Unregistering.{is_listed, seen_at_rest, seen_none, seen_taken}
use Rattle.mps_heap_code.proofs.finalizing.definalize.Goals as goal

pub returns-in_default : goal.returns-in_default
returns-in_default g c =
    seen_at_rest g.F.Format.layout _ c.args.state.now c.state.view_is c.args.slot c.in_ok-object.object c.in_ok-object.ensures.value
    c.unregister.result c.unregister.new.self c.in_default.is c.unregister.ensures.state c.unregister.ensures.value

pub registration_of-requires : goal.registration_of-requires
registration_of-requires g c =
    subst (CanUnregister g.F.Format.layout) (sym c.state.view_is) c.requires c.in-Some.running c.in-Some.is

pub returns-in_default-registration_of : goal.returns-in_default-registration_of
returns-in_default-registration_of g c =
    seen_none g.F.Format.layout _ c.args.state.now c.state.view_is c.args.slot c.in_ok-object.object c.in_ok-object.ensures.value
    c.in-Some.running c.registration_of.new.finals c.in-Some.is c.registration_of.ensures.unchanged
    c.in_default-registration_of.ensures.found

pub remove-requires : goal.remove-requires
remove-requires g c =
    is_listed c.state.inside.finals c.registration_of.new.finals c.in-Some-registration_of.position
    c.in-Some-registration_of.ensures.found.from c.registration_of.ensures.unchanged c.in-Some-registration_of.ensures.found.listed

pub returns : goal.returns
returns g c =
    seen_taken g.F.Format.layout _ c.args.state.now c.state.view_is c.args.slot c.in_ok-object.object c.in_ok-object.ensures.value
    c.in-Some.running c.registration_of.new.finals c.remove.new.self c.running_without.result c.in-Some.is
    c.registration_of.ensures.unchanged c.in-Some-registration_of.position c.in-Some-registration_of.ensures.found c.remove.ensures
    c.running_without.ensures
