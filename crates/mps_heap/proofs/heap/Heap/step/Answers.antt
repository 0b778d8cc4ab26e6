use Rattle.std.proofs.Common.{◌≤◌, sym, subst, ◌≡◌, refl}
use Rattle.mps_model.specs.declared.call.Call.TheVariants as call
use Rattle.mps_heap_code.specs.Ticks.{HasTicked}
use Rattle.mps_refinement.specs.MovesNeeded.{moves_needed}
use Rattle.mps_refinement.specs.Answering.{says_progress}
use Rattle.mps_refinement.specs.RightMoving.{IsRightMoving}
use Rattle.mps_refinement.specs.UnitsLeft.{StepsDown}
use Rattle.mps_refinement.proofs.Worlds.Staying.{stays, grains_stay}
use Rattle.mps_heap.proofs.Collected.{can_step, stepped_down, stepped_rightly}
use Rattle.mps_heap_spec.proofs.KeysStay.{steps}
use Rattle.mps_heap.proofs.heap.Heap.step.Goals as goal

pub step-requires : goal.step-requires
step-requires g c =
    let room = subst (λ x. moves_needed x.segs ≤ c.args.trail.now.spare) (sym c.self.view_is) c.requires.fits in
    can_step g.F.Format.layout c.self.inside.state c.self.invariant c.is_whole.ensures.whole c.args.trail.now room c.args.n

pub invariant_of-self : goal.invariant_of-self
invariant_of-self g c =
    let layout = g.F.Format.layout in
    let h = c.self.inside.state in
    let room = subst (λ x. moves_needed x.segs ≤ c.args.trail.now.spare) (sym c.self.view_is) c.requires.fits in
    let moved = (stepped_rightly layout h c.self.invariant c.is_whole.ensures.whole c.args.trail.now room c.args.n c.step.new.state
    c.step.new.trail c.step.result c.step.ensures.stepped).0 in
    stays layout h c.step.new.state (call.Step c.args.n) moved.moves (says_progress c.step.result) c.self.invariant moved.right

pub returns : goal.returns
returns g c =
    let layout = g.F.Format.layout in
    let h = c.self.inside.state in
    let room = subst (λ x. moves_needed x.segs ≤ c.args.trail.now.spare) (sym c.self.view_is) c.requires.fits in
    let stepped = stepped_rightly layout h c.self.invariant c.is_whole.ensures.whole c.args.trail.now room c.args.n c.step.new.state
    c.step.new.trail c.step.result c.step.ensures.stepped in
    record {
      right = subst
          (λ x. IsRightMoving layout x (call.Step c.args.n) c.args.trail.now.moves c.step.new.trail.moves (says_progress c.step.result)
          c.step.new.state)
          c.self.view_is stepped.0;
      units = subst (λ x. StepsDown x c.args.n c.step.result c.step.new.state) c.self.view_is
          (stepped_down layout h c.self.invariant c.is_whole.ensures.whole c.args.trail.now room c.args.n c.step.new.state
          c.step.new.trail c.step.result c.step.ensures.stepped);
      ticks = subst (λ x. HasTicked x c.args.n c.step.result c.args.steps.now c.step.new.steps) c.self.view_is c.step.ensures.ticked;
      room = stepped.1;
      grains = subst (λ x. c.step.new.state.segs.grains ≡ x.segs.grains) c.self.view_is
          (grains_stay layout c.self.inside.state c.step.new.state (call.Step c.args.n) stepped.0.moves (says_progress c.step.result)
          c.self.invariant stepped.0.right refl);
      keys = subst (λ x. c.step.new.state.names.keys ≡ x.names.keys) c.self.view_is
          (steps g.F.Format.layout c.step.ensures.stepped);
    }
