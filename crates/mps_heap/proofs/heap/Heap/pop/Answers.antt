use Rattle.std.proofs.Common.{refl, subst, sym, ◌≡◌, ◌≤◌}
use Rattle.mps_model.specs.declared.call.Call.TheVariants as call
use Rattle.mps_heap_spec.specs.Popping.{frame_popped, moves_of_pop}
use Rattle.mps_refinement.specs.Answering.{answer_to, says_ok}
use Rattle.mps_refinement.specs.RightMoving.{IsRightMoving}
use Rattle.mps_refinement.proofs.Worlds.PopTrails.{pop_is_right_after, pop_keeps_room}
use Rattle.mps_refinement.proofs.Worlds.Room.{keeps_room}
use Rattle.mps_refinement.proofs.Worlds.Staying.{grains_stay, stays}
use Rattle.mps_heap_spec.proofs.NamesStay.{pops, keys_stay_moving}
use Rattle.mps_heap.proofs.heap.Heap.pop.Goals as goal

pub invariant_of-self : goal.invariant_of-self
invariant_of-self g c =
    let moved = pop_is_right_after g.F.Format.layout c.self.inside.state c.args.trail.now c.args.pool c.args.frame c.pop.result
    c.pop.new.state c.pop.new.trail c.pop.ensures.outcome in
    stays g.F.Format.layout c.self.inside.state c.pop.new.state (call.Pop c.args.pool c.args.frame) moved.moves
    (answer_to says_ok c.pop.result) c.self.invariant moved.right

pub returns : goal.returns
returns g c =
    let h = c.self.inside.state in
    let came = pop_is_right_after g.F.Format.layout h c.args.trail.now c.args.pool c.args.frame c.pop.result c.pop.new.state
    c.pop.new.trail c.pop.ensures.outcome in
    record {
      right = subst
          (λ x. IsRightMoving g.F.Format.layout x (call.Pop c.args.pool c.args.frame) c.args.trail.now.moves
          c.pop.new.trail.moves (answer_to says_ok c.pop.result) c.pop.new.state)
          c.self.view_is came;
      room = keeps_room c.args.trail.now h (frame_popped h c.args.trail.now c.args.pool c.args.frame)
          c.pop.result c.pop.new.state c.pop.new.trail c.pop.ensures.outcome
          (pop_keeps_room g.F.Format.layout h c.args.trail.now c.args.pool c.args.frame
          (subst (λ x. moves_of_pop x c.args.pool c.args.frame ≤ c.args.trail.now.spare) (sym c.self.view_is) c.requires.fits));
      grains = subst (λ x. c.pop.new.state.segs.grains ≡ x.segs.grains) c.self.view_is
          (grains_stay g.F.Format.layout h c.pop.new.state (call.Pop c.args.pool c.args.frame) came.moves (answer_to says_ok
          c.pop.result) c.self.invariant came.right refl);
      keys = subst (λ x. c.pop.new.state.names.keys ≡ x.names.keys) c.self.view_is
          (keys_stay_moving c.self.inside.state c.args.trail.now _ c.pop.ensures.outcome (pops c.self.inside.state c.args.trail.now
          c.args.pool c.args.frame));
    }
