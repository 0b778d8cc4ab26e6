use Rattle.std.proofs.Common.{subst, ◌≡◌, refl}
use Rattle.mps_model.specs.declared.call.Call.TheVariants as call
use Rattle.mps_heap_spec.specs.Manual.{block_freed}
use Rattle.mps_refinement.specs.Answering.{answer_to, says_ok}
use Rattle.mps_refinement.specs.RightMoving.{IsRightMoving}
use Rattle.mps_refinement.proofs.Worlds.Appending.{free_is_right_after}
use Rattle.mps_refinement.proofs.Worlds.Room.{keeps_room, free_keeps_room}
use Rattle.mps_refinement.proofs.Worlds.Staying.{stays, grains_stay}
use Rattle.mps_heap_spec.proofs.NamesStay.{frees, keys_stay_moving}
use Rattle.mps_heap.proofs.heap.Heap.free.Goals as goal

pub invariant_of-self : goal.invariant_of-self
invariant_of-self g c =
    let moved = free_is_right_after g.F.Format.layout c.self.inside.state c.args.trail.now c.args.place c.free.result c.free.new.state
    c.free.new.trail c.free.ensures in
    stays g.F.Format.layout c.self.inside.state c.free.new.state (call.Free c.args.place) moved.moves (answer_to says_ok c.free.result)
    c.self.invariant moved.right

pub returns : goal.returns
returns g c = record {
  right = subst
      (λ h. IsRightMoving g.F.Format.layout h (call.Free c.args.place) c.args.trail.now.moves c.free.new.trail.moves (answer_to says_ok
      c.free.result) c.free.new.state)
      c.self.view_is
      (free_is_right_after g.F.Format.layout c.self.inside.state c.args.trail.now c.args.place c.free.result c.free.new.state
      c.free.new.trail c.free.ensures);
  room = keeps_room c.args.trail.now c.self.inside.state (block_freed c.self.inside.state c.args.trail.now c.args.place) c.free.result
      c.free.new.state
      c.free.new.trail c.free.ensures (free_keeps_room g.F.Format.layout c.self.inside.state c.args.trail.now c.args.place
      c.requires.fits);
  grains = subst (λ x. c.free.new.state.segs.grains ≡ x.segs.grains) c.self.view_is
      (grains_stay g.F.Format.layout c.self.inside.state c.free.new.state (call.Free c.args.place) (free_is_right_after g.F.Format.layout
      c.self.inside.state c.args.trail.now c.args.place c.free.result c.free.new.state c.free.new.trail c.free.ensures).moves (answer_to
      says_ok c.free.result) c.self.invariant (free_is_right_after g.F.Format.layout c.self.inside.state c.args.trail.now c.args.place
      c.free.result c.free.new.state c.free.new.trail c.free.ensures).right refl);
  keys = subst (λ x. c.free.new.state.names.keys ≡ x.names.keys) c.self.view_is
      (keys_stay_moving c.self.inside.state c.args.trail.now _ c.free.ensures (frees c.self.inside.state c.args.trail.now c.args.place));
}
