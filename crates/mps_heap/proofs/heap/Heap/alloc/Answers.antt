use Rattle.std.proofs.Common.{subst, ◌≡◌, refl}
use Rattle.mps_model.specs.declared.call.Call.TheVariants as call
use Rattle.mps_heap_spec.specs.Manual.{block_allocated}
use Rattle.mps_refinement.specs.Answering.{answer_to, says_ok}
use Rattle.mps_refinement.specs.RightMoving.{IsRightMoving}
use Rattle.mps_refinement.proofs.Worlds.Appending.{alloc_is_right_after}
use Rattle.mps_refinement.proofs.Worlds.Room.{keeps_room, alloc_keeps_room}
use Rattle.mps_refinement.proofs.Worlds.Staying.{stays, grains_stay}
use Rattle.mps_heap_spec.proofs.NamesStay.{allocates, keys_stay_moving}
use Rattle.mps_heap.proofs.heap.Heap.alloc.Goals as goal

pub invariant_of-self : goal.invariant_of-self
invariant_of-self g c =
    let moved = alloc_is_right_after g.F.Format.layout c.self.inside.state c.args.trail.now c.args.pool c.args.words c.args.place
    c.alloc.result c.alloc.new.state c.alloc.new.trail c.alloc.ensures in
    stays g.F.Format.layout c.self.inside.state c.alloc.new.state (call.Alloc c.args.pool c.args.words c.args.place) moved.moves
    (answer_to says_ok c.alloc.result) c.self.invariant moved.right

pub returns : goal.returns
returns g c = record {
  right = subst
      (λ h. IsRightMoving g.F.Format.layout h (call.Alloc c.args.pool c.args.words c.args.place) c.args.trail.now.moves
      c.alloc.new.trail.moves (answer_to says_ok c.alloc.result) c.alloc.new.state)
      c.self.view_is
      (alloc_is_right_after g.F.Format.layout c.self.inside.state c.args.trail.now c.args.pool c.args.words c.args.place c.alloc.result
      c.alloc.new.state c.alloc.new.trail c.alloc.ensures);
  room = keeps_room c.args.trail.now c.self.inside.state (block_allocated c.self.inside.state c.args.trail.now c.args.pool c.args.words
      c.args.place) c.alloc.result c.alloc.new.state
      c.alloc.new.trail c.alloc.ensures (alloc_keeps_room g.F.Format.layout c.self.inside.state c.args.trail.now c.args.pool
      c.args.words c.args.place c.requires.fits);
  grains = subst (λ x. c.alloc.new.state.segs.grains ≡ x.segs.grains) c.self.view_is
      (grains_stay g.F.Format.layout c.self.inside.state c.alloc.new.state (call.Alloc c.args.pool c.args.words c.args.place)
      (alloc_is_right_after g.F.Format.layout c.self.inside.state c.args.trail.now c.args.pool c.args.words c.args.place c.alloc.result
      c.alloc.new.state c.alloc.new.trail c.alloc.ensures).moves (answer_to says_ok c.alloc.result) c.self.invariant (alloc_is_right_after
      g.F.Format.layout c.self.inside.state c.args.trail.now c.args.pool c.args.words c.args.place c.alloc.result c.alloc.new.state
      c.alloc.new.trail c.alloc.ensures).right refl);
  keys = subst (λ x. c.alloc.new.state.names.keys ≡ x.names.keys) c.self.view_is
      (keys_stay_moving c.self.inside.state c.args.trail.now _ c.alloc.ensures (allocates c.self.inside.state c.args.trail.now c.args.pool
      c.args.words c.args.place));
}
