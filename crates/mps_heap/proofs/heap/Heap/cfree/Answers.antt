use Rattle.std.proofs.Common.{subst, ◌≡◌, refl}
use Rattle.mps_model.specs.declared.call.Call.TheVariants as call
use Rattle.mps_heap_spec.specs.Caching.{block_to_cache}
use Rattle.mps_refinement.specs.Answering.{answer_to, says_ok}
use Rattle.mps_refinement.specs.RightMoving.{IsRightMoving}
use Rattle.mps_refinement.proofs.Worlds.CachingTrails.{cfree_is_right_after, cfree_keeps_room}
use Rattle.mps_refinement.proofs.Worlds.Room.{keeps_room}
use Rattle.mps_refinement.proofs.Worlds.Staying.{stays, grains_stay}
use Rattle.mps_heap_spec.proofs.NamesStay.{goes_to_cache, keys_stay_moving}
use Rattle.mps_heap.proofs.heap.Heap.cfree.Goals as goal

pub invariant_of-self : goal.invariant_of-self
invariant_of-self g c =
    let moved = cfree_is_right_after g.F.Format.layout c.self.inside.state c.args.trail.now c.args.cache c.args.place c.cfree.result
    c.cfree.new.state c.cfree.new.trail c.cfree.ensures.outcome in
    stays g.F.Format.layout c.self.inside.state c.cfree.new.state (call.CacheFree c.args.cache c.args.place) moved.moves
    (answer_to says_ok c.cfree.result) c.self.invariant moved.right

pub returns : goal.returns
returns g c = record {
  right = subst
      (λ h. IsRightMoving g.F.Format.layout h (call.CacheFree c.args.cache c.args.place) c.args.trail.now.moves
      c.cfree.new.trail.moves (answer_to says_ok c.cfree.result) c.cfree.new.state)
      c.self.view_is
      (cfree_is_right_after g.F.Format.layout c.self.inside.state c.args.trail.now c.args.cache c.args.place c.cfree.result
      c.cfree.new.state c.cfree.new.trail c.cfree.ensures.outcome);
  room = keeps_room c.args.trail.now c.self.inside.state
      (block_to_cache c.self.inside.state c.args.trail.now c.args.cache c.args.place c.cfree.ensures.outcome.words) c.cfree.result
      c.cfree.new.state c.cfree.new.trail c.cfree.ensures.outcome.comes (cfree_keeps_room g.F.Format.layout c.self.inside.state
      c.args.trail.now c.args.cache c.args.place c.cfree.ensures.outcome.words c.requires.fits);
  grains = subst (λ x. c.cfree.new.state.segs.grains ≡ x.segs.grains) c.self.view_is
      (grains_stay g.F.Format.layout c.self.inside.state c.cfree.new.state (call.CacheFree c.args.cache c.args.place)
      (cfree_is_right_after g.F.Format.layout c.self.inside.state c.args.trail.now c.args.cache c.args.place c.cfree.result
      c.cfree.new.state c.cfree.new.trail c.cfree.ensures.outcome).moves (answer_to says_ok c.cfree.result) c.self.invariant
      (cfree_is_right_after g.F.Format.layout c.self.inside.state c.args.trail.now c.args.cache c.args.place c.cfree.result
      c.cfree.new.state c.cfree.new.trail c.cfree.ensures.outcome).right refl);
  keys = subst (λ x. c.cfree.new.state.names.keys ≡ x.names.keys) c.self.view_is
      (keys_stay_moving c.self.inside.state c.args.trail.now _ c.cfree.ensures.outcome.comes (goes_to_cache c.self.inside.state
      c.args.trail.now c.args.cache c.args.place c.cfree.ensures.outcome.words));
}
