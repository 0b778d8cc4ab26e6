use Rattle.std.proofs.Common.{subst, ◌≡◌, refl}
use Rattle.mps_model.specs.declared.call.Call.TheVariants as call
use Rattle.mps_heap_spec.specs.Caching.{block_from_cache}
use Rattle.mps_refinement.specs.Answering.{answer_to, says_ok}
use Rattle.mps_refinement.specs.RightMoving.{IsRightMoving}
use Rattle.mps_refinement.proofs.Worlds.CachingTrails.{calloc_is_right_after, calloc_keeps_room}
use Rattle.mps_refinement.proofs.Worlds.Room.{keeps_room}
use Rattle.mps_refinement.proofs.Worlds.Staying.{stays, grains_stay}
use Rattle.mps_heap_spec.proofs.NamesStay.{comes_from_cache, keys_stay_moving}
use Rattle.mps_heap.proofs.heap.Heap.calloc.Goals as goal

pub invariant_of-self : goal.invariant_of-self
invariant_of-self g c =
    let moved = calloc_is_right_after g.F.Format.layout c.self.inside.state c.args.trail.now c.args.cache c.args.words c.args.place
    c.calloc.result c.calloc.new.state c.calloc.new.trail c.calloc.ensures in
    stays g.F.Format.layout c.self.inside.state c.calloc.new.state (call.CacheAlloc c.args.cache c.args.words c.args.place) moved.moves
    (answer_to says_ok c.calloc.result) c.self.invariant moved.right

pub returns : goal.returns
returns g c = record {
  right = subst
      (λ h. IsRightMoving g.F.Format.layout h (call.CacheAlloc c.args.cache c.args.words c.args.place) c.args.trail.now.moves
      c.calloc.new.trail.moves (answer_to says_ok c.calloc.result) c.calloc.new.state)
      c.self.view_is
      (calloc_is_right_after g.F.Format.layout c.self.inside.state c.args.trail.now c.args.cache c.args.words c.args.place
      c.calloc.result c.calloc.new.state c.calloc.new.trail c.calloc.ensures);
  room = keeps_room c.args.trail.now c.self.inside.state
      (block_from_cache c.self.inside.state c.args.trail.now c.args.cache c.args.words c.args.place) c.calloc.result c.calloc.new.state
      c.calloc.new.trail c.calloc.ensures (calloc_keeps_room g.F.Format.layout c.self.inside.state c.args.trail.now c.args.cache
      c.args.words c.args.place c.requires.fits);
  grains = subst (λ x. c.calloc.new.state.segs.grains ≡ x.segs.grains) c.self.view_is
      (grains_stay g.F.Format.layout c.self.inside.state c.calloc.new.state (call.CacheAlloc c.args.cache c.args.words c.args.place)
      (calloc_is_right_after g.F.Format.layout c.self.inside.state c.args.trail.now c.args.cache c.args.words c.args.place c.calloc.result
      c.calloc.new.state c.calloc.new.trail c.calloc.ensures).moves (answer_to says_ok c.calloc.result) c.self.invariant
      (calloc_is_right_after g.F.Format.layout c.self.inside.state c.args.trail.now c.args.cache c.args.words c.args.place c.calloc.result
      c.calloc.new.state c.calloc.new.trail c.calloc.ensures).right refl);
  keys = subst (λ x. c.calloc.new.state.names.keys ≡ x.names.keys) c.self.view_is
      (keys_stay_moving c.self.inside.state c.args.trail.now _ c.calloc.ensures (comes_from_cache c.self.inside.state c.args.trail.now
      c.args.cache c.args.words c.args.place));
}
