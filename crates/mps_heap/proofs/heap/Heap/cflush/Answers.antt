use Rattle.std.proofs.Common.{subst, sym, ◌≤◌, ◌≡◌, refl}
use Rattle.mps_model.specs.declared.call.Call.TheVariants as call
use Rattle.mps_heap_spec.specs.Caching.{cache_flushed, moves_of_flush}
use Rattle.mps_refinement.specs.Answering.{answer_to, says_ok}
use Rattle.mps_refinement.specs.RightMoving.{IsRightMoving}
use Rattle.mps_refinement.proofs.Worlds.FlushTrails.{cflush_is_right_after, cflush_keeps_room}
use Rattle.mps_refinement.proofs.Worlds.Room.{keeps_room}
use Rattle.mps_refinement.proofs.Worlds.Staying.{stays, grains_stay}
use Rattle.mps_heap_spec.proofs.NamesStay.{flushes, keys_stay_moving}
use Rattle.mps_heap.proofs.heap.Heap.cflush.Goals as goal

pub invariant_of-self : goal.invariant_of-self
invariant_of-self g c =
    let moved = cflush_is_right_after g.F.Format.layout c.self.inside.state c.args.trail.now c.args.cache c.cflush.result
    c.cflush.new.state c.cflush.new.trail c.cflush.ensures.outcome in
    stays g.F.Format.layout c.self.inside.state c.cflush.new.state (call.CacheFlush c.args.cache) moved.moves
    (answer_to says_ok c.cflush.result) c.self.invariant moved.right

pub returns : goal.returns
returns g c = record {
  right = subst
      (λ h. IsRightMoving g.F.Format.layout h (call.CacheFlush c.args.cache) c.args.trail.now.moves
      c.cflush.new.trail.moves (answer_to says_ok c.cflush.result) c.cflush.new.state)
      c.self.view_is
      (cflush_is_right_after g.F.Format.layout c.self.inside.state c.args.trail.now c.args.cache c.cflush.result
      c.cflush.new.state c.cflush.new.trail c.cflush.ensures.outcome);
  room = keeps_room c.args.trail.now c.self.inside.state (cache_flushed c.self.inside.state c.args.trail.now c.args.cache)
      c.cflush.result c.cflush.new.state c.cflush.new.trail c.cflush.ensures.outcome
      (cflush_keeps_room g.F.Format.layout c.self.inside.state c.args.trail.now c.args.cache
      (subst (λ h. moves_of_flush h c.args.cache ≤ c.args.trail.now.spare) (sym c.self.view_is) c.requires.fits));
  grains = subst (λ x. c.cflush.new.state.segs.grains ≡ x.segs.grains) c.self.view_is
      (grains_stay g.F.Format.layout c.self.inside.state c.cflush.new.state (call.CacheFlush c.args.cache) (cflush_is_right_after
      g.F.Format.layout c.self.inside.state c.args.trail.now c.args.cache c.cflush.result c.cflush.new.state c.cflush.new.trail
      c.cflush.ensures.outcome).moves (answer_to says_ok c.cflush.result) c.self.invariant (cflush_is_right_after g.F.Format.layout
      c.self.inside.state c.args.trail.now c.args.cache c.cflush.result c.cflush.new.state c.cflush.new.trail
      c.cflush.ensures.outcome).right refl);
  keys = subst (λ x. c.cflush.new.state.names.keys ≡ x.names.keys) c.self.view_is
      (keys_stay_moving c.self.inside.state c.args.trail.now _ c.cflush.ensures.outcome (flushes c.self.inside.state c.args.trail.now
      c.args.cache));
}
