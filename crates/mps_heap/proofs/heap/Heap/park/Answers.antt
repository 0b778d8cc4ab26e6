use Rattle.std.proofs.Common.{◌≡◌, ◌≤◌, sym, subst, refl, ◌∙◌}
use Rattle.mps_model.specs.declared.call.Call.TheVariants as call
use Rattle.mps_model.specs.declared.reply.Reply.TheVariants as reply
use Rattle.mps_model.specs.Answer.{Replied}
use Rattle.mps_refinement.specs.MovesNeeded.{moves_needed}
use Rattle.mps_refinement.specs.RightMoving.{IsRightMoving}
use Rattle.mps_refinement.specs.RightStep.{IsRight}
use Rattle.mps_refinement.specs.UnitsLeft.{units_left}
use Rattle.mps_refinement.proofs.Worlds.Staying.{stays, grains_stay}
use Rattle.mps_heap.proofs.Collected.{can_end, none_left_parked, parked_rightly}
use Rattle.mps_heap_spec.proofs.KeysStay.{units_follow, same_heap}
use Rattle.mps_heap.proofs.heap.Heap.park.Goals as goal

pub end_collection-requires : goal.end_collection-requires
end_collection-requires g c =
    let room = subst (λ x. moves_needed x.segs ≤ c.args.trail.now.spare) (sym c.self.view_is) c.requires.fits in
    can_end g.F.Format.layout c.self.inside.state c.self.invariant c.is_whole.ensures.whole c.args.trail.now room

pub invariant_of-self : goal.invariant_of-self
invariant_of-self g c =
    let layout = g.F.Format.layout in
    let h = c.self.inside.state in
    let room = subst (λ x. moves_needed x.segs ≤ c.args.trail.now.spare) (sym c.self.view_is) c.requires.fits in
    let moved = (parked_rightly layout h c.self.invariant c.is_whole.ensures.whole c.args.trail.now room c.end_collection.new.state
    c.end_collection.new.trail c.end_collection.ensures).0 in
    stays layout h c.park.new.state call.Park moved.moves (Replied reply.Ok) c.self.invariant
    (subst (λ x. IsRight layout h call.Park moved.moves (Replied reply.Ok) x) (sym c.park.ensures) moved.right)

pub returns : goal.returns
returns g c =
    let layout = g.F.Format.layout in
    let h = c.self.inside.state in
    let room = subst (λ x. moves_needed x.segs ≤ c.args.trail.now.spare) (sym c.self.view_is) c.requires.fits in
    let parked = parked_rightly layout h c.self.invariant c.is_whole.ensures.whole c.args.trail.now room c.end_collection.new.state
    c.end_collection.new.trail c.end_collection.ensures in
    record {
      right = subst
          (λ x. IsRightMoving layout x call.Park c.args.trail.now.moves c.end_collection.new.trail.moves (Replied reply.Ok)
          c.park.new.state)
          c.self.view_is
          (subst (λ x. IsRightMoving layout h call.Park c.args.trail.now.moves c.end_collection.new.trail.moves (Replied reply.Ok) x)
          (sym c.park.ensures) parked.0);
      units = subst (λ x. units_left x ≡ 0) (sym c.park.ensures)
          (none_left_parked layout h c.self.invariant c.is_whole.ensures.whole c.args.trail.now room c.end_collection.new.state
          c.end_collection.new.trail c.end_collection.ensures);
      room = parked.1;
      grains = subst (λ x. c.park.new.state.segs.grains ≡ x.segs.grains) c.self.view_is
          (grains_stay layout c.self.inside.state c.park.new.state call.Park (subst (λ x. IsRightMoving layout h call.Park
          c.args.trail.now.moves c.end_collection.new.trail.moves (Replied reply.Ok) x) (sym c.park.ensures) parked.0).moves (Replied
          reply.Ok) c.self.invariant (subst (λ x. IsRightMoving layout h call.Park c.args.trail.now.moves c.end_collection.new.trail.moves
          (Replied reply.Ok) x) (sym c.park.ensures) parked.0).right refl);
      keys = subst (λ x. c.park.new.state.names.keys ≡ x.names.keys) c.self.view_is
          (same_heap c.park.ensures ∙ units_follow g.F.Format.layout c.end_collection.ensures);
    }
