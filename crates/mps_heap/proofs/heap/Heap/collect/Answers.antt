use Rattle.std.proofs.Common.{◌≡◌, ◌*◌, ◌≤◌, true, sym, subst, refl, ◌∙◌}
use Rattle.mps_model.specs.declared.call.Call.TheVariants as call
use Rattle.mps_model.specs.declared.reply.Reply.TheVariants as reply
use Rattle.mps_model.specs.Answer.{Replied}
use Rattle.mps_heap_spec.specs.Collecting.{can_collect}
use Rattle.mps_refinement.specs.MovesNeeded.{moves_needed}
use Rattle.mps_refinement.specs.RightMoving.{IsRightMoving}
use Rattle.mps_refinement.proofs.Worlds.Staying.{stays, grains_stay}
use Rattle.mps_heap.proofs.Collected.{can_collect_then, can_count, can_end_first, collected_rightly, few_epochs, none_left}
use Rattle.mps_heap_spec.proofs.KeysStay.{collect_follows, units_follow}
use Rattle.mps_heap.proofs.heap.Heap.collect.Goals as goal

pub end_collection-requires : goal.end_collection-requires
end_collection-requires g c =
    let can = subst (λ x. can_collect x ≡ true) (sym c.self.view_is) c.requires.built in
    let room = subst (λ x. 2 * moves_needed x.segs ≤ c.args.trail.now.spare) (sym c.self.view_is) c.requires.fits in
    can_end_first g.F.Format.layout c.self.inside.state c.self.invariant c.is_whole.ensures.whole c.args.trail.now can room

pub collect-requires : goal.collect-requires
collect-requires g c =
    let can = subst (λ x. can_collect x ≡ true) (sym c.self.view_is) c.requires.built in
    let room = subst (λ x. 2 * moves_needed x.segs ≤ c.args.trail.now.spare) (sym c.self.view_is) c.requires.fits in
    let layout = g.F.Format.layout in
    let h = c.self.inside.state in
    record {
      built = can_count layout h c.self.invariant c.is_whole.ensures.whole c.args.trail.now can room c.end_collection.new.state
          c.end_collection.new.trail c.end_collection.ensures;
      few_epochs = few_epochs layout h c.self.invariant c.is_whole.ensures.whole c.args.trail.now can room c.end_collection.new.state
          c.end_collection.new.trail c.end_collection.ensures;
      can = can_collect_then layout h c.self.invariant c.is_whole.ensures.whole c.args.trail.now can room c.end_collection.new.state
          c.end_collection.new.trail c.end_collection.ensures c.is_whole-2.ensures.whole;
    }

pub invariant_of-self : goal.invariant_of-self
invariant_of-self g c =
    let can = subst (λ x. can_collect x ≡ true) (sym c.self.view_is) c.requires.built in
    let room = subst (λ x. 2 * moves_needed x.segs ≤ c.args.trail.now.spare) (sym c.self.view_is) c.requires.fits in
    let layout = g.F.Format.layout in
    let h = c.self.inside.state in
    let moved = (collected_rightly layout h c.self.invariant c.is_whole.ensures.whole c.args.trail.now can room c.end_collection.new.state
    c.end_collection.new.trail c.end_collection.ensures c.is_whole-2.ensures.whole c.is_whole.ensures.made_before c.collect.new.state
    c.collect.new.trail c.collect.ensures.collected).right in
    stays layout h c.collect.new.state call.Collect moved.moves (Replied reply.Ok) c.self.invariant moved.right

pub returns : goal.returns
returns g c =
    let can = subst (λ x. can_collect x ≡ true) (sym c.self.view_is) c.requires.built in
    let room = subst (λ x. 2 * moves_needed x.segs ≤ c.args.trail.now.spare) (sym c.self.view_is) c.requires.fits in
    let layout = g.F.Format.layout in
    let h = c.self.inside.state in
    let right = collected_rightly layout h c.self.invariant c.is_whole.ensures.whole c.args.trail.now can room c.end_collection.new.state
    c.end_collection.new.trail c.end_collection.ensures c.is_whole-2.ensures.whole c.is_whole.ensures.made_before c.collect.new.state
    c.collect.new.trail c.collect.ensures.collected in
    record {
      right = subst
          (λ x. IsRightMoving layout x call.Collect c.args.trail.now.moves c.collect.new.trail.moves (Replied reply.Ok)
          c.collect.new.state)
          c.self.view_is right.right;
      units = none_left layout h c.self.invariant c.is_whole.ensures.whole c.args.trail.now can room c.end_collection.new.state
          c.end_collection.new.trail c.end_collection.ensures c.is_whole-2.ensures.whole c.collect.new.state c.collect.new.trail
          c.collect.ensures.collected;
      room = right.room;
      grains = subst (λ x. c.collect.new.state.segs.grains ≡ x.segs.grains) c.self.view_is
          (grains_stay layout c.self.inside.state c.collect.new.state call.Collect right.right.moves (Replied reply.Ok) c.self.invariant
          right.right.right refl);
      keys = subst (λ x. c.collect.new.state.names.keys ≡ x.names.keys) c.self.view_is
          (collect_follows g.F.Format.layout c.collect.ensures.collected ∙ units_follow g.F.Format.layout c.end_collection.ensures);
    }
