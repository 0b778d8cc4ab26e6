use Rattle.std.proofs.Common.{◌≡◌, ◌<◌, true, refl, sym, subst}
use Rattle.mps_model.specs.declared.call.Call.TheVariants as call
use Rattle.mps_heap_spec.specs.Collecting.{can_collect}
use Rattle.mps_refinement.specs.MovesNeeded.{moves_needed}
use Rattle.mps_refinement.specs.Answering.{answer_to, says_ok}
use Rattle.mps_refinement.specs.RightMoving.{IsRightMoving}
use Rattle.mps_refinement.specs.UnitsLeft.{ReservesWithin}
use Rattle.mps_refinement.proofs.Worlds.Staying.{grains_stay, is_ready, stays}
use Rattle.mps_heap.proofs.Reserving.{can_poll_here, reserved_rightly, reserved_within, some_room}
use Rattle.mps_heap_spec.proofs.KeysStay.{reserving}
use Rattle.mps_heap.proofs.heap.Heap.reserve.Goals as goal

pub reserve-requires : goal.reserve-requires
reserve-requires g c =
    let layout = g.F.Format.layout in
    let h = c.self.inside.state in
    let m = c.args.trail.now in
    let room = subst (λ x. moves_needed x.segs < c.args.trail.now.spare) (sym c.self.view_is) c.requires.fits in
    record {
      ready = is_ready layout h c.self.invariant;
      fits = some_room layout h c.self.invariant c.is_whole.ensures.whole m room;
      can = can_poll_here layout h c.self.invariant c.is_whole.ensures.whole m room c.is_whole.ensures.made_before
          (subst (λ x. can_collect x ≡ true) (sym c.self.view_is) c.requires.few_flips);
    }

pub invariant_of-self : goal.invariant_of-self
invariant_of-self g c =
    let layout = g.F.Format.layout in
    let h = c.self.inside.state in
    let room = subst (λ x. moves_needed x.segs < c.args.trail.now.spare) (sym c.self.view_is) c.requires.fits in
    let moved = (reserved_rightly layout h c.self.invariant c.is_whole.ensures.whole c.args.trail.now room c.is_whole.ensures.made_before
    c.args.x c.args.head
    c.reserve.result c.reserve.new.state c.reserve.new.trail c.reserve.ensures).0 in
    stays layout h c.reserve.new.state (call.Reserve c.args.x c.args.head) moved.moves (answer_to says_ok c.reserve.result)
    c.self.invariant moved.right

pub returns : goal.returns
returns g c =
    let layout = g.F.Format.layout in
    let h = c.self.inside.state in
    let room = subst (λ x. moves_needed x.segs < c.args.trail.now.spare) (sym c.self.view_is) c.requires.fits in
    let came = reserved_rightly layout h c.self.invariant c.is_whole.ensures.whole c.args.trail.now room c.is_whole.ensures.made_before
    c.args.x c.args.head
    c.reserve.result c.reserve.new.state c.reserve.new.trail c.reserve.ensures in
    record {
      right = subst
          (λ x. IsRightMoving layout x (call.Reserve c.args.x c.args.head) c.args.trail.now.moves c.reserve.new.trail.moves
          (answer_to says_ok c.reserve.result) c.reserve.new.state)
          c.self.view_is came.0;
      units = subst (λ x. ReservesWithin x.running x c.reserve.new.state) c.self.view_is
          (reserved_within layout h c.self.invariant c.is_whole.ensures.whole c.args.trail.now room c.is_whole.ensures.made_before c.args.x
          c.args.head c.reserve.result c.reserve.new.state c.reserve.new.trail c.reserve.ensures);
      room = came.1;
      grains = subst (λ x. c.reserve.new.state.segs.grains ≡ x.segs.grains) c.self.view_is
          (grains_stay layout h c.reserve.new.state (call.Reserve c.args.x c.args.head) came.0.moves (answer_to says_ok c.reserve.result)
          c.self.invariant came.0.right refl);
      keys = subst (λ x. c.reserve.new.state.names.keys ≡ x.names.keys) c.self.view_is
          (reserving g.F.Format.layout c.reserve.ensures);
    }
