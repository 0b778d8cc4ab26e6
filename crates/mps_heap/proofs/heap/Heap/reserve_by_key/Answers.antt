use Rattle.std.proofs.Common.{◌≡◌, ◌<◌, true, refl, sym, subst}
use Rattle.mps_model.specs.declared.call.Call.TheVariants as call
use Rattle.mps_names.specs.Keys.{point_name}
use Rattle.mps_heap_spec.specs.Collecting.{can_collect}
use Rattle.mps_heap_spec.proofs.KeysStay.{reserving}
use Rattle.mps_refinement.specs.Answering.{answer_to, says_ok}
use Rattle.mps_refinement.specs.MovesNeeded.{moves_needed}
use Rattle.mps_refinement.specs.UnitsLeft.{ReservesWithin}
use Rattle.mps_refinement.proofs.Worlds.Staying.{is_ready, stays}
use Rattle.mps_heap.proofs.ByKeys.{good, grains, moved, same_keys}
use Rattle.mps_heap.proofs.Reserving.{can_poll_here, reserved_rightly, reserved_within, some_room}
use Rattle.mps_heap.proofs.heap.Heap.reserve_by_key.Goals as goal

pub reserve-requires-clause-ready : goal.reserve-requires-clause-ready
reserve-requires-clause-ready g c = is_ready g.F.Format.layout c.self.inside.state c.self.invariant

pub reserve-requires-clause-fits : goal.reserve-requires-clause-fits
reserve-requires-clause-fits g c =
    let room = subst (λ x. moves_needed x.segs < c.args.trail.now.spare) (sym c.self.view_is) c.requires.fits in
    some_room g.F.Format.layout c.self.inside.state c.self.invariant c.is_whole.ensures.whole c.args.trail.now room

pub reserve-requires-clause-can : goal.reserve-requires-clause-can
reserve-requires-clause-can g c =
    let room = subst (λ x. moves_needed x.segs < c.args.trail.now.spare) (sym c.self.view_is) c.requires.fits in
    can_poll_here g.F.Format.layout c.self.inside.state c.self.invariant c.is_whole.ensures.whole c.args.trail.now room
    c.is_whole.ensures.made_before (subst (λ x. can_collect x ≡ true) (sym c.self.view_is) c.requires.few_flips)

pub invariant_of-self : goal.invariant_of-self
invariant_of-self g c =
    let layout = g.F.Format.layout in
    let h = c.self.inside.state in
    let x = c.in_ok-point.point.value in
    let room = subst (λ x. moves_needed x.segs < c.args.trail.now.spare) (sym c.self.view_is) c.requires.fits in
    let moves = (reserved_rightly layout h c.self.invariant c.is_whole.ensures.whole c.args.trail.now room c.is_whole.ensures.made_before
    x c.args.head c.reserve.result c.reserve.new.state c.reserve.new.trail c.reserve.ensures).0 in
    stays layout h c.reserve.new.state (call.Reserve x c.args.head) moves.moves (answer_to says_ok c.reserve.result)
    c.self.invariant moves.right

pub returns : goal.returns
returns g c =
    let layout = g.F.Format.layout in
    let h = c.self.inside.state in
    let m = c.args.trail.now in
    let x = c.in_ok-point.point.value in
    let is = c.in_ok-point.ensures.good in
    let room = subst (λ x. moves_needed x.segs < c.args.trail.now.spare) (sym c.self.view_is) c.requires.fits in
    let came = reserved_rightly layout h c.self.invariant c.is_whole.ensures.whole m room c.is_whole.ensures.made_before
    x c.args.head c.reserve.result c.reserve.new.state c.reserve.new.trail c.reserve.ensures in
    record {
      right = moved layout c.self.view_is (λ k. point_name k c.args.x) is (λ at. call.Reserve at c.args.head)
          (answer_to says_ok c.reserve.result) m.moves c.reserve.new.trail.moves c.reserve.new.state came.0;
      stale = good layout c.self.view_is (λ k. point_name k c.args.x) is _;
      units = subst (λ x. ReservesWithin x.running x c.reserve.new.state) c.self.view_is
          (reserved_within layout h c.self.invariant c.is_whole.ensures.whole m room c.is_whole.ensures.made_before x
          c.args.head c.reserve.result c.reserve.new.state c.reserve.new.trail c.reserve.ensures);
      room = came.1;
      grains = grains layout c.self.view_is (λ k. point_name k c.args.x) is (λ at. call.Reserve at c.args.head)
          (answer_to says_ok c.reserve.result) came.0.moves c.reserve.new.state c.self.invariant came.0.right refl;
      keys = same_keys c.self.view_is c.reserve.new.state (reserving layout c.reserve.ensures);
    }
