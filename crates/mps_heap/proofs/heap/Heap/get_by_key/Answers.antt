use Rattle.std.proofs.Common.{◌≤◌, refl, subst, sym}
use Rattle.mps_model.specs.declared.call.Call.TheVariants as call
use Rattle.mps_heap_spec.specs.Keyed.{keyed_slots}
use Rattle.mps_heap_spec.proofs.ByKeys.{both_good}
use Rattle.mps_heap_spec.proofs.KeysStay.{getting}
use Rattle.mps_refinement.specs.Answering.{answer_to, says_ok}
use Rattle.mps_refinement.specs.MovesNeeded.{moves_needed}
use Rattle.mps_refinement.specs.UnitsLeft.{units_left}
use Rattle.mps_refinement.proofs.Left.Gets.{get_leaves_no_more}
use Rattle.mps_refinement.proofs.Units.GetCalls.{can_get, got_rightly}
use Rattle.mps_refinement.proofs.Worlds.Staying.{one_world, stays}
use Rattle.mps_heap.proofs.Rooms.{has_room}
use Rattle.mps_heap.proofs.ByKeys.{good, grains, moved, same_keys}
use Rattle.mps_heap.proofs.heap.Heap.get_by_key.Goals as goal

pub get-requires-clause-can : goal.get-requires-clause-can
get-requires-clause-can g c =
    let h = c.self.inside.state in
    let fits = subst (λ x. moves_needed x.segs ≤ c.args.trail.now.spare) (sym c.self.view_is) c.requires.fits in
    let room = has_room g.F.Format.layout h c.self.invariant c.args.trail.now.spare fits in
    let one = one_world g.F.Format.layout h c.self.invariant in
    can_get g.F.Format.layout h c.args.trail.now room one.0 one.1 c.in_ok-into.into.slot c.in_ok-from.from.slot c.args.cell

pub invariant_of-self : goal.invariant_of-self
invariant_of-self g c =
    let h = c.self.inside.state in
    let into = c.in_ok-into.into.slot in
    let from = c.in_ok-from.from.slot in
    let fits = subst (λ x. moves_needed x.segs ≤ c.args.trail.now.spare) (sym c.self.view_is) c.requires.fits in
    let room = has_room g.F.Format.layout h c.self.invariant c.args.trail.now.spare fits in
    let moves = (got_rightly g.F.Format.layout h c.args.trail.now room into from c.args.cell c.get.result c.get.new.state
    c.get.new.trail c.get.ensures.outcome c.self.invariant).0 in
    stays g.F.Format.layout h c.get.new.state (call.Get into from c.args.cell) moves.moves (answer_to says_ok c.get.result)
    c.self.invariant moves.right

pub returns : goal.returns
returns g c =
    let layout = g.F.Format.layout in
    let h = c.self.inside.state in
    let m = c.args.trail.now in
    let into = c.in_ok-into.into.slot in
    let from = c.in_ok-from.from.slot in
    let fits = subst (λ x. moves_needed x.segs ≤ c.args.trail.now.spare) (sym c.self.view_is) c.requires.fits in
    let room = has_room g.F.Format.layout h c.self.invariant c.args.trail.now.spare fits in
    let got = got_rightly layout h m room into from c.args.cell c.get.result c.get.new.state c.get.new.trail c.get.ensures.outcome
    c.self.invariant in
    let one = one_world layout h c.self.invariant in
    let is = both_good c.in_ok-into.ensures.good c.in_ok-from.ensures.good in
    record {
      right = moved layout c.self.view_is (λ k. keyed_slots k c.args.target c.args.source) is (λ at. call.Get at.0 at.1 c.args.cell)
          (answer_to says_ok c.get.result) m.moves c.get.new.trail.moves c.get.new.state got.0;
      stale = good layout c.self.view_is (λ k. keyed_slots k c.args.target c.args.source) is _;
      units = subst (λ x. units_left c.get.new.state ≤ units_left x) c.self.view_is
          (get_leaves_no_more layout h m room into from c.args.cell c.get.result c.get.new.state c.get.new.trail one.0 one.1
          c.get.ensures.outcome);
      room = got.1;
      grains = grains layout c.self.view_is (λ k. keyed_slots k c.args.target c.args.source) is (λ at. call.Get at.0 at.1 c.args.cell)
          (answer_to says_ok c.get.result) got.0.moves c.get.new.state c.self.invariant got.0.right refl;
      keys = same_keys c.self.view_is c.get.new.state (getting layout c.get.ensures.outcome);
    }
