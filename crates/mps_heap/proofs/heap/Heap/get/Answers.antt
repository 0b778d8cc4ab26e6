use Rattle.std.proofs.Common.{◌≡◌, ◌≤◌, refl, subst, sym}
use Rattle.mps_model.specs.declared.call.Call.TheVariants as call
use Rattle.mps_refinement.specs.MovesNeeded.{moves_needed}
use Rattle.mps_refinement.specs.Answering.{answer_to, says_ok}
use Rattle.mps_refinement.specs.RightMoving.{IsRightMoving}
use Rattle.mps_refinement.specs.UnitsLeft.{units_left}
use Rattle.mps_refinement.proofs.Left.Gets.{get_leaves_no_more}
use Rattle.mps_refinement.proofs.Units.GetCalls.{can_get, got_rightly}
use Rattle.mps_refinement.proofs.Worlds.Staying.{grains_stay, one_world, stays}
use Rattle.mps_heap_spec.proofs.KeysStay.{getting}
use Rattle.mps_heap.proofs.Rooms.{has_room}
use Rattle.mps_heap.proofs.heap.Heap.get.Goals as goal

pub get-requires : goal.get-requires
get-requires g c =
    let h = c.self.inside.state in
    let fits = subst (λ x. moves_needed x.segs ≤ c.args.trail.now.spare) (sym c.self.view_is) c.requires.fits in
    let room = has_room g.F.Format.layout h c.self.invariant c.args.trail.now.spare fits in
    let one = one_world g.F.Format.layout h c.self.invariant in
    can_get g.F.Format.layout h c.args.trail.now room one.0 one.1 c.args.target c.args.source c.args.cell

pub invariant_of-self : goal.invariant_of-self
invariant_of-self g c =
    let h = c.self.inside.state in
    let fits = subst (λ x. moves_needed x.segs ≤ c.args.trail.now.spare) (sym c.self.view_is) c.requires.fits in
    let room = has_room g.F.Format.layout h c.self.invariant c.args.trail.now.spare fits in
    let moved = (got_rightly g.F.Format.layout h c.args.trail.now room c.args.target c.args.source c.args.cell c.get.result c.get.new.state
    c.get.new.trail c.get.ensures.outcome c.self.invariant).0 in
    stays g.F.Format.layout h c.get.new.state (call.Get c.args.target c.args.source c.args.cell) moved.moves (answer_to says_ok
    c.get.result) c.self.invariant moved.right

pub returns : goal.returns
returns g c =
    let h = c.self.inside.state in
    let fits = subst (λ x. moves_needed x.segs ≤ c.args.trail.now.spare) (sym c.self.view_is) c.requires.fits in
    let room = has_room g.F.Format.layout h c.self.invariant c.args.trail.now.spare fits in
    let got = got_rightly g.F.Format.layout h c.args.trail.now room c.args.target c.args.source c.args.cell c.get.result c.get.new.state
    c.get.new.trail c.get.ensures.outcome c.self.invariant in
    let one = one_world g.F.Format.layout h c.self.invariant in
    record {
      right = subst
          (λ x. IsRightMoving g.F.Format.layout x (call.Get c.args.target c.args.source c.args.cell) c.args.trail.now.moves
          c.get.new.trail.moves (answer_to says_ok c.get.result) c.get.new.state)
          c.self.view_is got.0;
      units = subst (λ x. units_left c.get.new.state ≤ units_left x) c.self.view_is
          (get_leaves_no_more g.F.Format.layout h c.args.trail.now room c.args.target c.args.source c.args.cell c.get.result
          c.get.new.state c.get.new.trail one.0 one.1 c.get.ensures.outcome);
      room = got.1;
      grains = subst (λ x. c.get.new.state.segs.grains ≡ x.segs.grains) c.self.view_is
          (grains_stay g.F.Format.layout h c.get.new.state (call.Get c.args.target c.args.source c.args.cell) got.0.moves (answer_to says_ok
          c.get.result) c.self.invariant got.0.right refl);
      keys = subst (λ x. c.get.new.state.names.keys ≡ x.names.keys) c.self.view_is
          (getting g.F.Format.layout c.get.ensures.outcome);
    }
