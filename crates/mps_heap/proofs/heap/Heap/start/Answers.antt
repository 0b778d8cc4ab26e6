use Rattle.std.proofs.Common.{◌≡◌, ◌≤◌, true, sym, subst, refl}
use Rattle.mps_model.specs.declared.call.Call.TheVariants as call
use Rattle.mps_heap_spec.specs.Collecting.{can_collect, check_start}
use Rattle.mps_refinement.specs.MovesNeeded.{moves_needed}
use Rattle.mps_refinement.specs.Answering.{answer_to, says_ok}
use Rattle.mps_refinement.specs.RightMoving.{IsRightMoving}
use Rattle.mps_refinement.specs.UnitsLeft.{BeginsWithin}
use Rattle.mps_refinement.proofs.Worlds.Staying.{stays, grains_stay}
use Rattle.mps_heap.proofs.Starting.{can_start_here, started_rightly, started_within}
use Rattle.mps_heap_spec.proofs.KeysStay.{starts}
use Rattle.mps_heap.proofs.heap.Heap.start.Goals as goal

pub start-requires : goal.start-requires
start-requires g c =
    let layout = g.F.Format.layout in
    let h = c.self.inside.state in
    let can = subst (λ x. can_collect x ≡ true) (sym c.self.view_is) c.requires.few_flips in
    let room = subst (λ x. moves_needed x.segs ≤ c.args.trail.now.spare) (sym c.self.view_is) c.requires.fits in
    record { can = can_start_here layout h c.self.invariant c.is_whole.ensures.whole c.args.trail.now room can }

pub invariant_of-self : goal.invariant_of-self
invariant_of-self g c =
    let layout = g.F.Format.layout in
    let h = c.self.inside.state in
    let room = subst (λ x. moves_needed x.segs ≤ c.args.trail.now.spare) (sym c.self.view_is) c.requires.fits in
    let moved = (started_rightly layout h c.self.invariant c.is_whole.ensures.whole c.args.trail.now room c.is_whole.ensures.made_before
    c.start.new.state c.start.new.trail c.start.result c.start.ensures).0 in
    stays layout h c.start.new.state call.Start moved.moves (answer_to says_ok c.start.result) c.self.invariant moved.right

pub returns : goal.returns
returns g c =
    let layout = g.F.Format.layout in
    let h = c.self.inside.state in
    let room = subst (λ x. moves_needed x.segs ≤ c.args.trail.now.spare) (sym c.self.view_is) c.requires.fits in
    let came = started_rightly layout h c.self.invariant c.is_whole.ensures.whole c.args.trail.now room c.is_whole.ensures.made_before
    c.start.new.state c.start.new.trail c.start.result c.start.ensures in
    record {
      right = subst
          (λ x. IsRightMoving layout x call.Start c.args.trail.now.moves c.start.new.trail.moves (answer_to says_ok c.start.result)
          c.start.new.state)
          c.self.view_is came.0;
      units = subst (λ x. BeginsWithin (check_start x) x c.start.new.state) c.self.view_is
          (started_within layout h c.self.invariant c.is_whole.ensures.whole c.args.trail.now room c.is_whole.ensures.made_before
          c.start.new.state c.start.new.trail c.start.result c.start.ensures);
      room = came.1;
      grains = subst (λ x. c.start.new.state.segs.grains ≡ x.segs.grains) c.self.view_is
          (grains_stay layout c.self.inside.state c.start.new.state call.Start came.0.moves (answer_to says_ok c.start.result)
          c.self.invariant came.0.right refl);
      keys = subst (λ x. c.start.new.state.names.keys ≡ x.names.keys) c.self.view_is
          (starts g.F.Format.layout (check_start c.self.inside.state) c.self.inside.state c.start.new.state c.args.trail.now
          c.start.new.trail c.start.result c.start.ensures);
    }
