use Rattle.std.proofs.Common.{◌≡◌, refl, subst}
use Rattle.mps_model.specs.declared.call.Call.TheVariants as call
use Rattle.mps_heap_spec.specs.Allocating.{after_commit}
use Rattle.mps_refinement.specs.Answering.{answer_to, says_committed}
use Rattle.mps_refinement.specs.RightMoving.{IsRightMoving}
use Rattle.mps_refinement.proofs.Worlds.Appending.{commit_is_right_after}
use Rattle.mps_refinement.proofs.Worlds.Room.{keeps_room, commit_keeps_room}
use Rattle.mps_refinement.proofs.Worlds.Staying.{grains_stay, is_ready, stays}
use Rattle.mps_heap_spec.proofs.NamesStay.{commits, keys_stay_moving}
use Rattle.mps_heap.proofs.heap.Heap.commit.Goals as goal

pub commit-requires : goal.commit-requires
commit-requires g c = record { ready = is_ready g.F.Format.layout c.self.inside.state c.self.invariant; fits = c.requires.fits }

pub invariant_of-self : goal.invariant_of-self
invariant_of-self g c =
    let moved = commit_is_right_after g.F.Format.layout c.self.inside.state c.args.trail.now c.args.x c.args.target c.commit.result
    c.commit.new.state c.commit.new.trail c.commit.ensures.tables.kept_size c.commit.ensures.came in
    stays g.F.Format.layout c.self.inside.state c.commit.new.state (call.Commit c.args.x c.args.target) moved.moves (answer_to
    says_committed c.commit.result) c.self.invariant moved.right

pub returns : goal.returns
returns g c =
    let h = c.self.inside.state in
    let came = commit_is_right_after g.F.Format.layout h c.args.trail.now c.args.x c.args.target c.commit.result c.commit.new.state
    c.commit.new.trail c.commit.ensures.tables.kept_size c.commit.ensures.came in
    record {
      right = subst
          (λ x. IsRightMoving g.F.Format.layout x (call.Commit c.args.x c.args.target) c.args.trail.now.moves c.commit.new.trail.moves
          (answer_to says_committed c.commit.result) c.commit.new.state)
          c.self.view_is came;
      grains = subst (λ x. c.commit.new.state.segs.grains ≡ x.segs.grains) c.self.view_is
          (grains_stay g.F.Format.layout h c.commit.new.state (call.Commit c.args.x c.args.target) came.moves (answer_to says_committed
          c.commit.result) c.self.invariant came.right refl);
      room = keeps_room c.args.trail.now h (after_commit h c.args.trail.now c.args.x c.args.target) c.commit.result c.commit.new.state
          c.commit.new.trail c.commit.ensures.came (commit_keeps_room g.F.Format.layout h c.args.trail.now c.args.x c.args.target
          c.requires.fits);
      keys = subst (λ x. c.commit.new.state.names.keys ≡ x.names.keys) c.self.view_is
          (keys_stay_moving c.self.inside.state c.args.trail.now _ c.commit.ensures.came (commits c.self.inside.state c.args.trail.now
          c.args.x c.args.target));
    }
