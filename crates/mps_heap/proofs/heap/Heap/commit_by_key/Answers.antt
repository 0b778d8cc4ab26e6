use Rattle.std.proofs.Common.{refl}
use Rattle.mps_model.specs.declared.call.Call.TheVariants as call
use Rattle.mps_names.specs.Keys.{point_name}
use Rattle.mps_heap_spec.specs.Allocating.{after_commit}
use Rattle.mps_heap_spec.specs.Keyed.{both, keyed_slot}
use Rattle.mps_heap_spec.proofs.ByKeys.{both_good}
use Rattle.mps_heap_spec.proofs.NamesStay.{commits, keys_stay_moving}
use Rattle.mps_refinement.specs.Answering.{answer_to, says_committed}
use Rattle.mps_refinement.proofs.Worlds.Appending.{commit_is_right_after}
use Rattle.mps_refinement.proofs.Worlds.Room.{keeps_room, commit_keeps_room}
use Rattle.mps_refinement.proofs.Worlds.Staying.{is_ready, stays}
use Rattle.mps_heap.proofs.ByKeys.{good, grains, moved, same_keys}
use Rattle.mps_heap.proofs.heap.Heap.commit_by_key.Goals as goal

pub commit-requires-clause-ready : goal.commit-requires-clause-ready
commit-requires-clause-ready g c = is_ready g.F.Format.layout c.self.inside.state c.self.invariant

pub invariant_of-self : goal.invariant_of-self
invariant_of-self g c =
    let x = c.in_ok-point.point.value in
    let into = c.in_ok-into.into.slot in
    let moves = commit_is_right_after g.F.Format.layout c.self.inside.state c.args.trail.now x into c.commit.result
    c.commit.new.state c.commit.new.trail c.commit.ensures.tables.kept_size c.commit.ensures.came in
    stays g.F.Format.layout c.self.inside.state c.commit.new.state (call.Commit x into) moves.moves (answer_to
    says_committed c.commit.result) c.self.invariant moves.right

pub returns : goal.returns
returns g c =
    let layout = g.F.Format.layout in
    let h = c.self.inside.state in
    let m = c.args.trail.now in
    let x = c.in_ok-point.point.value in
    let into = c.in_ok-into.into.slot in
    let is = both_good c.in_ok-point.ensures.good c.in_ok-into.ensures.good in
    let came = commit_is_right_after layout h m x into c.commit.result c.commit.new.state
    c.commit.new.trail c.commit.ensures.tables.kept_size c.commit.ensures.came in
    record {
      right = moved layout c.self.view_is (λ k. both (point_name k c.args.x) (keyed_slot k c.args.target)) is
          (λ at. call.Commit at.0 at.1) (answer_to says_committed c.commit.result) m.moves c.commit.new.trail.moves c.commit.new.state
          came;
      stale = good layout c.self.view_is (λ k. both (point_name k c.args.x) (keyed_slot k c.args.target)) is _;
      grains = grains layout c.self.view_is (λ k. both (point_name k c.args.x) (keyed_slot k c.args.target)) is
          (λ at. call.Commit at.0 at.1) (answer_to says_committed c.commit.result) came.moves c.commit.new.state c.self.invariant
          came.right refl;
      keys = same_keys c.self.view_is c.commit.new.state
          (keys_stay_moving h m _ c.commit.ensures.came (commits h m x into));
      room = keeps_room m h (after_commit h m x into) c.commit.result c.commit.new.state c.commit.new.trail c.commit.ensures.came
          (commit_keeps_room layout h m x into c.requires.fits);
    }
