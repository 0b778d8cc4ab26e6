use Rattle.std.proofs.Common.{◌≡◌, ◌≤◌, true, sym, subst, refl}
use Rattle.mps_model.specs.declared.call.Call.TheVariants as call
use Rattle.mps_heap_spec.specs.Collecting.{can_collect, check_start_chain}
use Rattle.mps_refinement.specs.MovesNeeded.{moves_needed}
use Rattle.mps_refinement.specs.Answering.{answer_to, says_ok}
use Rattle.mps_refinement.specs.RightMoving.{IsRightMoving}
use Rattle.mps_refinement.specs.UnitsLeft.{BeginsWithin}
use Rattle.mps_refinement.proofs.Worlds.Staying.{stays, grains_stay}
use Rattle.mps_heap.proofs.Starting.{can_start_chain_here, chain_started_rightly, chain_started_within}
use Rattle.mps_heap_spec.proofs.KeysStay.{starts}
use Rattle.mps_heap.proofs.heap.Heap.start_chain.Goals as goal

pub start_chain-requires : goal.start_chain-requires
start_chain-requires g c =
    let layout = g.F.Format.layout in
    let h = c.self.inside.state in
    let can = subst (λ x. can_collect x ≡ true) (sym c.self.view_is) c.requires.few_flips in
    let room = subst (λ x. moves_needed x.segs ≤ c.args.trail.now.spare) (sym c.self.view_is) c.requires.fits in
    record {
      can = can_start_chain_here layout h c.self.invariant c.is_whole.ensures.whole c.args.trail.now room c.args.chain c.args.generation
          can;
    }

pub invariant_of-self : goal.invariant_of-self
invariant_of-self g c =
    let layout = g.F.Format.layout in
    let h = c.self.inside.state in
    let room = subst (λ x. moves_needed x.segs ≤ c.args.trail.now.spare) (sym c.self.view_is) c.requires.fits in
    let moved = (chain_started_rightly layout h c.self.invariant c.is_whole.ensures.whole c.args.trail.now room c.args.chain
    c.args.generation c.is_whole.ensures.made_before
    c.start_chain.new.state c.start_chain.new.trail c.start_chain.result c.start_chain.ensures).0 in
    stays layout h c.start_chain.new.state (call.StartChain c.args.chain c.args.generation) moved.moves (answer_to says_ok
    c.start_chain.result) c.self.invariant moved.right

pub returns : goal.returns
returns g c =
    let layout = g.F.Format.layout in
    let h = c.self.inside.state in
    let room = subst (λ x. moves_needed x.segs ≤ c.args.trail.now.spare) (sym c.self.view_is) c.requires.fits in
    let came = chain_started_rightly layout h c.self.invariant c.is_whole.ensures.whole c.args.trail.now room c.args.chain
    c.args.generation c.is_whole.ensures.made_before
    c.start_chain.new.state c.start_chain.new.trail c.start_chain.result c.start_chain.ensures in
    record {
      right = subst
          (λ x. IsRightMoving layout x (call.StartChain c.args.chain c.args.generation) c.args.trail.now.moves
          c.start_chain.new.trail.moves (answer_to says_ok c.start_chain.result)
          c.start_chain.new.state)
          c.self.view_is came.0;
      units = subst (λ x. BeginsWithin (check_start_chain x c.args.chain c.args.generation) x c.start_chain.new.state) c.self.view_is
          (chain_started_within layout h c.self.invariant c.is_whole.ensures.whole c.args.trail.now room c.args.chain c.args.generation
          c.is_whole.ensures.made_before c.start_chain.new.state c.start_chain.new.trail c.start_chain.result c.start_chain.ensures);
      room = came.1;
      grains = subst (λ x. c.start_chain.new.state.segs.grains ≡ x.segs.grains) c.self.view_is
          (grains_stay layout c.self.inside.state c.start_chain.new.state (call.StartChain c.args.chain c.args.generation) came.0.moves
          (answer_to says_ok c.start_chain.result) c.self.invariant came.0.right refl);
      keys = subst (λ x. c.start_chain.new.state.names.keys ≡ x.names.keys) c.self.view_is
          (starts g.F.Format.layout (check_start_chain c.self.inside.state c.args.chain c.args.generation) c.self.inside.state
          c.start_chain.new.state c.args.trail.now c.start_chain.new.trail c.start_chain.result c.start_chain.ensures);
    }
