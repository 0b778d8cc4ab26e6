use Rattle.std.proofs.Common.{[], refl}
use Rattle.mps_model.specs.declared.call.Call.TheVariants as call
use Rattle.mps_names.specs.Keys.{point_name}
use Rattle.mps_heap_spec.specs.Keyed.{both, keyed_slot}
use Rattle.mps_heap_spec.proofs.ByKeys.{both_good}
use Rattle.mps_refinement.specs.Answering.{answer_to, says_ok}
use Rattle.mps_refinement.proofs.Calls.RightInit.{reference_init_is_right}
use Rattle.mps_refinement.proofs.Worlds.Staying.{stays}
use Rattle.mps_heap_spec.proofs.NamesStay.{keys_stay, initialises_reference}
use Rattle.mps_heap.proofs.ByKeys.{good, grains, same_keys, written}
use Rattle.mps_heap.proofs.heap.Heap.init_ref_by_key.Goals as goal

pub invariant_of-self : goal.invariant_of-self
invariant_of-self g c =
    stays g.F.Format.layout c.self.inside.state c.init_ref.new.state (call.InitReference c.in_ok-point.point.value c.args.cell
    c.in_ok-from.from.slot) [] (answer_to says_ok c.init_ref.result) c.self.invariant
    (reference_init_is_right g.F.Format.layout c.self.inside.state c.in_ok-point.point.value c.args.cell c.in_ok-from.from.slot
    c.init_ref.result c.init_ref.new.state c.init_ref.ensures)

pub returns : goal.returns
returns g c =
    let right = reference_init_is_right g.F.Format.layout c.self.inside.state c.in_ok-point.point.value c.args.cell c.in_ok-from.from.slot
    c.init_ref.result c.init_ref.new.state c.init_ref.ensures in
    record {
      right = written g.F.Format.layout c.self.view_is (λ k. both (point_name k c.args.x) (keyed_slot k c.args.source))
          (both_good c.in_ok-point.ensures.good c.in_ok-from.ensures.good) (λ at. call.InitReference at.0 c.args.cell at.1)
          (answer_to says_ok c.init_ref.result) c.init_ref.new.state right;
      stale = good g.F.Format.layout c.self.view_is (λ k. both (point_name k c.args.x) (keyed_slot k c.args.source))
          (both_good c.in_ok-point.ensures.good c.in_ok-from.ensures.good) _;
      grains = grains g.F.Format.layout c.self.view_is (λ k. both (point_name k c.args.x) (keyed_slot k c.args.source))
          (both_good c.in_ok-point.ensures.good c.in_ok-from.ensures.good) (λ at. call.InitReference at.0 c.args.cell at.1)
          (answer_to says_ok c.init_ref.result) [] c.init_ref.new.state c.self.invariant right refl;
      keys = same_keys c.self.view_is c.init_ref.new.state (keys_stay c.self.inside.state _ c.init_ref.ensures
          (initialises_reference c.self.inside.state g.F.Format.layout c.in_ok-point.point.value c.args.cell c.in_ok-from.from.slot));
    }
