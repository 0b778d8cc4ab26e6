use Rattle.std.proofs.Common.{[], refl}
use Rattle.mps_model.specs.declared.call.Call.TheVariants as call
use Rattle.mps_names.specs.Keys.{point_name}
use Rattle.mps_refinement.specs.Answering.{answer_to, says_ok}
use Rattle.mps_refinement.proofs.Calls.RightInit.{number_init_is_right}
use Rattle.mps_refinement.proofs.Worlds.Staying.{stays}
use Rattle.mps_heap_spec.proofs.NamesStay.{keys_stay, initialises_number}
use Rattle.mps_heap.proofs.ByKeys.{good, grains, same_keys, written}
use Rattle.mps_heap.proofs.heap.Heap.init_num_by_key.Goals as goal

pub invariant_of-self : goal.invariant_of-self
invariant_of-self g c =
    stays g.F.Format.layout c.self.inside.state c.init_num.new.state (call.InitNumber c.in_ok-point.point.value c.args.cell c.args.n) []
    (answer_to says_ok c.init_num.result) c.self.invariant
    (number_init_is_right g.F.Format.layout c.self.inside.state c.in_ok-point.point.value c.args.cell c.args.n c.init_num.result
    c.init_num.new.state c.init_num.ensures)

pub returns : goal.returns
returns g c =
    let right = number_init_is_right g.F.Format.layout c.self.inside.state c.in_ok-point.point.value c.args.cell c.args.n
    c.init_num.result c.init_num.new.state c.init_num.ensures in
    record {
      right = written g.F.Format.layout c.self.view_is (λ k. point_name k c.args.x) c.in_ok-point.ensures.good
          (λ at. call.InitNumber at c.args.cell c.args.n)
          (answer_to says_ok c.init_num.result) c.init_num.new.state right;
      stale = good g.F.Format.layout c.self.view_is (λ k. point_name k c.args.x) c.in_ok-point.ensures.good _;
      grains = grains g.F.Format.layout c.self.view_is (λ k. point_name k c.args.x) c.in_ok-point.ensures.good
          (λ at. call.InitNumber at c.args.cell c.args.n)
          (answer_to says_ok c.init_num.result) [] c.init_num.new.state c.self.invariant right refl;
      keys = same_keys c.self.view_is c.init_num.new.state (keys_stay c.self.inside.state _ c.init_num.ensures
          (initialises_number c.self.inside.state g.F.Format.layout c.in_ok-point.point.value c.args.cell c.args.n));
    }
