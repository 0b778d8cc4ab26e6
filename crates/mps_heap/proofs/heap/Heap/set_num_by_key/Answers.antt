use Rattle.std.proofs.Common.{[], refl}
use Rattle.mps_model.specs.declared.call.Call.TheVariants as call
use Rattle.mps_heap_spec.specs.Keyed.{keyed_slot}
use Rattle.mps_refinement.specs.Answering.{answer_to, says_ok}
use Rattle.mps_refinement.proofs.Calls.Objects.{number_set_right}
use Rattle.mps_refinement.proofs.Worlds.Staying.{stays}
use Rattle.mps_heap_spec.proofs.NamesStay.{keys_stay, sets_number}
use Rattle.mps_heap.proofs.ByKeys.{good, grains, same_keys, written}
use Rattle.mps_heap.proofs.heap.Heap.set_num_by_key.Goals as goal

pub invariant_of-self : goal.invariant_of-self
invariant_of-self g c =
    stays g.F.Format.layout c.self.inside.state c.set_num.new.state (call.SetNumber c.in_ok-at.at.slot c.args.cell c.args.n) []
    (answer_to says_ok c.set_num.result) c.self.invariant
    (number_set_right g.F.Format.layout c.self.inside.state c.in_ok-at.at.slot c.args.cell c.args.n c.set_num.result c.set_num.new.state
    c.set_num.ensures)

pub returns : goal.returns
returns g c =
    let right = number_set_right g.F.Format.layout c.self.inside.state c.in_ok-at.at.slot c.args.cell c.args.n c.set_num.result
    c.set_num.new.state c.set_num.ensures in
    record {
      right = written g.F.Format.layout c.self.view_is (λ k. keyed_slot k c.args.slot) c.in_ok-at.ensures.good
          (λ at. call.SetNumber at c.args.cell c.args.n)
          (answer_to says_ok c.set_num.result) c.set_num.new.state right;
      stale = good g.F.Format.layout c.self.view_is (λ k. keyed_slot k c.args.slot) c.in_ok-at.ensures.good _;
      grains = grains g.F.Format.layout c.self.view_is (λ k. keyed_slot k c.args.slot) c.in_ok-at.ensures.good
          (λ at. call.SetNumber at c.args.cell c.args.n)
          (answer_to says_ok c.set_num.result) [] c.set_num.new.state c.self.invariant right refl;
      keys = same_keys c.self.view_is c.set_num.new.state (keys_stay c.self.inside.state _ c.set_num.ensures
          (sets_number c.self.inside.state g.F.Format.layout c.in_ok-at.at.slot c.args.cell c.args.n));
    }
