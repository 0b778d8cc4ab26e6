use Rattle.std.proofs.Common.{[], refl}
use Rattle.mps_model.specs.declared.call.Call.TheVariants as call
use Rattle.mps_heap_spec.specs.Keyed.{keyed_word}
use Rattle.mps_refinement.specs.Answering.{answer_to, says_block}
use Rattle.mps_refinement.proofs.Calls.Areas.{poked_right}
use Rattle.mps_refinement.proofs.Worlds.Staying.{stays}
use Rattle.mps_heap_spec.proofs.NamesStay.{keys_stay, pokes}
use Rattle.mps_heap.proofs.ByKeys.{good, grains, same_keys, written}
use Rattle.mps_heap.proofs.heap.Heap.poke_by_key.Goals as goal

pub invariant_of-self : goal.invariant_of-self
invariant_of-self g c =
    stays g.F.Format.layout c.self.inside.state c.poke.new.state (call.Poke c.in_ok-at.at.slot c.args.word) []
    (answer_to says_block c.poke.result) c.self.invariant
    (poked_right g.F.Format.layout c.self.inside.state c.in_ok-at.at.slot c.args.word c.poke.result c.poke.new.state c.poke.ensures)

pub returns : goal.returns
returns g c =
    let right = poked_right g.F.Format.layout c.self.inside.state c.in_ok-at.at.slot c.args.word c.poke.result c.poke.new.state
    c.poke.ensures in
    record {
      right = written g.F.Format.layout c.self.view_is (λ k. keyed_word k c.args.place) c.in_ok-at.ensures.good
          (λ at. call.Poke at c.args.word)
          (answer_to says_block c.poke.result) c.poke.new.state right;
      stale = good g.F.Format.layout c.self.view_is (λ k. keyed_word k c.args.place) c.in_ok-at.ensures.good _;
      grains = grains g.F.Format.layout c.self.view_is (λ k. keyed_word k c.args.place) c.in_ok-at.ensures.good
          (λ at. call.Poke at c.args.word)
          (answer_to says_block c.poke.result) [] c.poke.new.state c.self.invariant right refl;
      keys = same_keys c.self.view_is c.poke.new.state (keys_stay c.self.inside.state _ c.poke.ensures
          (pokes c.self.inside.state c.in_ok-at.at.slot c.args.word));
    }
