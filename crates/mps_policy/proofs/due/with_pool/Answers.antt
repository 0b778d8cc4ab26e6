use Rattle.std.proofs.Common.{ℕ, ◌+◌, ◌<◌, ◌≤◌, ◌∙◌, refl, sym, subst, length, get_or, slice_set, arith}
use Rattle.std.proofs.lemmas.List.{length-set}
use Rattle.mps_seg.specs.Counting.{grains_held_by}
use Rattle.mps_policy.proofs.Adding.{AreAdded, one_more_added}
use Rattle.mps_policy.proofs.due.with_pool.Goals as goal

pub loop-generation-init : goal.loop-generation-init
loop-generation-init c = record {
  size = c.requires.size;
  sums = record { added = λ i never. absurd (omega (arith, never)); others = λ i past. refl };
}

pub overflow_add-sums : goal.overflow_add-sums
overflow_add-sums c =
    let here = c.loop-generation.invariant.sums.others c.loop-generation.generation (omega arith) in
    omega (arith, here, c.grains_held_by.ensures, c.requires.fits c.loop-generation.generation c.loop-generation-test.true)

pub loop-generation-preserved : goal.loop-generation-preserved
loop-generation-preserved c =
    let more : ℕ → ℕ = λ g. grains_held_by c.args.pool g c.args.segs.now.segments in
    let n = c.loop-generation.generation in
    let sums = c.loop-generation.sums in
    let within : n < length sums = omega (arith, c.loop-generation-test.true, c.loop-generation.invariant.size) in
    record {
      size = length-set sums n (get_or sums n 0 + c.grains_held_by.result) ∙ c.loop-generation.invariant.size;
      sums = subst (λ (v : ℕ). AreAdded c.args.held more (n + 1) (slice_set sums n (get_or sums n 0 + v))) (sym c.grains_held_by.ensures)
          (one_more_added c.args.held more n sums within c.loop-generation.invariant.sums);
    }

pub returns-clause-size : goal.returns-clause-size
returns-clause-size c = c.loop-generation.invariant.size

pub returns-clause-added : goal.returns-clause-added
returns-clause-added c generation within =
    let n = c.loop-generation.generation in
    let all : 8 ≤ n = omega (arith, c.loop-generation-test.false) in
    c.loop-generation.invariant.sums.added generation (omega (arith, within, all))
