use Rattle.std.proofs.Common.{◌≡◌, ℕ, List, ◌∷◌, ◌+◌, ◌∙◌, ap, subst, arith, take}
use Rattle.std.specs.List.{sum}
use Rattle.std.specs.Prelude.{◌%◌, ◌^◌, if◌then◌else◌}
use Rattle.mps_heap_examples.specs.Listed.{HasNumbers}
use Rattle.mps_heap_examples.proofs.list.sum_of_two.Goals as goal

sum_of_first : (other one : ℕ) (numbers : List ℕ) → sum (take 2 (other ∷ one ∷ numbers)) ≡ one + other
sum_of_first other one numbers = omega arith

pub returns-clause-summed : goal.returns-clause-summed
returns-clause-summed c numbers has =
    let first = subst (λ b. HasNumbers c.push.new.heap (if b then c.args.one ∷ numbers else numbers)) c.if-not-branch.false
    (c.in_ok-push.ensures.pushed numbers has) in
    let kept = c.collect_often.ensures.kept (c.args.one ∷ numbers) first in
    let second = subst (λ b. HasNumbers c.push-2.new.heap (if b then c.args.other ∷ c.args.one ∷ numbers else c.args.one ∷ numbers))
    c.if-not-branch-2.false (c.in_ok-push-2.ensures.pushed (c.args.one ∷ numbers) kept) in
    let all = c.collect_often-2.ensures.kept (c.args.other ∷ c.args.one ∷ numbers) second in
    (c.in_ok-total.ensures.summed (c.args.other ∷ c.args.one ∷ numbers) all).0
    ∙ ap (λ n. n % 2 ^ 64) (sum_of_first c.args.other c.args.one numbers)
