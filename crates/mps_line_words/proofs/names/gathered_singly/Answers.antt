use Rattle.std.proofs.Common.{◌≡◌, ◌∙◌, ap, drop, arith}
use Rattle.mps_line_words.specs.Gathered.{gathered}
use Rattle.mps_line_words.proofs.NameBytes.{few_below, one_before}
use Rattle.mps_line_words.proofs.names.gathered_singly.Goals as goal

pub overflow_mul-number : goal.overflow_mul-number
overflow_mul-number c =
    let below = few_below c.args.bytes.now c.loop-left.left (omega arith) c.requires (λ i. omega (arith, c.type_inv.bytes i)) in
    omega (arith, below, c.loop-left.invariant.so_far)

pub overflow_add-number : goal.overflow_add-number
overflow_add-number c =
    let below = few_below c.args.bytes.now c.loop-left.left (omega arith) c.requires (λ i. omega (arith, c.type_inv.bytes i)) in
    omega (arith, below, c.loop-left.invariant.so_far)

pub loop-left-preserved : goal.loop-left-preserved
loop-left-preserved c = record {
  within = omega (arith, c.loop-left.invariant.within);
  so_far = one_before c.args.bytes.now c.loop-left.left c.loop-left.number _ (omega arith) c.loop-left.invariant.within
      c.from.ensures c.loop-left.invariant.so_far;
}

pub returns : goal.returns
returns c =
    let zero : c.loop-left.left ≡ 0 = omega arith in
    c.loop-left.invariant.so_far ∙ ap (λ n. gathered (drop n c.args.bytes.now)) zero
