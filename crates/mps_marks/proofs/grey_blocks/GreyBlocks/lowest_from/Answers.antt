use Rattle.std.proofs.Common.{sym, ap, ◌∙◌, List, Bool, arith}
use Rattle.mps_bits.specs.Table.{bit}
use Rattle.mps_marks.proofs.Tally.{empty_grain, grain_within, grain_from, passed_grain, no_more_blocks}
use Rattle.mps_marks.proofs.grey_blocks.GreyBlocks.lowest_from.Goals as goal

pub loop-grain-smaller : goal.loop-grain-smaller
loop-grain-smaller c =
    let some = sym c.next_set_below.ensures ∙ c.in-Some.is in
    let within = grain_within c.loop-grain.self-inside.grains c.loop-grain.from c.len-end.result c.in-Some.grain some in
    let above = grain_from c.loop-grain.self-inside.grains c.loop-grain.from c.len-end.result c.in-Some.grain some in
    omega (arith, within, above, c.len-end.ensures, c.loop-grain.invariant.size)

pub loop-grain-preserved : goal.loop-grain-preserved
loop-grain-preserved c =
    let s = c.loop-grain.self-inside in
    let kept = c.loop-grain.invariant in
    let some = sym c.next_set_below.ensures ∙ c.in-Some.is in
    let none = sym c.next_set_below-in-Some.ensures ∙ c.in_default-next_set_below.is in
    let above = grain_from s.grains c.loop-grain.from c.len-end.result c.in-Some.grain some in
    record {
      blocks = kept.blocks;
      count = kept.count;
      tally = rw c.clear.ensures.state (empty_grain s.blocks s.grains s.count c.in-Some.grain kept.tally none);
      size = c.clear.ensures.len ∙ kept.size;
      room = kept.room;
      above = omega (arith, kept.above, above);
      passed = passed_grain s.blocks s.grains s.count c.args.first c.loop-grain.from c.len-end.result c.in-Some.grain kept.tally
          some none kept.passed;
    }

pub returns-clause-complete : goal.returns-clause-complete
returns-clause-complete c word above =
    let s = c.loop-grain.self-inside in
    let kept = c.loop-grain.invariant in
    let none = sym c.next_set_below.ensures ∙ c.in_default.is in
    ap (λ (bits : List Bool). bit bits word) (sym c.self.view_is ∙ sym kept.blocks)
    ∙ no_more_blocks s.blocks s.grains s.count c.args.first c.loop-grain.from c.len-end.result kept.tally
    (c.len-end.ensures ∙ sym kept.size) none kept.passed word above
