use Rattle.std.proofs.Common.{sym, ◌∙◌, arith}
use Rattle.mps_seg.proofs.CondemnedGrains.{bit_found, none_more, none_below_bit, passed_free}
use Rattle.mps_seg.proofs.entry.condemned_entry_from.Goals as goal

pub offset_bounds-table-grain : goal.offset_bounds-table-grain
offset_bounds-table-grain c =
    let some = sym c.next_set_below.ensures ∙ c.in-Some.is in
    let lowest = bit_found c.args.condemned.now c.loop-grain.from _ c.in-Some.grain some in
    omega (arith, lowest.above, lowest.below, c.requires.at_most)

pub bounds-table-grain : goal.bounds-table-grain
bounds-table-grain c =
    let some = sym c.next_set_below.ensures ∙ c.in-Some.is in
    let lowest = bit_found c.args.condemned.now c.loop-grain.from _ c.in-Some.grain some in
    omega (arith, lowest.above, lowest.below)

pub returns-then-is_first-clause-sound : goal.returns-then-is_first-clause-sound
returns-then-is_first-clause-sound c =
    let some = sym c.next_set_below.ensures ∙ c.in-Some.is in
    let lowest = bit_found c.args.condemned.now c.loop-grain.from _ c.in-Some.grain some in
    record {
      above = omega (arith, c.loop-grain.invariant.0, lowest.above);
      within = omega (arith, lowest.above, lowest.below);
      condemned_there = lowest.passes;
      begins = c.is_first.ensures.sound c.if-is_first.true;
      first =
          none_below_bit c.args.table.now c.args.condemned.now c.args.start c.loop-grain.from _ c.loop-grain.invariant.1 c.in-Some.grain
          some;
    }

pub overflow_add-from : goal.overflow_add-from
overflow_add-from c =
    let some = sym c.next_set_below.ensures ∙ c.in-Some.is in
    let lowest = bit_found c.args.condemned.now c.loop-grain.from _ c.in-Some.grain some in
    omega (arith, lowest.above, lowest.below, c.requires.at_most)

pub loop-grain-smaller : goal.loop-grain-smaller
loop-grain-smaller c =
    let some = sym c.next_set_below.ensures ∙ c.in-Some.is in
    let lowest = bit_found c.args.condemned.now c.loop-grain.from _ c.in-Some.grain some in
    omega (arith, lowest.above, lowest.below)

pub loop-grain-preserved : goal.loop-grain-preserved
loop-grain-preserved c =
    let some = sym c.next_set_below.ensures ∙ c.in-Some.is in
    let lowest = bit_found c.args.condemned.now c.loop-grain.from _ c.in-Some.grain some in (
      omega (arith, c.loop-grain.invariant.0, lowest.above),
      passed_free c.args.table.now c.args.condemned.now c.args.start c.loop-grain.from _ c.loop-grain.invariant.1 c.in-Some.grain some
          (c.is_first.ensures.complete c.if-is_first.false),
    )

pub returns-clause-none : goal.returns-clause-none
returns-clause-none c =
    none_more c.args.table.now c.args.condemned.now c.args.start c.loop-grain.from _ c.loop-grain.invariant.1
    (sym c.next_set_below.ensures ∙ c.in_default.is)
