use Rattle.std.proofs.Common.{ℕ, ◌*◌, ◌/◌, ◌≤◌, List, Bool, refl, sym, ◌∙◌, ap, arith}
use Rattle.mps_bits.specs.Table.{next_set_below}
use Rattle.mps_marks.proofs.Tally.{no_grain, later_search, found_in_grain, none_from, none_of_none, grain_from}
use Rattle.mps_marks.proofs.grey_blocks.GreyBlocks.lowest_in.Goals as goal

pub returns-then-self-eq0 : goal.returns-then-self-eq0
returns-then-self-eq0 c =
    let s = c.self.inside in
    sym (none_of_none s.blocks c.args.from c.args.to (c.self.invariant.0.counted ∙ c.if-self-eq0.true))
    ∙ ap (λ (bits : List Bool). next_set_below bits c.args.from c.args.to) c.self.view_is

pub returns-in_err-grain : goal.returns-in_err-grain
returns-in_err-grain c =
    let s = c.self.inside in
    let none = no_grain s.blocks s.grains s.count c.loop-at.at c.args.to c.div_ceil-end.result c.self.invariant.0
    (omega (arith, c.div_ceil-end.ensures)) (sym c.next_set_below.ensures ∙ c.in_err-grain.was) in
    c.from_residual.ensures ∙ sym none ∙ c.loop-at.invariant.same
    ∙ ap (λ (bits : List Bool). next_set_below bits c.args.from c.args.to) c.self.view_is

pub returns-in-Some : goal.returns-in-Some
returns-in-Some c =
    let s = c.self.inside in
    let low = 512 * c.in_ok-grain.grain in
    let some = sym c.next_set_below.ensures ∙ c.in_ok-grain.was in
    let found = ap (λ (first : ℕ). next_set_below s.blocks first c.min-high.result) (sym c.max.ensures)
    ∙ sym c.next_set_below-in-loop-at.ensures ∙ c.in-Some.is in
    sym (found_in_grain s.blocks s.grains s.count c.loop-at.at c.args.to c.div_ceil-end.result c.in_ok-grain.grain low c.min-high.result
    c.in-Some.word c.self.invariant.0 some refl found (omega (arith, c.min-high.ensures)))
    ∙ c.loop-at.invariant.same
    ∙ ap (λ (bits : List Bool). next_set_below bits c.args.from c.args.to) c.self.view_is

pub loop-at-smaller : goal.loop-at-smaller
loop-at-smaller c =
    let some = sym c.next_set_below.ensures ∙ c.in_ok-grain.was in
    let above = grain_from c.self.inside.grains (c.loop-at.at / 512) c.div_ceil-end.result c.in_ok-grain.grain some in
    omega (arith, above, c.min-high.ensures, c.loop-at-test.true)

pub loop-at-preserved : goal.loop-at-preserved
loop-at-preserved c =
    let s = c.self.inside in
    let low = 512 * c.in_ok-grain.grain in
    let some = sym c.next_set_below.ensures ∙ c.in_ok-grain.was in
    let above = grain_from s.grains (c.loop-at.at / 512) c.div_ceil-end.result c.in_ok-grain.grain some in
    let later : c.loop-at.at ≤ c.min-high.result = omega (arith, above, c.min-high.ensures, c.loop-at-test.true) in
    let none = ap (λ (first : ℕ). next_set_below s.blocks first c.min-high.result) (sym c.max.ensures)
    ∙ sym c.next_set_below-in-loop-at.ensures ∙ c.in_default.is in
    record {
      above = omega (arith, c.loop-at.invariant.above, later);
      same = later_search s.blocks s.grains s.count c.loop-at.at c.args.to c.div_ceil-end.result c.in_ok-grain.grain low c.min-high.result
          c.self.invariant.0 some refl none later ∙ c.loop-at.invariant.same;
    }

pub returns : goal.returns
returns c =
    let s = c.self.inside in
    sym (none_from s.blocks c.loop-at.at c.args.to c.loop-at-test.false) ∙ c.loop-at.invariant.same
    ∙ ap (λ (bits : List Bool). next_set_below bits c.args.from c.args.to) c.self.view_is
