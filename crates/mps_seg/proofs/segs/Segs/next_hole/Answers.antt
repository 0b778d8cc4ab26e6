use Rattle.std.proofs.Common.{ℕ, ◌*◌, ◌<◌, ◌≤◌, ◌≡◌, true, Option, IfNone, refl, sym, ap, subst}
use Rattle.mps_base.specs.Address.{word_of, bytes_of_word}
use Rattle.mps_base.specs.Run.{runs_within}
use Rattle.mps_extents.specs.Extents.{is_covered}
use Rattle.mps_seg.specs.declared.segs.freeing.Hole.{Hole}
use Rattle.mps_seg.proofs.Holes.{next_is, whole_next, none_left}
use Rattle.mps_seg.proofs.segs.Segs.next_hole.Goals as goal

pub returns-clause-found : goal.returns-clause-found
returns-clause-found c =
    next_is c.self.inside c.args.self.now c.args.base c.args.from c.args.end c.word.result c.word-high.result c.self.invariant
    c.self.view_is
    c.requires.span
    c.requires.above
    c.requires.whole
    c.word.ensures
    c.word-high.ensures
    c.blocks_are_covered.ensures
    c.blocks_are_in_order.ensures
    c.in_ok-low.low
    c.in_ok-low.ensures.sound
    c.first_block.result
    c.first_block.ensures.first
    c.first_block.ensures.none
    _
    refl
    (ap (λ (n : ℕ). bytes_of_word * n) c.unwrap_or-next.ensures)

pub returns-clause-whole : goal.returns-clause-whole
returns-clause-whole c =
    whole_next c.self.inside c.args.self.now c.args.base c.args.from c.args.end c.word.result c.word-high.result c.self.invariant
    c.self.view_is
    c.requires.span
    c.requires.above
    c.requires.whole
    c.word.ensures
    c.word-high.ensures
    c.blocks_are_covered.ensures
    c.blocks_are_in_order.ensures
    c.in_ok-low.low
    c.in_ok-low.ensures.sound
    c.first_block.result
    c.first_block.ensures.first
    c.first_block.ensures.none
    _
    refl
    (ap (λ (n : ℕ). bytes_of_word * n) c.unwrap_or-next.ensures)

pub returns-in_err-low-clause-none : goal.returns-in_err-low-clause-none
returns-in_err-low-clause-none c =
    let low = word_of c.args.from.0 in
    let high = word_of c.args.end.0 in
    let P : Option Hole → Type 0 =
    λ o. IfNone o ((word : ℕ) → low ≤ word → word < high
    → is_covered (runs_within (word_of c.args.base.0) high c.args.self.now.blocks) word ≡ true)
    in
    subst P (sym c.from_residual.ensures)
    (none_left c.self.inside c.args.self.now c.args.base c.args.from c.args.end c.word.result c.word-high.result c.self.invariant
    c.self.view_is
    c.requires.span
    c.requires.above
    c.requires.whole
    c.word.ensures
    c.word-high.ensures
    c.blocks_are_covered.ensures
    c.blocks_are_in_order.ensures
    c.in_err-low.ensures.complete)
