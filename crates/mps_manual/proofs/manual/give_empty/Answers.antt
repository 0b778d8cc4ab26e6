use Rattle.std.proofs.Common.{◌∙◌}
use Rattle.mps_manual.proofs.GivenBack.{found_over, is_given, is_told, none_given, none_told}
use Rattle.mps_manual.proofs.manual.give_empty.Goals as goal

pub is_empty-requires : goal.is_empty-requires
is_empty-requires c =
    let o = found_over c.args.segs.now.segments c.args.at.0 c.in-Some.base c.in-Some.ensures in (o.segment, o.listed, o.begins)

pub give-requires-clause-empty : goal.give-requires-clause-empty
give-requires-clause-empty c =
    let o = found_over c.args.segs.now.segments c.args.at.0 c.in-Some.base c.in-Some.ensures in
    (o.segment, o.listed, c.is_empty.ensures.sound o.segment o.listed o.begins c.if-is_empty.true)

pub returns-then-is_empty-clause-state : goal.returns-then-is_empty-clause-state
returns-then-is_empty-clause-state c =
    let s = c.args.segs.now in
    let o = found_over s.segments c.args.at.0 c.in-Some.base c.in-Some.ensures in
    c.give.ensures.state
    ∙ is_given s c.args.at.0 c.in-Some.base c.args.trail.now o (c.is_empty.ensures.sound o.segment o.listed o.begins c.if-is_empty.true)

pub returns-then-is_empty-clause-moves : goal.returns-then-is_empty-clause-moves
returns-then-is_empty-clause-moves c =
    let s = c.args.segs.now in
    let o = found_over s.segments c.args.at.0 c.in-Some.base c.in-Some.ensures in
    c.give.ensures.moves
    ∙ is_told s c.args.at.0 c.in-Some.base c.args.trail.now o (c.is_empty.ensures.sound o.segment o.listed o.begins c.if-is_empty.true)

pub returns-else-is_empty-clause-state : goal.returns-else-is_empty-clause-state
returns-else-is_empty-clause-state c =
    let s = c.args.segs.now in
    let o = found_over s.segments c.args.at.0 c.in-Some.base c.in-Some.ensures in
    none_given s c.args.at.0 c.in-Some.base c.args.trail.now o
    (c.is_empty.ensures.complete o.segment o.listed o.begins c.if-is_empty.false)

pub returns-else-is_empty-clause-moves : goal.returns-else-is_empty-clause-moves
returns-else-is_empty-clause-moves c =
    let s = c.args.segs.now in
    let o = found_over s.segments c.args.at.0 c.in-Some.base c.in-Some.ensures in
    none_told s c.args.at.0 c.in-Some.base c.args.trail.now o
    (c.is_empty.ensures.complete o.segment o.listed o.begins c.if-is_empty.false)
