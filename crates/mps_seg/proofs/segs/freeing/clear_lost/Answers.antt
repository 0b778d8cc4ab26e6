use Rattle.std.proofs.Common.{sym}
use Rattle.mps_extents.specs.Lost.{lost_runs}
use Rattle.mps_seg.proofs.Unmarked.{lost_are_white, unmarked_same}
use Rattle.mps_seg.proofs.segs.freeing.clear_lost.Goals as goal

pub returns-then-not-is_any_grey : goal.returns-then-not-is_any_grey
returns-then-not-is_any_grey c =
    let marks = c.args.marks.now in
    let none = c.is_any_grey.ensures.none c.if-not-is_any_grey.true in
    sym (unmarked_same (lost_runs c.args.low c.args.high marks.kept c.args.extents.now.blocks) marks
    (lost_are_white c.args.low c.args.high marks.kept c.args.extents.now.blocks c.requires.in_kept) c.requires.in_exact c.requires.in_weak
    none.0
    none.1)
