use Rattle.std.proofs.Common.{sym, subst}
use Rattle.mps_buffer.specs.Points.{PointsState}
use Rattle.mps_buffer.specs.Tokens.{NoneIsOpen}
use Rattle.mps_buffer.proofs.NoneOpen.{none_are_reserved, none_open_emptied}
use Rattle.mps_memory_tests.proofs.collector.begin_with.Goals as goal

pub begin-begun-requires-clause-reserved : goal.begin-begun-requires-clause-reserved
begin-begun-requires-clause-reserved c =
    none_are_reserved c.args.points.now.flips c.args.points.now.points c.args.segs.now c.requires.none_open

pub returns : goal.returns
returns c =
    let P : PointsState → Type 0 = λ x. NoneIsOpen x.points in
    record { none_open = subst P (sym c.begin-begun.ensures.points) (none_open_emptied _ c.requires.none_open) }
