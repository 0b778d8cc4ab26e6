use Rattle.std.proofs.Common.{sym, subst}
use Rattle.mps_buffer.specs.Points.{PointsState}
use Rattle.mps_buffer.specs.Tokens.{NoneIsOpen}
use Rattle.mps_buffer.proofs.NoneOpen.{none_open, none_are_reserved}
use Rattle.mps_memory_tests.proofs.collector.begin.Goals as goal

pub begin_with-begun-requires-clause-none_open : goal.begin_with-begun-requires-clause-none_open
begin_with-begun-requires-clause-none_open c =
    let P : PointsState → Type 0 = λ x. NoneIsOpen x.points in subst P (sym c.in_ok-points.ensures) (none_open 256)

pub finish-requires : goal.finish-requires
finish-requires c = none_are_reserved _ _ c.begin_with-begun.new.segs c.begin_with-begun.ensures.none_open
