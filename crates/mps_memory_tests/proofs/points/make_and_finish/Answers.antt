use Rattle.std.proofs.Common.{sym, subst}
use Rattle.mps_buffer.specs.Points.{PointsState}
use Rattle.mps_buffer.specs.Tokens.{NoneIsOpen}
use Rattle.mps_buffer.proofs.NoneOpen.{none_open, none_are_reserved}
use Rattle.mps_memory_tests.proofs.points.make_and_finish.Goals as goal

pub make_all-requires-clause-none_open : goal.make_all-requires-clause-none_open
make_all-requires-clause-none_open g c =
    let P : PointsState → Type 0 = λ x. NoneIsOpen x.points in subst P (sym c.in_ok-points.ensures) (none_open 256)

pub finish-requires : goal.finish-requires
finish-requires g c = none_are_reserved _ _ c.make_all.new.segs c.make_all.ensures.none_open
