use Rattle.std.proofs.Common.{ap, sym, subst, List, Option}
use Rattle.mps_buffer.specs.declared.point.Point.{Point}
use Rattle.mps_buffer.specs.Points.{PointsState, WereMadeBefore}
use Rattle.mps_buffer.proofs.MadeBefore.{new_points_made_before}
use Rattle.mps_buffer.proofs.points.Points.new.Goals as goal

with_points : List (Option Point) → PointsState
with_points points = record { points = points; flips = 0 }

pub returns : goal.returns
unfolding with_points
returns c = ap with_points c.in_ok-from_array.ensures.items

pub invariant_of-result : goal.invariant_of-result
unfolding with_points
invariant_of-result c =
    let P : List (Option Point) → Type 0 = λ points. WereMadeBefore 0 (with_points points) in
    subst P (sym c.in_ok-from_array.ensures.items) (new_points_made_before 0)
