use Rattle.std.proofs.Common.{◌<◌, length, sym, ◌∙◌, subst}
use Rattle.mps_buffer.specs.Points.{PointsState, point_at}
use Rattle.mps_buffer.proofs.OpenTokens.{is_token_of, open_at}
use Rattle.mps_buffer.proofs.open_points.OpenPoints.abandon.Goals as goal

pub abandon-requires-clause-open : goal.abandon-requires-clause-open
abandon-requires-clause-open c =
    let s = c.self.inside.points in
    let P : PointsState → Type 0 = λ x. c.args.key < length x.points in
    let of = is_token_of c.args.key (point_at s c.args.key) c.in-Some.token (sym c.in-Some.is ∙ c.token.ensures) in
    open_at s c.args.key c.in-Some.token of (subst P (sym c.self.view_is) c.requires.within)
