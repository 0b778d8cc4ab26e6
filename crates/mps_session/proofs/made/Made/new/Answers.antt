use Rattle.std.proofs.Common.{◌∙◌, ◌*◌, ℕ, ap, []}
use Rattle.mps_base.specs.Trail.{Moves}
use Rattle.mps_session.proofs.Keeping.{new_keeps}
use Rattle.mps_session.proofs.made.Made.new.Goals as goal

pub invariant_of-result : goal.invariant_of-result
invariant_of-result c =
    let with_room : ℕ → Moves = λ most. record { moves = []; spare = 2 * most } in
    new_keeps c.args.grains c.args.limit c.in_ok-heap.heap c.in-Ok.trail c.requires.nonzero c.in_ok-heap.ensures.right
    (c.in-Ok.ensures ∙ ap with_room c.most_moves.ensures.value)
