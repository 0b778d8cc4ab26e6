use Rattle.std.proofs.Common.{◌≡◌}
use Rattle.std.specs.Prelude.{drop}
use Rattle.mps_heap_spec.specs.Following.{moves_followed}
use Rattle.mps_heap_state.proofs.following.follow.Given as goal

abbrev pub invariant-loop-position : goal.invariant-loop-position
invariant-loop-position g l =
    moves_followed g.F.Format.layout l.state (drop l.position l.fn.trail.moves)
    ≡ moves_followed g.F.Format.layout l.fn.state (drop l.fn.first l.fn.trail.moves)
