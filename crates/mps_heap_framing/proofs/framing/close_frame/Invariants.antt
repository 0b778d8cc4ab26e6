use Rattle.std.proofs.Common.{◌≡◌, ◌-◌, ◌*◌, ◌≤◌, IsSome, length}
use Rattle.std.specs.Prelude.{slice_index}
use Rattle.mps_snc.specs.State.{opened_at, pool_at, state_of}
use Rattle.mps_heap_spec.specs.Popping.{frame_closed}
use Rattle.mps_heap_framing.proofs.framing.close_frame.Given as goal

-- the frame is still open, there is room for what is left, and what closing it comes to is as it was
abbrev pub invariant-loop-pool : goal.invariant-loop-pool
invariant-loop-pool g l =
    IsSome (pool_at l.state.beside.frames l.pool)
    × ((state_of l.state.beside.frames l.pool).frames ≡ (state_of l.initial.state.beside.frames l.pool).frames)
    × (l.state.sizes ≡ l.initial.state.sizes)
    × (2 * (length (state_of l.state.beside.frames l.pool).blocks - opened_at (state_of l.initial.state.beside.frames l.pool) l.frame)
    ≤ l.trail.spare)
    × (frame_closed l.state l.trail l.pool (slice_index l.initial.state.sizes l.pool) l.frame
    (opened_at (state_of l.initial.state.beside.frames l.pool) l.frame)
    ≡ frame_closed l.initial.state l.initial.trail l.pool (slice_index l.initial.state.sizes l.pool) l.frame
    (opened_at (state_of l.initial.state.beside.frames l.pool) l.frame))

abbrev pub decreases-loop-pool : goal.decreases-loop-pool
decreases-loop-pool g l = length (state_of l.state.beside.frames l.pool).blocks
