-- What is done while a frame is closed: the block that was made last is freed, or the frame is closed.
use Rattle.std.specs.Prelude.{ℕ, ◌≡◌, ◌+◌, ◌<◌, ◌≤◌, IsSome, length, slice_index, take}
use Rattle.mps_base.specs.Trail.{Moves}
use Rattle.mps_snc.specs.State.{PoolState, opened_at, pool_at, state_of, with_frames, with_pool}
use Rattle.mps_heap_spec.specs.Framing as framing
use Rattle.mps_heap_spec.specs.Popping.{frame_closed}
use Rattle.mps_heap_spec.specs.State.{HeapState}

module _ {F : Type 0} (h : HeapState F) (trail : Moves) (pool frame : ℕ) (after : HeapState F) (trail_after : Moves) where
  -- what the pool has, before and after
  abbrev was : PoolState
  was = state_of h.beside.frames pool

  abbrev now : PoolState
  now = state_of after.beside.frames pool

  -- a block fewer, and what closing the frame comes to is as it was
  pub record IsLastFreed : Type 0 where
    pub there : IsSome (pool_at after.beside.frames pool)
    pub since : opened_at was frame < length was.blocks
    pub fewer : length now.blocks + 1 ≡ length was.blocks
    pub frames : now.frames ≡ was.frames
    pub sizes : after.sizes ≡ h.sizes
    pub room : trail.spare ≤ trail_after.spare + 2
    pub closes : (size : ℕ) → size ≡ slice_index h.sizes pool
        → frame_closed after trail_after pool size frame (opened_at was frame) ≡ frame_closed h trail pool size frame (opened_at was frame)

  -- no block was made since, and the frame is closed with those above it
  pub record IsClosed : Type 0 where
    pub none : length was.blocks ≤ opened_at was frame
    pub state : after ≡ framing.with_frames h (with_pool h.beside.frames pool (with_frames was (take frame was.frames)))
    pub moves : trail_after ≡ trail
