-- The state of a heap, as the clauses of its calls see it.
use Rattle.std.specs.Prelude.{ℕ, ◌≡◌, Option, Some, option_and_then, List, slice_get, Contains}
use Rattle.mps_base.specs.Address.{Address}
use Rattle.mps_base.specs.Segment.{segment_over}
use Rattle.mps_buffer.specs.declared.point.Held.{Held}
use Rattle.mps_buffer.specs.declared.point.Point.{Point}
use Rattle.mps_buffer.specs.Points.{PointsState, point_at, run_of_held}
use Rattle.mps_seg.specs.Buffer.{IsAtHand}
use Rattle.mps_trace.specs.AmcState.{AmcState}
use Rattle.mps_trace.specs.GenState.{ChainsState}
use Rattle.mps_trace.specs.State.{FinalsState}
use Rattle.mps_trace.specs.LdState.{EpochsState, LdState}
use Rattle.mps_trace.specs.declared.running.Running.{Running}
use Rattle.mps_names.specs.State.{NamesState}
use Rattle.mps_neighbours.specs.Beside.{BesideState}
use Rattle.mps_neighbours.specs.Transforms.{emptied}
use Rattle.mps_root.specs.State.{RootsState}
use Rattle.mps_seg.specs.Segs.{SegsState}
use Rattle.mps_heap_spec.specs.declared.arena.ArenaState.{ArenaState}
use Rattle.mps_format.specs.Pools.{format_of_pool}
use Rattle.mps_format.specs.declared.pool.Pool.{Pool}

-- What a heap has, generic in the format of its objects. Slots, places, registrations and messages are addresses; 0 is null.
pub record HeapState (F : Type 0) : Type 0 where
  pub segs : SegsState
  pub roots : RootsState
  -- how many tables, areas and tables of blocks there are, and how many slots, words and places they have together
  pub live_roots : ℕ
  pub live_slots : ℕ
  pub points : PointsState
  pub live_points : ℕ
  pub finals : FinalsState
  pub epochs : EpochsState
  -- the dependencies and the pools, by their numbers
  pub dependencies : List LdState
  pub pools : List (Pool F)
  -- the size of each pool's blocks, 0 if it has blocks of any sizes or is automatic
  pub sizes : List ℕ
  -- the chains by their numbers, and the chain of each pool that is on one
  pub chains : ChainsState
  -- by pool and generation, the tails to which a collection moves blocks
  pub tails : AmcState
  pub names : NamesState
  pub arena : ArenaState
  -- what stands beside the blocks: dependents, transforms, caches and frames
  pub beside : BesideState
  -- the collection that runs between two calls, if one does
  pub running : Option Running

-- the same, where no transform has a pair
abbrev pub without_pairs : BesideState → BesideState
without_pairs beside = record beside { transforms = emptied beside.transforms }

module _ {F : Type 0} where
  -- the pool of the segment that is held over an address
  abbrev pub pool_over : HeapState F → Address → Option (Pool F)
  pool_over h at = option_and_then (λ s. slice_get h.pools s.pool) (segment_over h.segs.segments at)

  -- the format of the objects in the segment that is held over an address
  abbrev pub format_over : HeapState F → Address → Option F
  format_over h at = option_and_then format_of_pool (pool_over h at)

  -- What the calls of points ask for: the free words of a point's buffer can be covered, and a reservation that no flip ended is one of the
  -- segments'. Each heap keeps it.
  pub record IsReady (h : HeapState F) : Type 0 where
    pub at_hand : (key : ℕ) (p : Point) → point_at h.points key ≡ Some p → IsAtHand h.segs p.buffer
    pub reserved : (key : ℕ) (p : Point) (held : Held) → point_at h.points key ≡ Some p → p.reservation ≡ Some held
        → held.flips ≡ h.points.flips → Contains h.segs.reservations (run_of_held held)
