-- What the calls of points ask for, of a heap that is ready.
use Rattle.std.proofs.Common.{ℕ, ◌≡◌, Some}
use Rattle.mps_buffer.specs.declared.point.Held.{Held}
use Rattle.mps_buffer.specs.declared.point.Point.{Point}
use Rattle.mps_buffer.specs.Points.{point_at, IsReserved}
use Rattle.mps_seg.specs.Buffer.{IsAtHand}
use Rattle.mps_buffer.specs.Tokens.{HasOpen, IsClosedAt}
use Rattle.mps_heap_spec.specs.State.{HeapState, IsReady}

module _ {F : Type 0} where
  -- under a key there is a point without a reservation, at which words may be taken
  abbrev pub MayReserve : HeapState F → (key : ℕ) → Type 0
  MayReserve h key = (p : Point) × IsClosedAt h.points key p × IsAtHand h.segs p.buffer

  pub may_reserve : (h : HeapState F) (key : ℕ) (p : Point) → IsReady h → IsClosedAt h.points key p → MayReserve h key
  may_reserve h key p ready closed = (p, closed, ready.at_hand key p closed.there)

  -- under a key there is a point with a reservation, which is one of the segments' where no flip ended it
  abbrev pub MayCommit : HeapState F → (key : ℕ) → Type 0
  MayCommit h key = (p : Point) × (held : Held) × HasOpen h.points key p held × IsReserved h.points.flips (Some held) h.segs

  pub may_commit : (h : HeapState F) (key : ℕ) (p : Point) (held : Held) → IsReady h → point_at h.points key ≡ Some p
      → p.reservation ≡ Some held → MayCommit h key
  may_commit h key p held ready there is_open =
      (p, held, record { there = there; reserved = is_open }, ready.reserved key p held there is_open)
