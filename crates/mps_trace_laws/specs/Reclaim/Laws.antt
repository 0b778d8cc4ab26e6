-- What is shown of a reclaim, each law a statement.
use Rattle.std.specs.Prelude.{ℕ}
use Rattle.mps_base.specs.Trail.{Moves}
use Rattle.mps_base.specs.declared.address.Addr.{Addr}
use Rattle.mps_format.specs.Layout.{Layout}
use Rattle.mps_seg.specs.Segs.{SegsState}
use Rattle.mps_seg.specs.Reclaiming.{lost_of, IsSwept}
use Rattle.mps_abstract.specs.Collecting.{Collecting, Running, AreAllExamined}
use Rattle.mps_abstract.specs.Colours.{AreAllScanned}
use Rattle.mps_trace.specs.Condemned.{IsNextCondemned}
use Rattle.mps_trace_laws.specs.Reclaim.Freed.{addresses_of}
use Rattle.mps_trace_laws.specs.Reclaim.Left.{AreReservationsUnwritten}
use Rattle.mps_trace_laws.specs.Reclaim.Units.{FreesFor, IsUnitReclaimed}

-- ---- units of the abstract collector

-- the reclaim is a unit, and the segments stand for the world after it
abbrev pub AReclaimIsAUnit : Type 0
AReclaimIsAUnit =
    (x : Collecting) (g : SegsState) (layout : ℕ → Layout) (base : Addr) (moves : Moves) (g' : SegsState) (moves' : Moves)
    → Running x → AreAllScanned x.colours → AreAllExamined x → FreesFor g x.world x.running x.colours layout
    → (next : IsNextCondemned g x.cursor base.0) → IsSwept g moves base g' moves'
    → AreReservationsUnwritten x.world.graph.points x.world.point_memories g.words g'.words
    → IsUnitReclaimed x next.segment (addresses_of (lost_of g next.segment)) layout g'
