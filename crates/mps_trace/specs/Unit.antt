-- The units of a collection, over the words of the arena.
use Rattle.std.specs.Prelude.{◌≡◌, ℕ, ◌+◌, ◌<◌, Option, Some, None, List, [], ◌∷◌, length, refl}
use Rattle.std.proofs.Common.{arith}
use Rattle.mps_base.specs.Segment.{Segment, segment_over}
use Rattle.mps_base.specs.Trail.{Moves, with_move}
use Rattle.mps_base.specs.declared.address.Addr.{Addr}
use Rattle.mps_base.specs.declared.moves.Move.TheVariants.{End, Post}
use Rattle.mps_final.specs.State.{FinalsState, with_registered_at, finals_after_post}
use Rattle.mps_format.specs.Layout.{Layout}
use Rattle.mps_seg.specs.Segs.{SegsState, new_segments}
use Rattle.mps_seg.specs.Collecting.{collected}
use Rattle.mps_amc.specs.Reclaiming.{lost_of}
use Rattle.mps_amc.specs.Amc.{no_pools}
use Rattle.mps_gen.specs.State.{ChainsState, no_chains}
use Rattle.mps_trace.specs.Condemned.{AreInOrder, IsNextCondemned, NoneLeft}
use Rattle.mps_trace.specs.Reclaim.{CanReclaimAt, Reclaims}
use Rattle.mps_trace.specs.Scan.{CanScanGrey, ScansOne, IsDrained}
use Rattle.mps_trace.specs.Examine.{registration_of, IsOneDue, IsNoneDue, running_after_found, running_after_post, CanExamineNext}
use Rattle.mps_trace.specs.Finding.{FindsTo}
use Rattle.mps_trace.specs.Splat.{CanSplatGrey, SplatsOne, HasNoMark}
use Rattle.mps_trace.specs.Trace.{TraceState, Traced, traced, KeepsTo}
use Rattle.mps_trace.specs.declared.running.Running.{Running}
use Rattle.mps_trace.specs.declared.running.Band.TheVariants.{Exact, Weak, Reclaim}
use Rattle.mps_format.specs.declared.pool.Policy.{Policy}

-- a collection after the segment at an address was reclaimed
abbrev pub reclaimed_at : (base : Addr) → Running → Running
reclaimed_at base run = record run { band = Reclaim; cursor = record { 0 = base.0 + 1 } }

-- a collection is over: nothing is condemned, kept or grey, and its end is logged
abbrev pub traced_after_end : Traced → Traced
traced_after_end x = record x { segs = collected x.segs; moves = with_move x.moves End }

-- nothing is grey, no registration is due, and the lowest condemned segment from the cursor on is reclaimed
pub record ReclaimsNext {F : Type 0} (layout : F → Layout) (formats : List (Option (Policy F))) (x : Traced) (run : Running) (base : Addr)
    (y : Traced) : Type 0 where
  pub scanned : HasNoMark x.segs
  pub examined : IsNoneDue run
  pub lowest : IsNextCondemned x.segs run.cursor.0 base.0
  pub reclaimed : Reclaims layout formats x.segs x.moves base y.segs y.moves
  pub at_hand : y.amc ≡ x.amc

-- one unit, after which the collection goes on
pub data UnitTo {F : Type 0} (layout : F → Layout) (formats : List (Option (Policy F))) (chains : ChainsState) (x : Traced)
    (f : FinalsState) (run : Running) : Traced → FinalsState → Running → Type 0
  where
    -- a grey block that isn't weak is scanned
    scans : {y : Traced} → ScansOne layout formats chains x y → UnitTo layout formats chains x f run y f run
    -- or else the next registration is examined. Its block is found: the registration has the address where it lies now
    examines : {f' : FinalsState} {run' : Running} (to : Addr) → IsDrained x.segs → IsOneDue run
        → FindsTo layout formats x.segs (registration_of f run.next) (Some to) → f' ≡ with_registered_at f run.next to.0
        → run' ≡ running_after_found run → UnitTo layout formats chains x f run x f' run'
    -- or it is white: it is kept, and the registration becomes a message
    posts : {y z : Traced} {f' : FinalsState} {run' : Running} (to : Addr) → IsDrained x.segs → IsOneDue run
        → FindsTo layout formats x.segs (registration_of f run.next) None
        → KeepsTo layout formats chains x (registration_of f run.next) y to → z ≡ record y { moves = with_move y.moves (Post to) }
        → f' ≡ finals_after_post (with_registered_at f run.next to.0) run.next → run' ≡ running_after_post run
        → UnitTo layout formats chains x f run z f' run'
    -- or else a weak grey block is scanned
    splats : {y : Traced} {run' : Running} → IsDrained x.segs → IsNoneDue run → SplatsOne layout formats x y
        → run' ≡ record run { band = Weak } → UnitTo layout formats chains x f run y f run'
    -- or else a segment is reclaimed, and others are left
    reclaims : {y : Traced} {run' : Running} (base left : Addr) → ReclaimsNext layout formats x run base y
        → IsNextCondemned x.segs (base.0 + 1) left.0 → run' ≡ reclaimed_at base run → UnitTo layout formats chains x f run y f run'

-- the unit in which the collection ends: the last condemned segment is reclaimed
pub record LastUnitTo {F : Type 0} (layout : F → Layout) (formats : List (Option (Policy F))) (x : Traced) (run : Running) (z : Traced)
    : Type 0 where
  pub base : Addr
  pub before : Traced
  pub reclaimed : ReclaimsNext layout formats x run base before
  pub last : NoneLeft x.segs (base.0 + 1)
  pub over : z ≡ traced_after_end before

-- n units, after each of which the collection goes on
pub data UnitsTo {F : Type 0} (layout : F → Layout) (formats : List (Option (Policy F))) (chains : ChainsState) (x : Traced)
    (f : FinalsState) (run : Running) : (count : ℕ) → Traced → FinalsState → Running → Type 0
  where
    begins : UnitsTo layout formats chains x f run 0 x f run
    goes_on : {y z : Traced} {f' f'' : FinalsState} {run' run'' : Running} (count : ℕ)
        → UnitsTo layout formats chains x f run count y f' run' → UnitTo layout formats chains y f' run' z f'' run''
        → UnitsTo layout formats chains x f run (count + 1) z f'' run''

-- the collection ends within n units
pub record EndsWithin {F : Type 0} (layout : F → Layout) (formats : List (Option (Policy F))) (chains : ChainsState) (x : Traced)
    (f : FinalsState) (run : Running) (most : ℕ) (z : Traced) (f' : FinalsState) : Type 0 where
  pub count : ℕ
  pub within : count < most
  pub before : Traced
  pub run_before : Running
  pub units : UnitsTo layout formats chains x f run count before f' run_before
  pub last : LastUnitTo layout formats before run_before z

-- there is room for the moves of a reclaim of the segment at an address, and for the end of a collection
abbrev pub HasRoomToEnd : SegsState → Moves → (base : Addr) → Type 0
HasRoomToEnd s m base = (t : Segment) → segment_over s.segments base.0 ≡ Some t → length (lost_of s t) + 1 < m.spare

-- what is needed of a segment that may be the next to be reclaimed
pub record CanReclaimNext {F : Type 0} (layout : F → Layout) (t : TraceState F) (s : SegsState) (m : Moves) (run : Running) : Type 0 where
  pub ordered : AreInOrder s
  -- one is left
  pub next : Addr
  pub lowest : IsNextCondemned s run.cursor.0 next.0
  pub can : (base : Addr) → IsNextCondemned s run.cursor.0 base.0 → CanReclaimAt layout t s m base
  pub room : (base : Addr) → IsNextCondemned s run.cursor.0 base.0 → HasRoomToEnd s m base

-- a unit can be done, whichever it is: each grey block can be scanned, the next registration can be examined, and if nothing is left of
-- these a segment is left that can be reclaimed
pub record CanUnit {F : Type 0} (layout : F → Layout) (t : TraceState F) (s : SegsState) (m : Moves) (f : FinalsState) (run : Running)
    : Type 0 where
  pub scan : CanScanGrey layout t s m
  pub examine : IsDrained s → IsOneDue run → CanExamineNext layout t s m f run
  pub splat : IsDrained s → IsNoneDue run → CanSplatGrey layout t s m
  pub reclaim : HasNoMark s → IsNoneDue run → CanReclaimNext layout t s m run

-- each of at most n units can be done when its turn comes
abbrev pub AreUnitsReady : {F : Type 0} → (F → Layout) → TraceState F → SegsState → Moves → FinalsState → (run : Running) → (most : ℕ)
    → Type 0
AreUnitsReady layout t s m f run most = (count : ℕ) (y : Traced) (f' : FinalsState) (run' : Running) → count < most
    → UnitsTo layout t.formats t.chains (traced t s m) f run count y f' run'
    → CanUnit layout (record t { amc = y.amc }) y.segs y.moves f' run'

-- ---- vectors

abbrev at_rest : Traced
at_rest = record { amc = no_pools; segs = new_segments 1 1; moves = record { moves = []; spare = 2 } }

pub the_end_is_told : (traced_after_end at_rest).moves ≡ record { moves = End ∷ []; spare = 1 }
the_end_is_told = refl

abbrev at_flip : Running
at_flip = record { band = Exact; cursor = record { 0 = 0 }; next = 0; registered_before = 0 }

pub the_next_segment_lies_above : (reclaimed_at (record { 0 = 0x1000 }) at_flip).cursor.0
    ≡ 0x1001
the_next_segment_lies_above = refl

-- no unit at all ends no collection
pub no_end_in_no_units : {F : Type 0} (layout : F → Layout) (x z : Traced) (f f' : FinalsState) (run : Running)
    → EndsWithin layout [] no_chains x f run 0 z f' → ⊥
no_end_in_no_units layout x z f f' run ends = omega (arith, ends.within)
