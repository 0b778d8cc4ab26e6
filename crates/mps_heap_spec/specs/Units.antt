-- Units of a heap's collection, as `step`, polls, `park` and `collect` have it do some.
use Rattle.std.specs.Prelude.{ℕ, ◌≡◌, ◌≢◌, ◌≤◌, is_some, if◌then◌else◌, Option, Some, None, length}
use Rattle.mps_base.specs.Trail.{Moves}
use Rattle.mps_format.specs.Layout.{Layout}
use Rattle.mps_trace.specs.Collect.{most_units}
use Rattle.mps_seg.specs.Table.{IsMarked}
use Rattle.mps_pools.specs.Pools.{trace_of}
use Rattle.mps_pools.specs.Collecting.{IsTraceOf}
use Rattle.mps_trace.specs.GenState.{max_chains}
use Rattle.mps_trace.specs.State.{max_finals}
use Rattle.mps_trace.specs.Trace.{TraceState, Traced, traced}
use Rattle.mps_trace.specs.Unit.{AreUnitsReady, EndsWithin, UnitsTo}
use Rattle.mps_trace.specs.declared.running.Running.{Running}
use Rattle.mps_heap_spec.specs.State.{HeapState}
use Rattle.mps_heap_spec.specs.Following.{Follows}
use Rattle.mps_heap_spec.specs.declared.arena.ArenaState.TheVariants as arena
use Rattle.mps_heap_spec.specs.declared.arena.Progress.{Progress}
use Rattle.mps_heap_spec.specs.declared.arena.Progress.TheVariants.{Idle, More}

module _ {F : Type 0} where
  -- what the collector knows of the pools of a heap
  abbrev pub trace_in : HeapState F → TraceState F
  trace_in h = trace_of h.pools h.chains h.tails

  -- what it sees of a heap and a trail, and changes
  abbrev pub traced_in : HeapState F → Moves → Traced
  traced_in h m = traced (trace_in h) h.segs m

  -- what is known of the tables of each heap: those of marks have their sizes, each pool has a tail, and registrations and chains are few
  pub record IsWhole (h : HeapState F) : Type 0 where
    pub marked : IsMarked h.segs.grains h.segs.marks h.segs.condemned h.segs.summaries
    pub tails : IsTraceOf h.pools h.chains (trace_in h)
    pub few : length h.finals.registered ≤ max_finals
    pub few_chains : length h.chains.chains ≤ max_chains

  -- each of at most n units of the collection that runs can be done when its turn comes
  abbrev pub CanDoUnits : (F → Layout) → HeapState F → Moves → (n : ℕ) → Type 0
  CanDoUnits layout h m n =
      (run : Running) → h.running ≡ Some run → AreUnitsReady layout (trace_in h) h.segs m h.finals run n

  -- what the units of a collection leave of a heap, and whether it runs then
  abbrev pub after_units : (before after : HeapState F) → Option Running → HeapState F
  after_units h h' running = record h { segs = h'.segs; tails = h'.tails; finals = h'.finals; running = running }

  -- n units of the collection that runs were done, or fewer if it ended in them, or none if no collection runs
  pub data HasDoneUnits (layout : F → Layout) (h : HeapState F) (m : Moves) (n : ℕ) (h' : HeapState F) (m' : Moves) : Type 0 where
    none_runs : h.running ≡ None → h' ≡ h → m' ≡ m → HasDoneUnits layout h m n h' m'
    goes_on : (run next : Running) → h.running ≡ Some run
        → UnitsTo layout (trace_in h).formats (trace_in h).chains (traced_in h m) h.finals run n
        (traced_in h' m') h'.finals next
        → h' ≡ after_units h h' (Some next) → HasDoneUnits layout h m n h' m'
    ends : (run : Running) → h.running ≡ Some run
        → EndsWithin layout (trace_in h).formats (trace_in h).chains (traced_in h m) h.finals run n
        (traced_in h' m') h'.finals
        → h' ≡ after_units h h' None → HasDoneUnits layout h m n h' m'

  -- as many units as a heap's collection has at most, which therefore end it
  abbrev pub units_to_end : HeapState F → ℕ
  units_to_end h = most_units h.segs.grains (length h.finals.registered)

  -- whether a collection is still in progress
  abbrev pub progress_of : HeapState F → Progress
  progress_of h = if is_some h.running then More else Idle

  -- a step of n units: an arena that is unclamped has its collection do them, and their moves are followed; any other does nothing
  pub record HasStepped (layout : F → Layout) (h : HeapState F) (m : Moves) (n : ℕ) (h' : HeapState F) (m' : Moves) (answer : Progress)
      : Type 0 where
    pub done : h.arena ≡ arena.Unclamped → Follows layout m (HasDoneUnits layout h m n) h' m'
    pub still : h.arena ≢ arena.Unclamped → (h' ≡ h) × (m' ≡ m)
    pub answered : answer ≡ progress_of h'
