-- A heap that stands for a world can begin a collection, and do one of everything whole, in the room that is asked for.
use Rattle.std.proofs.Common.{ℕ, ◌+◌, ◌<◌, List, [], length, Option, arith}
use Rattle.mps_base.specs.Address.{Address}
use Rattle.mps_base.specs.Trail.{Moves}
use Rattle.mps_format.specs.Layout.{Layout}
use Rattle.mps_trace.specs.GenState.{ChainsState}
use Rattle.mps_trace.specs.State.{FinalsState}
use Rattle.mps_root.specs.State.{RootsState}
use Rattle.mps_model.specs.Effect.{Everything}
use Rattle.mps_model.specs.World.{World, live_ids}
use Rattle.mps_heap_spec.specs.Collecting.{CanCollectAll}
use Rattle.mps_pools.specs.Collecting.{CanCondemn, IsTraceOf}
use Rattle.mps_heap_spec.specs.State.{HeapState}
use Rattle.mps_trace.specs.Begin.{marked_at_flip, Begins, CanBegin, CanFixRoots}
use Rattle.mps_trace.specs.Collect.{CanEnd, most_units}
use Rattle.mps_trace.specs.Trace.{TraceState, Traced, traced}
use Rattle.mps_trace.specs.declared.running.Running.{Running}
use Rattle.mps_trace_laws.proofs.Reclaim.Room.{segments_are_in_order}
use Rattle.mps_trace_laws.specs.Units.Laws.{AreScansDone}
use Rattle.mps_trace_laws.proofs.Units.Entering.{held_in_order}
use Rattle.mps_trace_laws.proofs.Units.Ready.{units_are_ready}
use Rattle.mps_trace_laws.proofs.Units.Rows.{units_run_out}
use Rattle.mps_trace_laws.specs.Begin.Before.{StandsBefore}
use Rattle.mps_trace_laws.specs.Begin.Begun.{IsActDone, ACollectionBegins, UnitsAreFew}
use Rattle.mps_buffer.specs.Points.{AreReserved}
use Rattle.mps_refinement.proofs.Collect.CollectRight.{IsBefore}
use Rattle.mps_trace_laws.specs.Begin.Condemning.{MayCondemn, collecting_at_flip}
use Rattle.mps_trace_laws.proofs.Begin.CondemnedIds.{everything_may}
use Rattle.mps_trace_laws.proofs.Begin.FlipStands.{standing}
use Rattle.mps_trace_laws.proofs.Begin.RootsHeld.{messages_as, tables_as}
use Rattle.mps_trace_laws.proofs.Roots.Beginning.{roots_are_ready}
use Rattle.mps_trace_laws.specs.Image.Image.{black_cells}
use Rattle.mps_abstract.specs.Collecting.{Collecting}
use Rattle.mps_trace.specs.declared.condemn.Condemn.{Condemn}
use Rattle.mps_trace.specs.declared.condemn.Condemn.TheVariants as condemn
use Rattle.mps_format.specs.declared.pool.Policy.{Policy}

-- ---- it can begin a collection, whatever may be condemned

module _ {F : Type 0} (layout : F → Layout) (h : HeapState F) (m : Moves) (w : World)
    (reserved : AreReserved h.points.flips h.points.points h.segs) (k : IsBefore layout h m w) (t : TraceState F)
    (of : IsTraceOf h.pools h.chains t) (what : Condemn) (may : MayCondemn t h.segs w what) where
  before : StandsBefore layout t h.segs m h.points w
  before = k.stands t of

  -- roots can be fixed after its flip, even if it condemns nothing
  roots_ready : CanFixRoots layout t h.roots h.finals (marked_at_flip t.formats t.chains what h.points h.roots (traced t h.segs m))
  roots_ready =
      let y : Collecting = collecting_at_flip h.segs w what in
      let flip = standing layout t h.segs m h.points h.roots w what before may k.areas in
      roots_are_ready layout t w.addresses (black_cells y.running.condemned y.colours)
      (marked_at_flip t.formats t.chains what h.points h.roots (traced t h.segs m)) y k.rows w.graph.messages h.roots h.finals
      flip.moving.shaped flip.traces (tables_as h.segs w what h.roots h.finals k.rows k.roots)
      (messages_as h.segs w what h.roots h.finals k.rows k.roots)

  pub can_condemn : CanCondemn layout t what h.points h.roots h.finals h.segs m
  can_condemn = record {
    ordered = segments_are_in_order h.segs (held_in_order h.segs before.segments.held);
    blocks = before.segments.whole.order;
    reserved = reserved;
    fits = let there = before.room in omega (arith, there);
    roots_ready = roots_ready;
  }

-- ---- it can collect everything

module _ {F : Type 0} (layout : F → Layout) (h : HeapState F) (m : Moves) (w : World)
    (reserved : AreReserved h.points.flips h.points.points h.segs) (k : IsBefore layout h m w) where
  module _ (t : TraceState F) (of : IsTraceOf h.pools h.chains t) where
    may : MayCondemn t h.segs w condemn.Everything
    may = everything_may layout t h.segs m h.points w (k.stands t of)

    can_begin : CanBegin layout t h.points h.roots h.finals h.segs m
    can_begin =
        let can = can_condemn layout h m w reserved k t of condemn.Everything may in
        record {
          ordered = can.ordered;
          blocks = can.blocks;
          reserved = can.reserved;
          fits = can.fits;
          roots_ready = can.roots_ready;
        }

  -- and end it

  module _ (begins : ACollectionBegins F) (few : UnitsAreFew)
      (scans : (formats : List (Option (Policy F))) (of : ChainsState) (at_flip : List (Option Address))
      → AreScansDone layout formats of at_flip)
      (below : length (live_ids w) + length w.graph.registered + length w.segments
      < most_units h.segs.grains (length h.finals.registered)) where
    -- how many units it has at most
    abbrev most : ℕ
    most = most_units h.segs.grains (length h.finals.registered)

    module _ (t : TraceState F) (of : IsTraceOf h.pools h.chains t) where
      can_end : (roots' : RootsState) (finals' : FinalsState) (z : Traced) (run : Running)
          → Begins layout t.formats t.chains condemn.Everything h.points h.roots h.finals (traced t h.segs m) roots' finals' z run
          → CanEnd layout t.formats t.chains z finals' run most
      can_end roots' finals' z run begun =
          let act : IsActDone layout t h.segs m w condemn.Everything k.rows h.roots roots' finals' z run =
          begins layout t h.segs m h.points h.roots roots' h.finals finals' w k.rows z run condemn.Everything (k.stands t of) (may t of)
          k.areas k.roots begun
          in
          let those = scans t.formats t.chains w.addresses in
          record {
            ready =
                units_are_ready layout (record { formats = t.formats; amc = z.amc; chains = t.chains }) z.segs z.moves w.addresses finals'
                run act.after most those act.stands;
            ends = λ last finals'' run' units.
                let less =
                units_run_out layout t.formats t.chains w.addresses z last finals' finals'' run run' act.after most
                those act.stands units
                in
                let left = few w Everything [] act.first act.after act.fixes in
                omega (arith, less, left, below);
          }

    pub can_collect_all : CanCollectAll layout h m
    can_collect_all = λ t of. record { begins = can_begin t of; units_ready = can_end t of }
