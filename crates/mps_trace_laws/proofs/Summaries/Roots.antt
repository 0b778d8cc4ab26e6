-- The fixes of slots and of messages keep each word summed.
use Rattle.std.proofs.Common.{ℕ, ◌<◌, ◌≤◌, List, length, map, Option, Some, arith}
use Rattle.mps_base.specs.Address.{Address, Id}
use Rattle.mps_format.specs.Layout.{Layout}
use Rattle.mps_format.specs.declared.pool.Policy.{Policy}
use Rattle.mps_root.specs.State.{RootsState, items_of}
use Rattle.mps_trace.specs.GenState.{ChainsState}
use Rattle.mps_trace.specs.State.{FinalsState}
use Rattle.mps_trace.specs.Roots as fixing
use Rattle.mps_trace.specs.Roots.{CanFixRootAt, FixesRoot, is_null, leads, FixesSlots, FixesTables, FixesMessages, key_at}
use Rattle.mps_trace.specs.Trace.{Traced}
use Rattle.mps_abstract.specs.Collecting.{Collecting}
use Rattle.mps_trace_laws.specs.Image.Memory.{pool_layout}
use Rattle.mps_trace_laws.specs.Image.Image.{CellSet, AreShaped}
use Rattle.mps_trace_laws.specs.Fix.Tracing.{StateStands, TracingStands}
use Rattle.mps_trace_laws.specs.Roots.Rows.{AreHeldAtFlip}
use Rattle.mps_trace_laws.specs.Roots.Tables.{AreTablesHeld}
use Rattle.mps_trace_laws.specs.Summaries.Summed.{AreWordsSummed}
use Rattle.mps_trace_laws.proofs.Fix.ScanRun.{shaped_still}
use Rattle.mps_trace_laws.proofs.Roots.Rows.{run_slots, ready_slots, run_messages, ready_messages}
use Rattle.mps_trace_laws.proofs.Roots.Tables.{run_tables, the_row, held_now, shaped_now, still_held}
use Rattle.mps_trace_laws.proofs.Summaries.Keeps.{fix_summed}
use Rattle.mps_trace_laws.proofs.Summaries.StatesHeld.{runs_held, tails_home}

module _ {F : Type 0} (layout : F → Layout) (formats : List (Option (Policy F))) (of : ChainsState) (at_flip : List (Option Address))
    (done : CellSet) where
  root_summed : (x : Traced) (y : Collecting) → StateStands layout formats of at_flip done x.amc x.segs y
      → AreWordsSummed layout formats x.segs → {z : Traced} {answer : Address} (at : Address) → CanFixRootAt layout formats of x at
      → FixesRoot layout formats of x at z answer → AreWordsSummed layout formats z.segs
  root_summed x y st summed at can (is_null null) = summed
  root_summed x y st summed at can (leads to positive fixed) =
      fix_summed layout formats of x st.held st.tables st.covered (runs_held layout formats of at_flip done x y st)
      (tails_home layout formats of at_flip done x y st) summed (record { 0 = at }) (can positive) fixed

  module _ (x : Traced) (y : Collecting) (shaped : AreShaped y.world.graph.objects (pool_layout y.world))
      (stands : TracingStands layout formats of at_flip done x y) (summed : AreWordsSummed layout formats x.segs) where
    slots_summed : (targets : List (Option Id)) (key : ℕ) (roots : RootsState)
        → AreHeldAtFlip at_flip y (items_of roots.tables key) targets → {count : ℕ} {roots' : RootsState} {z : Traced}
        → FixesSlots layout formats of key roots x count roots' z → count ≤ length (items_of roots.tables key)
        → AreWordsSummed layout formats z.segs
    slots_summed targets key roots held fixing.begins within = summed
    slots_summed targets key roots held (fixing.goes_on {roots' = r} {y = w} count at earlier fixes is) within =
        let run =
        run_slots layout formats of at_flip done x y targets key roots shaped stands held earlier (omega (arith, within))
        in
        let can =
        ready_slots layout formats of at_flip done x y targets key roots shaped stands held count r w earlier (omega (arith, within))
        in
        root_summed w run.fixed.after run.fixed.stands.state (slots_summed targets key roots held earlier (omega (arith, within))) _ can
        fixes

    pub messages_summed : (targets : List (Option Id)) (finals : FinalsState) → AreHeldAtFlip at_flip y finals.messages targets
        → {count : ℕ} {finals' : FinalsState} {z : Traced} → FixesMessages layout formats of finals x count finals' z
        → count ≤ length finals.messages → AreWordsSummed layout formats z.segs
    messages_summed targets finals held fixing.begins within = summed
    messages_summed targets finals held (fixing.goes_on {finals' = r} {y = w} count at earlier fixes is) within =
        let run =
        run_messages layout formats of at_flip done x y targets finals shaped stands held earlier (omega (arith, within))
        in
        let can =
        ready_messages layout formats of at_flip done x y targets finals shaped stands held count r w earlier (omega (arith, within))
        in
        root_summed w run.fixed.after run.fixed.stands.state (messages_summed targets finals held earlier (omega (arith, within))) _ can
        fixes

  pub tables_summed : (x : Traced) (y : Collecting) (rows : List (List (Option Id))) (roots : RootsState)
      (shaped : AreShaped y.world.graph.objects (pool_layout y.world)) (stands : TracingStands layout formats of at_flip done x y)
      (held : AreTablesHeld at_flip y roots rows) → AreWordsSummed layout formats x.segs → {count : ℕ} {roots' : RootsState} {z : Traced}
      → FixesTables layout formats of roots x count roots' z → count ≤ length roots.order → AreWordsSummed layout formats z.segs
  tables_summed x y rows roots shaped stands held summed fixing.begins within = summed
  tables_summed x y rows roots shaped stands held summed (fixing.goes_on {roots' = r} {y = w} count earlier table) within =
      let run = run_tables layout formats of at_flip done x y rows roots shaped stands held earlier (omega (arith, within)) in
      let below : count < length roots.order = omega (arith, within) in
      slots_summed w run.fixed.after (shaped_now layout formats of at_flip done x y rows roots shaped stands held w r count run below)
      run.fixed.stands (tables_summed x y rows roots shaped stands held summed earlier (omega (arith, within)))
      (the_row layout formats of at_flip done x y rows roots shaped stands held w r count run below).0 (key_at roots count) r
      (held_now layout formats of at_flip done x y rows roots shaped stands held w r count run below) table (omega arith)

  -- slots and then messages
  pub roots_summed : (x between z : Traced) (y : Collecting) (rows : List (List (Option Id))) (ids : List Id) (roots roots' : RootsState)
      (finals finals' : FinalsState)
      → AreShaped y.world.graph.objects (pool_layout y.world) → TracingStands layout formats of at_flip done x y
      → AreTablesHeld at_flip y roots rows → AreHeldAtFlip at_flip y finals.messages (map Some ids)
      → AreWordsSummed layout formats x.segs → FixesTables layout formats of roots x (length roots.order) roots' between
      → FixesMessages layout formats of finals between (length finals.messages) finals' z → AreWordsSummed layout formats z.segs
  roots_summed x between z y rows ids roots roots' finals finals' shaped stands held messages summed tables run =
      let one = run_tables layout formats of at_flip done x y rows roots shaped stands held tables (omega arith) in
      let y' = one.fixed.after in
      let targets = map Some ids in
      let held_then = still_held at_flip y y' finals.messages targets one.fixed.leaves one.fixed.same messages in
      messages_summed between y' (shaped_still y.world y'.world one.fixed.same shaped) one.fixed.stands
      (tables_summed x y rows roots shaped stands held summed tables (omega arith)) targets finals held_then run (omega arith)
