-- The reference of a cell is fixed: each word stays summed, as the zone to which the cell then leads is noted.
use Rattle.std.proofs.Common.{◌≡◌, ◌∙◌, ℕ, ◌<◌, sym, ap, List, Option, Some, None, subst, arith}
use Rattle.std.specs.Prelude.{slice_get}
use Rattle.mps_base.specs.Address.{Address, Id}
use Rattle.mps_base.specs.declared.address.Addr.{Addr}
use Rattle.mps_format.specs.Layout.{Layout}
use Rattle.mps_format.specs.declared.pool.Policy.{Policy}
use Rattle.mps_trace.specs.GenState.{ChainsState}
use Rattle.mps_trace.specs.Trace.{Traced, FixesTo}
use Rattle.mps_trace.specs.Scan.{FixesCell, is_null, leads, after_redirect, target_at, word_at}
use Rattle.mps_model.specs.Graph.{Graph, Object, entry_at}
use Rattle.mps_abstract.specs.Collecting.{Collecting}
use Rattle.mps_trace_laws.specs.Image.Memory.{pool_layout}
use Rattle.mps_trace_laws.specs.Image.Image.{CellSet, AreShaped}
use Rattle.mps_trace_laws.specs.Fix.Cells.{HoldsReference}
use Rattle.mps_trace_laws.specs.Fix.Steps.{IsFixStep}
use Rattle.mps_trace_laws.specs.Fix.Tracing.{TracingStands}
use Rattle.mps_trace_laws.specs.Summaries.Summed.{AreWordsSummed}
use Rattle.mps_trace_laws.proofs.Image.References.{reads}
use Rattle.mps_trace_laws.proofs.Image.Scanning.{fix_leaves}
use Rattle.mps_trace_laws.proofs.Fix.CanFix.{can_fix}
use Rattle.mps_trace_laws.proofs.Fix.EachCell.{found, now, null_target, target_there}
use Rattle.mps_trace_laws.proofs.Fix.EachFix.{each_step}
use Rattle.mps_trace_laws.proofs.Fix.ScanRun.{layout_still}
use Rattle.mps_trace_laws.proofs.Summaries.CellWrites.{written_noted}
use Rattle.mps_trace_laws.proofs.Summaries.Keeps.{fix_summed}
use Rattle.mps_trace_laws.proofs.Summaries.StatesHeld.{runs_held, tails_home}

module _ (F : Type 0) (layout : F → Layout) (formats : List (Option (Policy F))) (of : ChainsState) (at_flip : List (Option Address))
    (done : CellSet) (x : Traced) (y : Collecting) (shaped : AreShaped y.world.graph.objects (pool_layout y.world))
    (stands : TracingStands layout formats of at_flip done x y) (holder i : ℕ) (at : Addr) (o : Object) (tag : ℕ) (later : 0 < i)
    (summed : AreWordsSummed layout formats x.segs) where
  abbrev f : Layout
  f = pool_layout y.world o.pool

  module _ (t : Id) (holds : HoldsReference y holder i at.0 o (Some t) tag) (v : Traced) (to : Addr)
      (fixed : FixesTo layout formats of x (record { 0 = target_at f x at i }) v to) where
    fix : IsFixStep layout formats of at_flip done x v y t to.0
    fix =
        each_step F layout formats of at_flip done x y shaped stands t (record { 0 = target_at f x at i })
        (found F layout formats of at_flip done x y shaped stands holder i at o tag t holds).object
        (now F layout formats of at_flip done x y shaped stands holder i at o tag t holds)
        (target_there F layout formats of at_flip done x y shaped stands holder i at o tag t holds) fixed

    fixed_summed : AreWordsSummed layout formats v.segs
    fixed_summed =
        let st = stands.state in
        fix_summed layout formats of x st.held st.tables st.covered (runs_held layout formats of at_flip done x y st)
        (tails_home layout formats of at_flip done x y st) summed (record { 0 = target_at f x at i })
        (can_fix F layout formats of at_flip done x y shaped stands (record { 0 = target_at f x at i }) t
        (now F layout formats of at_flip done x y shaped stands holder i at o tag t holds)
        (found F layout formats of at_flip done x y shaped stands holder i at o tag t holds).object
        (target_there F layout formats of at_flip done x y shaped stands holder i at o tag t holds)) fixed

    abbrev after : Collecting
    after = fix.after

    object : slice_get after.world.graph.objects holder ≡ Some o
    object = ap (λ (g : Graph). slice_get g.objects holder) fix.same.graph ∙ holds.object

    holder_there : entry_at after.world.addresses holder ≡ Some at.0
    holder_there =
        (fix_leaves y.running.condemned y.world.addresses after.world.addresses y.colours after.colours (Some t) fix.step).there holder at.0
        holds.not_white holds.there

    abbrev value : ℕ
    value = f.retarget (word_at x at i) to.0

    value_is : f.target value ≡ to.0
    value_is =
        let placed = fix.stands.state.image.placed.address t to.0 fix.there in
        let there = found F layout formats of at_flip done x y shaped stands holder i at o tag t holds in
        let low = shaped.tags holder i o (Some t) tag holds.object holds.cell in
        (reads f value to.0 tag (shaped.lawful o.pool) placed low (there.read.retarget to.0 placed)).target

    layout_is : pool_layout after.world o.pool ≡ f
    layout_is = layout_still y.world after.world fix.same o.pool

    leads_there : (pool_layout after.world o.pool).target value ≡ to.0
    leads_there = ap (λ (g : Layout). g.target value) layout_is ∙ value_is

    pub cell_written : AreWordsSummed layout formats (after_redirect f (word_at x at i) at i to v).segs
    cell_written =
        written_noted layout formats of at_flip done v after fix.stands.state fixed_summed holder i at.0 o holder_there object holds.within
        later value to.0 leads_there

  pub cell_summed : {z : Traced} (target : Option Id) → HoldsReference y holder i at.0 o target tag
      → FixesCell layout f formats of at i x z → AreWordsSummed layout formats z.segs
  cell_summed target holds (is_null null) = summed
  cell_summed None holds (leads to positive fixed is) =
      absurd (omega (arith, positive, null_target F layout formats of at_flip done x y shaped stands holder i at o tag holds))
  cell_summed (Some t) holds (leads {y = v} to positive fixed is) =
      let P : Traced → Type 0 = λ w. AreWordsSummed layout formats w.segs in subst P (sym is) (cell_written t holds v to fixed)
