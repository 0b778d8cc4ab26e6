-- A scan keeps each word summed.
use Rattle.std.proofs.Common.{◌≡◌, ◌∙◌, ℕ, List, slice_index, Option, sym, ap, subst}
use Rattle.std.proofs.lemmas.Option.{same_Some}
use Rattle.mps_base.specs.Address.{Address, Id, word_of}
use Rattle.mps_base.specs.Segment.{Segment}
use Rattle.mps_base.specs.declared.address.Addr.{Addr}
use Rattle.mps_format.specs.Layout.{Layout}
use Rattle.mps_format.specs.declared.pool.Policy.{Policy}
use Rattle.mps_trace.specs.GenState.{ChainsState}
use Rattle.mps_trace.specs.Trace.{Traced}
use Rattle.mps_trace.specs.Scan.{FixesCell, ScansTo, begins, goes_on, Scanned}
use Rattle.mps_model.specs.Checked.{head_of_body}
use Rattle.mps_model.specs.Graph.{Object}
use Rattle.mps_abstract.specs.Collecting.{Collecting}
use Rattle.mps_trace_laws.specs.Image.Memory.{pool_layout}
use Rattle.mps_trace_laws.specs.Image.Image.{CellSet, AreShaped, black_cells}
use Rattle.mps_trace_laws.specs.Fix.Scanning.{IsToBeScanned, with_cells}
use Rattle.mps_trace_laws.specs.Fix.Tracing.{TracingStands}
use Rattle.mps_trace_laws.specs.Summaries.Summed.{AreWordsSummed}
use Rattle.mps_trace_laws.specs.Summaries.Laws.{AScanKeepsSummaries}
use Rattle.mps_trace_laws.proofs.Fix.Found as found
use Rattle.mps_trace_laws.proofs.Fix.ScanRun.{run_to, to_cell, inside, reference, holds, shaped_now, layout_still}
use Rattle.mps_trace_laws.proofs.Fix.Scanned.{target}
use Rattle.mps_trace_laws.proofs.Summaries.Cells.{cell_summed}

module _ (F : Type 0) (layout : F → Layout) (formats : List (Option (Policy F))) (of : ChainsState) (at_flip : List (Option Address))
    (x : Traced) (y : Collecting) (shaped : AreShaped y.world.graph.objects (pool_layout y.world))
    (stands : TracingStands layout formats of at_flip (black_cells y.running.condemned y.colours) x y) (holder : Id) (at : Addr)
    (o : Object) (scan : IsToBeScanned y holder at.0 o) (summed : AreWordsSummed layout formats x.segs) where
  abbrev done : CellSet
  done = black_cells y.running.condemned y.colours

  abbrev f : Layout
  f = pool_layout y.world o.pool

  abbrev head : ℕ
  head = head_of_body o.body

  run_summed : {before : ℕ} {z : Traced} → ScansTo layout f formats of head at x before z → AreWordsSummed layout formats z.segs
  run_summed begins = summed
  run_summed {z = z} (goes_on {y = w} from cell earlier first fixed) =
      let run =
      to_cell F layout formats of at_flip done x y shaped stands holder at o scan w from cell
      (run_to F layout formats of at_flip done x y shaped stands holder at o scan earlier) first
      in
      let within = inside F layout formats of at_flip done x y shaped stands holder at o scan cell first.reference in
      let r = reference F layout formats of at_flip done x y shaped stands holder at o scan cell first.reference in
      let valid = shaped.valid holder o scan.object scan.automatic in
      let later = ((shaped.lawful o.pool).references head cell valid first.reference).0 in
      let P : Layout → Type 0 = λ g. FixesCell layout g formats of at cell w z in
      cell_summed F layout formats of at_flip (with_cells done holder cell) w run.after
      (shaped_now F layout formats of at_flip done x y shaped stands holder at o scan w cell run within) run.stands holder cell at o r.tag
      later (run_summed earlier) r.target
      (holds F layout formats of at_flip done x y shaped stands holder at o scan w cell run within r.target r.tag r.cell)
      (subst P (sym (layout_still y.world run.after.world run.same o.pool)) fixed)

  scanned_summed : {z : Traced} → Scanned layout formats of x at z → AreWordsSummed layout formats z.segs
  scanned_summed is =
      let means = target F layout formats of at_flip x y shaped stands holder at o scan in
      let its = found.its_segment F layout formats of at_flip done x y shaped stands at.0 holder at.0 o means in
      let head_is = found.head_there F layout formats of at_flip done x y shaped stands at.0 holder at.0 o means in
      let pool : is.segment.pool ≡ o.pool =
      ap (λ (s : Segment). s.pool) (same_Some is.segment its.0 (sym is.over ∙ its.1)) ∙ its.2
      in
      let format_is : layout is.format.format ≡ f =
      stands.state.pools.format_is is.segment.pool is.format is.listed ∙ ap (pool_layout y.world) pool
      in
      let P : ℕ → Type 0 = λ h. ScansTo layout f formats of h at x is.all.from is.before in
      let Q : Layout → Type 0 =
      λ g. ScansTo layout g formats of (slice_index x.segs.words (word_of at.0)) at x is.all.from is.before
      in
      let before = run_summed (subst P head_is (subst Q format_is is.all.run)) in
      let R : Traced → Type 0 = λ w. AreWordsSummed layout formats w.segs in
      subst R (sym is.black) (record { sized = before.sized; each = before.each })

pub scan_keeps : {F : Type 0} → AScanKeepsSummaries F
scan_keeps {F} layout formats of at_flip x z y holder at o shaped stands scan summed is =
    scanned_summed F layout formats of at_flip x y shaped stands holder at o scan summed is
