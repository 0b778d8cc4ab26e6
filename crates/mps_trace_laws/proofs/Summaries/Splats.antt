-- The scan of a weak block keeps each word summed.
use Rattle.std.proofs.Common.{◌≡◌, ◌∙◌, ℕ, ◌+◌, ◌^◌, ◌<◌, Bool, refl, sym, ap, List, [], length, slice_index, Option, Some, subst, inl, inr, arith}
use Rattle.std.proofs.lemmas.Bool.{true≢false}
use Rattle.std.proofs.lemmas.Option.{same_Some}
use Rattle.std.specs.Prelude.{IsTrue, slice_get}
use Rattle.mps_base.specs.Address.{Address, Id, word_of}
use Rattle.mps_base.specs.Segment.{Segment}
use Rattle.mps_base.specs.declared.address.Addr.{Addr}
use Rattle.mps_format.specs.Layout.{Layout}
use Rattle.mps_format.specs.declared.pool.Policy.{Policy}
use Rattle.mps_trace.specs.GenState.{ChainsState}
use Rattle.mps_trace.specs.Trace.{Traced}
use Rattle.mps_trace.specs.Scan.{after_redirect, target_at, word_at}
use Rattle.mps_trace.specs.Splat.{after_splat, SplatsCell, is_null, updates, splats, SplatsTo, begins, goes_on, Splatted}
use Rattle.mps_model.specs.Checked.{head_of_body}
use Rattle.mps_model.specs.Graph.{Automatic, Cell, Object, ReferenceCell, entry_at}
use Rattle.mps_abstract.specs.Collecting.{Collecting}
use Rattle.mps_trace_laws.specs.Image.Memory.{pool_layout}
use Rattle.mps_trace_laws.specs.Image.Image.{CellSet, IsAddress, AreShaped, black_cells}
use Rattle.mps_trace_laws.specs.Fix.Finding.{FindsObject}
use Rattle.mps_trace_laws.specs.Fix.Finding as finding
use Rattle.mps_trace_laws.specs.Fix.Scanning.{IsToBeScanned}
use Rattle.mps_trace_laws.specs.Fix.Tracing.{StateStands, TracingStands}
use Rattle.mps_trace_laws.specs.Summaries.Summed.{AreWordsSummed}
use Rattle.mps_trace_laws.specs.Summaries.Laws.{ASplatScanKeepsSummaries}
use Rattle.mps_trace_laws.proofs.Image.References.{reads}
use Rattle.mps_trace_laws.proofs.Fix.Found as found_at
use Rattle.mps_trace_laws.proofs.Splats.Cells.{in_range, CellCases, is_none, is_nothing, is_one, cell_cases}
use Rattle.mps_trace_laws.proofs.Splats.Run as each
use Rattle.mps_trace_laws.proofs.Splats.Scanned.{automatic_body, target}
use Rattle.mps_trace_laws.proofs.Splats.Whole.{run_to, to_cell, within_cells}
use Rattle.mps_trace_laws.proofs.Summaries.CellWrites.{written_noted, written_null}

module _ (F : Type 0) (layout : F → Layout) (formats : List (Option (Policy F))) (of : ChainsState) (at_flip : List (Option Address))
    (done : CellSet) (x : Traced) (y : Collecting) (holder : Id) (at : Addr) (o : Object) (cells : List Cell) (is_weak : Bool)
    (none_paired : y.world.graph.dependents ≡ []) (shaped : AreShaped y.world.graph.objects (pool_layout y.world))
    (st : StateStands layout formats of at_flip done x.amc x.segs y)
    (scan : IsToBeScanned y holder at.0 o) (body : o.body ≡ Automatic (head_of_body o.body) cells is_weak)
    (summed : AreWordsSummed layout formats x.segs) where
  abbrev head : ℕ
  head = head_of_body o.body

  abbrev f : Layout
  f = pool_layout y.world o.pool

  abbrev To : Traced → ℕ → Type 0
  To z before = each.To F layout formats of at_flip done x y holder at o cells is_weak none_paired shaped st scan body z before

  module _ (w : Traced) (i : ℕ) (run : To w i) (within : i < length cells) (later : 0 < i)
      (before : AreWordsSummed layout formats w.segs) where
    abbrev u : Collecting
    u = each.u F layout formats of at_flip done x y holder at o cells is_weak none_paired shaped st scan body w i run within

    abbrev g : Layout
    g = each.g F layout formats of at_flip done x y holder at o cells is_weak none_paired shaped st scan body w i run within

    abbrev word : ℕ
    word = word_at w at i

    module _ (t tag : ℕ) (e : slice_get cells i ≡ Some (ReferenceCell (Some t) tag)) where
      abbrev now : Address
      now =
          each.now F layout formats of at_flip done x y holder at o cells is_weak none_paired shaped st scan body w i run within t tag e

      live : entry_at u.world.addresses t ≡ Some now
      live =
          (each.live_now F layout formats of at_flip done x y holder at o cells is_weak none_paired shaped st scan body w i run within t tag
          e).1

      -- what it leads to now is noted
      by_update : (to : Addr) → FindsObject u t (target_at g w at i) now (Some to)
          → AreWordsSummed layout formats (after_redirect g word at i to w).segs
      by_update to (finding.there to' is black) =
          let placed = run.state.image.placed.address t to.0 (live ∙ ap (λ a. Some a) (sym is)) in
          let here =
          each.found F layout formats of at_flip done x y holder at o cells is_weak none_paired shaped st scan body w i run within t tag e
          in
          let low =
          run.shaped_now.tags holder i run.object (Some t) tag run.there_now
          (each.of_all F layout formats of at_flip done x y holder at o cells is_weak none_paired shaped st scan body w i run within
          (ReferenceCell (Some t) tag) e)
          in
          let read =
          reads g (g.retarget word to.0) to.0 tag (run.shaped_now.lawful run.object.pool) placed low (here.read.retarget to.0 placed)
          in
          written_noted layout formats of at_flip run.done_after w u run.state before holder i at.0 run.object
          (each.holder_there F layout formats of at_flip done x y holder at o cells is_weak none_paired shaped st scan body w i run within)
          run.there_now
          (each.inside F layout formats of at_flip done x y holder at o cells is_weak none_paired shaped st scan body w i run within) later
          (g.retarget word to.0) to.0 read.target

      -- a tag alone leads nowhere
      null_there : g.target (g.retarget word 0) ≡ 0
      null_there =
          let all =
          each.of_all F layout formats of at_flip done x y holder at o cells is_weak none_paired shaped st scan body w i run within
          (ReferenceCell (Some t) tag) e
          in
          let lies =
          each.lies F layout formats of at_flip done x y holder at o cells is_weak none_paired shaped st scan body w i run within
          in
          let is =
          run.state.image.words.cells holder i run.object (word_of at.0 + i) (ReferenceCell (Some t) tag) refl lies all
          in
          let low = run.shaped_now.tags holder i run.object (Some t) tag run.there_now all in
          let address : IsAddress is.address = elim is.means [
            | inl there ↦ run.state.image.placed.address t is.address there
            | inr there ↦ run.state.image.placed.address_at_flip t is.address there
          ] in
          let lawful = run.shaped_now.lawful run.object.pool in
          let small : word < 2 ^ 64 = omega (arith, is.is, address.small, low) in
          let tag_left = lawful.retarget_keeps_tag word 0 small (omega arith) (omega arith) in
          let nothing = lawful.target_drops_tag (g.retarget word 0) (omega (arith, tag_left)) in
          omega (arith, nothing, tag_left)

      by_splat : AreWordsSummed layout formats (after_splat g at i w).segs
      by_splat =
          written_null layout formats of at_flip run.done_after w u run.state before holder i at.0 run.object
          (each.holder_there F layout formats of at_flip done x y holder at o cells is_weak none_paired shaped st scan body w i run within)
          run.there_now
          (each.inside F layout formats of at_flip done x y holder at o cells is_weak none_paired shaped st scan body w i run within) later
          (g.retarget word 0) null_there

      one_summed : {z : Traced} → SplatsCell layout g formats at i w z → AreWordsSummed layout formats z.segs
      one_summed (is_null null) = before
      one_summed (updates to positive finds same) =
          let P : Traced → Type 0 = λ v. AreWordsSummed layout formats v.segs in
          subst P (sym same)
          (by_update to
          (each.is_found F layout formats of at_flip done x y holder at o cells is_weak none_paired shaped st scan body w i run within t
          tag e (Some to) finds))
      one_summed (splats positive finds same) =
          let P : Traced → Type 0 = λ v. AreWordsSummed layout formats v.segs in subst P (sym same) by_splat

    null_summed : {z : Traced} → target_at g w at i ≡ 0 → SplatsCell layout g formats at i w z → AreWordsSummed layout formats z.segs
    null_summed null (is_null zero_is) = before
    null_summed null (updates to positive finds same) = absurd (omega (arith, positive, null))
    null_summed null (splats positive finds same) = absurd (omega (arith, positive, null))

    step_summed : {z : Traced} → IsTrue (f.is_reference head i) → SplatsCell layout f formats at i w z
        → AreWordsSummed layout formats z.segs
    step_summed {z} is cell = let c = in_range cells i within in go c.0 c.1 (cell_cases c.0)
      where
        there_cell : SplatsCell layout g formats at i w z
        there_cell =
            let P : Layout → Type 0 = λ h. SplatsCell layout h formats at i w z in
            subst P
            (sym (each.g_now F layout formats of at_flip done x y holder at o cells is_weak none_paired shaped st scan body w i run within))
            cell

        go : (c : Cell) → slice_get cells i ≡ Some c → CellCases c → AreWordsSummed layout formats z.segs
        go c e (is_none a fixed) =
            absurd (true≢false (sym is
            ∙ sym (each.kind_is F layout formats of at_flip done x y holder at o cells is_weak none_paired shaped st scan body w i run
            within c e) ∙ a))
        go c e (is_nothing tag same) =
            null_summed
            (each.reads_null F layout formats of at_flip done x y holder at o cells is_weak none_paired shaped st scan body w i run within
            tag (e ∙ ap (λ v. Some v) same)) there_cell
        go c e (is_one t tag same) = one_summed t tag (e ∙ ap (λ v. Some v) same) there_cell

  pub run_summed : {from : ℕ} {z : Traced} → SplatsTo layout f formats head at x from z → AreWordsSummed layout formats z.segs
  run_summed begins = summed
  run_summed (goes_on {y = w} from cell earlier first one) =
      let r = run_to F layout formats of at_flip done x y holder at o cells is_weak none_paired shaped st scan body earlier in
      let within =
      within_cells F layout formats of at_flip done x y holder at o cells is_weak none_paired shaped st scan body cell first.reference
      in
      let here =
      to_cell F layout formats of at_flip done x y holder at o cells is_weak none_paired shaped st scan body w from cell r.run
      first.not_before (λ k above below. first.none_between k above below) (omega (arith, within))
      in
      let valid = shaped.valid holder o scan.object scan.automatic in
      let later = ((shaped.lawful o.pool).references head cell valid first.reference).0 in
      step_summed w cell here within later (run_summed earlier) first.reference one

module _ (F : Type 0) (layout : F → Layout) (formats : List (Option (Policy F))) (of : ChainsState) (at_flip : List (Option Address))
    (x : Traced) (y : Collecting) (none_paired : y.world.graph.dependents ≡ [])
    (shaped : AreShaped y.world.graph.objects (pool_layout y.world))
    (stands : TracingStands layout formats of at_flip (black_cells y.running.condemned y.colours) x y) (holder : Id) (at : Addr)
    (o : Object) (scan : IsToBeScanned y holder at.0 o) (summed : AreWordsSummed layout formats x.segs) where
  splatted_summed : {z : Traced} → Splatted layout formats x at z → AreWordsSummed layout formats z.segs
  splatted_summed is =
      let done = black_cells y.running.condemned y.colours in
      let f = pool_layout y.world o.pool in
      let means = target F layout formats of at_flip x y none_paired shaped stands holder at o scan in
      let its = found_at.its_segment F layout formats of at_flip done x y shaped stands at.0 holder at.0 o means in
      let head_is = found_at.head_there F layout formats of at_flip done x y shaped stands at.0 holder at.0 o means in
      let pool : is.segment.pool ≡ o.pool =
      ap (λ (s : Segment). s.pool) (same_Some is.segment its.0 (sym is.over ∙ its.1)) ∙ its.2
      in
      let format_is : layout is.format.format ≡ f =
      stands.state.pools.format_is is.segment.pool is.format is.listed ∙ ap (pool_layout y.world) pool
      in
      let body = automatic_body o.body scan.automatic in
      let P : ℕ → Type 0 = λ h. SplatsTo layout f formats h at x is.all.from is.before in
      let Q : Layout → Type 0 = λ g. SplatsTo layout g formats (slice_index x.segs.words (word_of at.0)) at x is.all.from is.before in
      let before =
      run_summed F layout formats of at_flip done x y holder at o body.0 body.1 none_paired shaped stands.state scan body.2 summed
      (subst P head_is (subst Q format_is is.all.run))
      in
      let R : Traced → Type 0 = λ w. AreWordsSummed layout formats w.segs in
      subst R (sym is.black) (record { sized = before.sized; each = before.each })

pub splat_scan_keeps : {F : Type 0} → ASplatScanKeepsSummaries F
splat_scan_keeps {F} layout formats of at_flip x z y holder at o none_paired shaped stands scan summed is =
    splatted_summed F layout formats of at_flip x y none_paired shaped stands holder at o scan summed is
