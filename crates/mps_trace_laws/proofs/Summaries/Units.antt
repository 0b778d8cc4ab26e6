-- A unit keeps each word summed, and so does the last one.
use Rattle.std.proofs.Common.{List, Option, sym, subst}
use Rattle.mps_base.specs.Address.{Address}
use Rattle.mps_base.specs.declared.address.Addr.{Addr}
use Rattle.mps_format.specs.Layout.{Layout}
use Rattle.mps_format.specs.declared.pool.Policy.{Policy}
use Rattle.mps_seg.specs.Segs.{at_word}
use Rattle.mps_trace.specs.GenState.{ChainsState}
use Rattle.mps_trace.specs.State.{FinalsState}
use Rattle.mps_trace.specs.Trace.{Traced, TraceState}
use Rattle.mps_trace.specs.Unit as working
use Rattle.mps_trace.specs.Unit.{UnitTo, ReclaimsNext, LastUnitTo}
use Rattle.mps_trace.specs.declared.running.Running.{Running as RunningState}
use Rattle.mps_abstract.specs.Collecting.{Collecting}
use Rattle.mps_trace_laws.specs.Summaries.Summed.{AreWordsSummed}
use Rattle.mps_trace_laws.specs.Units.Standing.{UnitStands}
use Rattle.mps_trace_laws.proofs.Summaries.Keeps.{keep_summed}
use Rattle.mps_trace_laws.proofs.Summaries.Reclaims.{reclaim_summed}
use Rattle.mps_trace_laws.proofs.Summaries.Scans.{scan_keeps}
use Rattle.mps_trace_laws.proofs.Summaries.Splats.{splat_scan_keeps}
use Rattle.mps_trace_laws.proofs.Summaries.StatesHeld.{runs_held, tails_home}
use Rattle.mps_trace_laws.proofs.Units.CanExamine.{can_examine}
use Rattle.mps_trace_laws.proofs.Units.Entering.{due_is_traced}
use Rattle.mps_trace_laws.proofs.Units.Reclaiming.{last_band, lowest, reserved}
use Rattle.mps_trace_laws.proofs.Units.Scanning.{exact_is_grey, grey_at, scanned_next, traced_so}
use Rattle.mps_trace_laws.proofs.Units.Splatting as splatting

module _ {F : Type 0} (layout : F → Layout) (formats : List (Option (Policy F))) (of : ChainsState) (at_flip : List (Option Address))
    (x : Traced) (f : FinalsState) (run : RunningState) (y : Collecting) (stands : UnitStands layout formats of at_flip x f run y)
    (summed : AreWordsSummed layout formats x.segs) where
  reclaim_next : (z : Traced) (base : Addr) → ReclaimsNext layout formats x run base z → AreWordsSummed layout formats z.segs
  reclaim_next z base next =
      let last = last_band layout formats of at_flip x z f run y base stands next in
      reclaim_summed layout formats x.segs y.world y.running y.colours _ last.frees last.scanned y.cursor base
      (lowest layout formats of at_flip x z f run y base stands next) summed x.moves z.moves z.segs next.reclaimed.swept
      (reserved layout formats of at_flip x z f run y base stands next)

  pub unit_summed : {z : Traced} {f' : FinalsState} {run' : RunningState} → UnitTo layout formats of x f run z f' run'
      → AreWordsSummed layout formats z.segs
  unit_summed {z} (working.scans one) =
      let set = exact_is_grey layout formats of at_flip x f run y stands one.word one.grey in
      let grey = grey_at layout formats of at_flip x f run y stands one.word set in
      let st = traced_so layout formats of at_flip x f run y stands one.word set in
      let found = scanned_next layout formats of at_flip x f run y stands one.word set grey in
      scan_keeps layout formats of at_flip x z y grey.id (at_word one.word) found.object stands.moving.shaped st.traces found.found summed
      one.scanned
  unit_summed (working.examines to drained due finds fs rs) = summed
  unit_summed (working.posts {y = w} to drained due nowhere kept is fs rs) =
      let t : TraceState F = record { formats = formats; amc = x.amc; chains = of } in
      let st = (due_is_traced layout formats of at_flip x f run y stands due).traces.state in
      let can = (can_examine layout t x.segs x.moves at_flip f run y stands drained due).can.fix.keep nowhere in
      let before =
      keep_summed layout formats of x st.held st.tables st.covered
      (runs_held layout formats of at_flip _ x y st) (tails_home layout formats of at_flip _ x y st) summed _ can kept
      in
      let P : Traced → Type 0 = λ v. AreWordsSummed layout formats v.segs in
      subst P (sym is) before
  unit_summed {z} (working.splats drained none one rs) =
      splat_scan_keeps layout formats of at_flip x z (splatting.y₀ layout formats of at_flip x f run y stands z drained none one)
      (splatting.id layout formats of at_flip x f run y stands z drained none one) (at_word one.word)
      (splatting.o layout formats of at_flip x f run y stands one.word one.grey drained) stands.moving.none_dependent stands.moving.shaped
      (splatting.traces layout formats of at_flip x f run y stands z drained none one)
      (splatting.to_scan layout formats of at_flip x f run y stands z drained none one) summed one.splatted
  unit_summed {z} (working.reclaims base left next other rs) = reclaim_next z base next

  -- the end clears marks and condemned segments alone
  pub last_summed : {z : Traced} → LastUnitTo layout formats x run z → AreWordsSummed layout formats z.segs
  last_summed last =
      let before = reclaim_next last.before last.base last.reclaimed in
      let P : Traced → Type 0 = λ v. AreWordsSummed layout formats v.segs in
      subst P (sym last.over) (record { sized = before.sized; each = before.each })
