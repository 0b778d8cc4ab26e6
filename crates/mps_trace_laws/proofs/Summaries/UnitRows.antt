-- N units keep each word summed, and so do those to the end of a collection.
use Rattle.std.proofs.Common.{ℕ, List, Option}
use Rattle.mps_base.specs.Address.{Address}
use Rattle.mps_format.specs.Layout.{Layout}
use Rattle.mps_format.specs.declared.pool.Policy.{Policy}
use Rattle.mps_trace.specs.GenState.{ChainsState}
use Rattle.mps_trace.specs.State.{FinalsState}
use Rattle.mps_trace.specs.Trace.{Traced}
use Rattle.mps_trace.specs.Unit.{UnitsTo, begins, goes_on}
use Rattle.mps_trace.specs.declared.running.Running.{Running as RunningState}
use Rattle.mps_abstract.specs.Collecting.{Collecting}
use Rattle.mps_trace_laws.specs.Summaries.Summed.{AreWordsSummed}
use Rattle.mps_trace_laws.specs.Summaries.Laws.{UnitsKeepSummaries, TheEndKeepsSummaries}
use Rattle.mps_trace_laws.specs.Units.Standing.{UnitStands}
use Rattle.mps_trace_laws.proofs.Summaries.Units.{unit_summed, last_summed}
use Rattle.mps_trace_laws.proofs.Units.Rows.{units_are_done}
use Rattle.mps_trace_laws.proofs.Units.Scanning.{scans_are_done}

module _ {F : Type 0} (layout : F → Layout) (formats : List (Option (Policy F))) (of : ChainsState) (at_flip : List (Option Address))
    (x : Traced) (f : FinalsState) (run : RunningState) (y : Collecting) (stands : UnitStands layout formats of at_flip x f run y)
    (summed : AreWordsSummed layout formats x.segs) where
  row_summed : {count : ℕ} {z : Traced} {f' : FinalsState} {run' : RunningState} → UnitsTo layout formats of x f run count z f' run'
      → AreWordsSummed layout formats z.segs
  row_summed begins = summed
  row_summed (goes_on {y = w} {f' = g} {run' = r} count earlier one) =
      let before =
      units_are_done layout formats of at_flip x w f g run r y count (scans_are_done layout formats of at_flip) stands earlier
      in
      unit_summed layout formats of at_flip w g r before.after before.stands (row_summed earlier) one

pub units_keep : {F : Type 0} → UnitsKeepSummaries F
units_keep layout formats of at_flip x z f f' run run' y count stands summed units =
    row_summed layout formats of at_flip x f run y stands summed units

pub the_end_keeps : {F : Type 0} → TheEndKeepsSummaries F
the_end_keeps layout formats of at_flip x z f f' run y most stands summed ends =
    let before =
    units_are_done layout formats of at_flip x ends.before f f' run ends.run_before y ends.count
    (scans_are_done layout formats of at_flip) stands ends.units
    in
    last_summed layout formats of at_flip ends.before f' ends.run_before before.after before.stands
    (row_summed layout formats of at_flip x f run y stands summed ends.units) ends.last
