-- What n units in words, as a call asks for them, are to the abstract collector.
use Rattle.std.specs.Prelude.{ℕ, suc, ◌<◌, Option, List}
use Rattle.mps_base.specs.Address.{Address}
use Rattle.mps_base.specs.Trail.{Moves}
use Rattle.mps_format.specs.Layout.{Layout}
use Rattle.mps_format.specs.declared.pool.Policy.{Policy}
use Rattle.mps_seg.specs.Segs.{SegsState}
use Rattle.mps_trace.specs.GenState.{ChainsState}
use Rattle.mps_trace.specs.State.{FinalsState}
use Rattle.mps_trace.specs.Trace.{TraceState, Traced, traced}
use Rattle.mps_trace.specs.Unit.{AreUnitsReady, UnitsTo, EndsWithin}
use Rattle.mps_trace.specs.declared.running.Running.{Running as RunningState}
use Rattle.mps_abstract.specs.Collecting.{Collecting, units_left}
use Rattle.mps_trace_laws.specs.Units.Laws.{AreTracedUnitsDone, AreLastTracedUnitsDone}
use Rattle.mps_trace_laws.specs.Units.Standing.{UnitStands}

-- n units after which the collection goes on are n units of the abstract collector, by the moves of the trail
abbrev pub UnitsInWordsAreUnits : (F : Type 0) → Type 0
UnitsInWordsAreUnits F =
    (layout : F → Layout) (formats : List (Option (Policy F))) (of : ChainsState) (at_flip : List (Option Address)) (x z : Traced)
    (f f' : FinalsState) (run run' : RunningState) (y : Collecting) (count : ℕ) → UnitStands layout formats of at_flip x f run y
    → UnitsTo layout formats of x f run count z f' run' → AreTracedUnitsDone layout formats of at_flip x y count z f' run'

-- those of them in the last of which it ends are the units to the end of the abstract one
abbrev pub UnitsToTheEndAreUnits : (F : Type 0) → Type 0
UnitsToTheEndAreUnits F =
    (layout : F → Layout) (formats : List (Option (Policy F))) (of : ChainsState) (at_flip : List (Option Address)) (x z : Traced)
    (f f' : FinalsState) (run : RunningState) (y : Collecting) (most : ℕ) → UnitStands layout formats of at_flip x f run y
    → (ends : EndsWithin layout formats of x f run most z f') → AreLastTracedUnitsDone x y (suc ends.count) z f'

-- a collection goes on after fewer units than the abstract one has left
abbrev pub UnitsInWordsRunOut : (F : Type 0) → Type 0
UnitsInWordsRunOut F =
    (layout : F → Layout) (formats : List (Option (Policy F))) (of : ChainsState) (at_flip : List (Option Address)) (x z : Traced)
    (f f' : FinalsState) (run run' : RunningState) (y : Collecting) (count : ℕ) → UnitStands layout formats of at_flip x f run y
    → UnitsTo layout formats of x f run count z f' run' → count < units_left y

-- any number of units can be done, or those to its end
abbrev pub UnitsCanBeDone : (F : Type 0) → Type 0
UnitsCanBeDone F =
    (layout : F → Layout) (t : TraceState F) (s : SegsState) (m : Moves) (at_flip : List (Option Address)) (f : FinalsState)
    (run : RunningState) (y : Collecting) (most : ℕ) → UnitStands layout t.formats t.chains at_flip (traced t s m) f run y
    → AreUnitsReady layout t s m f run most
