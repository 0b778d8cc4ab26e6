-- What is shown of the units of a collection, in words, each law a statement.
use Rattle.std.specs.Prelude.{◌≡◌, ℕ, ◌++◌, None, Option, List}
use Rattle.mps_base.specs.Address.{Address}
use Rattle.mps_base.specs.declared.moves.Move.{Move}
use Rattle.mps_format.specs.Layout.{Layout}
use Rattle.mps_seg.specs.Segs.{SegsState}
use Rattle.mps_trace.specs.GenState.{ChainsState}
use Rattle.mps_trace.specs.State.{FinalsState}
use Rattle.mps_model.specs.Effect.{world_after_moves}
use Rattle.mps_model.specs.World.{World}
use Rattle.mps_abstract.specs.Collecting.{Collecting}
use Rattle.mps_abstract.specs.Units.{IsUnit, IsLastUnit, GoesOn, Ends}
use Rattle.mps_trace_laws.specs.Image.AtRest.{StandsAtRest}
use Rattle.mps_trace.specs.Scan.{ScansOne}
use Rattle.mps_trace.specs.Trace.{Traced}
use Rattle.mps_trace.specs.declared.running.Running.{Running as RunningState}
use Rattle.mps_trace_laws.specs.Fix.Tracing.{AreSegmentsOf}
use Rattle.mps_trace_laws.specs.Units.Finals.{AreFinalsAtRest}
use Rattle.mps_trace_laws.specs.Units.Standing.{UnitStands}
use Rattle.mps_format.specs.declared.pool.Policy.{Policy}

-- the segments are those of this world
abbrev pub HasSegmentsOf : SegsState → World → Type 0
HasSegmentsOf s w = AreSegmentsOf s w.grains w.limit w.segments

-- registrations and messages are those of this world
abbrev pub HasFinalsOf : FinalsState → World → Type 0
HasFinalsOf f w = AreFinalsAtRest w.addresses w.graph.registered w.graph.messages f

-- a unit of the abstract collector, of the same moves, after which the state stands for it
pub record IsTracedUnitDone {F : Type 0} (layout : F → Layout) (formats : List (Option (Policy F))) (of : ChainsState)
    (at_flip : List (Option Address)) (x : Traced) (y : Collecting) (z : Traced) (f' : FinalsState) (run' : RunningState) : Type 0 where
  pub moves : List Move
  pub after : Collecting
  pub unit : IsUnit y moves after
  pub stands : UnitStands layout formats of at_flip z f' run' after
  pub trail : z.moves.moves ≡ x.moves.moves ++ moves

-- its last unit, of the same moves, after which the segments stand for a world at rest
pub record IsLastTracedUnitDone (x : Traced) (y : Collecting) (z : Traced) (f : FinalsState) : Type 0 where
  pub moves : List Move
  pub last : IsLastUnit y moves
  pub ended : (world_after_moves y.world moves).collection ≡ None
  pub stands : StandsAtRest z.segs (world_after_moves y.world moves)
  pub segments : HasSegmentsOf z.segs (world_after_moves y.world moves)
  pub finals : HasFinalsOf f (world_after_moves y.world moves)
  pub trail : z.moves.moves ≡ x.moves.moves ++ moves

-- ---- sequences of units

-- each scan of a grey block is a unit of the abstract collector
abbrev pub AreScansDone : {F : Type 0} → (F → Layout) → List (Option (Policy F)) → ChainsState → List (Option Address) → Type 0
AreScansDone layout formats of at_flip =
    (x z : Traced) (f : FinalsState) (run : RunningState) (y : Collecting) → UnitStands layout formats of at_flip x f run y
    → ScansOne layout formats of x z → IsTracedUnitDone layout formats of at_flip x y z f run

-- n units of the abstract collector, which tell the same moves and after which the state stands for it
pub record AreTracedUnitsDone {F : Type 0} (layout : F → Layout) (formats : List (Option (Policy F))) (of : ChainsState)
    (at_flip : List (Option Address)) (x : Traced) (y : Collecting) (count : ℕ) (z : Traced) (f' : FinalsState) (run' : RunningState)
    : Type 0 where
  pub moves : List Move
  pub after : Collecting
  pub units : GoesOn y count moves after
  pub stands : UnitStands layout formats of at_flip z f' run' after
  pub trail : z.moves.moves ≡ x.moves.moves ++ moves

-- n units, in the last of which it ends, after which the segments stand for a world at rest
pub record AreLastTracedUnitsDone (x : Traced) (y : Collecting) (count : ℕ) (z : Traced) (f : FinalsState) : Type 0 where
  pub moves : List Move
  pub units : Ends y count moves
  pub ended : (world_after_moves y.world moves).collection ≡ None
  pub stands : StandsAtRest z.segs (world_after_moves y.world moves)
  pub segments : HasSegmentsOf z.segs (world_after_moves y.world moves)
  pub finals : HasFinalsOf f (world_after_moves y.world moves)
  pub trail : z.moves.moves ≡ x.moves.moves ++ moves
