-- Sequences of units, in words, are sequences of units of the abstract collector.
use Rattle.std.proofs.Common.{◌≡◌, ◌∙◌, ℕ, ◌+◌, sym, ap, subst, List, [], ◌++◌, Option, arith}
use Rattle.std.proofs.lemmas.List.{append_assoc, append-nil}
use Rattle.mps_base.specs.Address.{Address}
use Rattle.mps_format.specs.Layout.{Layout}
use Rattle.mps_trace.specs.GenState.{ChainsState}
use Rattle.mps_trace_laws.specs.Image.AtRest.{StandsAtRest}
use Rattle.mps_model.proofs.Cutting.{world_after_moves-append}
use Rattle.mps_model.specs.Effect.{world_after_moves}
use Rattle.mps_model.specs.World.{World}
use Rattle.mps_abstract.specs.Collecting.{Collecting, units_left}
use Rattle.mps_abstract.specs.Units.{GoesOn, begun, by_one_more, by_last}
use Rattle.mps_abstract.proofs.Rows.{units_done}
use Rattle.mps_trace.specs.Trace.{Traced}
use Rattle.mps_trace.specs.State.{FinalsState, with_registered_at, finals_after_post}
use Rattle.mps_trace.specs.Examine.{running_after_found, running_after_post}
use Rattle.mps_trace.specs.Unit.{UnitTo, scans, examines, posts, splats, reclaims, UnitsTo, begins, goes_on, EndsWithin}
use Rattle.mps_trace.specs.declared.running.Running.{Running as RunningState}
use Rattle.mps_trace_laws.specs.Units.Standing.{UnitStands}
use Rattle.mps_trace_laws.specs.Units.Laws.{HasSegmentsOf, HasFinalsOf, AreScansDone, IsTracedUnitDone, AreTracedUnitsDone, AreLastTracedUnitsDone}
use Rattle.mps_trace_laws.proofs.Units.Splatting.{splats_done}
use Rattle.mps_trace_laws.proofs.Units.Posted.{examination_done, post_done}
use Rattle.mps_trace_laws.proofs.Units.Reclaiming.{a_reclaim_is_done, the_last_unit_is_done}
use Rattle.mps_format.specs.declared.pool.Policy.{Policy}
use Rattle.std.specs.Prelude.{◌<◌, suc}

module _ {F : Type 0} (layout : F → Layout) (formats : List (Option (Policy F))) (of : ChainsState) (at_flip : List (Option Address))
    (scanning : AreScansDone layout formats of at_flip) where
  -- one unit
  pub unit_done : (x z : Traced) (f f' : FinalsState) (run run' : RunningState) (y : Collecting)
      → UnitStands layout formats of at_flip x f run y
      → UnitTo layout formats of x f run z f' run' → IsTracedUnitDone layout formats of at_flip x y z f' run'
  unit_done x z f _ run _ y stands (scans one) = scanning x z f run y stands one
  unit_done x z f f' run run' y stands (examines to drained due found is now) =
      subst (λ r. IsTracedUnitDone layout formats of at_flip x y z f' r) (sym now)
      (subst (λ g. IsTracedUnitDone layout formats of at_flip x y z g (running_after_found run)) (sym is)
      (examination_done layout formats of at_flip x f run y stands drained due to found))
  unit_done x z f f' run run' y stands (posts {y = v} to drained due white kept trail is now) =
      subst (λ r. IsTracedUnitDone layout formats of at_flip x y z f' r) (sym now)
      (subst (λ g. IsTracedUnitDone layout formats of at_flip x y z g (running_after_post run)) (sym is)
      (subst (λ w. IsTracedUnitDone layout formats of at_flip x y w
      (finals_after_post (with_registered_at f run.next to.0) run.next) (running_after_post run)) (sym trail)
      (post_done layout formats of at_flip x f run y stands drained due v to white kept)))
  unit_done x z f _ run run' y stands (splats drained none one now) =
      subst (λ r. IsTracedUnitDone layout formats of at_flip x y z f r) (sym now)
      (splats_done layout formats of at_flip x f run y stands z drained none one)
  unit_done x z f _ run run' y stands (reclaims base left next other is) =
      subst (λ r. IsTracedUnitDone layout formats of at_flip x y z f r) (sym is)
      (a_reclaim_is_done layout formats of at_flip x z f run y base left stands next other)

  one_more : (x v z : Traced) (f' f'' : FinalsState) (run' run'' : RunningState) (y : Collecting) (count : ℕ)
      → (before : AreTracedUnitsDone layout formats of at_flip x y count v f' run')
      → IsTracedUnitDone layout formats of at_flip v before.after z f'' run''
      → AreTracedUnitsDone layout formats of at_flip x y (count + 1) z f'' run''
  one_more x v z f' f'' run' run'' y count before unit = record {
    moves = before.moves ++ unit.moves;
    after = unit.after;
    units =
        subst (λ n. GoesOn y n (before.moves ++ unit.moves) unit.after) (omega arith) (by_one_more before.units unit.unit);
    stands = unit.stands;
    trail = unit.trail ∙ ap (λ ms. ms ++ unit.moves) before.trail ∙ append_assoc x.moves.moves before.moves unit.moves;
  }

  pub row_done : (x : Traced) (f : FinalsState) (run : RunningState) (y : Collecting) → UnitStands layout formats of at_flip x f run y
      → (z : Traced) (f' : FinalsState) (run' : RunningState) (count : ℕ) → UnitsTo layout formats of x f run count z f' run'
      → AreTracedUnitsDone layout formats of at_flip x y count z f' run'
  row_done x f run y stands _ _ _ _ begins = record {
    moves = [];
    after = y;
    units = begun;
    stands = stands;
    trail = sym (append-nil x.moves.moves);
  }
  row_done x f run y stands z f'' run'' _ (goes_on {y = v} {f' = f'} {run' = run'} count units unit) =
      let before = row_done x f run y stands v f' run' count units in
      one_more x v z f' f'' run' run'' y count before (unit_done v z f' f'' run' run'' before.after before.stands unit)

-- where scans are units of the abstract collector, sequences of units are
pub units_are_done : {F : Type 0}
    → (layout : F → Layout) (formats : List (Option (Policy F))) (of : ChainsState) (at_flip : List (Option Address)) (x z : Traced)
    (f f' : FinalsState) (run run' : RunningState) (y : Collecting) (count : ℕ) → AreScansDone layout formats of at_flip
    → UnitStands layout formats of at_flip x f run y → UnitsTo layout formats of x f run count z f' run'
    → AreTracedUnitsDone layout formats of at_flip x y count z f' run'
units_are_done layout formats of at_flip x z f f' run run' y count scanning stands units =
    row_done layout formats of at_flip scanning x f run y stands z f' run' count units

-- and where the collection ends the abstract one does
pub the_end_is_done : {F : Type 0}
    → (layout : F → Layout) (formats : List (Option (Policy F))) (of : ChainsState) (at_flip : List (Option Address)) (x z : Traced)
    (f f' : FinalsState) (run : RunningState) (y : Collecting) (most : ℕ) → AreScansDone layout formats of at_flip
    → UnitStands layout formats of at_flip x f run y → (ends : EndsWithin layout formats of x f run most z f')
    → AreLastTracedUnitsDone x y (suc ends.count) z f'
the_end_is_done layout formats of at_flip x z f f' run y most scanning stands ends =
    let before = row_done layout formats of at_flip scanning x f run y stands ends.before f' ends.run_before ends.count ends.units in
    let last = the_last_unit_is_done layout formats of at_flip ends.before z f' ends.run_before before.after before.stands ends.last in
    let leads = (units_done y before.after ends.count before.moves stands.running before.units).leads in
    let whole : world_after_moves y.world (before.moves ++ last.moves) ≡ world_after_moves before.after.world last.moves =
    world_after_moves-append y.world before.moves last.moves ∙ ap (λ w. world_after_moves w last.moves) leads
    in
    record {
      moves = before.moves ++ last.moves;
      units = by_last before.units last.last;
      ended = ap (λ (w : World). w.collection) whole ∙ last.ended;
      stands = subst (StandsAtRest z.segs) (sym whole) last.stands;
      segments = subst (HasSegmentsOf z.segs) (sym whole) last.segments;
      finals = subst (HasFinalsOf f') (sym whole) last.finals;
      trail = last.trail ∙ ap (λ ms. ms ++ last.moves) before.trail ∙ append_assoc x.moves.moves before.moves last.moves;
    }

-- a collection doesn't go on after as many units as the abstract collector has left
pub units_run_out : {F : Type 0}
    → (layout : F → Layout) (formats : List (Option (Policy F))) (of : ChainsState) (at_flip : List (Option Address)) (x z : Traced)
    (f f' : FinalsState) (run run' : RunningState) (y : Collecting) (count : ℕ) → AreScansDone layout formats of at_flip
    → UnitStands layout formats of at_flip x f run y → UnitsTo layout formats of x f run count z f' run' → count < units_left y
units_run_out layout formats of at_flip x z f f' run run' y count scanning stands units =
    let row = row_done layout formats of at_flip scanning x f run y stands z f' run' count units in
    let shown = units_done y row.after count row.moves stands.running row.units in
    let some = shown.some_left in
    let fewer = shown.fewer in
    omega (arith, some, fewer)
