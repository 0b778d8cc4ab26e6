-- A collection keeps the room of its trail.
use Rattle.std.proofs.Common.{ℕ, ◌<◌, ◌≤◌, sym, subst, List, length, Option, arith}
use Rattle.mps_base.specs.Address.{Address}
use Rattle.mps_base.specs.Trail.{Moves, with_move}
use Rattle.mps_base.specs.declared.moves.Move.TheVariants.{End, Flip}
use Rattle.mps_buffer.specs.Points.{PointsState}
use Rattle.mps_trace.specs.State.{FinalsState}
use Rattle.mps_format.specs.Layout.{Layout}
use Rattle.mps_root.specs.State.{RootsState}
use Rattle.mps_refinement.specs.RightMoving.{KeepsRoom}
use Rattle.mps_abstract.specs.Collecting.{Collecting}
use Rattle.mps_trace.specs.Begin.{marked_at_flip, Begins, EndsAtOnce}
use Rattle.mps_trace.specs.Flip.{chain_of, oldest_of, zones_at_flip}
use Rattle.mps_trace.specs.declared.condemn.Condemn.{Condemn}
use Rattle.mps_trace.specs.Trace.{TraceState, Traced}
use Rattle.mps_trace.specs.Unit.{EndsWithin, HasRoomToEnd}
use Rattle.mps_trace.specs.declared.running.Running.{Running}
use Rattle.mps_trace_laws.specs.Units.Laws.{AreScansDone}
use Rattle.mps_trace_laws.specs.Units.Standing.{tracing, reclaiming, UnitStands}
use Rattle.mps_trace_laws.proofs.Units.Ready.{a_unit_is_ready}
use Rattle.mps_trace_laws.proofs.Units.Rows.{units_are_done}
use Rattle.mps_refinement.proofs.Collect.PushedMoves.{IsPushed, one_pushed, pushed_on, pushed_keeps, told_below, tables_push, messages_push, reclaim_pushes, units_push}

module _ {F : Type 0} (layout : F → Layout) (t : TraceState F) where
  -- before each unit there is room for a move
  pub has_room : (at_flip : List (Option Address)) (x : Traced) (f : FinalsState) (run : Running) (y : Collecting)
      → UnitStands layout t.formats t.chains at_flip x f run y → 0 < x.moves.spare
  has_room at_flip x f run y stands = elim stands.band [
    | tracing st ↦ let room = st.traces.room in omega (arith, room)
    | reclaiming st last ↦ let room = st.room in omega (arith, room)
  ]

  -- the begin
  pub begin_pushes : (what : Condemn) (points : PointsState) (roots roots' : RootsState) (finals finals' : FinalsState) (x z : Traced)
      (run : Running)
      → Begins layout t.formats t.chains what points roots finals x roots' finals' z run → IsPushed x.moves z.moves
  begin_pushes what points roots roots' finals finals' x z run b =
      pushed_on (one_pushed x.moves (Flip (record { 0 = zones_at_flip t.formats t.chains what x.segs.segments })
      (chain_of what) (oldest_of what)))
      (pushed_on
      (tables_push layout t.formats t.chains roots (marked_at_flip t.formats t.chains what points roots x)
      (length roots.order) roots' b.before b.slots)
      (messages_push layout t.formats t.chains finals b.before (length finals.messages) finals' z b.messages))

  -- from the begin to the end
  pub units_keep_room : (at_flip : List (Option Address)) (m : Moves) (x z : Traced) (f f' : FinalsState) (run : Running) (y : Collecting)
      (most : ℕ) → AreScansDone layout t.formats t.chains at_flip → UnitStands layout t.formats t.chains at_flip x f run y
      → IsPushed m x.moves → EndsWithin layout t.formats t.chains x f run most z f' → KeepsRoom m z.moves
  units_keep_room at_flip m x z f f' run y most scanning stands begun ends =
      let u = ends.before in
      let done = units_are_done layout t.formats t.chains at_flip x u f f' run ends.run_before y ends.count scanning stands ends.units in
      let some = has_room at_flip u f' ends.run_before done.after done.stands in
      let row = pushed_on begun (units_push layout t.formats t.chains x f run ends.count u f' ends.run_before ends.units) in
      let next = ends.last.reclaimed in
      let base = ends.last.base in
      let v = ends.last.before in
      let can = a_unit_is_ready layout (record t { amc = u.amc }) u.segs u.moves at_flip f' ends.run_before done.after done.stands in
      let room : HasRoomToEnd u.segs u.moves base = (can.reclaim next.scanned next.examined).room base next.lowest in
      let told = reclaim_pushes u.segs u.moves base v.segs v.moves next.reclaimed.swept in
      let enough = room told.segment told.over in
      let few = told.most in
      let whole = pushed_on row (pushed_on told.pushed (one_pushed v.moves End)) in
      let below = told_below row some in
      let left = row.spare in
      subst (λ (v : Traced). KeepsRoom m v.moves) (sym ends.last.over)
      (pushed_keeps whole (omega (arith, below, left, enough, few)))

  -- a collection that is over at once
  pub at_once_keeps_room : (what : Condemn) (points : PointsState) (roots roots' : RootsState) (finals finals' : FinalsState) (x z : Traced)
      → EndsAtOnce t.formats t.chains what points roots finals x roots' finals' z
      → 2 ≤ x.moves.spare → KeepsRoom x.moves z.moves
  at_once_keeps_room what points roots roots' finals finals' x z ends room =
      let flip = Flip (record { 0 = zones_at_flip t.formats t.chains what x.segs.segments }) (chain_of what) (oldest_of what) in
      subst (λ (v : Traced). KeepsRoom x.moves v.moves) (sym ends.over)
      (pushed_keeps (pushed_on (one_pushed x.moves flip) (one_pushed (with_move x.moves flip) End)) room)
