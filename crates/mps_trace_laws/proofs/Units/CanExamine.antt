-- The next registration can be examined.
use Rattle.std.proofs.Common.{◌∙◌, ℕ, ◌+◌, ◌<◌, ◌≤◌, false, refl, sym, ap, subst, List, length, Option, arith, ◌-◌}
use Rattle.std.proofs.lemmas.Bool.{false≢true, le-leb}
use Rattle.std.specs.Prelude.{count_by, nat_le}
use Rattle.mps_base.specs.Address.{Address}
use Rattle.mps_base.specs.Placement.{Placement, Place, NewSegment, OverLimit, NoFreeRun}
use Rattle.mps_base.specs.Trail.{Moves}
use Rattle.mps_base.specs.declared.address.Addr.{Addr}
use Rattle.mps_format.specs.Layout.{Layout}
use Rattle.mps_format.specs.declared.pool.Policy.{Policy}
use Rattle.mps_seg.specs.Arena.{answer_of_placement}
use Rattle.mps_seg.specs.Segs.{SegsState, moves_after}
use Rattle.mps_amc.specs.Amc.{moves_fixed, placement_of_copy}
use Rattle.mps_amc.specs.Moving.{size_at}
use Rattle.mps_trace.specs.GenState.{ChainsState}
use Rattle.mps_trace.specs.State.{FinalsState}
use Rattle.mps_trace.specs.Examine.{IsOneDue, registration_of, CanExamine, CanExamineNext}
use Rattle.mps_trace.specs.Scan.{IsDrained}
use Rattle.mps_trace.specs.Trace.{Traced, TraceState, traced, KeepsTo, moves, marks, target_of, FixesTo}
use Rattle.mps_trace.specs.declared.running.Running.{Running as RunningState}
use Rattle.mps_abstract.specs.Collecting.{Collecting, Running, segments_left}
use Rattle.mps_abstract.proofs.Lists.{count_by-lt}
use Rattle.mps_trace_laws.specs.Image.Image.{CellSet, black_cells}
use Rattle.mps_trace_laws.specs.Fix.Tracing.{TracingStands}
use Rattle.mps_trace_laws.specs.Units.Examining.{IsOneDueIn}
use Rattle.mps_trace_laws.specs.Units.Finals.{address_of_id}
use Rattle.mps_trace_laws.specs.Units.Standing.{UnitStands}
use Rattle.mps_trace_laws.proofs.Fix.CanFix.{target_can_be_fixed}
use Rattle.mps_trace_laws.proofs.Fix.EachFix.{fix_is_a_step}
use Rattle.mps_trace_laws.proofs.Units.Entering.{due_before, due_is_traced}
use Rattle.mps_trace_laws.proofs.Units.Examining.{IsNextTarget, next_target}
use Rattle.mps_trace_laws.proofs.Units.Posted.{one_due}
use Rattle.mps_trace_laws.proofs.Units.TwoLists.{length-mix}

-- ---- room

-- a copy takes two moves at most
spare_of : (p : Placement) (pool generation : ℕ) (m : Moves) (at : Addr)
    → m.spare ≤ (moves_fixed (answer_of_placement p) (moves_after p pool generation m) at).spare + 2
spare_of (Place word) pool generation m at = omega arith
spare_of (NewSegment grain grains) pool generation m at = omega arith
spare_of (OverLimit committed need limit) pool generation m at = omega arith
spare_of (NoFreeRun need longest) pool generation m at = omega arith

module _ {F : Type 0} (layout : F → Layout) (formats : List (Option (Policy F))) (of : ChainsState) where
  spare_after : {x z : Traced} {at to : Addr} → KeepsTo layout formats of x at z to → x.moves.spare ≤ z.moves.spare + 2
  spare_after {x} {at = at} (moves t format answer over listed is fixed noted) =
      let p = placement_of_copy x.amc x.segs t.pool (target_of of t) (size_at (layout format.format) x.segs.words at.0) in
      let taken = spare_of p t.pool (target_of of t) x.moves at in
      let same = ap (λ (w : Traced). w.moves.spare) noted ∙ ap (λ (m : Moves). m.spare) fixed.trail in
      omega (arith, taken, same)
  spare_after {x} (marks t format over listed stays is) =
      let same = ap (λ (w : Traced). w.moves.spare) is in omega (arith, same)

-- while a collection runs a segment is left
pub segment_is_left : (y : Collecting) → Running y → 0 < segments_left y.running.condemned_segments y.cursor
segment_is_left y run =
    let one = run.swept.one_left in
    let more : count_by (λ n. false) y.running.condemned_segments < segments_left y.running.condemned_segments y.cursor =
    count_by-lt (λ n. false) (nat_le y.cursor) y.running.condemned_segments one.0 (λ m h. absurd (false≢true h)) one.1 refl
    (le-leb y.cursor one.0 one.2) in
    omega (arith, more)

-- ---- the registration is there

module _ {F : Type 0} (layout : F → Layout) (t : TraceState F) (s : SegsState) (m : Moves) (at_flip : List (Option Address))
    (f : FinalsState) (run : RunningState) (y : Collecting)
    (stands : UnitStands layout t.formats t.chains at_flip (traced t s m) f run y) (drained : IsDrained s) (due : IsOneDue run) where
  abbrev x : Traced
  x = traced t s m

  abbrev done : CellSet
  done = black_cells y.running.condemned y.colours

  traces : TracingStands layout t.formats t.chains at_flip done x y
  traces = (due_is_traced layout t.formats t.chains at_flip x f run y stands due).traces

  given : IsOneDueIn at_flip y f
  given = one_due layout t.formats t.chains at_flip x f run y stands drained due

  its : IsNextTarget x y f at_flip
  its = next_target F layout t.formats t.chains at_flip done x y f stands.moving.shaped traces given

  leads : (z : Traced) (to : Addr) → FixesTo layout t.formats t.chains x (registration_of f y.next) z to → 0 < to.0
  leads z to fixed =
      let step =
      fix_is_a_step layout t.formats t.chains at_flip done x z y (registration_of f y.next) to
      its.id its.now its.object stands.moving.shaped traces its.target fixed
      in
      (step.stands.state.image.placed.address its.id to.0 step.there).not_null

  can : CanExamine layout t.formats t.chains x (registration_of f y.next)
  can = record {
    fix =
        target_can_be_fixed layout t.formats t.chains at_flip done x y (registration_of f y.next) its.id its.now its.object
        stands.moving.shaped traces its.target;
    leads = leads;
    room = λ z to kept.
        let taken = spare_after layout t.formats t.chains kept in
        let room = traces.room in
        let left = segment_is_left y stands.running in
        omega (arith, taken, room, left);
  }

  pub can_examine : CanExamineNext layout t s m f run
  can_examine = record {
    listed =
        let before = due_before layout t.formats t.chains at_flip x f run y stands due in
        let existing = stands.running.examined.existing in
        let next = stands.next in
        let same =
        ap (λ (l : List Address). length l) stands.finals.registrations
        ∙ length-mix (address_of_id y.world.addresses) (address_of_id at_flip) y.next (y.running.registered_before - y.next)
        y.world.graph.registered
        in
        omega (arith, before, existing, next, same);
    can =
        subst (λ (n : ℕ). CanExamine layout t.formats t.chains x (registration_of f n)) (sym stands.next) can;
  }
