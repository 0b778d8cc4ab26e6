-- Reservations are ended one after the other, and each takes its run out of what is reserved and covered.
use Rattle.std.proofs.Common.{◌∙◌, ℕ, ◌==◌, Bool, true, false, sym, ap, List, [], ◌∷◌, ◌++◌, Option, Some, None}
use Rattle.std.specs.Prelude.{if◌then◌else◌}
use Rattle.mps_base.specs.Run.{Run, without_run}
use Rattle.mps_base.specs.Segment.{Segment}
use Rattle.mps_buffer.specs.declared.point.Held.{Held}
use Rattle.mps_buffer.specs.declared.point.Point.{Point}
use Rattle.mps_buffer.specs.Points.{run_of_held, without_reservation, after_end_at, after_all_end, PointsState}
use Rattle.mps_trace_laws.proofs.Image.InOrder.{in_order-without}
use Rattle.mps_seg.specs.Segs.{SegsState}
use Rattle.mps_seg.specs.Collecting.{condemning}
use Rattle.mps_trace.specs.GenState.{ChainsState}
use Rattle.mps_trace.specs.declared.condemn.Condemn.{Condemn}
use Rattle.mps_trace.specs.Flip.{condemned_of, condemning_all, at_flip}
use Rattle.mps_trace_laws.specs.Flip.Ended.{open_run_at, open_runs, BeginApart, AreCovered}
use Rattle.mps_trace.specs.Trace.{Traced}
use Rattle.mps_format.specs.declared.pool.Policy.{Policy}

-- the run of a reservation, where it is open
abbrev run_where : Bool → Held → List Run
run_where is_open h = if is_open then run_of_held h ∷ [] else []

held_ended : (is_open : Bool) (h : Held) (s : SegsState) (blocks rest : List Run) → AreCovered s blocks (run_where is_open h ++ rest)
    → BeginApart blocks (run_where is_open h ++ rest)
    → AreCovered (if is_open then without_reservation s h else s) blocks rest
held_ended false h s blocks rest c apart = c
held_ended true h s blocks rest c apart =
    let r : Run = run_of_held h in
    record {
      blocks = c.blocks;
      reservations = ap (without_run r.from) c.reservations ∙ sym (in_order-without [] r rest tt apart.1);
      covered = ap (without_run r.from) c.covered ∙ sym (in_order-without blocks r rest apart.0 apart.1);
    }

held_apart : (is_open : Bool) (h : Held) (blocks rest : List Run) → BeginApart blocks (run_where is_open h ++ rest)
    → BeginApart blocks rest
held_apart false h blocks rest apart = apart
held_apart true h blocks rest apart = apart.2

reservation_ended : (flips : ℕ) (o : Option Point) (s : SegsState) (blocks rest : List Run)
    → AreCovered s blocks (open_run_at flips o ++ rest) → BeginApart blocks (open_run_at flips o ++ rest)
    → AreCovered (after_end_at flips o s) blocks rest × BeginApart blocks rest
reservation_ended flips None s blocks rest c apart = (c, apart)
reservation_ended flips (Some p) s blocks rest c apart = go p.reservation c apart
  where
    go : (o : Option Held) → AreCovered s blocks (open_run_at flips (Some (record p { reservation = o })) ++ rest)
        → BeginApart blocks (open_run_at flips (Some (record p { reservation = o })) ++ rest)
        → AreCovered (after_end_at flips (Some (record p { reservation = o })) s) blocks rest × BeginApart blocks rest
    go None c' apart' = (c', apart')
    go (Some h) c' apart' =
        (held_ended (h.flips == flips) h s blocks rest c' apart', held_apart (h.flips == flips) h blocks rest apart')

pub reservations_ended : (flips : ℕ) (ps : List (Option Point)) (s : SegsState) (blocks : List Run)
    → AreCovered s blocks (open_runs flips ps) → BeginApart blocks (open_runs flips ps) → AreCovered (after_all_end flips ps s) blocks []
reservations_ended flips [] s blocks c apart = c
reservations_ended flips (p ∷ ps) s blocks c apart =
    let one = reservation_ended flips p s blocks (open_runs flips ps) c apart in
    reservations_ended flips ps (after_end_at flips p s) blocks one.0 one.1

condemned_covered : (ts : List Segment) (s : SegsState) (blocks : List Run) → AreCovered s blocks []
    → AreCovered (condemning_all ts s) blocks []
condemned_covered [] s blocks c = c
condemned_covered (t ∷ ts) s blocks c =
    condemned_covered ts (condemning s t.base) blocks
    (record { blocks = c.blocks; reservations = c.reservations; covered = c.covered })

pub flip_ends_reservations : {F : Type 0}
    → (formats : List (Option (Policy F))) (chains : ChainsState) (what : Condemn) (points : PointsState) (x : Traced) (blocks : List Run)
    → AreCovered x.segs blocks (open_runs points.flips points.points) → BeginApart blocks (open_runs points.flips points.points)
    → AreCovered (at_flip formats chains what points x).segs blocks []
flip_ends_reservations formats chains what points x blocks c apart =
    let e : SegsState = after_all_end points.flips points.points x.segs in
    condemned_covered (condemned_of formats chains what e.segments) e blocks
    (reservations_ended points.flips points.points x.segs blocks c apart)
