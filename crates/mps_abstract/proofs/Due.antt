-- The moves of units and of a barrier are due.
use Rattle.std.proofs.Common.{◌≡◌, Bool, true, false, ap, []}
use Rattle.std.proofs.lemmas.Bool.{and_from}
use Rattle.std.specs.Prelude.{◌&&◌, not, MatchBool}
use Rattle.mps_model.specs.World.{is_running, is_unclamped}
use Rattle.mps_model.specs.Answer.{is_refused}
use Rattle.mps_model.specs.Checked.{slot_in}
use Rattle.mps_model.specs.Units.{AreUnits, AreUnitsToEnd, IsBarrier}
use Rattle.mps_model.specs.Policy.{units_of_poll, due_in}
use Rattle.mps_model.specs.History.{poll_at_rest, segment_of_found}
use Rattle.mps_model.specs.LegalMove.{ForOne}
use Rattle.mps_abstract.specs.Collecting.{Collecting, Running}
use Rattle.mps_abstract.specs.DueLaws.{AreDue}
use Rattle.mps_abstract.proofs.Joining.{for_some}
use Rattle.mps_abstract.proofs.Barrier.{barrier_is_done}
use Rattle.mps_abstract.proofs.Rows.{units_done, last_units_done, still_runs}
use Rattle.mps_abstract.proofs.OwnSegments.{last_units_end_so, units_end_so}

when_true : (A B : Type 0) (b : Bool) → b ≡ true → A → MatchBool b A B
when_true A B true e a = a
when_true A B false e a = absurd cc

pub work_is_due : (x : Collecting) → Running x → AreDue x
work_is_due x run =
    let runs = still_runs x.world x.running run.runs in
    record {
      step = λ {y} {asked} {ms} unclamped row.
          when_true (AreUnits x.world asked ms) (ms ≡ []) (is_unclamped x.world && is_running x.world)
          (and_from (is_unclamped x.world) (is_running x.world) unclamped runs) (units_done x y asked ms run row).are_units;
      last_step = λ {count} {asked} {ms} unclamped ends most.
          when_true (AreUnits x.world asked ms) (ms ≡ []) (is_unclamped x.world && is_running x.world)
          (and_from (is_unclamped x.world) (is_running x.world) unclamped runs)
          ((last_units_done x count ms run ends).are_units asked most);
      poll = λ {y} {ms} row.
          when_true (AreUnits x.world units_of_poll ms) (ms ≡ poll_at_rest x.world (due_in x.world)) (is_running x.world) runs
          (units_done x y units_of_poll ms run row).are_units;
      last_poll = λ {count} {ms} ends most.
          when_true (AreUnits x.world units_of_poll ms) (ms ≡ poll_at_rest x.world (due_in x.world)) (is_running x.world) runs
          ((last_units_done x count ms run ends).are_units units_of_poll most);
      taken_by_none = units_end_so;
      taken_by_no_last = last_units_end_so;
      finish = λ {count} {ms} ends.
          when_true (AreUnitsToEnd x.world ms) (ms ≡ []) (is_running x.world) runs (last_units_done x count ms run ends).are_to_end;
      get = λ {s} {y} {ms} source answer done found accepted.
          when_true (ForOne (segment_of_found x.world (slot_in x.world source)) (λ t. IsBarrier x.world t ms)) (ms ≡ [])
          (is_running x.world && not (is_refused answer)) (and_from (is_running x.world) (not (is_refused answer)) runs (ap not accepted))
          (for_some (λ t. IsBarrier x.world t ms) (segment_of_found x.world (slot_in x.world source)) s found
          (barrier_is_done s x y ms run done).is_barrier);
    }
