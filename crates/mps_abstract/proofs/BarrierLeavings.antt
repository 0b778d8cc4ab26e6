-- What a read barrier leaves of the world, and that what isn't white stays where it is.
use Rattle.std.proofs.Common.{List}
use Rattle.std.proofs.lemmas.Bool.{and_parts}
use Rattle.mps_base.specs.Segment.{Segment, is_in_segment}
use Rattle.mps_base.specs.declared.moves.Move.{Move}
use Rattle.mps_model.specs.Accessing.{address_or_null}
use Rattle.mps_model.specs.World.{is_live_and}
use Rattle.mps_abstract.specs.Colours.{is_grey}
use Rattle.mps_abstract.specs.Collecting.{Collecting, Running}
use Rattle.mps_abstract.specs.Leaving.{IsButCollected, ABarrierLeavesTheRest}
use Rattle.mps_abstract.specs.Staying.{StaysInPlace, AKeptObjectStaysAtABarrier}
use Rattle.mps_abstract.specs.Units.{BarrierDone, barrier_done, barrier_scans, barrier_splats}
use Rattle.mps_abstract.proofs.Addresses.{id_at-live}
use Rattle.mps_abstract.proofs.KeptPlaces.{running_may_keep, fixes_stay, splats_stay, stays_on, stays_still}
use Rattle.mps_abstract.proofs.Leavings.{fixes_move, splats_move, moved_on, same_world}
use Rattle.mps_abstract.proofs.Scanning.{scanned_running}
use Rattle.mps_abstract.proofs.Splatting.{are_splatted, grey_before_last}
use Rattle.mps_abstract.proofs.UnitScans.{scanned_rightly, targets_may_be_fixed}

record IsLeft (x y : Collecting) : Type 0 where
  rest : IsButCollected x.world y.world
  stays : StaysInPlace x y

barrier_leaves : (s : Segment) {x y : Collecting} {ms : List Move} → BarrierDone s x ms y → Running x → IsLeft x y
barrier_leaves s (barrier_done {x} none) run = record { rest = same_world x.world; stays = stays_still x }
barrier_leaves s (barrier_scans id {x} {y} {z} {these} {those} tracing grey fixes rest) run =
    let parts = and_parts (is_live_and (is_in_segment s) x.world id) (is_grey x.colours id) grey in
    let may = targets_may_be_fixed x id run tracing parts.1 in
    let done = scanned_rightly x y id these run tracing parts.1 fixes in
    let stay = fixes_stay fixes (running_may_keep x run) (λ n h. (may n h).0) in
    let later = barrier_leaves s rest done.running in
    record {
      rest = moved_on (fixes_move fixes (running_may_keep x run) (λ n h. (may n h).0)) later.rest;
      stays = stays_on (record { not_white = stay.not_white; in_place = stay.in_place }) later.stays;
    }
barrier_leaves s (barrier_splats id {x} {y} {z} {cells} {those} late grey done rest) run =
    let parts = and_parts (is_live_and (is_in_segment s) x.world id) (is_grey x.colours id) grey in
    let live = run.grey.grey_live id parts.1 in
    let splatted =
    are_splatted done run late (grey_before_last x id run parts.1) parts.1 (address_or_null x.world id)
    (id_at-live x.world id run.different live)
    in
    let stay = splats_stay done in
    let later = barrier_leaves s rest (scanned_running y splatted.running id splatted.kept) in
    record {
      rest = moved_on (splats_move done) later.rest;
      stays = stays_on (record { not_white = stay.not_white; in_place = stay.in_place }) later.stays;
    }

pub a_barrier_leaves_the_rest : ABarrierLeavesTheRest
a_barrier_leaves_the_rest s x y ms run done = (barrier_leaves s done run).rest

pub a_kept_object_stays_at_a_barrier : AKeptObjectStaysAtABarrier
a_kept_object_stays_at_a_barrier s x y ms run done = (barrier_leaves s done run).stays
