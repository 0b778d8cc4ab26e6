-- A `reserve` leaves no more units of a collection that ran, and of one that its poll began at most as many as the flip may leave.
use Rattle.std.proofs.Common.{◌≡◌, ◌<◌, ◌≤◌, ℕ, Bool, true, false, refl, sym, subst, Option, Some, None, Ok, Err, arith}
use Rattle.std.proofs.lemmas.Bool.{and_parts, false≢true}
use Rattle.std.specs.Prelude.{MatchBool}
use Rattle.mps_base.specs.Generation.{Due}
use Rattle.mps_base.specs.Trail.{Moves}
use Rattle.mps_base.specs.declared.names.Name.{Name}
use Rattle.mps_buffer.specs.Points.{WereMadeBefore}
use Rattle.mps_format.specs.Layout.{Layout}
use Rattle.mps_model.specs.Checked.{Checked}
use Rattle.mps_model.specs.Policy.{units_of_poll}
use Rattle.mps_model.specs.World.{World, pairs_in}
use Rattle.mps_refinement.proofs.Collect.LiveIsFew.{most_now}
use Rattle.mps_trace.specs.declared.running.Running.{Running as RunningState}
use Rattle.mps_heap_spec.specs.Allocating.{check_reserve}
use Rattle.mps_heap_spec.specs.Collecting.{IsStarted}
use Rattle.mps_heap_spec.specs.Polling.{HasPolled, HasReserved, condemned_by, due_in, is_unclamped, polls_for}
use Rattle.mps_heap_spec.specs.State.{HeapState}
use Rattle.mps_heap_spec.specs.Units.{HasDoneUnits, IsWhole, progress_of}
use Rattle.mps_heap_spec.specs.declared.arena.ArenaState.{ArenaState}
use Rattle.mps_heap_spec.specs.declared.arena.ArenaState.TheVariants as arena
use Rattle.mps_heap_spec.specs.declared.found.Reserving.{Reserving}
use Rattle.mps_refinement.specs.StandsFor.{IsInTime, StandsFor, Time, collector_of}
use Rattle.mps_refinement.specs.UnitsLeft.{FlipsWithin, ReservesWithin, units_left}
use Rattle.mps_refinement.proofs.Left.AfterUnits.{followed_go_down, none_at_rest}
use Rattle.mps_refinement.proofs.Left.Placing.{reserve_leaves_as_many}
use Rattle.mps_refinement.proofs.Left.Starts.{few_after_start}
use Rattle.mps_refinement.proofs.Units.FlipPolls as flips
use Rattle.mps_refinement.proofs.Units.Outcomes.{stepped_is_right}
use Rattle.mps_refinement.proofs.Units.PolledReserves.{a_reserve_is_right, of_poll}
use Rattle.mps_refinement.proofs.Worlds.Known.{IsKnown, known_now}
use Rattle.mps_refinement.proofs.Worlds.Steps.{HasParts}
use Rattle.mps_heap_spec.specs.Following.{Follows}

-- ---- what is said of two heaps with as many units

flips_within_by : {F : Type 0} (d : Option Due) (h polled after : HeapState F) → units_left after ≡ units_left polled
    → FlipsWithin d h polled → FlipsWithin d h after
flips_within_by None h polled after same within = omega (arith, same, within)
flips_within_by (Some due) h polled after same within = omega (arith, same, within)

reserves_within_by : {F : Type 0} (o : Option RunningState) (h polled after : HeapState F) → units_left after ≡ units_left polled
    → ReservesWithin o h polled → ReservesWithin o h after
reserves_within_by None h polled after same within = flips_within_by (due_in h) h polled after same within
reserves_within_by (Some run) h polled after same within = omega (arith, same, within)

-- a heap that stays as it is
none_within : {F : Type 0} (d : Option Due) (h : HeapState F) → h.running ≡ None → FlipsWithin d h h
none_within None h none = none_at_rest h none
none_within (Some due) h none = let left = none_at_rest h none in omega (arith, left)

still_within : {F : Type 0} (h : HeapState F) → ReservesWithin h.running h h
still_within h = of_running h.running refl
  where
    of_running : (o : Option RunningState) → h.running ≡ o → ReservesWithin o h h
    of_running None none = none_within (due_in h) h none
    of_running (Some run) is = omega arith

-- one that polls is unclamped
unclamped_arena : {F : Type 0} (h : HeapState F) (checked : Checked Reserving) → polls_for h checked ≡ true → h.arena ≡ arena.Unclamped
unclamped_arena h (Err why) polling = absurd (false≢true polling)
unclamped_arena h (Ok a) polling = of_arena h.arena (and_parts (is_unclamped h.arena) _ polling).0
  where
    of_arena : (a : ArenaState) → is_unclamped a ≡ true → a ≡ arena.Unclamped
    of_arena arena.Unclamped is = refl
    of_arena arena.Clamped is = absurd (false≢true is)
    of_arena arena.Parked is = absurd (false≢true is)

-- ---- the poll

-- what a poll leaves stands for a world, and has no more units left than it may
record IsPolledTo {F : Type 0} (layout : F → Layout) (h polled : HeapState F) : Type 0 where
  within : ReservesWithin h.running h polled
  time : Time
  world : World
  has : HasParts layout time polled world
  known : IsKnown time world
  now : IsInTime time (collector_of polled) world

module _ {F : Type 0} (layout : F → Layout) (h : HeapState F) (whole : IsWhole h) (m : Moves) (room : most_now h.segs < m.spare)
    (w : World) (st : StandsFor layout h w) (made : WereMadeBefore h.points.flips h.points) where
  enough : most_now h.segs ≤ m.spare
  enough = omega (arith, room)

  standing : (polled : HeapState F) (v : World) → StandsFor layout polled v → ReservesWithin h.running h polled
      → IsPolledTo layout h polled
  standing polled v stands within = record {
    within = within;
    time = stands.past.time;
    world = v;
    has = record { past = stands.past; timed = refl; parts = stands.parts };
    known = known_now stands;
    now = stands.time;
  }

  after_units : h.arena ≡ arena.Unclamped → (run : RunningState) → h.running ≡ Some run → (polled : HeapState F) (trail : Moves)
      → Follows layout m (HasDoneUnits layout h m units_of_poll) polled trail → IsPolledTo layout h polled
  after_units unclamped run is polled trail done =
      standing polled _
      ((stepped_is_right layout h whole m enough w st units_of_poll polled trail (progress_of polled) (record {
        done = λ e. done;
        still = λ other. absurd (other unclamped);
        answered = refl;
      })).right 0).stands
      (subst (λ o. ReservesWithin o h polled) (sym is)
      (followed_go_down layout h whole m enough w st units_of_poll polled trail done).no_more)

  module _ (name : Name) (head : ℕ) where
    after_flip : polls_for h (check_reserve layout h name head) ≡ true → (due : Due) → h.running ≡ None → due_in h ≡ Some due
        → (polled : HeapState F) (trail : Moves) → IsStarted layout (condemned_by due) h m polled trail → IsPolledTo layout h polled
    after_flip polling due none is polled trail started =
        let unclamped = flips.unclamped_if_it_polls h (check_reserve layout h name head) polling in
        let few =
        few_after_start layout h whole m enough w st made polled trail none (condemned_by due)
        (flips.numbered layout h whole m enough w st none due is) started
        in
        record {
          within = subst (λ o. ReservesWithin o h polled) (sym none) (subst (λ d. FlipsWithin d h polled) (sym is) few);
          time = (flips.flipped layout h whole m enough w st none due is made polled trail started).time;
          world = flips.v layout h whole m enough w st none due is made polled trail started;
          has = flips.flipped_has layout h whole m enough w st none due is made polled trail started
              (unclamped (pairs_in w.state));
          known = flips.flipped_known layout h whole m enough w st none due is made polled trail started
              (unclamped (pairs_in w.state));
          now = flips.flipped_time layout h whole m enough w st none due is made polled trail started
              (unclamped (pairs_in w.state));
        }

    polled_to : (polled : HeapState F) (trail : Moves) (b : Bool) → polls_for h (check_reserve layout h name head) ≡ b
        → MatchBool b (HasPolled layout h m polled trail) ((polled ≡ h) × (trail ≡ m)) → IsPolledTo layout h polled
    polled_to polled trail true polling poll =
        of_poll layout h whole m room w st (λ g u. IsPolledTo layout h g)
        (after_units (unclamped_arena h (check_reserve layout h name head) polling)) (after_flip polling)
        (λ none is. standing h w st (still_within h)) polled trail poll
    polled_to polled trail false isnt poll = subst (IsPolledTo layout h) (sym poll.0) (standing h w st (still_within h))

    pub reserves_within : (result : Checked (Unit {0})) (after : HeapState F) (trail_after : Moves)
        → HasReserved layout h m name head result after trail_after → ReservesWithin h.running h after
    reserves_within result after trail_after reserved =
        let polled = polled_to reserved.polled reserved.trail_polled (polls_for h (check_reserve layout h name head)) refl reserved.poll in
        let right = (a_reserve_is_right layout h whole m room w st made name head result after trail_after reserved).0 in
        reserves_within_by h.running h reserved.polled after
        (reserve_leaves_as_many layout polled.has.past reserved.polled polled.world polled.has.parts
        (subst (λ t. IsKnown t polled.world) (sym polled.has.timed) polled.known) after _ (right.right 0).stands
        (subst (λ t. IsInTime t (collector_of reserved.polled) polled.world) (sym polled.has.timed) polled.now) reserved.trail_polled name
        head result trail_after reserved.comes) polled.within
