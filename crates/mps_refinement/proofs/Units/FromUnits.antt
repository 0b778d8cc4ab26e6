-- After units the parts of a heap stand for the world after them, and its collection runs on.
use Rattle.std.proofs.Common.{◌≡◌, ◌∙◌, ◌-◌, ◌≤◌, Bool, true, false, refl, sym, ap, subst, List, [], length, Option, Some, Contains, arith, map}
use Rattle.std.proofs.lemmas.Bool.{false≢true}
use Rattle.std.proofs.lemmas.List.{length-map}
use Rattle.std.proofs.lemmas.Option.{none-some}
use Rattle.std.specs.Prelude.{ℕ, not}
use Rattle.std.specs.List.{list_all}
use Rattle.std.specs.Option.{option_map_or}
use Rattle.mps_base.specs.Address.{Address, Id}
use Rattle.mps_base.specs.Segment.{Segment}
use Rattle.mps_base.specs.declared.moves.Move.{Move}
use Rattle.mps_format.specs.Layout.{Layout}
use Rattle.mps_format.specs.declared.pool.Policy.{Policy}
use Rattle.mps_laws.proofs.Positions.Occupancy.{Shape, shape_of}
use Rattle.mps_laws.proofs.SameArena.{moved_alone}
use Rattle.mps_model.specs.declared.call.Call.TheVariants as call
use Rattle.mps_model.specs.Effect.{world_after_moves}
use Rattle.mps_model.specs.Graph.{Object, entry_at}
use Rattle.mps_model.specs.WellFormed.{IsWellFormed}
use Rattle.mps_model.specs.World.{World, is_copying_pool, is_live}
use Rattle.mps_abstract.specs.Colours.{is_white}
use Rattle.mps_abstract.specs.Collecting.{Collecting, Running}
use Rattle.mps_abstract.specs.Leaving.{IsButCollected}
use Rattle.mps_abstract.specs.Staying.{StaysInPlace}
use Rattle.mps_abstract.proofs.Addresses.{address_of-live}
use Rattle.mps_abstract.proofs.Lists.{list_all-members}
use Rattle.mps_model.specs.Accessing.{address_or_null}
use Rattle.mps_trace.specs.GenState.{ChainsState}
use Rattle.mps_trace.specs.State.{FinalsState}
use Rattle.mps_trace.specs.Trace.{Traced}
use Rattle.mps_trace.specs.declared.running.Running.{Running as RunningState}
use Rattle.mps_trace_laws.specs.Fix.Tracing.{AreSegmentsOf}
use Rattle.mps_trace_laws.specs.Units.Finals.{address_of_id, before_and_since}
use Rattle.mps_trace_laws.specs.Units.Standing.{StandsInBand, UnitStands, reclaiming, tracing}
use Rattle.mps_trace_laws.proofs.Units.TwoLists.{none_due}
use Rattle.mps_heap_spec.specs.State.{HeapState}
use Rattle.mps_refinement.specs.StandsFor.{AreCondemnedIn, AreOfFlip, AreParts, AreRegistered, AreRegisteredAt, CollectorState, Past, Runs, StandsAt, Time}
use Rattle.mps_refinement.proofs.Units.MovedParts.{collected_heap, parts_moved}
use Rattle.mps_refinement.proofs.Units.Registrations.{registered_so}
use Rattle.mps_trace_laws.specs.Summaries.Summed.{AreWordsSummed}
use Rattle.mps_format.specs.Pools.{policy_of_pool}

-- what the collector has after units
abbrev pub collector_after : Traced → RunningState → CollectorState
collector_after z run = record { segs = z.segs; tails = z.amc; running = Some run }

-- the time of a collection, while objects are traced and once it reclaims
abbrev pub time_of : (reclaims : Bool) → (at_flip : List (Option Address)) → Collecting → Time
time_of true at_flip y = record {
  at_flip = [];
  condemned = y.running.condemned;
  is_read = λ id. not (is_white y.running.condemned y.colours id);
  colours = y.colours;
  is_reclaiming = true;
  next = y.next;
  registered_before = y.running.registered_before;
}
time_of false at_flip y = record {
  at_flip = at_flip;
  condemned = y.running.condemned;
  is_read = λ id. true;
  colours = y.colours;
  is_reclaiming = false;
  next = y.next;
  registered_before = y.running.registered_before;
}

-- a collector's moves make no object
pub same_count : (w : World) (ms : List Move) → length (world_after_moves w ms).graph.objects ≡ length w.graph.objects
same_count w ms =
    sym (length-map (world_after_moves w ms).graph.objects shape_of)
    ∙ ap (λ (ss : List Shape). length ss) (moved_alone w call.Park ms).shapes ∙ length-map w.graph.objects shape_of

module _ {F : Type 0} (layout : F → Layout) (formats : List (Option (Policy F))) (of : ChainsState) (at_flip : List (Option Address))
    (z : Traced) (f : FinalsState) (run : RunningState) (y : Collecting) (stands : UnitStands layout formats of at_flip z f run y) where
  abbrev pub reclaims_in : StandsInBand layout formats of at_flip z y → Bool
  reclaims_in (tracing st) = false
  reclaims_in (reclaiming st last) = true

  abbrev pub time_now : Time
  time_now = time_of (reclaims_in stands.band) at_flip y

  -- ---- segments and words

  segments_in : StandsInBand layout formats of at_flip z y → AreSegmentsOf z.segs y.world.grains y.world.limit y.world.segments
  segments_in (tracing st) = st.traces.state.segments
  segments_in (reclaiming st last) = st.segments

  pub segments_now : AreSegmentsOf z.segs y.world.grains y.world.limit y.world.segments
  segments_now = segments_in stands.band

  image_in : (b : StandsInBand layout formats of at_flip z y) → StandsAt (time_of (reclaims_in b) at_flip y) z.segs y.world
  image_in (tracing st) = st.traces.state.image
  image_in (reclaiming st last) = st.frees.stands.image

  pub image_now : StandsAt time_now z.segs y.world
  image_now = image_in stands.band

  bits_in : StandsInBand layout formats of at_flip z y → AreCondemnedIn z.segs.condemned y.world.segments y.running.condemned_segments
  bits_in (tracing st) t there =
      st.traces.state.condemned.is_bit t
      (subst (λ (ts : List Segment). Contains ts t) (sym st.traces.state.segments.same_segments) there)
  bits_in (reclaiming st last) t there = st.frees.bits t (subst (λ (ts : List Segment). Contains ts t) st.frees.segments there)

  -- ---- registrations

  all_live : list_all (is_live y.world) y.world.graph.registered ≡ true
  all_live = list_all-members (is_live y.world) y.world.graph.registered stands.running.examined.live_registered

  lies : (id : Id) → is_live y.world id ≡ true → (a : Address) × (entry_at y.world.addresses id ≡ Some a)
  lies id live = (address_or_null y.world id, address_of-live y.world id live)

  registered_in : (b : StandsInBand layout formats of at_flip z y)
      → AreRegisteredAt (time_of (reclaims_in b) at_flip y) y.world.addresses f.registered y.world.graph.registered
  registered_in (tracing st) =
      subst (λ ats. AreRegistered y.world.addresses at_flip y.next y.running.registered_before ats y.world.graph.registered)
      (sym stands.finals.registrations)
      (registered_so y.world.addresses at_flip (is_live y.world) lies y.next y.running.registered_before y.world.graph.registered all_live
      stands.due.lived)
  registered_in (reclaiming st last) =
      let now : Id → Address = address_of_id y.world.addresses in
      let none : y.running.registered_before - y.next ≡ 0 = let all = st.examined in omega (arith, all) in
      let same : f.registered ≡ before_and_since now (address_of_id []) y.next (y.running.registered_before - y.next)
      y.world.graph.registered =
      stands.finals.registrations
      ∙ ap (λ (n : ℕ). before_and_since now (address_of_id at_flip) y.next n y.world.graph.registered) none
      ∙ none_due now (address_of_id at_flip) y.next y.world.graph.registered
      ∙ sym (none_due now (address_of_id []) y.next y.world.graph.registered)
      ∙ ap (λ (n : ℕ). before_and_since now (address_of_id []) y.next n y.world.graph.registered) (sym none) in
      subst (λ ats. AreRegistered y.world.addresses [] y.next y.running.registered_before ats y.world.graph.registered) (sym same)
      (registered_so y.world.addresses [] (is_live y.world) lies y.next y.running.registered_before y.world.graph.registered all_live
      (λ position id up below e. let all = st.examined in absurd (omega (arith, all, up, below))))

  pub registered_now : AreRegisteredAt time_now y.world.addresses f.registered y.world.graph.registered
  registered_now = registered_in stands.band

  -- ---- the collection

  module _ (long : length at_flip ≤ length y.world.graph.objects) where
    flip_in : (b : StandsInBand layout formats of at_flip z y) → AreOfFlip (time_of (reclaims_in b) at_flip y).at_flip y.world
    flip_in (tracing st) = record {
      made = long;
      still = λ id from to stays was now.
          let o = st.traces.state.image.placed.exists id to now in
          st.traces.state.still id o.0 from to o.1
          (sym (ap (λ p. option_map_or (λ (q : Object). is_copying_pool y.world q.pool) p false) o.1) ∙ stays) was now;
    }
    flip_in (reclaiming st last) = record {
      made = omega arith;
      still = λ id from to stays was now. absurd (none-some from was);
    }

    pub runs_now : Runs time_now (collector_after z run) y.world y
    runs_now = in_band stands.band
      where
        in_band : (b : StandsInBand layout formats of at_flip z y)
            → Runs (time_of (reclaims_in b) at_flip y) (collector_after z run) y.world y
        in_band (tracing st) = record {
          world = refl;
          invariant = stands.running;
          run = run;
          running = refl;
          as_far = record {
            band = stands.same_band;
            cursor = stands.cursor;
            next = stands.next;
            registered_before = stands.before;
          };
          condemned_ids = refl;
          colours = refl;
          next = refl;
          registered_before = refl;
          tracing = λ e. record {
            read = refl;
            band = st.band;
            tails = st.traces.state.tails.same;
            ranked = st.ranked;
          };
          reclaiming = λ e. absurd (false≢true e);
          condemned = bits_in (tracing st);
          flip = flip_in (tracing st);
        }
        in_band (reclaiming st last) = record {
          world = refl;
          invariant = stands.running;
          run = run;
          running = refl;
          as_far = record {
            band = stands.same_band;
            cursor = stands.cursor;
            next = stands.next;
            registered_before = stands.before;
          };
          condemned_ids = refl;
          colours = refl;
          next = refl;
          registered_before = refl;
          tracing = λ e. absurd (false≢true (sym e));
          reclaiming = λ e. record {
            none_at_flip = refl;
            read = refl;
            band = last;
            scanned = st.scanned;
            examined = st.examined;
          };
          condemned = bits_in (reclaiming st last);
          flip = flip_in (reclaiming st last);
        }

-- ---- the heap after units

module _ {F : Type 0} (layout : F → Layout) (past : Past) (h : HeapState F) (x : Collecting) (parts : AreParts layout past h x.world)
    (formed : IsWellFormed x.world) (none : x.world.graph.dependents ≡ []) (running : Running x)
    (flip : AreOfFlip past.time.at_flip x.world) (formats : List (Option (Policy F))) (of : ChainsState) (y : Collecting)
    (ms : List Move) (leads : world_after_moves x.world ms ≡ y.world)
    (left : IsButCollected x.world y.world) (stays : StaysInPlace x y) (z : Traced) (f : FinalsState) (run : RunningState)
    (stands : UnitStands layout formats of past.time.at_flip z f run y) where
  abbrev pub time_then : Time
  time_then = time_now layout formats of past.time.at_flip z f run y stands

  pub parts_then : AreWordsSummed layout (map policy_of_pool h.pools) z.segs
      → AreParts layout (record past { time = time_then }) (collected_heap h (collector_after z run) f) y.world
  parts_then summed =
      parts_moved layout past h x parts formed none running y.world left stays.in_place time_then (collector_after z run) f
      (segments_now layout formats of past.time.at_flip z f run y stands) (image_now layout formats of past.time.at_flip z f run y stands)
      (registered_now layout formats of past.time.at_flip z f run y stands) stands.finals.waiting summed

  pub runs_then : Runs time_then (collector_after z run) y.world y
  runs_then =
      let count = same_count x.world ms in
      let same = ap (λ (u : World). length u.graph.objects) leads in
      let made = flip.made in
      runs_now layout formats of past.time.at_flip z f run y stands (omega (arith, count, same, made))
