-- The read barrier between the calls of a client: what `access` does with a held segment of a heap in which a collection runs is the
-- barrier of the abstract collector, after which the heap stands for the world and the collection runs on as far as it was. The trail
-- keeps its room.
use Rattle.std.proofs.Common.{◌≡◌, ◌∙◌, ℕ, ◌≤◌, true, false, refl, sym, ap, subst, List, [], ◌++◌, length, Option, Some, Contains, inl, inr, arith}
use Rattle.std.proofs.lemmas.Bool.{cases_Bool, false≢true}
use Rattle.std.proofs.lemmas.List.{append-nil}
use Rattle.std.specs.Prelude.{◌<◌, slice_get}
use Rattle.std.specs.Option.{option_map_or}
use Rattle.mps_base.specs.Address.{Address, Id}
use Rattle.mps_base.specs.Segment.{Segment}
use Rattle.mps_base.specs.Trail.{Moves}
use Rattle.mps_base.specs.declared.moves.Move.{Move}
use Rattle.mps_format.specs.Layout.{Layout}
use Rattle.mps_seg.specs.Table.{IsMarked}
use Rattle.mps_trace.specs.Access.{AccessesTo, CanAccess, too_many_scans}
use Rattle.mps_refinement.proofs.Collect.LiveIsFew.{most_now}
use Rattle.mps_pools.specs.Pools.{trace_of}
use Rattle.mps_pools.specs.Collecting.{IsTraceOf}
use Rattle.mps_trace.specs.Trace.{TraceState, Traced, traced}
use Rattle.mps_trace.specs.declared.running.Band.{Band}
use Rattle.mps_trace.specs.declared.running.Band.TheVariants as working
use Rattle.mps_abstract.specs.Collecting.{Collecting, is_reclaiming_band, units_left}
use Rattle.mps_abstract.specs.Leaving.{IsButCollected}
use Rattle.mps_abstract.specs.Staying.{StaysInPlace}
use Rattle.mps_abstract.specs.Units.{BarrierDone}
use Rattle.mps_abstract.proofs.Addresses.{address_of-live}
use Rattle.mps_abstract.proofs.Lists.{list_all-members}
use Rattle.mps_abstract.proofs.Barrier.{barrier_is_done}
use Rattle.mps_abstract.proofs.BarrierLeavings.{a_barrier_leaves_the_rest, a_kept_object_stays_at_a_barrier}
use Rattle.mps_model.specs.Accessing.{address_or_null}
use Rattle.mps_model.specs.Graph.{Object, entry_at}
use Rattle.mps_model.specs.World.{World, is_copying_pool, is_live}
use Rattle.mps_trace_laws.specs.Barrier.Laws.{IsBarrierOf, StandsForBarrier}
use Rattle.mps_trace_laws.specs.Units.Standing.{AreFinalsOf, band_of}
use Rattle.mps_trace_laws.proofs.Barrier.Accessed.{a_reclaim_needs_no_barrier, an_access_can_be_done, an_access_is_a_barrier}
use Rattle.mps_trace_laws.proofs.Image.Laws.{well_formed_is_shaped}
use Rattle.mps_trace_laws.proofs.Units.Finals.{finals_stay}
use Rattle.mps_heap_spec.specs.State.{HeapState}
use Rattle.mps_refinement.specs.RightMoving.{KeepsRoom}
use Rattle.mps_refinement.specs.StandsFor.{AreParts, AreRegistered, Past, Runs, Time, collector_of}
use Rattle.mps_refinement.proofs.Collect.PushedMoves.{access_pushes, pushed_keeps, told_below}
use Rattle.mps_refinement.proofs.Units.FromUnits.{collector_after, same_count}
use Rattle.mps_refinement.proofs.Units.MovedParts.{collected_heap, parts_moved}
use Rattle.mps_refinement.proofs.Units.Registrations.{registered_so}
use Rattle.mps_refinement.proofs.Units.ToUnits.{due, finals, stands_tracing}
use Rattle.mps_trace_laws.proofs.Summaries.Accesses.{access_keeps}
use Rattle.mps_refinement.proofs.Worlds.LikeReached.{IsBare}

-- a barrier of the abstract collector, by the moves of the trail, after which the heap stands for the world and the collection runs on
pub record IsAccessed {F : Type 0} (layout : F → Layout) (past : Past) (h : HeapState F) (x : Collecting)
    (r : Runs past.time (collector_of h) x.world x) (m : Moves) (s : Segment) (z : Traced) : Type 0 where
  pub moves : List Move
  pub after : Collecting
  pub barrier : BarrierDone s x moves after
  pub trail : z.moves.moves ≡ m.moves ++ moves
  pub room : KeepsRoom m z.moves
  pub time : Time
  pub parts : AreParts layout (record past { time = time }) (collected_heap h (collector_after z r.run) h.finals) after.world
  pub runs : Runs time (collector_after z r.run) after.world after

-- the last band alone is that of a reclaim
reclaim_is : (b : Band) → is_reclaiming_band (band_of b) ≡ true → b ≡ working.Reclaim
reclaim_is working.Exact e = absurd (false≢true e)
reclaim_is working.Final e = absurd (false≢true e)
reclaim_is working.Weak e = absurd (false≢true e)
reclaim_is working.Reclaim e = refl

module _ {F : Type 0} (layout : F → Layout) (past : Past) (h : HeapState F) (x : Collecting) (parts : AreParts layout past h x.world)
    (bare : IsBare x.world) (r : Runs past.time (collector_of h) x.world x)
    (of : IsTraceOf h.pools h.chains (trace_of h.pools h.chains h.tails))
    (marked : IsMarked h.segs.grains h.segs.marks h.segs.condemned h.segs.summaries)
    (m : Moves) (room : most_now h.segs ≤ m.spare) (s : Segment) (held : Contains h.segs.segments s) where
  abbrev w : World
  w = x.world

  abbrev t : TraceState F
  t = trace_of h.pools h.chains h.tails

  abbrev at_flip : List (Option Address)
  at_flip = past.time.at_flip

  abbrev here : Traced
  here = traced t h.segs m

  stands_before : past.time.is_reclaiming ≡ false → StandsForBarrier layout t.formats t.chains at_flip here x
  stands_before still =
      let st = stands_tracing layout past h x parts bare r of marked m room still in
      record {
        running = r.invariant;
        band = st.band;
        shaped = well_formed_is_shaped w parts.lawful bare.like.formed;
        traces = st.traces;
        ranked = st.ranked;
        none_dependent = λ later. bare.none;
      }

  -- `access` can be done, if fewer units are left than a loop counts
  pub access_can_be_done : units_left x < too_many_scans → CanAccess layout r.run.band t h.segs m s
  access_can_be_done few = elim (cases_Bool past.time.is_reclaiming) [
    | inl begun ↦
        let last = reclaim_is r.run.band (ap is_reclaiming_band r.as_far.band ∙ (r.reclaiming begun).band) in
        subst (λ b. CanAccess layout b t h.segs m s) (sym last) tt
    | inr still ↦ an_access_can_be_done layout t h.segs m at_flip r.run.band s x (stands_before still) r.as_far.band held few
  ]

  module _ (z : Traced) (accessed : AccessesTo layout t.formats t.chains r.run.band s here z) where
    -- once it reclaims nothing was done
    nothing_done : past.time.is_reclaiming ≡ true → IsAccessed layout past h x r m s z
    nothing_done begun =
        let last = reclaim_is r.run.band (ap is_reclaiming_band r.as_far.band ∙ (r.reclaiming begun).band) in
        let same : z ≡ here = subst (λ b. AccessesTo layout t.formats t.chains b s here z) last accessed in
        subst (IsAccessed layout past h x r m s) (sym same) (record {
          moves = [];
          after = x;
          barrier = a_reclaim_needs_no_barrier s x r.invariant (r.reclaiming begun).band;
          trail = sym (append-nil m.moves);
          room = refl;
          time = past.time;
          parts = subst (λ o. AreParts layout past (record h { running = o }) w) r.running parts;
          runs = subst (λ o. Runs past.time (record { segs = h.segs; tails = h.tails; running = o }) w x) r.running r;
        })

    -- ---- before that grey blocks of the segment were scanned

    module _ (still : past.time.is_reclaiming ≡ false) where
      abbrev b : IsBarrierOf layout t.formats t.chains at_flip s here z x
      b = an_access_is_a_barrier layout t.formats t.chains at_flip r.run.band s here z x (stands_before still) r.as_far.band held accessed

      abbrev y : Collecting
      y = b.after

      left : IsButCollected w y.world
      left = a_barrier_leaves_the_rest s x y b.moves r.invariant b.barrier

      stays : StaysInPlace x y
      stays = a_kept_object_stays_at_a_barrier s x y b.moves r.invariant b.barrier

      abbrev time_after : Time
      time_after = record {
        at_flip = at_flip;
        condemned = y.running.condemned;
        is_read = λ id. true;
        colours = y.colours;
        is_reclaiming = false;
        next = y.next;
        registered_before = y.running.registered_before;
      }

      finals_after : AreFinalsOf at_flip y h.finals
      finals_after =
          finals_stay at_flip x y h.finals r.invariant stays.in_place b.no_further.next b.no_further.registered_before
          b.no_further.registered b.no_further.messages (finals layout past h x parts bare r of marked m room)

      lived : (position : ℕ) (id : Id) → y.next ≤ position → position < y.running.registered_before
          → slice_get y.world.graph.registered position ≡ Some id → (from : Address) × (entry_at at_flip id ≡ Some from)
      lived position id up below e =
          let next = b.no_further.next in
          let before = b.no_further.registered_before in
          (due layout past h x parts bare r of marked m room).lived position id (omega (arith, up, next)) (omega (arith, below, before))
          (sym (ap (λ ids. slice_get ids position) b.no_further.registered) ∙ e)

      parts_after : AreParts layout (record past { time = time_after }) (collected_heap h (collector_after z r.run) h.finals) y.world
      parts_after =
          parts_moved layout past h x parts bare.like.formed bare.none r.invariant y.world left stays.in_place time_after
          (collector_after z r.run) h.finals b.stands.traces.state.segments b.stands.traces.state.image
          (subst (λ ats. AreRegistered y.world.addresses at_flip y.next y.running.registered_before ats y.world.graph.registered)
          (sym finals_after.registrations)
          (registered_so y.world.addresses at_flip (is_live y.world) (λ id live. (
            address_or_null y.world id,
            address_of-live y.world id
                live,
          )) y.next y.running.registered_before
          y.world.graph.registered
          (list_all-members (is_live y.world) y.world.graph.registered b.stands.running.examined.live_registered) lived))
          finals_after.waiting
          (access_keeps layout t.formats t.chains at_flip r.run.band s here z x (stands_before still) r.as_far.band held parts.summed
          accessed)

      runs_after : Runs time_after (collector_after z r.run) y.world y
      runs_after =
          let st = b.stands.traces.state in
          let count = same_count w b.moves in
          let same = ap (λ (u : World). length u.graph.objects) (barrier_is_done s x y b.moves r.invariant b.barrier).leads in
          let made = r.flip.made in
          record {
            world = refl;
            invariant = b.stands.running;
            run = r.run;
            running = refl;
            as_far = record {
              band = r.as_far.band ∙ sym b.no_further.band;
              cursor = r.as_far.cursor ∙ sym b.no_further.cursor;
              next = r.as_far.next ∙ sym b.no_further.next;
              registered_before = r.as_far.registered_before ∙ sym b.no_further.registered_before;
            };
            condemned_ids = refl;
            colours = refl;
            next = refl;
            registered_before = refl;
            tracing = λ e. record { read = refl; band = b.stands.band; tails = st.tails.same; ranked = b.stands.ranked };
            reclaiming = λ e. absurd (false≢true e);
            condemned = λ u there.
                st.condemned.is_bit u (subst (λ (ts : List Segment). Contains ts u) (sym st.segments.same_segments) there);
            flip = record {
              made = omega (arith, count, same, made);
              still = λ id from to staying was now.
                  let o = st.image.placed.exists id to now in
                  st.still id o.0 from to o.1
                  (sym (ap (λ p. option_map_or (λ (q : Object). is_copying_pool y.world q.pool) p false) o.1) ∙ staying) was now;
            };
          }

      room_kept : KeepsRoom m z.moves
      room_kept =
          let pushed = access_pushes layout t.formats t.chains s here r.run.band z accessed in
          let left = b.stands.traces.room in
          let below = told_below pushed (omega (arith, left)) in
          pushed_keeps pushed (omega (arith, below))

      scanned : IsAccessed layout past h x r m s z
      scanned = record {
        moves = b.moves;
        after = y;
        barrier = b.barrier;
        trail = b.trail;
        room = room_kept;
        time = time_after;
        parts = parts_after;
        runs = runs_after;
      }

    pub access_is_done : IsAccessed layout past h x r m s z
    access_is_done = elim (cases_Bool past.time.is_reclaiming) [ inl begun ↦ nothing_done begun | inr still ↦ scanned still ]
