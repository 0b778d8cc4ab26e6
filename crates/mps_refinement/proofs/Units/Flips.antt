-- What a collection that a heap at rest begins leaves of it, whatever it condemns: the flip alone is done, after which the collection runs,
-- or has ended if nothing is condemned. It keeps the room of its trail.
use Rattle.std.proofs.Common.{◌≡◌, ◌∙◌, ◌-◌, ◌<◌, ◌≤◌, true, false, refl, sym, ap, subst, List, [], ◌++◌, length, map, Option, Some, None, is_some, arith}
use Rattle.std.specs.Prelude.{IfNone, IfSome}
use Rattle.std.specs.List.{list_all}
use Rattle.mps_base.specs.Address.{Id}
use Rattle.mps_base.specs.Trail.{Moves}
use Rattle.mps_base.specs.declared.moves.Move.{Move}
use Rattle.mps_buffer.specs.Points.{WereMadeBefore}
use Rattle.mps_format.specs.Layout.{Layout}
use Rattle.mps_format.specs.Pools.{policy_of_pool}
use Rattle.mps_model.specs.Collecting.{with_state}
use Rattle.mps_model.specs.Effect.{Condemnation, condemned_by, condemned_zones, world_flipped, world_after_moves}
use Rattle.mps_model.specs.Flip.{flip_act, flip_of, is_nothing}
use Rattle.mps_model.specs.Graph.{contains, ids_in_blocks}
use Rattle.mps_model.specs.History.{HeldAreLive, own_segment}
use Rattle.mps_model.specs.WellFormed.{IsWellFormed}
use Rattle.mps_model.specs.World.{World, Unclamped, is_live}
use Rattle.mps_model.proofs.Reaching.{list_all-contains}
use Rattle.mps_seg.specs.Collecting.{summary_at}
use Rattle.mps_seg.specs.Table.{IsMarked}
use Rattle.mps_trace.specs.Begin.{Begins, EndsAtOnce, marked_at_flip}
use Rattle.mps_refinement.proofs.Collect.LiveIsFew.{most_now}
use Rattle.mps_trace.specs.Flip.{zones_at_flip}
use Rattle.mps_pools.specs.Pools.{trace_of}
use Rattle.mps_pools.specs.Collecting.{IsTraceOf}
use Rattle.mps_trace.specs.Trace.{TraceState, Traced, traced}
use Rattle.mps_trace.specs.declared.condemn.Condemn.{Condemn}
use Rattle.mps_trace.specs.declared.running.Running.{Running as RunningState}
use Rattle.mps_abstract.specs.Collecting.{Collecting, Running}
use Rattle.mps_abstract.specs.FlipLaws.{AreRemembered, IsAtRest, IsFlipDone, IsFlipEnded, collecting_after_flip}
use Rattle.mps_abstract.specs.Leaving.{IsButCollected}
use Rattle.mps_abstract.proofs.Lists.{list_all-members}
use Rattle.mps_abstract.proofs.FlipActs.FlipBegins.{flip_done, flip_ended}
use Rattle.mps_abstract.proofs.FlipActs.Remembered.{remembered_is_enough}
use Rattle.mps_trace_laws.proofs.Begin.Acted.{a_collection_begins}
use Rattle.mps_trace_laws.proofs.Begin.FlipStands.{flip_stands}
use Rattle.mps_trace_laws.proofs.Begin.OverAtOnce.{a_collection_of_nothing_ends}
use Rattle.mps_trace_laws.proofs.Summaries.Flips.{begin_keeps}
use Rattle.mps_trace_laws.specs.Begin.Before.{StandsBefore}
use Rattle.mps_trace_laws.specs.Begin.Begun.{IsActDone, IsOverAtOnce}
use Rattle.mps_trace_laws.specs.Begin.Condemning.{MayCondemn, collecting_at_flip, remembered_in}
use Rattle.mps_trace_laws.specs.Flip.Condemned.{condemnation}
use Rattle.mps_heap_spec.specs.Collecting.{IsStarted}
use Rattle.mps_heap_spec.specs.State.{HeapState}
use Rattle.mps_heap_spec.specs.declared.arena.ArenaState.TheVariants as arena
use Rattle.mps_refinement.specs.Collect.Leaving.{AreInPlace}
use Rattle.mps_refinement.specs.Collect.Standing.{IsFlippedHeap}
use Rattle.mps_refinement.specs.RightMoving.{KeepsRoom}
use Rattle.mps_refinement.specs.Dependents.{AreDependents}
use Rattle.mps_refinement.specs.Following.{are_of_one, unpaired}
use Rattle.mps_refinement.specs.StandsFor.{AreParts, IsInTime, Past, Rests, Runs, Time, collector_of, rests, runs, time_at_rest}
use Rattle.mps_refinement.proofs.Collect.ActedRoots.{tables_acted}
use Rattle.mps_refinement.proofs.Collect.BeforeAFlip.{is_before}
use Rattle.mps_refinement.proofs.Collect.CollectRight.{IsBefore}
use Rattle.mps_refinement.proofs.Collect.CollectedHeaps.{IsLeft, flipped_heap, heap_flipped, left_at_once, same_zones, something_condemned}
use Rattle.mps_refinement.proofs.Collect.CollectedParts.{blocks_are_manual, flipped_parts}
use Rattle.mps_refinement.proofs.Collect.FlipActs.{acted_moves, in_place_acted, live_after_nothing, nothing_in_place, nothing_moves}
use Rattle.mps_refinement.proofs.Collect.PushedMoves.{pushed_keeps, told_below}
use Rattle.mps_refinement.proofs.Collect.RoomKept.{at_once_keeps_room, begin_pushes, has_room}
use Rattle.mps_refinement.proofs.Collect.RootsAfter.{AreRootsAfter, tables_after}
use Rattle.mps_refinement.proofs.Following.Acts.{act_has_nothing}
use Rattle.mps_refinement.proofs.Following.Laws.{flip_acts_are_same}
use Rattle.mps_refinement.proofs.Following.Made.{AreMade, paired_made, state_aside}
use Rattle.mps_refinement.proofs.Following.WithoutPairs.{alone}
use Rattle.mps_refinement.proofs.Parts.Registered.{registered_at_the_end}
use Rattle.mps_refinement.proofs.Summaries.AtOnce.{at_once_summed}
use Rattle.mps_refinement.proofs.Units.FlipMoves.{flip_takes_none}
use Rattle.mps_refinement.proofs.Units.FromUnits.{image_now, registered_now, runs_now, same_count, segments_now, time_now}
use Rattle.mps_refinement.proofs.Worlds.InSteps.{laid_by_moves, live_while_running}
use Rattle.mps_refinement.proofs.Worlds.LikeReached.{IsBare, IsLikeReached, formed_in_steps}
use Rattle.mps_refinement.proofs.Worlds.Known.{IsKnown}

-- what a flip leaves: its moves are legal, the heap represents the world after them in the unclamped arena, at rest or while a collection
-- runs, and all that is held there is live
pub record IsFlipped {F : Type 0} (layout : F → Layout) (w : World) (c : Condemnation) (m : Moves) (h' : HeapState F) (m' : Moves) : Type 0
  where
    pub time : Time
    pub made : AreMade layout w (flip_act w c) (with_state (world_after_moves w (flip_act w c)) Unclamped) time h'
    pub taken_by_none : own_segment (flip_act w c) ≡ []
    pub appended : m'.moves ≡ m.moves ++ flip_act w c
    pub room : KeepsRoom m m'
    pub some_left : 0 < m'.spare

module _ {F : Type 0} (layout : F → Layout) (past : Past) (h : HeapState F) (w : World) (parts : AreParts layout past h w)
    (known : IsKnown past.time w) (rest : Rests past.time (collector_of h) w) (bare : IsBare w)
    (made : WereMadeBefore h.points.flips h.points) (of : IsTraceOf h.pools h.chains (trace_of h.pools h.chains h.tails))
    (marked : IsMarked h.segs.grains h.segs.marks h.segs.condemned h.segs.summaries) (m : Moves) (room : most_now h.segs ≤ m.spare)
    (what : Condemn) (may : MayCondemn (trace_of h.pools h.chains h.tails) h.segs w what) (h' : HeapState F) (m' : Moves)
    (state : h' ≡ heap_flipped h h' (zones_at_flip (map policy_of_pool h.pools) h.chains what h.segs.segments) arena.Unclamped
    h'.running) where
  -- what is condemned, as the model has it
  abbrev c : Condemnation
  c = condemnation what

  abbrev t : TraceState F
  t = trace_of h.pools h.chains h.tails

  abbrev here : Traced
  here = traced t h.segs m

  abbrev z : Traced
  z = traced (trace_of h'.pools h'.chains h'.tails) h'.segs m'

  pub known_before : IsBefore layout h m w
  known_before = is_before layout past h w parts known bare.none rest marked m room

  pub before : StandsBefore layout t h.segs m h.points w
  before = known_before.stands t of

  abbrev pub at_rest : IsAtRest w
  at_rest = before.objects.rest

  -- the objects that are to be scanned besides
  abbrev pub others : List Id
  others = remembered_in h.segs w what

  pub told : AreRemembered (collecting_at_flip h.segs w what) others
  told = remembered_is_enough w c (summary_at h.segs) at_rest may.refers

  zones : zones_at_flip (map policy_of_pool h.pools) h.chains what h.segs.segments ≡ condemned_zones w c
  zones = same_zones layout past h w parts m t before what may.alike

  made_then : WereMadeBefore (length w.flips) h.points
  made_then = subst (λ n. WereMadeBefore n h.points) parts.point_flips made

  -- ---- something is condemned

  module _ (run : RunningState) (running : h'.running ≡ Some run)
      (begun : Begins layout t.formats t.chains what h.points h.roots h.finals here h'.roots h'.finals z run) where
    pub act : IsActDone layout t h.segs m w what known_before.rows h.roots h'.roots h'.finals z run
    act =
        a_collection_begins flip_stands layout t h.segs m h.points h.roots h'.roots h.finals h'.finals w known_before.rows z run
        what before may known_before.areas known_before.roots begun

    abbrev pub y : Collecting
    y = act.after

    pub some : is_nothing (condemned_by w c) ≡ false
    some = something_condemned layout past h w parts m t before what may.alike begun.some

    leads : IsFlipDone w c act.first y
    leads = flip_done w c others act.first y at_rest may.numbered some told act.fixes

    moved : IsButCollected (world_flipped w (condemned_zones w c)) y.world
    moved = acted_moves w c others act.first y at_rest may.numbered some told act.fixes

    -- the state of the abstract collector in the unclamped arena
    abbrev pub after : Collecting
    after = record y { world = with_state y.world Unclamped }

    abbrev v : World
    v = after.world

    places : AreInPlace w y v
    places =
        let there = in_place_acted w c others act.first y at_rest may.numbered some told act.fixes in
        record {
          manual = there.manual;
          pinned = there.pinned;
          holds = there.holds;
          held = there.held;
          held_live = there.held_live;
        }

    roots : AreRootsAfter h.roots h'.roots
    roots =
        tables_after layout t.formats t.chains h.roots (marked_at_flip t.formats t.chains what h.points h.roots here)
        (length h.roots.order) h'.roots begun.before begun.slots

    flipped : IsFlippedHeap past w (condemned_zones w c) h h' y.world.addresses v
    flipped =
        flipped_heap layout past h h' w parts (zones_at_flip (map policy_of_pool h.pools) h.chains what h.segs.segments)
        arena.Unclamped h'.running state zones y.world.addresses y.world moved
        (segments_now layout t.formats t.chains w.addresses z h'.finals run y act.stands) roots
        (tables_acted w at_rest (λ id at there. (before.segments.image.placed.address id at there).not_null) past.table_number h.roots
        h'.roots parts.tables known_before.rows known_before.roots.tables known_before.ordered roots y act.slots)

    abbrev pub time_then : Time
    time_then = time_now layout t.formats t.chains w.addresses z h'.finals run y act.stands

    pub parts_then : AreParts layout (record past { time = time_then }) h' v
    parts_then =
        flipped_parts layout past h h' w parts known.formed bare.none made_then y y.world _ moved Unclamped time_then flipped places
        (image_now layout t.formats t.chains w.addresses z h'.finals run y act.stands)
        (registered_now layout t.formats t.chains w.addresses z h'.finals run y act.stands) act.stands.finals.waiting
        (begin_keeps layout t h.segs m h.points h.roots h'.roots h.finals h'.finals w known_before.rows z run what before
        may known_before.areas known_before.roots parts.summed begun)

    invariant : Running after
    invariant =
        let r = act.stands.running in
        record {
          runs = r.runs;
          different = r.different;
          condemned = r.condemned;
          coloured = r.coloured;
          grey = r.grey;
          settled = r.settled;
          survivors = r.survivors;
          examined = r.examined;
          band = record {
            tracing = r.band.tracing;
            splatting = r.band.splatting;
            drained = r.band.drained;
            examined = r.band.examined;
            scanned = r.band.scanned;
            referred_live = r.band.referred_live;
            unswept = r.band.unswept;
          };
          swept = r.swept;
          units = r.units;
        }

    pub runs_then : Runs time_then (collector_of h') v after
    runs_then =
        let count = same_count w (flip_act w c) in
        let same = ap (λ (u : World). length u.graph.objects) leads.leads in
        let long = known.formed.addresses in
        let q = runs_now layout t.formats t.chains w.addresses z h'.finals run y act.stands (omega (arith, count, same, long)) in
        record {
          world = refl;
          invariant = invariant;
          run = q.run;
          running = running ∙ q.running;
          as_far = record {
            band = q.as_far.band;
            cursor = q.as_far.cursor;
            next = q.as_far.next;
            registered_before = q.as_far.registered_before;
          };
          condemned_ids = q.condemned_ids;
          colours = q.colours;
          next = q.next;
          registered_before = q.registered_before;
          tracing = λ e. let traces = q.tracing e in record {
            read = traces.read;
            band = traces.band;
            tails = traces.tails;
            ranked = traces.ranked;
          };
          reclaiming = λ e. let freed = q.reclaiming e in record {
            none_at_flip = freed.none_at_flip;
            read = freed.read;
            band = freed.band;
            scanned = freed.scanned;
            examined = freed.examined;
          };
          condemned = q.condemned;
          flip = record { made = q.flip.made; still = q.flip.still };
        }

    blocks_live : list_all (is_live v) (ids_in_blocks v.graph) ≡ true
    blocks_live =
        list_all-members (is_live v) (ids_in_blocks v.graph) (λ id there.
        let was = subst (λ (u : World). contains (ids_in_blocks u.graph) id ≡ true) moved.world there in
        ap is_some (places.manual id (blocks_are_manual w known.formed id was))
        ∙ list_all-contains (is_live w) (ids_in_blocks w.graph) id known.live.blocks was)

    -- the world after the moves, in the unclamped arena
    pub leads_to : with_state (world_after_moves w (flip_act w c)) Unclamped ≡ v
    leads_to = ap (λ u. with_state u Unclamped) leads.leads

    some_left : 0 < m'.spare
    some_left = has_room layout t w.addresses z h'.finals run y act.stands

    pub begun_flip : IsFlipped layout w c m h' m'
    begun_flip = record {
      time = time_then;
      made = record {
        legal = leads.legal;
        has = record {
          past = record past { time = time_then };
          timed = refl;
          parts = subst (AreParts layout (record past { time = time_then }) h') (sym leads_to) parts_then;
        };
        now = subst (IsInTime time_then (collector_of h')) (sym leads_to) (runs after runs_then);
        live = subst HeldAreLive (sym leads_to) (live_while_running after invariant blocks_live);
      };
      taken_by_none = subst (λ ms. own_segment ms ≡ []) (sym leads.act) (flip_takes_none (flip_of w c) refl act.fixes);
      appended = act.trail ∙ ap (λ ms. m.moves ++ ms) (sym leads.act);
      room =
          let pushed = begin_pushes layout t what h.points h.roots h'.roots h.finals h'.finals here z run begun in
          let told = told_below pushed some_left in
          pushed_keeps pushed (omega (arith, told));
      some_left = some_left;
    }

  -- ---- nothing is condemned

  module _ (none : h'.running ≡ None)
      (ends : EndsAtOnce t.formats t.chains what h.points h.roots h.finals here h'.roots h'.finals z) where
    over : IsOverAtOnce m w what z
    over =
        a_collection_of_nothing_ends layout t h.segs m h.points h.roots h'.roots h.finals h'.finals w z what before
        may ends

    abbrev ms : List Move
    ms = flip_act w c

    ended : IsFlipEnded w c
    ended = flip_ended w c at_rest may.numbered over.nothing

    left_so : IsButCollected (world_flipped w (condemned_zones w c)) (world_after_moves w ms)
    left_so = nothing_moves w c at_rest may.numbered over.nothing

    abbrev u : World
    u = with_state (world_after_moves w ms) Unclamped

    live : HeldAreLive u
    live = live_after_nothing w c at_rest may.numbered over.nothing known.formed known.live Unclamped refl

    formed : IsWellFormed u
    formed = formed_in_steps w ms bare.like ended.legal (laid_by_moves w bare.like ms ended.legal) live.client

    left : IsLeft past w h h' w.addresses (world_after_moves w ms)
    left = left_at_once layout past h w parts rest.time m t before what may.numbered h' (trace_of h'.pools h'.chains h'.tails) m' ends over

    parts_at_rest : AreParts layout (record past { time = time_at_rest }) h' u
    parts_at_rest =
        flipped_parts layout past h h' w parts known.formed bare.none made_then (collecting_after_flip w c [])
        (world_after_moves w ms) _ left_so
        Unclamped
        time_at_rest
        (flipped_heap layout past h h' w parts (zones_at_flip (map policy_of_pool h.pools) h.chains what h.segs.segments)
        arena.Unclamped h'.running state zones w.addresses (world_after_moves w ms) left_so left.segments left.roots left.tables)
        (let places = nothing_in_place w c at_rest may.numbered over.nothing in record {
          manual = places.manual;
          pinned = places.pinned;
          holds = places.holds;
          held = places.held;
          held_live = places.held_live;
        }) left.image (registered_at_the_end u h'.finals left.finals formed.registered) left.finals.waiting
        (at_once_summed layout t.formats t.chains what h.points h.roots h'.roots h.finals h'.finals here z ends parts.summed)

    rests_then : Rests time_at_rest (collector_of h') u
    rests_then = record {
      none = ended.ended;
      time = refl;
      not_running = none;
      not_condemned = left.not_condemned;
      not_kept = left.not_kept;
    }

    left_over : 0 < m'.spare
    left_over =
        let enough = before.room in
        let spare : m'.spare ≡ m.spare - 1 - 1 = ap (λ (x : Traced). x.moves.spare) ends.over in
        omega (arith, enough, spare)

    pub ended_flip : IsFlipped layout w c m h' m'
    ended_flip = record {
      time = time_at_rest;
      made = record {
        legal = ended.legal;
        has = record { past = record past { time = time_at_rest }; timed = refl; parts = parts_at_rest };
        now = rests rests_then;
        live = live;
      };
      taken_by_none = ap own_segment ended.act;
      appended = over.trail;
      room =
          at_once_keeps_room layout t what h.points h.roots h'.roots h.finals h'.finals here z ends
          (let some = before.room in omega (arith, some));
      some_left = left_over;
    }

-- a heap at rest that began a collection
pub flip_is_right : {F : Type 0} (layout : F → Layout) (past : Past) (h : HeapState F) (w : World) (parts : AreParts layout past h w)
    → IsKnown past.time w → Rests past.time (collector_of h) w → IsBare w → WereMadeBefore h.points.flips h.points
    → IsTraceOf h.pools h.chains (trace_of h.pools h.chains h.tails)
    → IsMarked h.segs.grains h.segs.marks h.segs.condemned h.segs.summaries → (m : Moves) → most_now h.segs ≤ m.spare
    → (what : Condemn) → MayCondemn (trace_of h.pools h.chains h.tails) h.segs w what → (h' : HeapState F) (m' : Moves)
    → IsStarted layout what h m h' m' → IsFlipped layout w (condemnation what) m h' m'
flip_is_right {F} layout past h w parts known rest bare made of marked m room what may h' m' started = of_running h'.running refl
  where
    of_running : (o : Option RunningState) → h'.running ≡ o → IsFlipped layout w (condemnation what) m h' m'
    of_running (Some run) is =
        begun_flip layout past h w parts known rest bare made of marked m room what may h' m' started.state run is
        (subst (λ o. IfSome o (λ r. Begins layout (trace_of h.pools h.chains h.tails).formats
        (trace_of h.pools h.chains h.tails).chains what h.points h.roots h.finals (traced (trace_of h.pools h.chains h.tails) h.segs m)
        h'.roots h'.finals (traced (trace_of h'.pools h'.chains h'.tails) h'.segs m') r)) is started.begun)
    of_running None is =
        ended_flip layout past h w parts known rest bare made of marked m room what may h' m' started.state is
        (subst (λ o. IfNone o (EndsAtOnce (trace_of h.pools h.chains h.tails).formats (trace_of h.pools h.chains h.tails).chains what
        h.points h.roots h.finals (traced (trace_of h.pools h.chains h.tails) h.segs m) h'.roots h'.finals
        (traced (trace_of h'.pools h'.chains h'.tails) h'.segs m'))) is started.ended)

-- ---- with pairs

-- a heap follows nothing of the act of a flip, which is the same with pairs
pub flip_paired : {F : Type 0} (layout : F → Layout) (w : World) (like : IsLikeReached w) (c : Condemnation) (m : Moves) (h' : HeapState F)
    (m' : Moves) → AreDependents w.addresses h'.beside.dependents w.graph.dependents → IsFlipped layout (unpaired w) c m (alone h') m'
    → IsFlipped layout w c m h' m'
flip_paired layout w like c m h' m' kept is =
    let ms : List Move = flip_act (unpaired w) c in
    let same : ms ≡ flip_act w c = sym (flip_acts_are_same w c).same in
    let change : World → World = λ v. with_state v Unclamped in
    let one : are_of_one ms ≡ true = subst (λ (ns : List Move). are_of_one ns ≡ true) (sym same) (flip_acts_are_same w c).of_one in
    let paired = paired_made layout change (state_aside Unclamped) w like ms is.time h' kept one is.made in
    record {
      time = is.time;
      made = subst (λ ns. AreMade layout w ns (change (world_after_moves w ns)) is.time h') same
          (subst (AreMade layout w ms (change (world_after_moves w ms)) is.time) (act_has_nothing layout h' (unpaired w) c) paired);
      taken_by_none = subst (λ ns. own_segment ns ≡ []) same is.taken_by_none;
      appended = is.appended ∙ ap (λ ns. m.moves ++ ns) same;
      room = is.room;
      some_left = is.some_left;
    }
