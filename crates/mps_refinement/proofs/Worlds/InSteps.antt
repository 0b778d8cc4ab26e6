-- What is known of the worlds in the middle of a step: those to which a read barrier, units or the end of a collection lead from one that
-- is like a reached one.
use Rattle.std.proofs.Common.{◌≡◌, ◌∙◌, ◌+◌, true, false, refl, sym, ap, subst, List, [], ◌∷◌, length, Option, Some, None, inl, inr}
use Rattle.std.proofs.lemmas.Bool.{and_from, and_parts, cases_Bool, false≢true, or_right}
use Rattle.std.specs.Prelude.{ℕ, Bool, ◌&&◌, ◌||◌, is_some, nat_le, not, option_map, slice_get}
use Rattle.std.specs.List.{flat_map, list_all}
use Rattle.std.specs.Option.{option_map_or}
use Rattle.mps_base.specs.Address.{Id}
use Rattle.mps_base.specs.Segment.{Segment}
use Rattle.mps_base.specs.declared.moves.Move.{Move}
use Rattle.mps_abstract.specs.Collecting.{Collecting, Running, is_white_in}
use Rattle.mps_abstract.specs.Laws.{AreLastUnitsDone}
use Rattle.mps_abstract.specs.Leaving.{IsButCollected}
use Rattle.mps_abstract.specs.Units.{BarrierDone, Ends, GoesOn, asked}
use Rattle.mps_abstract.proofs.Addresses.{listed_is_live}
use Rattle.mps_abstract.proofs.Barrier.{barrier_is_done}
use Rattle.mps_abstract.proofs.BarrierLeavings.{a_barrier_leaves_the_rest, a_kept_object_stays_at_a_barrier}
use Rattle.mps_abstract.proofs.Keeping.{not_white_outside}
use Rattle.mps_abstract.proofs.KeptPlaces.{ends_stay, units_stay}
use Rattle.mps_abstract.proofs.Leavings.{ends_move, units_move}
use Rattle.mps_abstract.proofs.LeftRightly.{left_rightly}
use Rattle.mps_abstract.proofs.Lists.{contains_here, contains_later, list_all-members}
use Rattle.mps_abstract.proofs.Rows.{last_units_done, still_runs, units_done}
use Rattle.mps_laws.proofs.Caches.{caches_moved}
use Rattle.mps_laws.proofs.Dependents.{moves_paired}
use Rattle.mps_laws.proofs.Epochs.{dated_in_steps}
use Rattle.mps_laws.proofs.Frames.{frames_moved}
use Rattle.mps_laws.proofs.Parked.{none_there}
use Rattle.mps_laws.proofs.Positions.LaidOut.{IsLaidOut}
use Rattle.mps_laws.proofs.Positions.LegalMoves.{HasLayout}
use Rattle.mps_laws.proofs.Replays.ReplayOfMoves.{moves_replayed}
use Rattle.mps_laws.proofs.Replays.Steps.{asking_kept}
use Rattle.mps_laws.proofs.RunningCollection.{running_in_steps}
use Rattle.mps_laws.proofs.SameArena.{moved_alone}
use Rattle.mps_laws.proofs.SegmentPools.{of_pools_in_steps}
use Rattle.mps_laws.proofs.Sound.HeldIds.{all-append}
use Rattle.mps_laws.proofs.Sound.PoolsThere.{HasPools, moves_leave_pools}
use Rattle.mps_laws.proofs.Sound.SoundGraph.{All, IsSoundGraph, auto}
use Rattle.mps_laws.proofs.Sound.SoundHistories.{slots_held}
use Rattle.mps_laws.proofs.Sound.SoundMoves.{moves_well}
use Rattle.mps_laws.proofs.Spending.{SpendsWithin, moves_spend, spends_within}
use Rattle.mps_laws.proofs.ThingsNamed.{names_in_steps}
use Rattle.mps_laws.proofs.WithinLimit.{within_in_steps}
use Rattle.mps_model.specs.declared.call.Call.TheVariants as call
use Rattle.mps_model.specs.Collecting.{with_state}
use Rattle.mps_model.specs.Collection.{Collection, is_condemned}
use Rattle.mps_model.specs.Effect.{world_after_moves}
use Rattle.mps_model.specs.Graph.{contains, ids_in_blocks, ids_of_client, is_automatic, object_at, targets, thing_in}
use Rattle.mps_model.specs.History.{HeldAreLive, asking}
use Rattle.mps_model.specs.LegalMove.{AreLegalMoves}
use Rattle.mps_model.specs.WellFormed.{IsWellFormed, is_live_automatic, is_right_collection}
use Rattle.mps_model.specs.World.{World, Unclamped, address_of, ids_in_pairs, is_live, is_parked, is_running, live_ids, object_is, segment_at}
use Rattle.mps_model.proofs.Reaching.{list_all-contains}
use Rattle.mps_refinement.specs.StandsFor.{CollectorState, IsInTime, Time, rests, runs}
use Rattle.mps_refinement.proofs.Worlds.Known.{IsKnown, known_of, not_both}
use Rattle.mps_refinement.proofs.Worlds.LikeReached.{IsLikeReached, formed_in_steps}
use Rattle.mps_refinement.proofs.Worlds.PlacedOnce.{ArePlacedOnce}
use Rattle.mps_refinement.proofs.Worlds.PlacesByMoves.{moved_kept, places_of}

-- ---- an arena in which a collection runs isn't parked

pub running_unparked : (w : World) → IsWellFormed w → is_running w ≡ true → is_parked w ≡ false
running_unparked w formed running =
    of_bools (is_parked w) (ap (λ b. not (is_parked w && b)) (sym running) ∙ formed.parked)
  where
    of_bools : (b : Bool) → not (b && true) ≡ true → b ≡ false
    of_bools true e = absurd (false≢true e)
    of_bools false e = refl

-- a world that isn't parked is well-formed if it is so in an unclamped arena
formed_again : (w : World) → is_parked w ≡ false → IsWellFormed (with_state w Unclamped) → IsWellFormed w
formed_again w unparked f = record {
  segments = f.segments;
  limit = f.limit;
  pools = f.pools;
  addresses = f.addresses;
  apart = f.apart;
  objects = f.objects;
  places = f.places;
  points = f.points;
  tails = f.tails;
  slots = f.slots;
  words = f.words;
  blocks = f.blocks;
  registered = f.registered;
  messages = f.messages;
  names = f.names;
  labels = f.labels;
  dependents = f.dependents;
  parked = ap (λ b. not (b && is_running w)) unparked;
  running = f.running;
  transforms = ap (list_all (is_live_automatic w)) (none_there w.state unparked);
  caches = f.caches;
  frames = f.frames;
  dependencies = f.dependencies;
}

-- no more units were asked of a collection that a heap has than it may take
spends_in_time : (t : Time) (s : CollectorState) (w : World) → IsInTime t s w → SpendsWithin w
spends_in_time t s w (rests r) = ap (λ o. option_map_or (λ (c : Collection). nat_le c.spent c.units) o true) r.none
spends_in_time t s w (runs x r) = subst SpendsWithin r.world (spends_within x.world (left_rightly x r.invariant).units_are_left)

-- a collection of which this many units more are asked
abbrev asked_more : (count : ℕ) → Collection → Collection
asked_more count c = record c { spent = c.spent + count }

-- what a running collection names is there still once units are asked of it
right_asked : (w : World) (count : ℕ) (o : Option Collection) → option_map_or (is_right_collection w) o true ≡ true
    → option_map_or (λ (c : Collection). nat_le c.spent c.units) (option_map (asked_more count) o) true ≡ true
    → option_map_or (is_right_collection (asking (Some count) w)) (option_map (asked_more count) o) true ≡ true
right_asked w count None h spends = refl
right_asked w count (Some c) h spends =
    let automatic = list_all (object_is is_automatic w) c.condemned in
    let held = list_all (λ base. is_some (segment_at w base)) c.condemned_segments in
    let examined = nat_le c.examined c.registered_before in
    let registered = nat_le c.registered_before (length w.graph.registered) in
    let before = nat_le c.spent c.units in
    let after = nat_le (c.spent + count) c.units in
    let first = and_parts automatic (held && (examined && (registered && before))) h in
    let second = and_parts held (examined && (registered && before)) first.1 in
    let third = and_parts examined (registered && before) second.1 in
    and_from automatic (held && (examined && (registered && after))) first.0
    (and_from held (examined && (registered && after)) second.0
    (and_from examined (registered && after) third.0
    (and_from registered after (and_parts registered before third.1).0 spends)))

-- ---- manual blocks

-- they are never condemned
pub manual_not_white : (x : Collecting) → Running x → (id : Id) → object_is (λ o. not (is_automatic o)) x.world id ≡ true
    → is_white_in x id ≡ false
manual_not_white x run id manual =
    not_white_outside x.running.condemned x.colours id (elim (cases_Bool (is_condemned x.running id)) [
      | inl is ↦ absurd (not_both (object_at x.world.graph id) (run.condemned.objects id is) manual)
      | inr isnt ↦ isnt
    ])

-- ---- what is held is live

-- while a collection runs
pub live_while_running : (y : Collecting) → Running y → list_all (is_live y.world) (ids_in_blocks y.world.graph) ≡ true
    → HeldAreLive y.world
live_while_running y run blocks = record {
  client = (left_rightly y run).held_live;
  blocks = blocks;
  referred = ap (λ o. is_some o || list_all (is_live y.world) (flat_map (targets y.world.graph) (live_ids y.world))) run.runs;
  transforms = ap (λ o. is_some o || list_all (is_live y.world) (ids_in_pairs y.world.state)) run.runs;
}

pub all_flat : (p : ℕ → Bool) (next : ℕ → List ℕ) (xs : List ℕ) → ((x : ℕ) → contains xs x ≡ true → list_all p (next x) ≡ true)
    → list_all p (flat_map next xs) ≡ true
all_flat p next [] each = refl
all_flat p next (x ∷ xs) each =
    all-append p (next x) (flat_map next xs) (each x (contains_here x xs))
    (all_flat p next xs (λ y h. each y (contains_later x xs y h)))

-- and where it has ended
pub live_at_the_end : (x : Collecting) (count : ℕ) (ms : List Move) → AreLastUnitsDone x count ms
    → is_parked (world_after_moves x.world ms) ≡ false
    → list_all (is_live (world_after_moves x.world ms)) (ids_in_blocks (world_after_moves x.world ms).graph) ≡ true
    → HeldAreLive (world_after_moves x.world ms)
live_at_the_end x count ms last unparked blocks =
    let v = world_after_moves x.world ms in
    record {
      client = list_all-members (is_live v) (ids_of_client v.graph) last.held_live;
      blocks = blocks;
      referred = or_right (is_running v) (list_all (is_live v) (flat_map (targets v.graph) (live_ids v)))
          (all_flat (is_live v) (targets v.graph) (live_ids v) (λ id listed.
          list_all-members (is_live v) (targets v.graph id) (λ target refers.
          last.referred_live id target (listed_is_live v id listed) refers)));
      transforms = or_right (is_running v) (list_all (is_live v) (ids_in_pairs v.state))
          (ap (list_all (is_live v)) (none_there v.state unparked));
    }

-- ---- the world after legal moves

module _ (w : World) (like : IsLikeReached w) (ms : List Move) (legal : AreLegalMoves w None ms) where
  abbrev after : World
  after = world_after_moves w ms

  pub laid_by_moves : HasLayout (after.grains + 1) after
  laid_by_moves =
      subst (λ (n : ℕ). HasLayout (n + 1) after) (sym (moved_alone w call.Park ms).grains)
      (moves_replayed (w.grains + 1) w None ms 0 like.kept.layout legal).layout

  graph_by_moves : IsSoundGraph after
  graph_by_moves = (moves_well w None ms like.kept.sound legal).sound

  pools_by_moves : HasPools after
  pools_by_moves = (moves_leave_pools w ms).there like.pools

  once_by_moves : ArePlacedOnce (places_of after)
  once_by_moves = subst ArePlacedOnce (sym (moved_kept w call.Park ms)) like.once

  -- in an arena that isn't parked then, where all that is held is live
  module _ (unparked : is_parked after ≡ false) (live : HeldAreLive after) where
    formed_by_moves : IsWellFormed after
    formed_by_moves =
        formed_again after unparked
        (formed_in_steps w ms like legal laid_by_moves live.client)

    pub known_by_moves : (now : Time) (s : CollectorState) → IsInTime now s after → IsKnown now after
    known_by_moves now s time =
        known_of now s after formed_by_moves live laid_by_moves graph_by_moves pools_by_moves once_by_moves time

    -- it is like a reached one too
    pub like_by_moves : IsLikeReached after
    like_by_moves =
        let k = like.kept in
        let alone = moved_alone w call.Park ms in
        record {
          kept = record {
            layout = laid_by_moves;
            within = within_in_steps (w.grains + 1) w ms k.layout k.pools legal k.within;
            pools = pools_by_moves;
            of_pools = of_pools_in_steps (w.grains + 1) w ms k.layout k.pools legal k.of_pools;
            blocks = live.blocks;
            slots = slots_held after live;
            held = live;
            sound = graph_by_moves;
            names = names_in_steps w ms k.names;
            named = λ number label e. ap (λ ns. thing_in ns label) alone.names
                ∙ k.named number label (sym (ap (λ ls. slice_get ls number) alone.labels) ∙ e);
            paired = moves_paired w ms k.paired;
            cached = caches_moved w after alone.shapes alone.pools alone.caches k.cached;
            framed = frames_moved w after alone.shapes alone.pools alone.blocks alone.frames k.framed;
            dated = dated_in_steps w ms k.dated;
            rests = λ parked. absurd (false≢true (sym unparked ∙ parked));
            runs = running_in_steps w None ms legal k.runs;
            spends = moves_spend w ms k.spends;
            pairs = subst (All (auto after)) (sym (none_there after.state unparked)) refl;
          };
          formed = formed_by_moves;
          pools = pools_by_moves;
          once = once_by_moves;
        }

  -- also once units are asked of its collection
  pub known_asked_by_moves : (count : ℕ) → is_parked after ≡ false → HeldAreLive (asking (Some count) after) → (now : Time)
      (s : CollectorState) → IsInTime now s (asking (Some count) after) → IsKnown now (asking (Some count) after)
  known_asked_by_moves count unparked live now s time =
      let u = asking (Some count) after in
      let f = formed_again after unparked (formed_in_steps w ms like legal laid_by_moves live.client) in
      let g = graph_by_moves in
      known_of now s u (record {
        segments = f.segments;
        limit = f.limit;
        pools = f.pools;
        addresses = f.addresses;
        apart = f.apart;
        objects = f.objects;
        places = f.places;
        points = f.points;
        tails = f.tails;
        slots = f.slots;
        words = f.words;
        blocks = f.blocks;
        registered = f.registered;
        messages = f.messages;
        names = f.names;
        labels = f.labels;
        dependents = f.dependents;
        parked = ap (λ b. not (b && is_running u)) unparked;
        running = right_asked after count after.collection f.running (spends_in_time now s u time);
        transforms = f.transforms;
        caches = f.caches;
        frames = f.frames;
        dependencies = f.dependencies;
      }) live (subst (IsLaidOut (after.grains + 1)) (sym (asking_kept (Some count) after)) laid_by_moves) (record {
        objects = g.objects;
        reservations = g.reservations;
        points = g.points;
        slots = g.slots;
        words = g.words;
        blocks = g.blocks;
        registered = g.registered;
        messages = g.messages;
      }) pools_by_moves once_by_moves time

-- ---- the world after a collector's moves

module _ (x : Collecting) (run : Running x) (like : IsLikeReached x.world) (ms : List Move) (legal : AreLegalMoves x.world None ms)
    (left : IsButCollected x.world (world_after_moves x.world ms))
    (in_place : (id : Id) → is_white_in x id ≡ false → address_of (world_after_moves x.world ms) id ≡ address_of x.world id) where
  abbrev w : World
  w = x.world

  abbrev v : World
  v = world_after_moves w ms

  formed_before : IsWellFormed w
  formed_before = like.formed

  pub unparked : is_parked v ≡ false
  unparked = ap is_parked left.world ∙ running_unparked w formed_before (still_runs w x.running run.runs)

  -- manual blocks stay live
  pub blocks_live : list_all (is_live v) (ids_in_blocks v.graph) ≡ true
  blocks_live =
      ap (λ (u : World). list_all (is_live v) (ids_in_blocks u.graph)) left.world
      ∙ list_all-members (is_live v) (ids_in_blocks w.graph) (λ id there.
      ap is_some (in_place id (manual_not_white x run id
      (list_all-contains (object_is (λ o. not (is_automatic o)) w) (ids_in_blocks w.graph) id formed_before.blocks there)))
      ∙ list_all-contains (is_live w) (ids_in_blocks w.graph) id like.kept.held.blocks there)

  module _ (live : HeldAreLive v) where
    pub known_then : (now : Time) (s : CollectorState) → IsInTime now s v → IsKnown now v
    known_then now s time = known_by_moves w like ms legal unparked live now s time

-- ---- after a barrier

pub known_after_barrier : (now : Time) (s : CollectorState) (t : Segment) (x y : Collecting) (ms : List Move) → IsLikeReached x.world
    → Running x
    → BarrierDone t x ms y → IsInTime now s y.world → IsKnown now y.world
known_after_barrier now s t x y ms like run barrier time =
    let done = barrier_is_done t x y ms run barrier in
    let left = subst (IsButCollected x.world) (sym done.leads) (a_barrier_leaves_the_rest t x y ms run barrier) in
    let stays = (a_kept_object_stays_at_a_barrier t x y ms run barrier).in_place in
    let in_place = λ (id : Id) (black : is_white_in x id ≡ false). ap (λ (u : World). address_of u id) done.leads ∙ stays id black in
    let blocks = blocks_live x run like ms done.legal left in_place in
    let live =
    live_while_running y done.running
    (subst (λ (u : World). list_all (is_live u) (ids_in_blocks u.graph) ≡ true) done.leads blocks)
    in
    subst (IsKnown now) done.leads
    (known_then x run like ms done.legal left in_place (subst HeldAreLive (sym done.leads) live) now s
    (subst (IsInTime now s) (sym done.leads) time))

-- ---- after units

module _ (x y : Collecting) (count : ℕ) (ms : List Move) (like : IsLikeReached x.world) (run : Running x)
    (units : GoesOn x count ms y) where
  leads : world_after_moves x.world ms ≡ y.world
  leads = (units_done x y count ms run units).leads

  left_then : IsButCollected x.world (world_after_moves x.world ms)
  left_then = subst (IsButCollected x.world) (sym leads) (units_move run units)

  stays_then : (id : Id) → is_white_in x id ≡ false → address_of (world_after_moves x.world ms) id ≡ address_of x.world id
  stays_then id black = ap (λ (u : World). address_of u id) leads ∙ (units_stay run units).in_place id black

  pub blocks_after_units : list_all (is_live y.world) (ids_in_blocks y.world.graph) ≡ true
  blocks_after_units =
      subst (λ (u : World). list_all (is_live u) (ids_in_blocks u.graph) ≡ true) leads
      (blocks_live x run like ms (units_done x y count ms run units).legal left_then stays_then)

  -- units that a call asks for
  pub known_after_asked_units : (now : Time) (s : CollectorState) → IsInTime now s (asked y count).world → IsKnown now (asked y count).world
  known_after_asked_units now s time =
      let done = units_done x y count ms run units in
      subst (λ u. IsKnown now (asking (Some count) u)) leads
      (known_asked_by_moves x.world like ms done.legal count (unparked x run like ms done.legal left_then stays_then)
      (subst (λ u. HeldAreLive (asking (Some count) u)) (sym leads)
      (live_while_running (asked y count) done.asked_running blocks_after_units)) now s
      (subst (λ u. IsInTime now s (asking (Some count) u)) (sym leads) time))

-- ---- where the collection has ended

pub live_after_last_units : (x : Collecting) (count : ℕ) (ms : List Move) → IsLikeReached x.world → Running x → Ends x count ms
    → HeldAreLive (world_after_moves x.world ms)
live_after_last_units x count ms like run ends =
    let last = last_units_done x count ms run ends in
    let left = (ends_move run ends).but_collected in
    let in_place = ends_stay run ends in
    live_at_the_end x count ms last (unparked x run like ms last.legal left in_place) (blocks_live x run like ms last.legal left in_place)

pub known_after_last_units : (now : Time) (s : CollectorState) (x : Collecting) (count : ℕ) (ms : List Move)
    → IsLikeReached x.world → Running x → Ends x count ms → IsInTime now s (world_after_moves x.world ms)
    → IsKnown now (world_after_moves x.world ms)
known_after_last_units now s x count ms like run ends time =
    let last = last_units_done x count ms run ends in
    let left = (ends_move run ends).but_collected in
    let in_place = ends_stay run ends in
    known_then x run like ms last.legal left in_place (live_after_last_units x count ms like run ends) now s time
