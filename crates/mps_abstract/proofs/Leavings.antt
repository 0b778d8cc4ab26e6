-- What units leave of the world.
use Rattle.std.proofs.Common.{◌≡◌, ◌∙◌, ℕ, true, refl, sym, ap, List, ◌++◌, Some, None, subst}
use Rattle.std.specs.Prelude.{option_map}
use Rattle.mps_base.specs.Address.{Id}
use Rattle.mps_base.specs.declared.moves.Move.{Move}
use Rattle.mps_model.specs.Collection.{Collection}
use Rattle.mps_model.specs.Graph.{contains, without_first, with_last}
use Rattle.mps_model.specs.World.{World, is_live}
use Rattle.mps_model.specs.Effect.{world_after_moves, after_post, objects_splatted, splatting}
use Rattle.mps_model.proofs.Cutting.{world_after_moves-append}
use Rattle.mps_abstract.specs.Collecting.{Collecting, Running}
use Rattle.mps_abstract.specs.Fixing.{Keeps, Fixes, fixes_no_more, passes, keeps}
use Rattle.mps_abstract.specs.Leaving.{IsButCollected, EndsCollected, UnitsLeaveTheRest}
use Rattle.mps_abstract.specs.Units.{Splats, splats_no_more, splats_cell, IsUnit, scans, examines, posts, splats, reclaims, IsLastUnit, reclaims_last, GoesOn, begun, by_one_more, Ends, by_last}
use Rattle.mps_abstract.proofs.Lists.{contains_here, contains_later, contains_at}
use Rattle.mps_abstract.proofs.UnitScans.{targets_may_be_fixed, strong_is_tracing}
use Rattle.mps_abstract.proofs.Reclaimed.{frees, cleared, final_collection}
use Rattle.mps_abstract.proofs.Reclaiming.{goes_on_leads, last_leads}
use Rattle.mps_abstract.proofs.Rows.{units_shown}
use Rattle.mps_abstract.proofs.KeptPlaces.{MayKeep, running_may_keep, kept, keep_may, keep_live}

-- ---- worlds that differ so

pub same_world : (w : World) → IsButCollected w w
same_world w = record {
  objects = w.graph.objects;
  registered = w.graph.registered;
  messages = w.graph.messages;
  dependents = w.graph.dependents;
  addresses = w.addresses;
  segments = w.segments;
  tails = w.tails;
  collection = w.collection;
  unpaired = λ none. none;
  world = refl;
}

pub moved_on : {u v w : World} → IsButCollected u v → IsButCollected v w → IsButCollected u w
moved_on a b = record {
  objects = b.objects;
  registered = b.registered;
  messages = b.messages;
  dependents = b.dependents;
  addresses = b.addresses;
  segments = b.segments;
  tails = b.tails;
  collection = b.collection;
  unpaired = λ none. b.unpaired (ap (λ (t : World). t.graph.dependents) a.world ∙ a.unpaired none);
  world = b.world ∙ ap (λ (t : World). record t {
    graph = record t.graph { objects = b.objects; registered = b.registered; messages = b.messages; dependents = b.dependents };
    addresses = b.addresses;
    segments = b.segments;
    tails = b.tails;
    collection = b.collection;
  }) a.world;
}

-- one object is kept
one_kept : (x : Collecting) (may : MayKeep x) (id : Id) (live : is_live x.world id ≡ true) (ms : List Move) (c : Collection)
    → Keeps x.world x.running id ms c → IsButCollected x.world (world_after_moves x.world ms)
one_kept x may id live ms c keep =
    let one = kept x may id live ms c keep in
    record {
      objects = x.world.graph.objects;
      registered = x.world.graph.registered;
      messages = x.world.graph.messages;
      dependents = x.world.graph.dependents;
      addresses = one.addresses;
      segments = one.segments;
      tails = one.tails;
      collection = Some c;
      unpaired = λ none. none;
      world = one.world;
    }

pub fixes_move : {x y : Collecting} {ids : List Id} {ms : List Move} → Fixes x ids ms y → MayKeep x
    → ((n : Id) → contains ids n ≡ true → is_live x.world n ≡ true) → IsButCollected x.world y.world
fixes_move (fixes_no_more {x}) may live = same_world x.world
fixes_move (passes {id = id} {ids} black rest) may live = fixes_move rest may (λ n h. live n (contains_later id ids n h))
fixes_move {x} (keeps {id = id} {ids} {these} {those} {c} white keep rest) may live =
    let there = live id (contains_here id ids) in
    moved_on (one_kept x may id there these c keep)
    (fixes_move rest (keep_may x may id there these c keep)
    (λ n h. keep_live x may id there these c keep n ∙ live n (contains_later id ids n h)))

pub splats_move : {holder : Id} {x y : Collecting} {cells : List ℕ} → Splats holder x cells y → IsButCollected x.world y.world
splats_move {x = x} (splats_no_more done) = same_world x.world
splats_move {holder} {x} (splats_cell {cell = cell} refers white rest) =
    moved_on (record {
      objects = objects_splatted x.world.graph holder cell;
      registered = x.world.graph.registered;
      messages = x.world.graph.messages;
      dependents = x.world.graph.dependents;
      addresses = x.world.addresses;
      segments = x.world.segments;
      tails = x.world.tails;
      collection = option_map splatting x.world.collection;
      unpaired = λ none. none;
      world = refl;
    }) (splats_move rest)

-- it becomes a message
post_moves : (w : World) (id : ℕ) → IsButCollected w (after_post w id)
post_moves w id = record {
  objects = w.graph.objects;
  registered = without_first w.graph.registered id;
  messages = with_last w.graph.messages id;
  dependents = w.graph.dependents;
  addresses = w.addresses;
  segments = w.segments;
  tails = w.tails;
  collection = (after_post w id).collection;
  unpaired = λ none. none;
  world = refl;
}

pub unit_moves : {x y : Collecting} {ms : List Move} → Running x → IsUnit x ms y → IsButCollected x.world y.world
unit_moves {x} run (scans id {y} {ms} grey strong fixes) =
    let may = targets_may_be_fixed x id run (strong_is_tracing x id run grey strong) grey in
    fixes_move fixes (running_may_keep x run) (λ n h. (may n h).0)
unit_moves {x} run (examines id due black) = same_world x.world
unit_moves {x} run (posts id {ms} {c} due white keep) =
    let live = run.examined.live_registered id (contains_at x.world.graph.registered x.next id due.registered) in
    moved_on (one_kept x (running_may_keep x run) id live ms c keep) (post_moves (world_after_moves x.world ms) id)
unit_moves {x} run (splats id {y} {cells} drained examined grey done) = splats_move done
unit_moves {x} run (reclaims {s = s} {freed} {c} next not_last runs) = record {
  objects = x.world.graph.objects;
  registered = x.world.graph.registered;
  messages = x.world.graph.messages;
  dependents = (frees x run s freed next).dependents;
  addresses = (frees x run s freed next).addresses;
  segments = (cleared x run s freed next).segments;
  tails = x.world.tails;
  collection = Some (final_collection x run s freed next);
  unpaired = (frees x run s freed next).unpaired;
  world = goes_on_leads x run s freed next not_last;
}

pub units_move : {x y : Collecting} {count : ℕ} {ms : List Move} → Running x → GoesOn x count ms y → IsButCollected x.world y.world
units_move {x} run begun = same_world x.world
units_move run (by_one_more row unit) = moved_on (units_move run row) (unit_moves (units_shown run row).running unit)

last_unit_moves : {x : Collecting} {ms : List Move} → Running x → IsLastUnit x ms → EndsCollected x.world (world_after_moves x.world ms)
last_unit_moves {x} run (reclaims_last {s = s} {freed} next last) = record {
  but_collected = record {
    objects = x.world.graph.objects;
    registered = x.world.graph.registered;
    messages = x.world.graph.messages;
    dependents = (frees x run s freed next).dependents;
    addresses = (frees x run s freed next).addresses;
    segments = (cleared x run s freed next).segments;
    tails = x.world.tails;
    collection = None;
    unpaired = (frees x run s freed next).unpaired;
    world = last_leads x run s freed next last;
  };
  ended = ap (λ (v : World). v.collection) (last_leads x run s freed next last);
}

pub ends_move : {x : Collecting} {count : ℕ} {ms : List Move} → Running x → Ends x count ms
    → EndsCollected x.world (world_after_moves x.world ms)
ends_move {x} run (by_last {y = y} {done = done} {piece} row last) =
    let shown = units_shown run row in
    let leads : world_after_moves x.world (done ++ piece) ≡ world_after_moves y.world piece =
    world_after_moves-append x.world done piece ∙ ap (λ v. world_after_moves v piece) shown.leads in
    let at_end = last_unit_moves shown.running last in
    subst (λ v. EndsCollected x.world v) (sym leads) (record {
      but_collected = moved_on (units_move run row) at_end.but_collected;
      ended = at_end.ended;
    })

pub units_leave_the_rest : UnitsLeaveTheRest
units_leave_the_rest = ((λ x y count ms run row. units_move run row), (λ x count ms run ends. ends_move run ends))
