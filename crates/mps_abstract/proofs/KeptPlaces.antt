-- What isn't white stays where it is.
use Rattle.std.proofs.Common.{◌≡◌, ◌∙◌, ℕ, true, false, refl, sym, ap, List, ◌++◌, Option, Some, None, subst}
use Rattle.mps_base.specs.Address.{Id, Address}
use Rattle.mps_base.specs.Segment.{Segment}
use Rattle.mps_base.specs.declared.moves.Move.{Move}
use Rattle.mps_model.specs.Graph.{contains}
use Rattle.mps_model.specs.Collection.{Collection}
use Rattle.mps_model.specs.World.{World, address_of, is_live}
use Rattle.mps_model.specs.Effect.{world_after_moves}
use Rattle.mps_model.specs.Units.{is_last_condemned}
use Rattle.mps_model.proofs.Cutting.{world_after_moves-append}
use Rattle.mps_abstract.specs.Colours.{is_white, keeping, AreDifferent}
use Rattle.mps_abstract.specs.Collecting.{Collecting, Running, is_white_in}
use Rattle.mps_abstract.specs.Fixing.{Keeps, Fixes, fixes_no_more, passes, keeps, kept_by}
use Rattle.mps_abstract.specs.Units.{Splats, splats_no_more, splats_cell, IsReclaimedNext, reclaim_by, collecting_after_reclaim, IsUnit, scans, examines, posts, splats, reclaims, IsLastUnit, reclaims_last, GoesOn, begun, by_one_more, Ends, by_last}
use Rattle.mps_abstract.proofs.Lists.{contains_here, contains_later, contains_at}
use Rattle.mps_abstract.proofs.Kept.{IsKept, keeps_leaves}
use Rattle.mps_abstract.proofs.Keeping.{still_kept, differ_by_colour}
use Rattle.mps_abstract.proofs.WholeCollections.WholePaths.{keep_same}
use Rattle.mps_abstract.proofs.UnitScans.{targets_may_be_fixed, strong_is_tracing}
use Rattle.mps_abstract.proofs.Reclaimed.{frees, final_world, final_collection, not_freed}
use Rattle.mps_abstract.proofs.Reclaiming.{goes_on_leads, last_leads}
use Rattle.mps_abstract.proofs.Rows.{units_shown}
use Rattle.mps_abstract.specs.Staying.{StaysInPlace, EndsInPlace, AKeptObjectStays}

pub stays_still : (x : Collecting) → StaysInPlace x x
stays_still x = record { not_white = λ id h. h; in_place = λ id h. refl }

pub stays_on : {x y z : Collecting} → StaysInPlace x y → StaysInPlace y z → StaysInPlace x z
stays_on a b = record {
  not_white = λ id h. b.not_white id (a.not_white id h);
  in_place = λ id h. b.in_place id (a.not_white id h) ∙ a.in_place id h;
}

-- ---- one object is kept

-- what the keeps of a row need of the state
pub record MayKeep (x : Collecting) : Type 0 where
  pub runs : x.world.collection ≡ Some x.running
  pub different : AreDifferent x.world.addresses

pub running_may_keep : (x : Collecting) → Running x → MayKeep x
running_may_keep x run = record { runs = run.runs; different = run.different }

module _ (x : Collecting) (may : MayKeep x) (id : Id) (live : is_live x.world id ≡ true) (ms : List Move) (c : Collection)
    (keep : Keeps x.world x.running id ms c) where
  pub kept : IsKept x.world x.running id (world_after_moves x.world ms) c
  kept = keeps_leaves x.world x.running id may.runs may.different live keep

  pub keep_may : MayKeep (kept_by x id ms c)
  keep_may = record {
    runs = ap (λ (v : World). v.collection) kept.world;
    different = subst (λ (v : World). AreDifferent v.addresses) (sym kept.world) kept.different;
  }

  pub keep_live : (n : Id) → is_live (world_after_moves x.world ms) n ≡ is_live x.world n
  keep_live n = ap (λ (v : World). is_live v n) kept.world ∙ kept.live n

  pub keep_stays : is_white_in x id ≡ true → StaysInPlace x (kept_by x id ms c)
  keep_stays white = record {
    not_white = λ n h. ap (λ ids. is_white ids (keeping x.colours id) n) (keep_same keep).condemned
        ∙ still_kept x.running.condemned x.colours id n h;
    in_place = λ n h. ap (λ (v : World). address_of v n) kept.world
        ∙ kept.others n (differ_by_colour x.running.condemned x.colours id n white h);
  }

-- ---- objects are fixed

pub fixes_stay : {x y : Collecting} {ids : List Id} {ms : List Move} → Fixes x ids ms y → MayKeep x
    → ((n : Id) → contains ids n ≡ true → is_live x.world n ≡ true) → StaysInPlace x y
fixes_stay (fixes_no_more {x}) may live = stays_still x
fixes_stay (passes {id = id} {ids} black rest) may live = fixes_stay rest may (λ n h. live n (contains_later id ids n h))
fixes_stay {x} (keeps {id = id} {ids} {these} {those} {c} white keep rest) may live =
    let there = live id (contains_here id ids) in
    stays_on (keep_stays x may id there these c keep white)
    (fixes_stay rest (keep_may x may id there these c keep)
    (λ n h. keep_live x may id there these c keep n ∙ live n (contains_later id ids n h)))

-- ---- weak references are splatted

pub splats_stay : {holder : Id} {x y : Collecting} {cells : List ℕ} → Splats holder x cells y → StaysInPlace x y
splats_stay {x = x} (splats_no_more done) = stays_still x
splats_stay {holder} {x} (splats_cell {cell = cell} refers white rest) =
    let after = splats_stay rest in
    record { not_white = λ n h. after.not_white n h; in_place = λ n h. after.in_place n h }

-- ---- a segment is reclaimed

module _ (x : Collecting) (run : Running x) (s : Segment) (freed : List Address) (next : IsReclaimedNext x s freed) where
  final_in_place : (n : Id) → is_white_in x n ≡ false → address_of (final_world x run s freed next) n ≡ address_of x.world n
  final_in_place n black = of_now (address_of (final_world x run s freed next) n) (address_of x.world n) refl refl
    where
      of_now : (now before : Option Address) → address_of (final_world x run s freed next) n ≡ now → address_of x.world n ≡ before
          → address_of (final_world x run s freed next) n ≡ address_of x.world n
      of_now (Some at) before e g = e ∙ sym ((frees x run s freed next).fewer n at e)
      of_now None None e g = e ∙ sym g
      of_now None (Some at) e g = (frees x run s freed next).left n at g (not_freed x run s freed next n at black g) ∙ sym g

  pub reclaim_stays : (c : Collection) → is_last_condemned x.running s.base ≡ false
      → (world_after_moves x.world (reclaim_by x s.base freed)).collection ≡ Some c
      → StaysInPlace x (collecting_after_reclaim x s.base freed c)
  reclaim_stays c not_last runs =
      let leads = goes_on_leads x run s freed next not_last in
      let same : final_collection x run s freed next ≡ c =
      Rattle.std.proofs.lemmas.Option.same_Some (final_collection x run s freed next) c
      (sym (ap (λ (v : World). v.collection) leads) ∙ runs) in
      record {
        not_white = λ n h. ap (λ (d : Collection). is_white d.condemned x.colours n) (sym same) ∙ h;
        in_place = λ n h. ap (λ (v : World). address_of v n) leads ∙ final_in_place n h;
      }

  pub last_stays : is_last_condemned x.running s.base ≡ true → EndsInPlace x (world_after_moves x.world (reclaim_by x s.base freed))
  last_stays last n h = ap (λ (v : World). address_of v n) (last_leads x run s freed next last) ∙ final_in_place n h

-- ---- units

pub unit_stays : {x y : Collecting} {ms : List Move} → Running x → IsUnit x ms y → StaysInPlace x y
unit_stays {x} run (scans id {y} {ms} grey strong fixes) =
    let may = targets_may_be_fixed x id run (strong_is_tracing x id run grey strong) grey in
    let after = fixes_stay fixes (running_may_keep x run) (λ n h. (may n h).0) in
    record { not_white = after.not_white; in_place = after.in_place }
unit_stays {x} run (examines id due black) = record { not_white = λ n h. h; in_place = λ n h. refl }
unit_stays {x} run (posts id {ms} {c} due white keep) =
    let live = run.examined.live_registered id (contains_at x.world.graph.registered x.next id due.registered) in
    let after = keep_stays x (running_may_keep x run) id live ms c keep white in
    record { not_white = after.not_white; in_place = after.in_place }
unit_stays {x} run (splats id {y} {cells} drained examined grey done) =
    let after = splats_stay done in
    record { not_white = after.not_white; in_place = after.in_place }
unit_stays {x} run (reclaims {s = s} {freed} {c} next not_last runs) = reclaim_stays x run s freed next c not_last runs

pub units_stay : {x y : Collecting} {count : ℕ} {ms : List Move} → Running x → GoesOn x count ms y → StaysInPlace x y
units_stay {x} run begun = stays_still x
units_stay run (by_one_more row unit) = stays_on (units_stay run row) (unit_stays (units_shown run row).running unit)

last_unit_stays : {x : Collecting} {ms : List Move} → Running x → IsLastUnit x ms → EndsInPlace x (world_after_moves x.world ms)
last_unit_stays {x} run (reclaims_last {s = s} {freed} next last) = last_stays x run s freed next last

pub ends_stay : {x : Collecting} {count : ℕ} {ms : List Move} → Running x → Ends x count ms → EndsInPlace x (world_after_moves x.world ms)
ends_stay {x} run (by_last {y = y} {done = done} {piece} row last) =
    let shown = units_shown run row in
    let before = units_stay run row in
    let leads : world_after_moves x.world (done ++ piece) ≡ world_after_moves y.world piece =
    world_after_moves-append x.world done piece ∙ ap (λ v. world_after_moves v piece) shown.leads in
    λ id h. ap (λ (v : World). address_of v id) leads
    ∙ (last_unit_stays shown.running last id (before.not_white id h) ∙ before.in_place id h)

pub a_kept_object_stays : AKeptObjectStays
a_kept_object_stays = (
  (λ x y ms run unit. unit_stays run unit),
  (λ x y count ms run row. units_stay run row),
  (λ x count ms run ends. ends_stay run ends),
)
