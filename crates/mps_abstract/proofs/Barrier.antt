-- The read barrier: the objects in the segment that is read are scanned, until none of them is grey.
use Rattle.std.proofs.Common.{◌≡◌, ◌∙◌, ℕ, ◌≤◌, Bool, true, false, refl, sym, ap, List, [], ◌∷◌, ◌++◌, Option, Some, None, subst, inl, inr, arith}
use Rattle.std.proofs.lemmas.Bool.{false≢true, true≢false, and_parts, and_from, cases_Bool}
use Rattle.std.specs.Prelude.{◌&&◌, is_some}
use Rattle.std.specs.List.{list_all}
use Rattle.std.specs.Option.{option_map_or}
use Rattle.mps_base.specs.Address.{Id, Address}
use Rattle.mps_base.specs.Segment.{Segment, is_in_segment}
use Rattle.mps_base.specs.declared.moves.Move.{Move}
use Rattle.mps_model.specs.Graph.{is_automatic, for_object}
use Rattle.mps_model.specs.World.{World, address_of, is_live, is_live_and, object_is}
use Rattle.mps_model.specs.Accessing.{address_or_null}
use Rattle.mps_model.specs.Effect.{world_after_moves}
use Rattle.mps_model.specs.Flip.{at_address}
use Rattle.mps_model.specs.Units.{Scans, scans_no_more, moves_target, moves_target_to_segment, makes_target_stay, IsScannedByBarrier, splats_in, splats_of}
use Rattle.mps_model.proofs.Cutting.{world_after_moves-append}
use Rattle.mps_abstract.specs.Colours.{is_grey}
use Rattle.mps_abstract.specs.Collecting.{Collecting, is_tracing_band, is_white_in, units_left, Running}
use Rattle.mps_abstract.specs.Units.{splats_by, collecting_after_scan, is_grey_in, BarrierDone, barrier_done, barrier_scans, barrier_splats}
use Rattle.mps_abstract.specs.Laws.{IsBarrierDone}
use Rattle.mps_abstract.proofs.Addresses.{id_at-live}
use Rattle.mps_abstract.proofs.Joining.{AreLegalAnywhere, no_moves_legal, legal_append, legal_alone}
use Rattle.mps_abstract.proofs.Further.{IsFurther, no_further}
use Rattle.mps_abstract.proofs.Scanning.{scanned_running, scanned_left}
use Rattle.mps_abstract.proofs.UnitScans.{scanned_rightly, targets_may_be_fixed}
use Rattle.mps_abstract.proofs.Pieces.{may_be_scanned_here, fixes_scans}
use Rattle.mps_abstract.proofs.Splatting.{are_splatted, grey_before_last}

-- scans, one after the other
pub scans_append : {IsScanned : World → Id → Type 0} {w : World} {these : List Move} → Scans IsScanned w these → (those : List Move)
    → Scans IsScanned (world_after_moves w these) those → Scans IsScanned w (these ++ those)
scans_append scans_no_more those more = more
scans_append (moves_target target rest) those more = moves_target target (scans_append rest those more)
scans_append (moves_target_to_segment target rest) those more = moves_target_to_segment target (scans_append rest those more)
scans_append (makes_target_stay target rest) those more = makes_target_stay target (scans_append rest those more)

list_all-append : (p : Move → Bool) (xs ys : List Move) → list_all p xs ≡ true → list_all p ys ≡ true → list_all p (xs ++ ys) ≡ true
list_all-append p [] ys all more = more
list_all-append p (x ∷ xs) ys all more =
    let parts = and_parts (p x) (list_all p xs) all in
    and_from (p x) (list_all p (xs ++ ys)) parts.0 (list_all-append p xs ys parts.1 more)

all_in : (s : Segment) (a : Address) (cells : List ℕ) → is_in_segment s a ≡ true
    → list_all (splats_in s) (splats_of (at_address a) cells) ≡ true
all_in s a [] h = refl
all_in s a (cell ∷ cells) h = and_from (is_in_segment s a) (list_all (splats_in s) (splats_of (at_address a) cells)) h (all_in s a cells h)

in_segment_at : (test : Address → Bool) (w : World) (id : Id) → is_live_and test w id ≡ true → test (address_or_null w id) ≡ true
in_segment_at test w id h = of_address (address_of w id) h
  where
    of_address : (o : Option ℕ) → option_map_or test o false ≡ true → test (option_map_or (λ at. at) o 0) ≡ true
    of_address None g = absurd (false≢true g)
    of_address (Some at) g = g

pub live_in : (test : Address → Bool) (w : World) (id : Id) → is_live_and test w id ≡ true → is_live w id ≡ true
live_in test w id h = of_address (address_of w id) h
  where
    of_address : (o : Option ℕ) → option_map_or test o false ≡ true → is_some o ≡ true
    of_address None g = absurd (false≢true g)
    of_address (Some at) g = refl

-- the objects that a barrier scans, as the model has them
module _ (s : Segment) (x : Collecting) (run : Running x) (id : Id) (inside : is_live_and (is_in_segment s) x.world id ≡ true)
    (black : is_white_in x id ≡ false) (automatic : object_is is_automatic x.world id ≡ true) where
  pub is_scanned_by : (z : Collecting) → Running z → IsFurther x z → IsScannedByBarrier s z.world id
  is_scanned_by z running further = record {
    in_segment = and_from (is_live_and (is_in_segment s) z.world id) (object_is is_automatic z.world id)
        (ap (λ o. option_map_or (is_in_segment s) o false) (further.in_place id black) ∙ inside)
        (ap (λ g. for_object g id is_automatic false) further.graph ∙ automatic);
    may_be_scanned = may_be_scanned_here z id running (further.live id ∙ live_in (is_in_segment s) x.world id inside)
        (further.not_white id black);
  }

-- ---- what is shown of a barrier

pub record IsBarrierShown (s : Segment) (x : Collecting) (ms : List Move) (y : Collecting) : Type 0 where
  pub running : Running y
  pub leads : world_after_moves x.world ms ≡ y.world
  pub legal : AreLegalAnywhere x.world ms
  pub scans : is_tracing_band x.band ≡ true → Scans (IsScannedByBarrier s) x.world ms
  pub splats : is_tracing_band x.band ≡ false → list_all (splats_in s) ms ≡ true
  pub no_more : units_left y ≤ units_left x
  pub none_grey : (id : Id) → is_grey_in s y id ≡ false

-- these moves, and then those of the rest
barrier_goes_on : (s : Segment) (x y z : Collecting) (these those : List Move) → world_after_moves x.world these ≡ y.world
    → AreLegalAnywhere x.world these → y.band ≡ x.band → units_left y ≤ units_left x
    → (is_tracing_band x.band ≡ true → Scans (IsScannedByBarrier s) x.world these)
    → (is_tracing_band x.band ≡ false → list_all (splats_in s) these ≡ true)
    → IsBarrierShown s y those z → IsBarrierShown s x (these ++ those) z
barrier_goes_on s x y z these those leads legal band left scans splats rest = record {
  running = rest.running;
  leads = world_after_moves-append x.world these those ∙ ap (λ v. world_after_moves v those) leads ∙ rest.leads;
  legal = legal_append x.world these those legal (subst (λ v. AreLegalAnywhere v those) (sym leads) rest.legal);
  scans = λ tracing. scans_append (scans tracing) those
      (subst (λ v. Scans (IsScannedByBarrier s) v those) (sym leads) (rest.scans (ap is_tracing_band band ∙ tracing)));
  splats = λ later. list_all-append (splats_in s) these those (splats later) (rest.splats (ap is_tracing_band band ∙ later));
  no_more = let more = rest.no_more in omega (arith, more, left);
  none_grey = rest.none_grey;
}

pub barrier_shown : (s : Segment) {x y : Collecting} {ms : List Move} → BarrierDone s x ms y → Running x → IsBarrierShown s x ms y
barrier_shown s (barrier_done {x} none) run = record {
  running = run;
  leads = refl;
  legal = no_moves_legal x.world;
  scans = λ tracing. scans_no_more;
  splats = λ later. refl;
  no_more = omega arith;
  none_grey = none;
}
barrier_shown s (barrier_scans id {x} {y} {z} {these} {those} tracing grey fixes rest) run =
    let parts = and_parts (is_live_and (is_in_segment s) x.world id) (is_grey x.colours id) grey in
    let done = scanned_rightly x y id these run tracing parts.1 fixes in
    let left = done.fewer in
    barrier_goes_on s x (collecting_after_scan y id) z these those done.fixed.leads done.fixed.legal done.fixed.further.band
    (omega (arith, left))
    (λ t. fixes_scans (IsScannedByBarrier s) id x
    (is_scanned_by s x run id parts.0 (run.grey.grey_kept id parts.1) (run.grey.grey_automatic id parts.1)) fixes run tracing
    (targets_may_be_fixed x id run tracing parts.1) (no_further x) (λ n h. h))
    (λ later. absurd (true≢false (sym tracing ∙ later)))
    (barrier_shown s rest done.running)
barrier_shown s (barrier_splats id {x} {y} {z} {cells} {those} later grey done rest) run =
    let parts = and_parts (is_live_and (is_in_segment s) x.world id) (is_grey x.colours id) grey in
    let a = address_or_null x.world id in
    let live = run.grey.grey_live id parts.1 in
    let splatted = are_splatted done run later (grey_before_last x id run parts.1) parts.1 a (id_at-live x.world id run.different live) in
    let left = scanned_left y splatted.running id splatted.kept in
    let same = splatted.left in
    barrier_goes_on s x (collecting_after_scan y id) z (splats_by x id cells) those splatted.leads splatted.legal splatted.band
    (omega (arith, left, same))
    (λ tracing. absurd (true≢false (sym tracing ∙ later)))
    (λ h. all_in s a cells (in_segment_at (is_in_segment s) x.world id parts.0))
    (barrier_shown s rest (scanned_running y splatted.running id splatted.kept))

pub barrier_is_done : (s : Segment) (x y : Collecting) (ms : List Move) → Running x → BarrierDone s x ms y → IsBarrierDone s x ms y
barrier_is_done s x y ms run done =
    let b = barrier_shown s done run in
    record {
      running = b.running;
      leads = b.leads;
      legal = legal_alone x.world None ms b.legal;
      is_barrier = elim (cases_Bool (is_tracing_band x.band)) [ inl tracing ↦ inl (b.scans tracing) | inr later ↦ inr (b.splats later) ];
      no_more = b.no_more;
      readable = λ id target inside black refers.
          b.running.coloured.referred id target (live_in (is_in_segment s) y.world id inside) black
          (not_grey y id inside (b.none_grey id)) refers;
    }
  where
    not_grey : (y : Collecting) (id : Id) → is_live_and (is_in_segment s) y.world id ≡ true → is_grey_in s y id ≡ false
        → is_grey y.colours id ≡ false
    not_grey y id inside none = sym (ap (λ b. b && is_grey y.colours id) inside) ∙ none
