-- The moves of a scan are those of a unit or of a read barrier.
use Rattle.std.proofs.Common.{◌≡◌, ◌∙◌, Bool, true, false, refl, sym, ap, List, ◌++◌, Some, subst, inl, inr}
use Rattle.std.proofs.lemmas.Bool.{true≢false, and_from, or_left, or_right, or_cases, cases_Bool}
use Rattle.std.specs.Prelude.{◌||◌, not}
use Rattle.std.specs.Option.{option_map_or}
use Rattle.mps_base.specs.Address.{Id}
use Rattle.mps_base.specs.declared.moves.Move.{Move}
use Rattle.mps_model.specs.Graph.{Graph, contains, targets, is_automatic, is_weak_object}
use Rattle.mps_model.specs.Reachable.{goes_on}
use Rattle.mps_model.specs.Collection.{Collection, is_condemned, is_settled, is_kept_in_place}
use Rattle.mps_model.specs.World.{World, id_at, is_live, object_is, is_copying_object}
use Rattle.mps_model.specs.Accessing.{address_or_null}
use Rattle.mps_model.specs.Effect.{world_after_moves}
use Rattle.mps_model.specs.LegalMove.{ForOne, MayBeScanned}
use Rattle.mps_model.specs.Units.{Scans, scans_no_more, moves_target, moves_target_to_segment, makes_target_stay, IsUnitPiece, scans}
use Rattle.mps_abstract.specs.Colours.{Colours, is_grey, AreSurvivors, Survives}
use Rattle.mps_abstract.specs.Collecting.{Collecting, is_tracing_band, is_white_in, Running}
use Rattle.mps_abstract.specs.Fixing.{Keeps, marks, moves_to_place, moves_to_segment, stays, Fixes, fixes_no_more, passes, keeps, kept_by}
use Rattle.mps_abstract.proofs.Lists.{contains_here, contains_later}
use Rattle.mps_abstract.proofs.Addresses.{id_at-live}
use Rattle.mps_abstract.proofs.Joining.{for_some}
use Rattle.mps_abstract.proofs.Further.{IsFurther, no_further, further_still}
use Rattle.mps_abstract.proofs.Scanning.{MayBeFixed, kept_rightly}

-- ---- what survives is closed under references

pub closed : (g : Graph) (live : Id → Bool) (c : Collection) (k : Colours) (id t : Id) → AreSurvivors g live c k → live id ≡ true
    → Survives c id → contains (targets g id) t ≡ true → Survives c t
closed g live c k id t survivors is survives refers = elim (survivors.written id t is refers) [
  | inl before ↦ elim survives [
    | inl out ↦ survivors.outside id t is out before
    | inr may ↦ inr (goes_on may before)
  ]
  | inr now ↦ now
]

-- ---- what isn't white may be scanned

settled_in_place : (c : Collection) (id : Id) → is_kept_in_place c id ≡ true → is_settled c id ≡ true
settled_in_place c id h = elim (or_cases (contains c.pinned id) (contains c.placed id) h) [
  | inl pinned ↦ or_left (contains c.pinned id) (contains c.placed id || contains c.had id) pinned
  | inr placed ↦ or_right (contains c.pinned id) (contains c.placed id || contains c.had id)
      (or_left (contains c.placed id) (contains c.had id) placed)
]

pub may_be_scanned : (x : Collecting) (id : Id) → Running x → is_live x.world id ≡ true → is_white_in x id ≡ false
    → MayBeScanned x.world x.running id
may_be_scanned x id run live black = elim (cases_Bool (is_condemned x.running id)) [
  | inl condemned ↦ elim (cases_Bool (is_copying_object x.world id)) [
    | inl copying ↦ inl (or_right (not (is_condemned x.running id)) (is_settled x.running id)
        (settled_in_place x.running id (run.settled.in_place id copying condemned black)))
    | inr other ↦ elim (run.survivors.kept id live black) [
      | inl out ↦ absurd (true≢false (sym condemned ∙ out))
      | inr may ↦ inr (ap not other, may)
    ]
  ]
  | inr outside ↦ inl (or_left (not (is_condemned x.running id)) (is_settled x.running id) (ap not outside))
]

pub may_be_scanned_here : (x : Collecting) (id : Id) → Running x → is_live x.world id ≡ true → is_white_in x id ≡ false
    → ForOne x.world.collection (λ c. MayBeScanned x.world c id)
may_be_scanned_here x id run live black =
    for_some (λ c. MayBeScanned x.world c id) x.world.collection x.running run.runs (may_be_scanned x id run live black)

-- ---- the moves of a scan

module _ (IsScanned : World → Id → Type 0) (holder : Id) where
  keep_scans : (w : World) (c : Collection) (id : Id) {ms : List Move} {c' : Collection} (those : List Move) → Keeps w c id ms c'
      → id_at w (address_or_null w id) ≡ Some id → IsScanned w holder → contains (targets w.graph holder) id ≡ true
      → Scans IsScanned (world_after_moves w ms) those → Scans IsScanned w (ms ++ those)
  keep_scans w c id those (marks other) there is refers rest = rest
  keep_scans w c id those (moves_to_place copying placed free) there is refers rest =
      moves_target (record {
        holder = holder;
        scanned = is;
        refers =
            ap (λ o. option_map_or (contains (targets w.graph holder)) o false) there ∙ refers;
      }) rest
  keep_scans w c id those (moves_to_segment copying placed unused) there is refers rest =
      moves_target_to_segment
      (record {
        holder = holder;
        scanned = is;
        refers =
            ap (λ o. option_map_or (contains (targets w.graph holder)) o false) there ∙ refers;
      }) rest
  keep_scans w c id those (stays copying room) there is refers rest =
      makes_target_stay (record {
        holder = holder;
        scanned = is;
        refers =
            ap (λ o. option_map_or (contains (targets w.graph holder)) o false) there ∙ refers;
      }) rest

  module _ (begin : Collecting) (each : (z : Collecting) → Running z → IsFurther begin z → IsScanned z.world holder) where
    pub fixes_scans : {x y : Collecting} {ids : List Id} {ms : List Move} → Fixes x ids ms y → Running x → is_tracing_band x.band ≡ true
        → MayBeFixed x ids → IsFurther begin x → ((n : Id) → contains ids n ≡ true → contains (targets begin.world.graph holder) n ≡ true)
        → Scans IsScanned x.world ms
    fixes_scans fixes_no_more run tracing may further refers = scans_no_more
    fixes_scans (passes {id = id} {ids = ids} black rest) run tracing may further refers =
        fixes_scans rest run tracing (λ n h. may n (contains_later id ids n h)) further (λ n h. refers n (contains_later id ids n h))
    fixes_scans {x} (keeps {id = id} {ids} {these} {those} {c} white keep rest) run tracing may further refers =
        let first = may id (contains_here id ids) in
        let y = kept_by x id these c in
        let one = kept_rightly x run tracing id first.0 first.1 white keep in
        keep_scans x.world x.running id those keep (id_at-live x.world id run.different first.0) (each x run further)
        (subst (λ g. contains (targets g holder) id ≡ true) (sym further.graph) (refers id (contains_here id ids)))
        (fixes_scans rest one.running (ap is_tracing_band one.further.band ∙ tracing)
        (λ n h. let still = may n (contains_later id ids n h) in (one.further.live n ∙ still.0, one.further.survives n still.1))
        (further_still begin x y further one.further) (λ n h. refers n (contains_later id ids n h)))

-- a unit that scans an object
pub scan_is_unit : (x : Collecting) (id : Id) {ms : List Move} {y : Collecting} → Running x → is_tracing_band x.band ≡ true
    → is_grey x.colours id ≡ true → object_is is_weak_object x.world id ≡ false → MayBeFixed x (targets x.world.graph id)
    → Fixes x (targets x.world.graph id) ms y → IsUnitPiece x.world ms
scan_is_unit x id run tracing grey strong may fixes = scans id (record {
  live = and_from (is_live x.world id) (object_is is_automatic x.world id) (run.grey.grey_live id grey) (run.grey.grey_automatic id grey);
  not_weak = ap not strong;
  may_be_scanned = may_be_scanned_here x id run (run.grey.grey_live id grey) (run.grey.grey_kept id grey);
}) (fixes_scans (λ now holder. holder ≡ id) id x (λ z r f. refl) fixes run tracing may (no_further x) (λ n h. h))
