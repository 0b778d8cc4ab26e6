-- One more object is kept while the collection traces: each part of the invariant still holds.
use Rattle.std.proofs.Common.{◌≡◌, ◌∙◌, ◌⊎◌, ◌+◌, ◌≤◌, true, false, refl, sym, ap, Option, Some, None, subst, inl, inr, arith}
use Rattle.std.proofs.lemmas.Bool.{false≢true, true≢false, or_left, or_right, or_cases}
use Rattle.std.specs.Prelude.{◌||◌, IsTrue, count_by}
use Rattle.mps_base.specs.Address.{Id}
use Rattle.mps_model.specs.Graph.{contains, ids_of_client, is_automatic}
use Rattle.mps_model.specs.Collection.{Collection, is_settled, is_kept_in_place}
use Rattle.mps_model.specs.World.{World, is_live, live_ids, segment_at, object_is, is_copying_object, is_automatic_kind, pool_is}
use Rattle.mps_model.specs.Effect.{segment_base_of}
use Rattle.mps_model.specs.LegalMove.{ForOne, holds_something}
use Rattle.mps_abstract.specs.Colours.{is_to_scan, keeping, AreColoured, AllReferredLive, AreGreyKept, AreSettled, AreSurvivors, Survives}
use Rattle.mps_abstract.specs.Collecting.{Band, Exact, Final, Weak, Reclaim, is_tracing_band, is_reclaiming_band, Collecting, is_white_in, AreCondemned, AreExamined, IsInBand, AreSwept, units_left, objects_left, Running}
use Rattle.mps_abstract.proofs.Lists.{count_by-le, contains_cases}
use Rattle.mps_abstract.proofs.Addresses.{same_live_ids}
use Rattle.mps_abstract.proofs.Keeping.{it_is_kept, still_kept, white_before, kept_before, black_before, to_scan_before, is_condemned_if_white}
use Rattle.mps_abstract.proofs.Kept.{IsKept}

-- a collection that traces isn't reclaiming
pub not_reclaiming : (b : Band) → is_tracing_band b ≡ true → is_reclaiming_band b ≡ false
not_reclaiming Exact h = refl
not_reclaiming Final h = refl
not_reclaiming Weak h = refl
not_reclaiming Reclaim h = absurd (false≢true h)

pub not_tracing : (b : Band) → is_reclaiming_band b ≡ true → is_tracing_band b ≡ false
not_tracing Exact h = absurd (false≢true h)
not_tracing Final h = absurd (false≢true h)
not_tracing Weak h = refl
not_tracing Reclaim h = refl

-- what is there: it, and that it passes
pub one_that_is : {A : Type 0} (P : A → Type 0) (o : Option A) → ForOne o P → (x : A) × ((o ≡ Some x) × P x)
one_that_is P None h = elim h [ ]
one_that_is P (Some x) h = (x, (refl, h))

module _ (x : Collecting) (run : Running x) (tracing : is_tracing_band x.band ≡ true) (id : Id) (live : is_live x.world id ≡ true)
    (white : is_white_in x id ≡ true) (w' : World) (c' : Collection) (r : IsKept x.world x.running id w' c') where
  -- the collection and the world after that
  abbrev pub after : Collection
  after = record x.running { placed = r.placed }

  abbrev pub now : World
  now = record x.world { addresses = r.addresses; segments = r.segments; tails = r.tails; collection = Some after }

  abbrev pub kept_state : Collecting
  kept_state = record x { world = now; running = after; colours = keeping x.colours id }

  pub was_live : (n : Id) → is_live now n ≡ true → is_live x.world n ≡ true
  was_live n h = sym (r.live n) ∙ h

  pub still_live : (n : Id) → is_live x.world n ≡ true → is_live now n ≡ true
  still_live n h = r.live n ∙ h

  pub black_still : (n : Id) → is_white_in x n ≡ false → is_white_in kept_state n ≡ false
  black_still n h = still_kept x.running.condemned x.colours id n h

  pub referred_live : AllReferredLive now.graph (is_live now)
  referred_live n t h refers = still_live t (run.band.referred_live (not_reclaiming x.band tracing) n t (was_live n h) refers)

  pub condemned : AreCondemned (object_is is_automatic now) (segment_at now) (pool_is is_automatic_kind now) after
  condemned = record {
    objects = run.condemned.objects;
    bases = run.condemned.bases;
    segments = λ base h.
        let s = one_that_is (λ t. IsTrue (pool_is is_automatic_kind x.world t.pool)) (segment_at x.world base)
        (run.condemned.segments base h) in
        subst (λ o. ForOne o (λ t. IsTrue (pool_is is_automatic_kind x.world t.pool))) (sym (r.held base s.0 s.1.0)) s.1.1;
  }

  pub coloured : AreColoured (ids_of_client now.graph) now.graph (is_live now) after.condemned (keeping x.colours id)
  coloured = record {
    held_live = λ n h. still_live n (run.coloured.held_live n h);
    held = λ n h. black_still n (run.coloured.held n h);
    referred_live = λ n t h black refers. referred_live n t h refers;
    referred = λ n t h black grey refers.
        let before = black_before x.running.condemned x.colours id n black grey in
        black_still t (run.coloured.referred n t (was_live n h) before.0 before.1 refers);
  }

  pub grey : AreGreyKept (object_is is_automatic now) (is_live now) after.condemned (keeping x.colours id)
  grey = record {
    grey_live = λ n h. elim (contains_cases id x.colours.grey n h) [
      | inl same ↦ subst (λ m. is_live now m ≡ true) same (still_live id live)
      | inr old ↦ still_live n (run.grey.grey_live n old)
    ];
    grey_automatic = λ n h. elim (contains_cases id x.colours.grey n h) [
      | inl same ↦ subst (λ m. object_is is_automatic x.world m ≡ true) same
          (run.condemned.objects id (is_condemned_if_white x.running.condemned x.colours id white))
      | inr old ↦ run.grey.grey_automatic n old
    ];
    grey_kept = λ n h. elim (contains_cases id x.colours.grey n h) [
      | inl same ↦ subst (λ m. is_white_in kept_state m ≡ false) same (it_is_kept x.running.condemned x.colours id)
      | inr old ↦ black_still n (run.grey.grey_kept n old)
    ];
  }

  pub settled_now : (n : Id) → is_settled after n ≡ true → (n ≡ id) ⊎ (is_settled x.running n ≡ true)
  settled_now n h = elim (or_cases (contains x.running.pinned n) (contains r.placed n || contains x.running.had n) h) [
    | inl pinned ↦ inr (or_left (contains x.running.pinned n) (contains x.running.placed n || contains x.running.had n) pinned)
    | inr rest ↦ elim (or_cases (contains r.placed n) (contains x.running.had n) rest) [
      | inl placed ↦ elim (r.placed_only n placed) [
        | inl same ↦ inl same
        | inr old ↦ inr (or_right (contains x.running.pinned n) (contains x.running.placed n || contains x.running.had n)
            (or_left (contains x.running.placed n) (contains x.running.had n) old))
      ]
      | inr had ↦ inr (or_right (contains x.running.pinned n) (contains x.running.placed n || contains x.running.had n)
          (or_right (contains x.running.placed n) (contains x.running.had n) had))
    ]
  ]

  pub in_place_still : (n : Id) → is_kept_in_place x.running n ≡ true → is_kept_in_place after n ≡ true
  in_place_still n h = elim (or_cases (contains x.running.pinned n) (contains x.running.placed n) h) [
    | inl pinned ↦ or_left (contains x.running.pinned n) (contains r.placed n) pinned
    | inr placed ↦ or_right (contains x.running.pinned n) (contains r.placed n) (r.placed_still n placed)
  ]

  pub settled : AreSettled (is_copying_object now) after (keeping x.colours id)
  settled = record {
    settled = λ n h. elim (settled_now n h) [
      | inl same ↦ subst (λ m. is_white_in kept_state m ≡ false) (sym same) (it_is_kept x.running.condemned x.colours id)
      | inr old ↦ black_still n (run.settled.settled n old)
    ];
    in_place = λ n copying is black. elim (kept_before x.running.condemned x.colours id n black) [
      | inl same ↦ subst (λ m. is_kept_in_place after m ≡ true) same
          (or_right (contains x.running.pinned id) (contains r.placed id)
          (r.in_place (subst (λ m. is_copying_object x.world m ≡ true) (sym same) copying)))
      | inr old ↦ in_place_still n (run.settled.in_place n copying is old)
    ];
  }

  -- where it survives, in a collection that goes on from this one
  pub kept_survive : Survives after id → AreSurvivors now.graph (is_live now) after (keeping x.colours id)
  kept_survive survives = record {
    existing = run.survivors.existing;
    kept = λ n h black. elim (kept_before x.running.condemned x.colours id n black) [
      | inl same ↦ subst (λ m. Survives after m) same survives
      | inr old ↦ run.survivors.kept n (was_live n h) old
    ];
    written = λ n t h refers. run.survivors.written n t (was_live n h) refers;
    outside = λ n t h out refers. run.survivors.outside n t (was_live n h) out refers;
  }

  pub examined : AreExamined now.graph.registered (is_live now) after (keeping x.colours id) x.next
  examined = record {
    live_registered = λ n h. still_live n (run.examined.live_registered n h);
    from = run.examined.from;
    up_to = run.examined.up_to;
    existing = run.examined.existing;
    examined = λ position n h at. black_still n (run.examined.examined position n h at);
  }

  pub band : IsInBand kept_state
  band = record {
    tracing = run.band.tracing;
    splatting = run.band.splatting;
    drained = λ later. absurd (true≢false (sym tracing ∙ later));
    examined = run.band.examined;
    scanned = λ later. absurd (true≢false (sym tracing ∙ not_tracing x.band later));
    referred_live = λ before. referred_live;
    unswept = run.band.unswept;
  }

  pub swept : AreSwept now.addresses (segment_base_of now) (holds_something now) after (keeping x.colours id) x.cursor
  swept = record {
    hold = λ base h below. absurd
        (let first : x.cursor ≡ 0 = run.band.unswept (not_reclaiming x.band tracing) in omega (arith, first, below));
    to_go = λ n at e is.
        let before = white_before x.running.condemned x.colours id n is in
        let there = sym (r.others n before.1) ∙ e in
        let go = run.swept.to_go n at there before.0 in
        let same : segment_base_of now at ≡ segment_base_of x.world at = r.base_of n at there in
        record {
          condemned = ap (contains x.running.condemned_segments) same ∙ go.condemned;
          above = subst (λ base. x.cursor ≤ base) (sym same) go.above;
        };
    in_turn = run.swept.in_turn;
    one_left = run.swept.one_left;
  }

  pub same_live : live_ids now ≡ live_ids x.world
  same_live = same_live_ids x.world now r.live

  pub objects_no_more : objects_left after.condemned (keeping x.colours id) (live_ids now)
      ≤ objects_left x.running.condemned x.colours (live_ids x.world)
  objects_no_more =
      subst (λ ids. count_by (is_to_scan x.running.condemned (keeping x.colours id)) ids
      ≤ count_by (is_to_scan x.running.condemned x.colours) (live_ids x.world)) (sym same_live)
      (count_by-le (is_to_scan x.running.condemned (keeping x.colours id)) (is_to_scan x.running.condemned x.colours) (live_ids x.world)
      (to_scan_before x.running.condemned x.colours id white))

  pub no_more : units_left kept_state ≤ units_left x
  no_more = let fewer = objects_no_more in omega (arith, fewer)

  pub units : after.spent + units_left kept_state ≤ after.units
  units = let fewer = no_more in let before = run.units in omega (arith, fewer, before)

  -- where it survives, the invariant holds
  pub kept_running : Survives after id → Running kept_state
  kept_running survives = record {
    runs = refl;
    different = r.different;
    condemned = condemned;
    coloured = coloured;
    grey = grey;
    settled = settled;
    survivors = kept_survive survives;
    examined = examined;
    band = band;
    swept = swept;
    units = units;
  }

  pub same_state : record x { world = w'; running = c'; colours = keeping x.colours id } ≡ kept_state
  same_state =
      ap (λ (w : World). record x { world = w; running = c'; colours = keeping x.colours id }) r.world
      ∙ ap (λ (c : Collection). record x {
        world = record x.world { addresses = r.addresses; segments = r.segments; tails = r.tails; collection = Some c };
        running = c;
        colours = keeping x.colours id;
      }) r.running
