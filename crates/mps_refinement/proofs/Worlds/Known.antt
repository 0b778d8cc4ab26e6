-- What a call may assume of a world, at a time.
use Rattle.mps_model.specs.World.{World, is_live, object_is}
use Rattle.mps_model.specs.WellFormed.{IsWellFormed}
use Rattle.mps_model.specs.History.{HeldAreLive}
use Rattle.mps_laws.proofs.Sound.HeldIds.{AreHeld, of_client}
use Rattle.mps_format.specs.Layout.{Layout}
use Rattle.mps_heap_spec.specs.State.{HeapState}
use Rattle.mps_refinement.specs.StandsFor.{CollectorState, collector_of, StandsFor, IsReached, IsInTime, Runs, Time, rests, runs}
use Rattle.mps_refinement.proofs.Worlds.Reached.{reached_live, reached_well_formed, reached_has_pools}
use Rattle.std.proofs.Common.{◌≡◌, ◌∙◌, ℕ, ◌+◌, Bool, true, false, refl, sym, ap, subst, Option, Some, None, List, [], ◌∷◌, length, zero, suc, ◌≤◌, inl, inr, arith}
use Rattle.std.specs.Prelude.{not, ◌&&◌, slice_get, option_and_then, is_some}
use Rattle.std.specs.Option.{option_map_or}
use Rattle.std.proofs.lemmas.Bool.{false≢true, cases_Bool}
use Rattle.mps_base.specs.Address.{Address, Id}
use Rattle.mps_abstract.specs.Colours.{is_white, is_grey}
use Rattle.mps_abstract.specs.Collecting.{Collecting}
use Rattle.mps_abstract.proofs.Lists.{list_all-members}
use Rattle.mps_model.specs.Graph.{Object, contains, entry_at, ids_of_client, is_automatic}
use Rattle.mps_laws.proofs.Positions.LegalMoves.{HasLayout}
use Rattle.mps_laws.proofs.Sound.PoolsThere.{HasPools}
use Rattle.mps_laws.proofs.Sound.SoundGraph.{IsSoundGraph}
use Rattle.mps_refinement.proofs.Worlds.PlacesByMoves.{places_of}
use Rattle.mps_refinement.proofs.Worlds.PlacedOnce.{ArePlacedOnce, placed_once}
use Rattle.mps_refinement.proofs.Worlds.ReachedGraph.{reached_graph}
use Rattle.mps_refinement.proofs.Worlds.Ready.{laid_out}

-- whether an object isn't white at a time
abbrev pub is_kept_at : Time → Id → Bool
is_kept_at t id = not (is_white t.condemned t.colours id)

-- a number that no object has yet
pub record IsOfNoObject (t : Time) (id : Id) : Type 0 where
  pub not_white : is_white t.condemned t.colours id ≡ false
  pub not_grey : is_grey t.colours id ≡ false
  pub fresh : entry_at t.at_flip id ≡ None

-- the world is well-formed, and what the client holds in it is live, isn't white and is read
pub record IsKnown (t : Time) (w : World) : Type 0 where
  pub formed : IsWellFormed w
  pub live : HeldAreLive w
  -- it is laid out, its graph is sound, its pools exist, and no block is in two places
  pub laid : HasLayout (w.grains + 1) w
  pub graph : IsSoundGraph w
  pub pools : HasPools w
  pub once : ArePlacedOnce (places_of w)
  pub held : AreHeld (is_live w) w.graph
  pub read : AreHeld t.is_read w.graph
  pub kept : AreHeld (is_kept_at t) w.graph
  -- manual blocks are read
  pub manual : (id : Id) → object_is (λ o. not (is_automatic o)) w id ≡ true → t.is_read id ≡ true
  -- an object that is made isn't white or grey, and had no address at the flip
  pub unused : IsOfNoObject t (length w.graph.objects)
  -- no more registrations are left of those made before the flip than there are
  pub before : t.registered_before ≤ length w.graph.registered
  pub collector : CollectorState
  pub now : IsInTime t collector w

held_kept : (t : Time) (s : CollectorState) (w : World) → IsInTime t s w → (id : Id) → contains (ids_of_client w.graph) id ≡ true
    → is_white t.condemned t.colours id ≡ false
held_kept t s w (rests rest) id h = ap (λ (u : Time). is_white u.condemned u.colours id) rest.time
held_kept t s w (runs x r) id h =
    ap (λ cs. is_white cs t.colours id) r.condemned_ids ∙ ap (λ k. is_white x.running.condemned k id) r.colours
    ∙ r.invariant.coloured.held id (ap (λ (v : World). contains (ids_of_client v.graph) id) r.world ∙ h)

-- the words of what isn't white are read
pub read_where_kept : (t : Time) (s : CollectorState) (w : World) (x : Collecting) → Runs t s w x → (id : Id)
    → is_white t.condemned t.colours id ≡ false → t.is_read id ≡ true
read_where_kept t s w x r id kept =
    elim (cases_Bool t.is_reclaiming) [
      | inl reclaiming ↦ ap (λ (f : Id → Bool). f id) (r.reclaiming reclaiming).read ∙ ap not kept
      | inr tracing ↦ ap (λ (f : Id → Bool). f id) (r.tracing tracing).read
    ]

held_read : (t : Time) (s : CollectorState) (w : World) → IsInTime t s w → (id : Id) → contains (ids_of_client w.graph) id ≡ true
    → t.is_read id ≡ true
held_read t s w (rests rest) id h = ap (λ (u : Time). u.is_read id) rest.time
held_read t s w (runs x r) id h =
    read_where_kept t s w x r id (held_kept t s w (runs x r) id h)

-- what isn't automatic isn't condemned
pub not_both : (o : Option Object) → option_map_or is_automatic o false ≡ true → option_map_or (λ x. not (is_automatic x)) o false ≡ true
    → ⊥
not_both None a m = false≢true a
not_both (Some o) a m = of_test (is_automatic o) a m
  where
    of_test : (b : Bool) → b ≡ true → not b ≡ true → ⊥
    of_test true a m = false≢true m
    of_test false a m = false≢true a

manual_read : (t : Time) (s : CollectorState) (w : World) → IsInTime t s w → (id : Id)
    → object_is (λ o. not (is_automatic o)) w id ≡ true → t.is_read id ≡ true
manual_read t s w (rests rest) id h = ap (λ (u : Time). u.is_read id) rest.time
manual_read t s w (runs x r) id h =
    read_where_kept t s w x r id (elim (cases_Bool (contains t.condemned id)) [
      | inl is ↦ absurd (not_both (slice_get w.graph.objects id)
          (ap (λ (v : World). object_is is_automatic v id) (sym r.world)
          ∙ r.invariant.condemned.objects id (ap (λ ids. contains ids id) (sym r.condemned_ids) ∙ is)) h)
      | inr isnt ↦ ap (λ b. b && not (contains t.colours.kept id)) isnt
    ])

none_there : {X : Type 0} (xs : List X) (n : ℕ) → length xs ≤ n → slice_get xs n ≡ None
none_there [] n le = refl
none_there (x ∷ xs) zero le = absurd (omega (arith, le))
none_there (x ∷ xs) (suc n) le = none_there xs n (omega (arith, le))

unused_at : (t : Time) (s : CollectorState) (w : World) → length w.addresses ≡ length w.graph.objects → IsInTime t s w
    → IsOfNoObject t (length w.graph.objects)
unused_at t s w numbered (rests rest) = record {
  not_white = ap (λ (u : Time). is_white u.condemned u.colours (length w.graph.objects)) rest.time;
  not_grey = ap (λ (u : Time). is_grey u.colours (length w.graph.objects)) rest.time;
  fresh = ap (λ (u : Time). entry_at u.at_flip (length w.graph.objects)) rest.time;
}
unused_at t s w numbered (runs x r) = record {
  not_white = elim (cases_Bool (contains t.condemned n)) [
    | inl is ↦ absurd (no_object (ap (λ (v : World). object_is is_automatic v n) (sym r.world)
        ∙ r.invariant.condemned.objects n (ap (λ ids. contains ids n) (sym r.condemned_ids) ∙ is)))
    | inr isnt ↦ ap (λ b. b && not (contains t.colours.kept n)) isnt
  ];
  not_grey = elim (cases_Bool (is_grey t.colours n)) [
    | inl is ↦ absurd (no_address (ap (λ (v : World). is_live v n) (sym r.world)
        ∙ r.invariant.grey.grey_live n (ap (λ k. is_grey k n) (sym r.colours) ∙ is)))
    | inr isnt ↦ isnt
  ];
  fresh = ap (option_and_then (λ entry. entry)) (none_there t.at_flip n r.flip.made);
}
  where
    n : Id
    n = length w.graph.objects

    no_object : object_is is_automatic w n ≡ true → ⊥
    no_object h = false≢true (sym (ap (λ o. option_map_or is_automatic o false) (none_there w.graph.objects n (omega arith))) ∙ h)

    no_address : is_live w n ≡ true → ⊥
    no_address h = false≢true (sym (ap (λ o. is_some (option_and_then (λ (entry : Option Address). entry) o))
        (none_there w.addresses n (omega (arith, numbered)))) ∙ h)

before_there : (t : Time) (s : CollectorState) (w : World) → IsInTime t s w → t.registered_before ≤ length w.graph.registered
before_there t s w (rests rest) = let none = ap (λ (u : Time). u.registered_before) rest.time in omega (arith, none)
before_there t s w (runs x r) =
    subst (λ (v : World). t.registered_before ≤ length v.graph.registered) r.world
    (subst (λ n. n ≤ length x.world.graph.registered) (sym r.registered_before) r.invariant.examined.existing)

-- a world of which this is true is known, whether a history reaches it or it is one in the middle of a step
pub known_of : (t : Time) (s : CollectorState) (w : World) → IsWellFormed w → HeldAreLive w → HasLayout (w.grains + 1) w → IsSoundGraph w
    → HasPools w → ArePlacedOnce (places_of w) → IsInTime t s w → IsKnown t w
known_of t s w formed live laid graph pools once now = record {
  formed = formed;
  live = live;
  laid = laid;
  graph = graph;
  pools = pools;
  once = once;
  held = of_client (is_live w) w.graph live.client;
  read = of_client t.is_read w.graph (list_all-members t.is_read (ids_of_client w.graph) (held_read t s w now));
  manual = manual_read t s w now;
  unused = unused_at t s w formed.addresses now;
  before = before_there t s w now;
  collector = s;
  now = now;
  kept = of_client (is_kept_at t) w.graph
      (list_all-members (is_kept_at t) (ids_of_client w.graph) (λ id h. ap not (held_kept t s w now id h)));
}

pub known : (t : Time) (s : CollectorState) (w : World) → IsReached w → IsInTime t s w → IsKnown t w
known t s w r now =
    known_of t s w (reached_well_formed w r) (reached_live w r) (laid_out w r) (reached_graph w r) (reached_has_pools w r) (placed_once w r)
    now

-- what is known of a world that a heap represents
pub known_now : {F : Type 0} {layout : F → Layout} {h : HeapState F} {w : World} (st : StandsFor layout h w) → IsKnown st.past.time w
known_now {h = h} {w = w} st = known st.past.time (collector_of h) w st.reached st.time
