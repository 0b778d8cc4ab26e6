-- What a call of the client may change while a collection runs, and that the invariant still holds.
use Rattle.std.proofs.Common.{◌≡◌, ◌∙◌, ◌⊎◌, ℕ, suc, ◌+◌, ◌<◌, ◌≤◌, Bool, true, false, cond, refl, sym, ap, List, [], ◌∷◌, length, Option, Some, None, subst, inl, inr, arith}
use Rattle.std.proofs.lemmas.Bool.{false≢true, true≢false, or_cases, cases_Bool}
use Rattle.std.proofs.lemmas.List.Sums.{sum_by-cons}
use Rattle.std.specs.Prelude.{is_some, IsTrue, count_by, slice_get}
use Rattle.std.specs.Option.{option_map_or}
use Rattle.mps_base.specs.Address.{Id, Address}
use Rattle.mps_base.specs.Segment.{Segment}
use Rattle.mps_model.specs.Graph.{Graph, Object, contains, entry_at, targets, targets_of, object_at, ids_of_client, is_automatic, is_weak_object}
use Rattle.mps_model.specs.Collection.{is_condemned}
use Rattle.mps_model.specs.World.{World, is_live, live_ids, numbers_of, segment_at, object_is, is_copying_object, is_automatic_kind, pool_is}
use Rattle.mps_model.specs.Effect.{segment_base_of}
use Rattle.mps_model.specs.LegalMove.{ForOne, holds_something}
use Rattle.mps_abstract.specs.Colours.{is_grey, is_to_scan, Survives, AreDifferent}
use Rattle.mps_abstract.specs.Collecting.{Collecting, Running, is_white_in, objects_left}
use Rattle.mps_abstract.proofs.Lists.{index_below}
use Rattle.mps_abstract.proofs.Keeping.{is_condemned_if_white}
use Rattle.mps_abstract.proofs.KeptRunning.{one_that_is}
use Rattle.mps_abstract.proofs.Joining.{for_some}

-- how an object is used: by the client, a reference or a registration, or as one to be scanned
pub data IsUsed (x : Collecting) (id : Id) : Type 0 where
  held_by_client : contains (ids_of_client x.world.graph) id ≡ true → IsUsed x id
  referred_to : (from : Id) → contains (targets x.world.graph from) id ≡ true → IsUsed x id
  is_registered : contains x.world.graph.registered id ≡ true → IsUsed x id
  is_to_be_scanned : is_grey x.colours id ≡ true → IsUsed x id

-- the world after a change
pub record IsChange (x : Collecting) (w : World) : Type 0 where
  pub runs : w.collection ≡ Some x.running
  pub different : AreDifferent w.addresses
  -- what there is stays what it is
  pub existing : length x.world.graph.objects ≤ length w.graph.objects
  pub automatic : (id : Id) → object_is is_automatic x.world id ≡ true → object_is is_automatic w id ≡ true
  pub weak : (id : Id) → object_is is_weak_object x.world id ≡ true → object_is is_weak_object w id ≡ true
  pub copying : (id : Id) → is_condemned x.running id ≡ true → is_copying_object w id ≡ true → is_copying_object x.world id ≡ true
  pub automatic_pools : (pool : ℕ) → pool_is is_automatic_kind x.world pool ≡ true → pool_is is_automatic_kind w pool ≡ true
  -- what is used stays live, and what lives was live or was made
  pub live_still : (id : Id) → is_live x.world id ≡ true → IsUsed x id → is_live w id ≡ true
  pub live_before : (id : Id) → is_live w id ≡ true → (is_live x.world id ≡ true) ⊎ (length x.world.graph.objects ≤ id)
  -- objects refer to what they referred to, or to what the client held
  pub referred : (id target : Id) → is_live w id ≡ true → contains (targets w.graph id) target ≡ true
      → ((is_live x.world id ≡ true) × (contains (targets x.world.graph id) target ≡ true))
      ⊎ (contains (ids_of_client x.world.graph) target ≡ true)
  -- the client holds what it held, or what lives and isn't white
  pub held : (id : Id) → contains (ids_of_client w.graph) id ≡ true
      → (contains (ids_of_client x.world.graph) id ≡ true) ⊎ ((is_live w id ≡ true) × (is_white_in x id ≡ false))
  pub registered : w.graph.registered ≡ x.world.graph.registered
  -- condemned objects lie where they lay, in the segments in which they lay, and these hold what they held
  pub addresses : (id : Id) (at : Address) → is_condemned x.running id ≡ true → entry_at w.addresses id ≡ Some at
      → entry_at x.world.addresses id ≡ Some at
  pub segments : (base : Address) (s : Segment) → contains x.running.condemned_segments base ≡ true → segment_at x.world base ≡ Some s
      → segment_at w base ≡ Some s
  pub base_of : (id : Id) (at : Address) → is_condemned x.running id ≡ true → entry_at x.world.addresses id ≡ Some at
      → contains x.running.condemned_segments (segment_base_of x.world at) ≡ true → segment_base_of w at ≡ segment_base_of x.world at
  pub holds : (base : Address) → contains x.running.condemned_segments base ≡ true → holds_something x.world base ≡ true
      → holds_something w base ≡ true

-- ---- small facts

-- an object that passes a test is there
pub there_is : (test : Object → Bool) (objects : List Object) (id : Id) → option_map_or test (slice_get objects id) false ≡ true
    → id < length objects
there_is test objects id h = of_option (slice_get objects id) refl h
  where
    of_option : (o : Option Object) → slice_get objects id ≡ o → option_map_or test o false ≡ true → id < length objects
    of_option None e h = absurd (false≢true h)
    of_option (Some o) e h = index_below objects id o e

-- an object that isn't there refers to nothing
refers_is_there : (g : Graph) (id target : Id) → contains (targets g id) target ≡ true → id < length g.objects
refers_is_there g id target h = of_option (object_at g id) refl h
  where
    of_option : (o : Option Object) → object_at g id ≡ o → contains (option_map_or targets_of o []) target ≡ true → id < length g.objects
    of_option None e h = absurd (false≢true h)
    of_option (Some o) e h = index_below g.objects id o e

-- ---- counting what there is

count_first : (p : ℕ → Bool) (n : ℕ) (ns : List ℕ) → count_by p (n ∷ ns) ≡ cond (p n) 1 0 + count_by p ns
count_first p n ns = sum_by-cons (λ m. cond (p m) 1 0) n ns

-- where one passes that is among these entries, it is among those
abbrev AreThere : (ℕ → Bool) → (first : ℕ) → (these those : List (Option Address)) → Type 0
AreThere p first these those = (n : ℕ) → is_some (entry_at these n) ≡ true → p (first + n) ≡ true → is_some (entry_at those n) ≡ true

later : (p : ℕ → Bool) (first : ℕ) (x y : Option Address) (xs ys : List (Option Address)) → AreThere p first (x ∷ xs) (y ∷ ys)
    → AreThere p (first + 1) xs ys
later p first x y xs ys sub n h e = sub (suc n) h (ap p (let same : first + suc n ≡ first + 1 + n = omega arith in same) ∙ e)

later_none : (p : ℕ → Bool) (first : ℕ) (x : Option Address) (xs : List (Option Address)) → AreThere p first (x ∷ xs) []
    → AreThere p (first + 1) xs []
later_none p first x xs sub n h e = sub (suc n) h (ap p (let same : first + suc n ≡ first + 1 + n = omega arith in same) ∙ e)

fails_first : (p : ℕ → Bool) (first : ℕ) (at : Address) (xs ys : List (Option Address)) → AreThere p first (Some at ∷ xs) ys
    → is_some (entry_at ys 0) ≡ false → p first ≡ false
fails_first p first at xs ys sub none = elim (cases_Bool (p first)) [
  | inl is ↦ absurd (true≢false (sym (sub 0 refl (ap p (let same : first + 0 ≡ first = omega arith in same) ∙ is)) ∙ none))
  | inr isnt ↦ isnt
]

one_fewer : (p : ℕ → Bool) (first : ℕ) (ns : List ℕ) (most : ℕ) → p first ≡ false → count_by p ns ≤ most → count_by p (first ∷ ns) ≤ most
one_fewer p first ns most fails rest = let e = count_first p first ns ∙ ap (λ b. cond b 1 0 + count_by p ns) fails in omega (arith, e, rest)

one_more : (p : ℕ → Bool) (first : ℕ) (ns : List ℕ) (count : ℕ) → count ≤ count_by p ns → count ≤ count_by p (first ∷ ns)
one_more p first ns count rest = let e = count_first p first ns in omega (arith, e, rest)

one_each : (p : ℕ → Bool) (first : ℕ) (ns ms : List ℕ) → count_by p ns ≤ count_by p ms → count_by p (first ∷ ns) ≤ count_by p (first ∷ ms)
one_each p first ns ms rest = let e = count_first p first ns in let f = count_first p first ms in omega (arith, e, f, rest)

-- where each that passes was there, no more pass
pub count_there : (p : ℕ → Bool) (first : ℕ) (xs ys : List (Option Address)) → AreThere p first xs ys
    → count_by p (numbers_of is_some first xs) ≤ count_by p (numbers_of is_some first ys)
count_there p first [] ys sub = omega arith
count_there p first (None ∷ xs) [] sub = count_there p (first + 1) xs [] (later_none p first None xs sub)
count_there p first (Some at ∷ xs) [] sub =
    one_fewer p first (numbers_of is_some (first + 1) xs) 0 (fails_first p first at xs [] sub refl)
    (count_there p (first + 1) xs [] (later_none p first (Some at) xs sub))
count_there p first (None ∷ xs) (None ∷ ys) sub = count_there p (first + 1) xs ys (later p first None None xs ys sub)
count_there p first (None ∷ xs) (Some other ∷ ys) sub =
    one_more p first (numbers_of is_some (first + 1) ys) (count_by p (numbers_of is_some (first + 1) xs))
    (count_there p (first + 1) xs ys (later p first None (Some other) xs ys sub))
count_there p first (Some at ∷ xs) (None ∷ ys) sub =
    one_fewer p first (numbers_of is_some (first + 1) xs) (count_by p (numbers_of is_some (first + 1) ys))
    (fails_first p first at xs (None ∷ ys) sub refl) (count_there p (first + 1) xs ys (later p first (Some at) None xs ys sub))
count_there p first (Some at ∷ xs) (Some other ∷ ys) sub =
    one_each p first (numbers_of is_some (first + 1) xs) (numbers_of is_some (first + 1) ys)
    (count_there p (first + 1) xs ys (later p first (Some at) (Some other) xs ys sub))

-- ---- the invariant after a change

module _ (x : Collecting) (run : Running x) (w : World) (change : IsChange x w) where
  abbrev y : Collecting
  y = record x { world = w }

  -- what was made isn't condemned, isn't grey and wasn't there at the flip
  new_not_condemned : (id : Id) → length x.world.graph.objects ≤ id → is_condemned x.running id ≡ false
  new_not_condemned id new = elim (cases_Bool (is_condemned x.running id)) [
    | inl is ↦ absurd (let h = there_is is_automatic x.world.graph.objects id (run.condemned.objects id is) in omega (arith, new, h))
    | inr isnt ↦ isnt
  ]

  new_not_grey : (id : Id) → length x.world.graph.objects ≤ id → is_grey x.colours id ≡ false
  new_not_grey id new = elim (cases_Bool (is_grey x.colours id)) [
    | inl is ↦ absurd (let h = there_is is_automatic x.world.graph.objects id (run.grey.grey_automatic id is) in omega (arith, new, h))
    | inr isnt ↦ isnt
  ]

  not_referring_then : (id target : Id) → length x.world.graph.objects ≤ id → contains (targets x.running.graph_at_flip id) target ≡ true
      → ⊥
  not_referring_then id target new h =
      let there = refers_is_there x.running.graph_at_flip id target h in
      let still : length x.running.graph_at_flip.objects ≤ length x.world.graph.objects = run.survivors.existing in
      omega (arith, there, still, new)

  -- what the client held is live still, isn't white and survives
  held_live : (id : Id) → contains (ids_of_client x.world.graph) id ≡ true → is_live w id ≡ true
  held_live id h = change.live_still id (run.coloured.held_live id h) (held_by_client h)

  held_survives : (id : Id) → contains (ids_of_client x.world.graph) id ≡ true → Survives x.running id
  held_survives id h = run.survivors.kept id (run.coloured.held_live id h) (run.coloured.held id h)

  condemned_held : (base : Address) → contains x.running.condemned_segments base ≡ true
      → ForOne (segment_at w base) (λ s. IsTrue (pool_is is_automatic_kind w s.pool))
  condemned_held base h =
      let s = one_that_is (λ t. IsTrue (pool_is is_automatic_kind x.world t.pool)) (segment_at x.world base)
      (run.condemned.segments base h) in
      for_some (λ (t : Segment). IsTrue (pool_is is_automatic_kind w t.pool)) (segment_at w base) s.0 (change.segments base s.0 h s.1.0)
      (change.automatic_pools s.0.pool s.1.1)

  to_scan_was_live : (id : Id) → is_live w id ≡ true → is_to_scan x.running.condemned x.colours id ≡ true → is_live x.world id ≡ true
  to_scan_was_live id h scan = elim (change.live_before id h) [
    | inl before ↦ before
    | inr new ↦ elim (or_cases (is_white_in x id) (is_grey x.colours id) scan) [
      | inl white ↦ absurd (true≢false (sym (is_condemned_if_white x.running.condemned x.colours id white) ∙ new_not_condemned id new))
      | inr grey ↦ absurd (true≢false (sym grey ∙ new_not_grey id new))
    ]
  ]

  objects_no_more : objects_left x.running.condemned x.colours (live_ids w) ≤ objects_left x.running.condemned x.colours (live_ids x.world)
  objects_no_more = count_there (is_to_scan x.running.condemned x.colours) 0 w.addresses x.world.addresses
      (λ n h scan. to_scan_was_live n h (ap (is_to_scan x.running.condemned x.colours) (let same : n ≡ 0 + n = omega arith in same) ∙ scan))

  referred_live : (id target : Id) → is_live w id ≡ true → is_white_in x id ≡ false → contains (targets w.graph id) target ≡ true
      → is_live w target ≡ true
  referred_live id target h black refers = elim (change.referred id target h refers) [
    | inl before ↦ change.live_still target (run.coloured.referred_live id target before.0 black before.1) (referred_to id before.1)
    | inr held ↦ held_live target held
  ]

  pub change_keeps : Running (record x { world = w })
  change_keeps = record {
    runs = change.runs;
    different = change.different;
    condemned = record {
      objects = λ id h. change.automatic id (run.condemned.objects id h);
      bases = run.condemned.bases;
      segments = condemned_held;
    };
    coloured = record {
      held_live = λ id h. elim (change.held id h) [ inl before ↦ held_live id before | inr new ↦ new.0 ];
      held = λ id h. elim (change.held id h) [ inl before ↦ run.coloured.held id before | inr new ↦ new.1 ];
      referred_live = referred_live;
      referred = λ id target h black grey refers. elim (change.referred id target h refers) [
        | inl before ↦ run.coloured.referred id target before.0 black grey before.1
        | inr held ↦ run.coloured.held target held
      ];
    };
    grey = record {
      grey_live = λ id h. change.live_still id (run.grey.grey_live id h) (is_to_be_scanned h);
      grey_automatic = λ id h. change.automatic id (run.grey.grey_automatic id h);
      grey_kept = run.grey.grey_kept;
    };
    settled = record {
      settled = run.settled.settled;
      in_place = λ id copying is black. run.settled.in_place id (change.copying id is copying) is black;
    };
    survivors = record {
      existing = let before : length x.running.graph_at_flip.objects ≤ length x.world.graph.objects = run.survivors.existing in
          let more = change.existing in omega (arith, before, more);
      kept = λ id h black. elim (change.live_before id h) [
        | inl before ↦ run.survivors.kept id before black
        | inr new ↦ inl (new_not_condemned id new)
      ];
      written = λ id target h refers. elim (change.referred id target h refers) [
        | inl before ↦ run.survivors.written id target before.0 before.1
        | inr held ↦ inr (held_survives target held)
      ];
      outside = λ id target h out refers. elim (change.live_before id h) [
        | inl before ↦ run.survivors.outside id target before out refers
        | inr new ↦ absurd (not_referring_then id target new refers)
      ];
    };
    examined = record {
      live_registered = λ id h.
          let before = ap (λ ids. contains ids id) (sym change.registered) ∙ h in
          change.live_still id (run.examined.live_registered id before) (is_registered before);
      from = run.examined.from;
      up_to = run.examined.up_to;
      existing = subst (λ (ids : List Id). x.running.registered_before ≤ length ids) (sym change.registered) run.examined.existing;
      examined = λ position id there part.
          run.examined.examined position id (ap (λ ids. slice_get ids position) (sym change.registered) ∙ there) part;
    };
    band = record {
      tracing = run.band.tracing;
      splatting = run.band.splatting;
      drained = λ h id grey. change.weak id (run.band.drained h id grey);
      examined = run.band.examined;
      scanned = run.band.scanned;
      referred_live = λ before id target h refers. elim (change.referred id target h refers) [
        | inl was ↦ change.live_still target (run.band.referred_live before id target was.0 was.1) (referred_to id was.1)
        | inr held ↦ held_live target held
      ];
      unswept = run.band.unswept;
    };
    swept = record {
      hold = λ base h below. change.holds base h (run.swept.hold base h below);
      to_go = λ id at e white.
          let is = is_condemned_if_white x.running.condemned x.colours id white in
          let there = change.addresses id at is e in
          let go = run.swept.to_go id at there white in
          let same = change.base_of id at is there go.condemned in
          record {
            condemned = ap (contains x.running.condemned_segments) same ∙ go.condemned;
            above = subst (λ base. x.cursor ≤ base) (sym same) go.above;
          };
      in_turn = run.swept.in_turn;
      one_left = run.swept.one_left;
    };
    units = let fewer = objects_no_more in let before = run.units in omega (arith, fewer, before);
  }
