-- Each unit of a whole collection keeps what is known of it.
use Rattle.std.proofs.Common.{◌≡◌, ◌∙◌, ℕ, suc, ◌+◌, ◌<◌, Bool, true, false, refl, sym, ap, List, [], ◌∷◌, ◌++◌, length, Some, None, subst, inl, inr, arith, append_assoc}
use Rattle.std.proofs.lemmas.Bool.{false≢true, true≢false, eq-eqb, cases_Bool, or_parts}
use Rattle.std.proofs.lemmas.List.Folds.{list_any-append}
use Rattle.std.proofs.lemmas.Option.{none-some, same_Some}
use Rattle.std.specs.Prelude.{◌||◌, ◌==◌, if◌then◌else◌, slice_get}
use Rattle.mps_base.specs.Address.{Id, Address}
use Rattle.mps_base.specs.Segment.{Segment}
use Rattle.mps_base.specs.declared.moves.Move.{Move}
use Rattle.mps_model.specs.Graph.{Graph, contains, without_first, targets, strong_targets, is_weak_object, ids_of_client}
use Rattle.mps_model.specs.Reachable.{begins}
use Rattle.mps_model.specs.Collection.{Collection}
use Rattle.mps_model.specs.World.{World, is_live, object_is, ids_of_area_words}
use Rattle.mps_model.specs.Effect.{world_after_moves}
use Rattle.mps_model.specs.Posts.{IsWidelyReachableWith, ArePostsExact}
use Rattle.mps_model.specs.Units.{is_last_condemned}
use Rattle.mps_abstract.specs.Colours.{is_white, is_grey, keeping}
use Rattle.mps_abstract.specs.Collecting.{Final, Weak, Collecting, IsDrainedIn, Running, is_tracing_band, is_white_in}
use Rattle.mps_abstract.specs.Fixing.{Keeps, Fixes, kept_by}
use Rattle.mps_abstract.specs.Units.{collecting_after_scan, collecting_after_splat, Splats, splats_no_more, splats_cell, IsExaminedNext, collecting_after_post, IsReclaimedNext, reclaim_by, collecting_after_reclaim, IsUnit, scans, examines, posts, splats, reclaims, GoesOn, begun, by_one_more}
use Rattle.mps_abstract.specs.WholeLaws.{AreInTurn, IsWholeSoFar}
use Rattle.mps_abstract.proofs.Lists.{contains_here, contains_later, contains_cases, contains_right, contains_at}
use Rattle.mps_abstract.proofs.Kept.{keeps_leaves}
use Rattle.mps_abstract.proofs.Keeping.{it_is_kept, still_kept, grey_still}
use Rattle.mps_abstract.proofs.Registrations.{contains-without_first}
use Rattle.mps_abstract.proofs.UnitScans.{scanned_rightly, strong_is_tracing}
use Rattle.mps_abstract.proofs.Reclaiming.{goes_on_leads}
use Rattle.mps_abstract.proofs.Reclaimed.{final_collection, black_left, live_before}
use Rattle.mps_abstract.proofs.Rows.{units_shown}
use Rattle.mps_abstract.proofs.WholeCollections.WholePaths.{root_cases, led_to_kept, reached_more, fixed_kept, fixed_grey, fixed_same, keep_same, target_reached, white_unreached, kept_reached}

-- ---- lists

at_end : (xs ys : List ℕ) (y : ℕ) → slice_get (xs ++ (y ∷ ys)) (length xs) ≡ Some y
at_end [] ys y = refl
at_end (x ∷ xs) ys y = at_end xs ys y

none_at_end : (xs : List ℕ) → slice_get (xs ++ []) (length xs) ≡ None
none_at_end [] = refl
none_at_end (x ∷ xs) = none_at_end xs

without_after : (xs ys : List ℕ) (y : ℕ) → contains xs y ≡ false → without_first (xs ++ (y ∷ ys)) y ≡ xs ++ ys
without_after [] ys y h = ap (λ b. if b then ys else y ∷ without_first ys y) (eq-eqb y y refl)
without_after (x ∷ xs) ys y h =
    let parts = or_parts (x == y) (contains xs y) h in
    ap (λ b. if b then xs ++ (y ∷ ys) else x ∷ without_first (xs ++ (y ∷ ys)) y) parts.0 ∙ ap (λ zs. x ∷ zs) (without_after xs ys y parts.1)

-- where something among the first ones stands
stands_among : (xs ys : List ℕ) (n : ℕ) → contains xs n ≡ true → (i : ℕ) × (i < length xs) × (slice_get (xs ++ ys) i ≡ Some n)
stands_among [] ys n h = absurd (false≢true h)
stands_among (x ∷ xs) ys n h = elim (contains_cases x xs n h) [
  | inl same ↦ (0, omega arith, ap Some same)
  | inr later ↦ let rest = stands_among xs ys n later in (suc rest.0, (let less = rest.1 in omega (arith, less)), rest.2)
]

length_one_more : (xs : List ℕ) (y : ℕ) → length (xs ++ y ∷ []) ≡ length xs + 1
length_one_more [] y = refl
length_one_more (x ∷ xs) y = ap suc (length_one_more xs y) ∙ (let e : suc (length xs + 1) ≡ suc (length xs) + 1 = omega arith in e)

one_more_same : (these those : List ℕ) (p n : ℕ) → contains these n ≡ contains those n
    → contains (p ∷ these) n ≡ contains (those ++ p ∷ []) n
one_more_same these those p n same =
    ap (λ b. (p == n) || b) same ∙ (turn (p == n) (contains those n) ∙ sym (list_any-append (λ m. m == n) those (p ∷ [])))
  where
    turn : (a b : Bool) → (a || b) ≡ (b || (a || false))
    turn true true = refl
    turn true false = refl
    turn false true = refl
    turn false false = refl

module _ (flipped : World) where
  -- ---- a scan

  pub scan_whole : (x y : Collecting) (id : Id) (ms : List Move) → Running x → IsWholeSoFar flipped x → is_grey x.colours id ≡ true
      → object_is is_weak_object x.world id ≡ false → Fixes x (targets x.world.graph id) ms y
      → IsWholeSoFar flipped (collecting_after_scan y id)
  scan_whole x y id ms run p grey strong fixes =
      let s = scanned_rightly x y id ms run (strong_is_tracing x id run grey strong) grey fixes in
      let f = s.fixed.further in
      let same = fixed_same fixes in
      record {
        posted = p.posted;
        posts = p.posts;
        same = p.same;
        messages = ap (λ (g : Graph). g.messages) f.graph ∙ p.messages;
        passed = p.passed;
        remaining = p.remaining;
        in_turn = record {
          cut = ap (λ (g : Graph). g.registered) f.graph ∙ p.in_turn.cut;
          next = f.next ∙ p.in_turn.next;
          before = same.registered_before ∙ p.in_turn.before;
          condemned = λ n h. ap (λ ids. contains ids n) same.condemned
              ∙ p.in_turn.condemned n (subst (λ (g : Graph). contains g.registered n ≡ true) f.graph h);
        };
        so_far = p.so_far;
        alike = λ tracing n. ap (λ (g : Graph). strong_targets g n) f.graph ∙ p.alike (strong_is_tracing x id run grey strong) n;
        led = λ later. absurd (true≢false (sym (ap is_tracing_band f.band ∙ strong_is_tracing x id run grey strong) ∙ later));
        reached = record {
          kept = λ n h. elim (fixed_kept fixes n h) [
            | inl old ↦ p.reached.kept n old
            | inr target ↦
                target_reached flipped p.posted x id (p.alike (strong_is_tracing x id run grey strong)) p.reached grey strong n target
          ];
          grey = λ n h. fixed_grey fixes p.reached.grey n (grey_still x.running.condemned y.colours id n h);
        };
        roots = record {
          live = λ n h. f.live n ∙ p.roots.live n h;
          kept = λ n h. f.not_white n (p.roots.kept n h);
        };
        condemned = λ n h. ap (λ ids. contains ids n) same.condemned ∙ p.condemned n h;
      }

  -- ---- an examination

  -- the registration that is examined next is the first of those that remain
  record IsFirst (x : Collecting) (p : IsWholeSoFar flipped x) (id : Id) : Type 0 where
    rest : List Id
    in_turn : AreInTurn x p.passed (id ∷ rest)
    so_far : (later : List Id) → ArePostsExact flipped p.posted (id ∷ rest) later
        → ArePostsExact flipped [] flipped.graph.registered (p.posts ++ later)

  first_remains : (x : Collecting) (p : IsWholeSoFar flipped x) (id : Id) → slice_get x.world.graph.registered x.next ≡ Some id
      → IsFirst x p id
  first_remains x p id h = of_rest p.remaining p.in_turn p.so_far
    where
      of_rest : (remaining : List Id) → AreInTurn x p.passed remaining
          → ((later : List Id) → ArePostsExact flipped p.posted remaining later
          → ArePostsExact flipped [] flipped.graph.registered (p.posts ++ later))
          → IsFirst x p id
      of_rest [] t so = absurd (none-some id (sym (none_at_end p.passed) ∙ (ap (λ n. slice_get (p.passed ++ []) n) (sym t.next)
          ∙ (ap (λ ids. slice_get ids x.next) (sym t.cut) ∙ h))))
      of_rest (m ∷ rest) t so =
          let same : m ≡ id = same_Some m id (sym (at_end p.passed rest m) ∙ (ap (λ n. slice_get (p.passed ++ (m ∷ rest)) n) (sym t.next)
          ∙ (ap (λ ids. slice_get ids x.next) (sym t.cut) ∙ h))) in
          record {
            rest = rest;
            in_turn = subst (λ k. AreInTurn x p.passed (k ∷ rest)) same t;
            so_far = subst (λ k. (later : List Id) → ArePostsExact flipped p.posted (k ∷ rest) later
                → ArePostsExact flipped [] flipped.graph.registered (p.posts ++ later)) same so;
          }

  -- a registration is examined before any reference is splatted
  due_is_tracing : (x : Collecting) (id : Id) → Running x → IsExaminedNext x id → is_tracing_band x.band ≡ true
  due_is_tracing x id run due = elim (cases_Bool (is_tracing_band x.band)) [
    | inl tracing ↦ tracing
    | inr later ↦ let all = run.band.examined later in let below = due.before_flip in absurd (omega (arith, all, below))
  ]

  pub examined_whole : (x : Collecting) (id : Id) → Running x → IsWholeSoFar flipped x → IsExaminedNext x id → is_white_in x id ≡ false
      → IsWholeSoFar flipped (record x { band = Final; next = suc x.next })
  examined_whole x id run p due black =
      let f = first_remains x p id due.registered in
      let t = f.in_turn in
      let more = length_one_more p.passed id in
      record {
        posted = p.posted;
        posts = p.posts;
        same = p.same;
        messages = p.messages;
        passed = p.passed ++ id ∷ [];
        remaining = f.rest;
        in_turn = record {
          cut = t.cut ∙ sym (append_assoc p.passed (id ∷ []) f.rest);
          next = let n = t.next in omega (arith, n, more);
          before = let b : x.running.registered_before ≡ length p.passed + suc (length f.rest) = t.before in omega (arith, b, more);
          condemned = t.condemned;
        };
        so_far = λ later exact. f.so_far later (inr (
          kept_reached flipped p.posted x id p.reached
              (t.condemned id (contains_at x.world.graph.registered x.next id due.registered)) black,
          exact,
        ));
        alike = λ tracing. p.alike (due_is_tracing x id run due);
        led = λ later. absurd (true≢false later);
        reached = p.reached;
        roots = record { live = p.roots.live; kept = p.roots.kept };
        condemned = p.condemned;
      }

  -- ---- a post

  white_not_passed : (x : Collecting) (p : IsWholeSoFar flipped x) (id : Id) (rest : List Id) → Running x → AreInTurn x p.passed rest
      → is_white_in x id ≡ true → contains p.passed id ≡ false
  white_not_passed x p id rest run t white = elim (cases_Bool (contains p.passed id)) [
    | inl is ↦ absurd (
        let there = stands_among p.passed rest id is in
        let below : there.0 < x.next = let less = there.1 in let n = t.next in omega (arith, less, n) in
        true≢false (sym white ∙ run.examined.examined there.0 id (ap (λ ids. slice_get ids there.0) t.cut ∙ there.2) (inl below)))
    | inr isnt ↦ isnt
  ]

  pub posted_whole : (x : Collecting) (id : Id) (ms : List Move) (c : Collection) → Running x → IsWholeSoFar flipped x → IsExaminedNext x id
      → is_white_in x id ≡ true → Keeps x.world x.running id ms c → IsWholeSoFar flipped (collecting_after_post (kept_by x id ms c) id)
  posted_whole x id ms c run p due white keep =
      let f = first_remains x p id due.registered in
      let t = f.in_turn in
      let live = run.examined.live_registered id (contains_at x.world.graph.registered x.next id due.registered) in
      let kept = keeps_leaves x.world x.running id run.runs run.different live keep in
      let graph : (world_after_moves x.world ms).graph ≡ x.world.graph = ap (λ (v : World). v.graph) kept.world in
      let still : (n : Id) → is_live (world_after_moves x.world ms) n ≡ is_live x.world n = λ n. ap
      (λ (v : World). is_live v n) kept.world ∙ kept.live n in
      let same = keep_same keep in
      let fresh = white_not_passed x p id (id ∷ f.rest) run t white in
      record {
        posted = id ∷ p.posted;
        posts = p.posts ++ id ∷ [];
        same = λ n. one_more_same p.posted p.posts id n (p.same n);
        messages = ap (λ (g : Graph). g.messages ++ id ∷ []) graph ∙ (ap (λ sent. sent ++ id ∷ []) p.messages
            ∙ append_assoc flipped.graph.messages p.posts (id ∷ []));
        passed = p.passed;
        remaining = f.rest;
        in_turn = record {
          cut = ap (λ (g : Graph). without_first g.registered id) graph
              ∙ (ap (λ ids. without_first ids id) t.cut ∙ without_after p.passed f.rest id fresh);
          next = t.next;
          before = let b : x.running.registered_before ≡ length p.passed + suc (length f.rest) = t.before in
              let e = same.registered_before in omega (arith, b, e);
          condemned = λ n h. ap (λ ids. contains ids n) same.condemned ∙ t.condemned n (contains-without_first x.world.graph.registered id n
              (subst (λ (g : Graph). contains (without_first g.registered id) n ≡ true) graph h));
        };
        so_far = λ later exact. subst (λ ids. ArePostsExact flipped [] flipped.graph.registered ids)
            (sym (append_assoc p.posts (id ∷ []) later))
            (f.so_far (id ∷ later) (inl (
              white_unreached flipped p.posted x (led_to_kept flipped x run p.alike p.led due.drained) p.roots id white,
              (refl, exact),
            )));
        alike = λ tracing n. ap (λ (g : Graph). strong_targets g n) graph ∙ p.alike (due_is_tracing x id run due) n;
        led = λ later. absurd (true≢false later);
        reached = record {
          kept = λ n h. elim (contains_cases id x.colours.kept n h) [
            | inl it ↦ subst (λ m. IsWidelyReachableWith flipped (id ∷ p.posted) m) it
                (begins (contains_right (ids_of_client flipped.graph) (ids_of_area_words flipped ++ (id ∷ p.posted)) id
                (contains_right (ids_of_area_words flipped) (id ∷ p.posted) id (contains_here id p.posted))))
            | inr old ↦ reached_more flipped p.posted (id ∷ p.posted) (λ m g. contains_later id p.posted m g) (p.reached.kept n old)
          ];
          grey = λ n h. elim (contains_cases id x.colours.grey n h) [
            | inl it ↦ subst (λ m. contains (id ∷ x.colours.kept) m ≡ true) it (contains_here id x.colours.kept)
            | inr old ↦ contains_later id x.colours.kept n (p.reached.grey n old)
          ];
        };
        roots = record {
          live = λ n h. still n ∙ elim (root_cases flipped p.posted id n h) [
            | inl it ↦ subst (λ m. is_live x.world m ≡ true) it live
            | inr old ↦ p.roots.live n old
          ];
          kept = λ n h. ap (λ ids. is_white ids (keeping x.colours id) n) same.condemned ∙ elim (root_cases flipped p.posted id n h) [
            | inl it ↦ subst (λ m. is_white x.running.condemned (keeping x.colours id) m ≡ false) it
                (it_is_kept x.running.condemned x.colours id)
            | inr old ↦ still_kept x.running.condemned x.colours id n (p.roots.kept n old)
          ];
        };
        condemned = λ n h. ap (λ ids. contains ids n) same.condemned ∙ p.condemned n h;
      }

  -- ---- splats

  one_splatted : (x : Collecting) (holder cell : ℕ) → is_tracing_band x.band ≡ false → IsWholeSoFar flipped x
      → IsWholeSoFar flipped (collecting_after_splat x holder cell)
  one_splatted x holder cell later p = record {
    posted = p.posted;
    posts = p.posts;
    same = p.same;
    messages = p.messages;
    passed = p.passed;
    remaining = p.remaining;
    in_turn = record { cut = p.in_turn.cut; next = p.in_turn.next; before = p.in_turn.before; condemned = p.in_turn.condemned };
    so_far = p.so_far;
    alike = λ tracing. absurd (true≢false (sym tracing ∙ later));
    led = p.led;
    reached = p.reached;
    roots = record { live = p.roots.live; kept = p.roots.kept };
    condemned = p.condemned;
  }

  all_splatted : {holder : Id} {x y : Collecting} {cells : List ℕ} → Splats holder x cells y
      → is_tracing_band x.band ≡ false → IsWholeSoFar flipped x → IsWholeSoFar flipped y
  all_splatted (splats_no_more kept) later p = p
  all_splatted {holder} {x} (splats_cell {cell = cell} is white rest) later p =
      all_splatted rest later (one_splatted x holder cell later p)

  scanned_whole : (y : Collecting) (id : Id) → IsWholeSoFar flipped y → IsWholeSoFar flipped (collecting_after_scan y id)
  scanned_whole y id p = record {
    posted = p.posted;
    posts = p.posts;
    same = p.same;
    messages = p.messages;
    passed = p.passed;
    remaining = p.remaining;
    in_turn = record { cut = p.in_turn.cut; next = p.in_turn.next; before = p.in_turn.before; condemned = p.in_turn.condemned };
    so_far = p.so_far;
    alike = p.alike;
    led = p.led;
    reached = record { kept = p.reached.kept; grey = λ n h. p.reached.grey n (grey_still y.running.condemned y.colours id n h) };
    roots = record { live = p.roots.live; kept = p.roots.kept };
    condemned = p.condemned;
  }

  in_weak : (x : Collecting) → Running x → IsDrainedIn x → IsWholeSoFar flipped x → IsWholeSoFar flipped (record x { band = Weak })
  in_weak x run drained p = record {
    posted = p.posted;
    posts = p.posts;
    same = p.same;
    messages = p.messages;
    passed = p.passed;
    remaining = p.remaining;
    in_turn = record { cut = p.in_turn.cut; next = p.in_turn.next; before = p.in_turn.before; condemned = p.in_turn.condemned };
    so_far = p.so_far;
    alike = λ tracing. absurd (false≢true tracing);
    led = λ later. led_to_kept flipped x run p.alike p.led drained;
    reached = p.reached;
    roots = record { live = p.roots.live; kept = p.roots.kept };
    condemned = p.condemned;
  }

  -- ---- a reclaim

  reclaimed_whole : (x : Collecting) (s : Segment) (freed : List Address) (c : Collection) → (run : Running x) → IsWholeSoFar flipped x
      → (next : IsReclaimedNext x s freed) → is_last_condemned x.running s.base ≡ false
      → (world_after_moves x.world (reclaim_by x s.base freed)).collection ≡ Some c
      → IsWholeSoFar flipped (collecting_after_reclaim x s.base freed c)
  reclaimed_whole x s freed c run p next not_last runs =
      let leads = goes_on_leads x run s freed next not_last in
      let same : final_collection x run s freed next ≡ c =
      same_Some (final_collection x run s freed next) c (sym (ap (λ (v : World). v.collection) leads) ∙ runs) in
      let condemned : (n : Id) → contains c.condemned n ≡ contains x.running.condemned n = λ n. ap
      (λ (d : Collection). contains d.condemned n) (sym same) in
      record {
        posted = p.posted;
        posts = p.posts;
        same = p.same;
        messages = ap (λ (v : World). v.graph.messages) leads ∙ p.messages;
        passed = p.passed;
        remaining = p.remaining;
        in_turn = record {
          cut = ap (λ (v : World). v.graph.registered) leads ∙ p.in_turn.cut;
          next = p.in_turn.next;
          before = ap (λ (d : Collection). d.registered_before) (sym same) ∙ p.in_turn.before;
          condemned = λ n h. condemned n ∙ p.in_turn.condemned n (subst (λ (v : World). contains v.graph.registered n ≡ true) leads h);
        };
        so_far = p.so_far;
        alike = λ tracing. absurd (false≢true tracing);
        led = λ later from to live black h.
            let was = ap (λ (d : Collection). is_white d.condemned x.colours from) same ∙ black in
            let before = live_before x run s freed next from (sym (ap (λ (v : World). is_live v from) leads) ∙ live) in
            let drained : IsDrainedIn x = λ n grey. absurd (true≢false (sym grey ∙ next.scanned n)) in
            let there = led_to_kept flipped x run p.alike p.led drained from to before was h in (
              ap (λ (v : World). is_live v to) leads ∙ black_left x run s freed next to there.1 there.0,
              ap (λ (d : Collection). is_white d.condemned x.colours to) (sym same) ∙ there.1,
            );
        reached = p.reached;
        roots = record {
          live = λ n h. ap (λ (v : World). is_live v n) leads ∙ black_left x run s freed next n (p.roots.kept n h) (p.roots.live n h);
          kept = λ n h. ap (λ (d : Collection). is_white d.condemned x.colours n) (sym same) ∙ p.roots.kept n h;
        };
        condemned = λ n h. condemned n ∙ p.condemned n h;
      }

  -- ---- any unit

  pub unit_whole : {x y : Collecting} {ms : List Move} → Running x → IsWholeSoFar flipped x → IsUnit x ms y → IsWholeSoFar flipped y
  unit_whole {x} run p (scans id {y} {ms} grey strong fixes) = scan_whole x y id ms run p grey strong fixes
  unit_whole {x} run p (examines id due black) = examined_whole x id run p due black
  unit_whole {x} run p (posts id {ms} {c} due white keep) = posted_whole x id ms c run p due white keep
  unit_whole {x} run p (splats id {y} {cells} drained examined grey done) =
      scanned_whole y id (all_splatted done refl (in_weak x run drained p))
  unit_whole {x} run p (reclaims {s = s} {freed} {c} next not_last runs) = reclaimed_whole x s freed c run p next not_last runs

  -- and a row of units
  pub units_whole : {x y : Collecting} {count : ℕ} {ms : List Move} → Running x → IsWholeSoFar flipped x → GoesOn x count ms y
      → IsWholeSoFar flipped y
  units_whole run p begun = p
  units_whole run p (by_one_more row unit) = unit_whole (units_shown run row).running (units_whole run p row) unit
