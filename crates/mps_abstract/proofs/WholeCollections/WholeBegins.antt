-- A flip that condemns everything, and its act, begin a whole collection: what is kept then are roots.
use Rattle.std.proofs.Common.{◌≡◌, ◌∙◌, ◌⊎◌, ◌+◌, Bool, true, false, refl, sym, ap, List, [], ◌∷◌, ◌++◌, length, Option, Some, None, subst, inl, inr, arith}
use Rattle.std.proofs.lemmas.Bool.{false≢true, true≢false, and_parts, or_left, or_right}
use Rattle.std.proofs.lemmas.List.{append-nil}
use Rattle.std.specs.Prelude.{if◌then◌else◌, filter}
use Rattle.std.specs.List.{list_any}
use Rattle.std.specs.Option.{option_map_or}
use Rattle.mps_base.specs.Address.{Id}
use Rattle.mps_base.specs.Segment.{Segment, is_in_segment}
use Rattle.mps_base.specs.declared.moves.Move.{Move}
use Rattle.mps_model.specs.Graph.{Graph, Object, contains, object_at, strong_targets, is_automatic, ids_of_client, ids_in_slots}
use Rattle.mps_model.specs.Reachable.{begins}
use Rattle.mps_model.specs.Collection.{is_condemned}
use Rattle.mps_model.specs.World.{World, is_live, is_live_and, live_ids, live_automatic_ids, object_is, has_area_word, ids_of_area_words, is_automatic_kind, pool_is}
use Rattle.mps_model.specs.WellFormed.{is_right_object, is_live_automatic}
use Rattle.mps_model.specs.Effect.{Everything, condemned_by, lies_in_one}
use Rattle.mps_model.specs.Flip.{is_nothing}
use Rattle.mps_model.proofs.Reaching.{list_all-contains}
use Rattle.mps_abstract.specs.Collecting.{Collecting, Running, is_tracing_band}
use Rattle.mps_abstract.specs.Fixing.{Fixes, fixes_no_more, passes, keeps}
use Rattle.mps_abstract.specs.FlipLaws.{IsAtRest, collecting_after_flip, AreRemembered, FixesHeld}
use Rattle.mps_abstract.specs.WholeLaws.{roots_of, IsWholeSoFar}
use Rattle.mps_abstract.proofs.Lists.{contains_append, contains_left, contains_right, contains-filter, contains_filtered}
use Rattle.mps_abstract.proofs.Addresses.{automatic_is_live, is_listed_automatic, address_of-live}
use Rattle.mps_abstract.proofs.Keeping.{not_white_if_kept}
use Rattle.mps_abstract.proofs.HeldSegments.{IsAmong}
use Rattle.mps_abstract.proofs.RightObjects.{object_has_words, pool_kind}
use Rattle.mps_abstract.proofs.Homes.{lies_at}
use Rattle.mps_abstract.proofs.FlipActs.Flipped.{refers_automatic}
use Rattle.mps_abstract.proofs.FlipActs.Flipping.{AreFixed}
use Rattle.mps_abstract.proofs.FlipActs.FlipBegins.{all, client_of_fixed, flip_done}
use Rattle.mps_abstract.proofs.Calls.ClientThings.{list_all-at}
use Rattle.mps_abstract.proofs.WholeCollections.WholePaths.{fixed_kept, fixed_grey, fixed_same}
use Rattle.mps_model.specs.Accessing.{address_or_null}

-- ---- segments that pass

pub among_passing : (p : Segment → Bool) (s : Segment) (ss : List Segment) → IsAmong s ss → p s ≡ true → IsAmong s (filter p ss)
among_passing p s [] h e = absurd h
among_passing p s (t ∷ ts) h e =
    elim (p t) as (λ b. p t ≡ b → IsAmong s (if b then t ∷ filter p ts else filter p ts)) [
      | true ↦ (λ is. elim h [ inl same ↦ inl same | inr later ↦ inr (among_passing p s ts later e) ])
      | false ↦ (λ isnt. elim h [
        | inl same ↦ absurd (true≢false (sym e ∙ (ap p (sym same) ∙ isnt)))
        | inr later ↦ among_passing p s ts later e
      ])
    ] refl

any_of : (test : Segment → Bool) (s : Segment) (ss : List Segment) → IsAmong s ss → test s ≡ true → list_any test ss ≡ true
any_of test s [] h e = absurd h
any_of test s (t ∷ ts) (inl same) e = or_left (test t) (list_any test ts) (ap test same ∙ e)
any_of test s (t ∷ ts) (inr later) e = or_right (test t) (list_any test ts) (any_of test s ts later e)

-- ---- a flip of everything condemns every live automatic object

module _ (w : World) (rest : IsAtRest w) where
  abbrev x : Collecting
  x = collecting_after_flip w Everything []

  pub everything : (id : Id) → contains (live_automatic_ids w) id ≡ true → is_condemned x.running id ≡ true
  everything id h = of_object (object_at w.graph id) refl (contains-filter (object_is is_automatic w) (live_ids w) id h).1
    where
      live : is_live w id ≡ true
      live = automatic_is_live w id h

      of_object : (o : Option Object) → object_at w.graph id ≡ o → option_map_or is_automatic o false ≡ true
          → is_condemned x.running id ≡ true
      of_object None e g = absurd (false≢true g)
      of_object (Some o) e g =
          let right = list_all-at (is_right_object w) w.graph.objects id o rest.well_formed.objects e in
          let at = address_or_null w id in
          let lying = address_of-live w id live in
          let home = lies_at w rest.well_formed id o at e lying (object_has_words w o right) in
          contains_filtered (lies_in_one x.world (condemned_by x.world Everything)) (live_automatic_ids w) id
          (any_of (λ s. is_live_and (is_in_segment s) w id) home.segment (filter (λ s. pool_is is_automatic_kind w s.pool) w.segments)
          (among_passing (λ s. pool_is is_automatic_kind w s.pool) home.segment w.segments home.among
          (ap (pool_is is_automatic_kind w) home.of_pool ∙ (pool_kind w o right ∙ g)))
          (ap (λ a. option_map_or (is_in_segment home.segment) a false) lying ∙ home.inside)) h

  -- so nothing else is to be scanned
  pub nothing_remembered : AreRemembered x []
  nothing_remembered = record {
    live = λ id h. absurd (false≢true h);
    automatic = λ id h. absurd (false≢true h);
    outside = λ id h. absurd (false≢true h);
    rest = λ id target there outside none h. absurd (true≢false (sym (everything id (is_listed_automatic w id there
        (refers_automatic (object_at w.graph id) target h))) ∙ outside));
  }

  -- ---- after the act

  pinned_words : (id : Id) → contains x.running.pinned id ≡ true → contains (ids_of_area_words x.world) id ≡ true
  pinned_words id h =
      let pinned = contains-filter (has_area_word x.world) x.running.condemned id h in
      contains_filtered (has_area_word x.world) (live_automatic_ids w) id pinned.1
      (contains-filter (lies_in_one x.world (condemned_by x.world Everything)) (live_automatic_ids w) id pinned.0).0

  words_pinned : (id : Id) → contains (ids_of_area_words x.world) id ≡ true → contains x.running.pinned id ≡ true
  words_pinned id h =
      let word = contains-filter (has_area_word x.world) (live_automatic_ids w) id h in
      contains_filtered (has_area_word x.world) x.running.condemned id word.1 (everything id word.0)

fixed_next : {x y : Collecting} {ids : List Id} {ms : List Move} → Fixes x ids ms y → y.next ≡ x.next
fixed_next fixes_no_more = refl
fixed_next (passes black rest) = fixed_next rest
fixed_next (keeps white keep rest) = fixed_next rest

fixed_band : {x y : Collecting} {ids : List Id} {ms : List Move} → Fixes x ids ms y → y.band ≡ x.band
fixed_band fixes_no_more = refl
fixed_band (passes black rest) = fixed_band rest
fixed_band (keeps white keep rest) = fixed_band rest

module _ (w : World) (first : List Move) (y : Collecting) (rest : IsAtRest w) (some : is_nothing (condemned_by w Everything) ≡ false)
    (fixed : FixesHeld w (collecting_after_flip w Everything []) first y) where
  abbrev begun : Collecting
  begun = collecting_after_flip w Everything []

  abbrev after : AreFixed begun (ids_in_slots w.graph ++ w.graph.messages) first y
  after = all w Everything [] first y rest refl some (nothing_remembered w rest) fixed

  pub begun_running : Running y
  begun_running = (flip_done w Everything [] first y rest refl some (nothing_remembered w rest) fixed).running

  root_cases : (id : Id) → contains (roots_of begun.world []) id ≡ true
      → (contains (ids_of_client begun.world.graph) id ≡ true) ⊎ (contains (ids_of_area_words begun.world) id ≡ true)
  root_cases id h = elim (contains_append (ids_of_client begun.world.graph) (ids_of_area_words begun.world ++ []) id h) [
    | inl e ↦ inl e
    | inr e ↦ elim (contains_append (ids_of_area_words begun.world) [] id e) [ inl g ↦ inr g | inr none ↦ absurd (false≢true none) ]
  ]

  client_now : (id : Id) → contains (ids_of_client begun.world.graph) id ≡ true → contains (ids_of_client y.world.graph) id ≡ true
  client_now id h = subst (λ (g : Graph). contains (ids_of_client g) id ≡ true) (sym after.graph) h

  pub whole_begun : IsWholeSoFar begun.world y
  whole_begun = record {
    posted = [];
    posts = [];
    same = λ id. refl;
    messages = ap (λ (g : Graph). g.messages) after.graph ∙ sym (append-nil w.graph.messages);
    passed = [];
    remaining = w.graph.registered;
    in_turn = record {
      cut = ap (λ (g : Graph). g.registered) after.graph;
      next = fixed_next fixed;
      before = (fixed_same fixed).registered_before
          ∙ (let e : length w.graph.registered ≡ 0 + length w.graph.registered = omega arith in e);
      condemned = λ id h. ap (λ ids. contains ids id) (fixed_same fixed).condemned ∙ everything w rest id (
          let there = and_parts (is_live w id) (object_is is_automatic w id) (list_all-contains (is_live_automatic w) w.graph.registered id
          rest.well_formed.registered (subst (λ (g : Graph). contains g.registered id ≡ true) after.graph h)) in
          is_listed_automatic w id there.0 there.1);
    };
    so_far = λ later exact. exact;
    alike = λ tracing id. ap (λ (g : Graph). strong_targets g id) after.graph;
    led = λ later. absurd (true≢false (sym (ap is_tracing_band (fixed_band fixed)) ∙ later));
    reached = record {
      kept = λ id h. elim (fixed_kept fixed id h) [
        | inl pinned ↦ begins (contains_right (ids_of_client begun.world.graph) (ids_of_area_words begun.world ++ []) id
            (contains_left (ids_of_area_words begun.world) [] id (pinned_words w rest id pinned)))
        | inr held ↦ begins (contains_left (ids_of_client begun.world.graph) (ids_of_area_words begun.world ++ []) id
            (client_of_fixed begun.world.graph id held))
      ];
      grey = fixed_grey fixed (λ id h. elim (contains_append begun.running.pinned [] id h) [
        | inl pinned ↦ pinned
        | inr none ↦ absurd
            (false≢true none)
      ]);
    };
    roots = record {
      live = λ id h. elim (root_cases id h) [
        | inl held ↦ begun_running.coloured.held_live id (client_now id held)
        | inr word ↦ after.live id ∙ automatic_is_live w id (contains-filter (has_area_word begun.world) (live_automatic_ids w) id word).0
      ];
      kept = λ id h. elim (root_cases id h) [
        | inl held ↦ begun_running.coloured.held id (client_now id held)
        | inr word ↦ after.black id (not_white_if_kept begun.running.condemned begun.colours id (words_pinned w rest id word))
      ];
    };
    condemned = λ id h. ap (λ ids. contains ids id) (fixed_same fixed).condemned ∙ everything w rest id h;
  }
