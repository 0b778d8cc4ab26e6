-- A `collect` is complete: what is live after it is just what is reached.
use Rattle.std.proofs.Common.{◌≡◌, inl, inr, ℕ, Bool, true, false, refl, sym, ◌∙◌, ap, subst, List, [], ◌∷◌, ◌++◌, map, Option, Some, None}
use Rattle.std.proofs.lemmas.Bool.{true≢false, and_parts, and_from, or_cases}
use Rattle.std.proofs.Common.{append-nil}
use Rattle.std.specs.Prelude.{MatchBool, ◌||◌, option_map, is_some}
use Rattle.std.specs.Option.{option_map_or}
use Rattle.std.specs.List.{list_all, flat_map, list_any}
use Rattle.mps_base.specs.declared.moves.Move.{Move}
use Rattle.mps_model.proofs.Reaching.{PathLeads-holds, list_all-contains}
use Rattle.mps_model.specs.Reachable.{begins, goes_on}
use Rattle.mps_model.specs.Graph.{Point, Reservation, contains, ids_in_reservations, ids_of_client, strong_targets, targets, targets_of, targets_of_point, targets_of_reservation, strong_targets_of, object_at, Object, is_weak_object}
use Rattle.mps_model.specs.World.{World, has_area_word, ids_of_area_words, is_live, is_running, live_automatic_ids, live_ids, address_of, area_words, is_copying_object, is_live_and, is_word_in, lies_in, words_of}
use Rattle.mps_model.specs.WellFormed.{is_live_automatic}
use Rattle.mps_model.specs.Effect.{Everything, doomed, world_after_moves}
use Rattle.mps_model.specs.Flip.{world_at_flip}
use Rattle.mps_model.specs.Posts.{IsDecided, IsWidelyReachableWith}
use Rattle.mps_model.specs.History.{HeldAreLive}
use Rattle.mps_laws.proofs.Reading.{contains-append_left, contains-append_right}
use Rattle.mps_laws.proofs.Sound.Referred.{live_is_among, of_live}
use Rattle.mps_laws.proofs.Sound.SoundGraph.{all-contains, auto}
use Rattle.mps_client_laws.specs.Collecting.{held_ids}
use Rattle.mps_client_laws.specs.Complete.{AllPinnedStay, PinnedObjectsStay, AllLiveAreReached, AllReachedAreLive, AllRegisteredAreLive, AllStillReachedAreLive, AllTargetsAreLive, IsReachedFrom, LiveObjectsAreReached, ReachedObjectsAreLive, RegisteredObjectsAreLive, StillReachedObjectsAreLive, TargetsAreLive}
use Rattle.mps_client_laws.proofs.AreaWordsStay.{address_stays, same_kind, word_stays}
use Rattle.mps_client_laws.proofs.Automatic.{client_is_automatic, target_is_automatic}
use Rattle.mps_client_laws.proofs.CollectFlips.{live_before}
use Rattle.mps_client_laws.proofs.Collecting.{moves_roots, still_held}
use Rattle.mps_client_laws.proofs.Completed.{IsCompleted, of_each_collect}
use Rattle.mps_client_laws.proofs.Contained.{all_contained, among_is_live_automatic, contains_filtered, either_or, filtered_contains}

-- ---- after a flip no reservation is live

doomed_targets : (points : List (Option Point)) → flat_map targets_of_point (map doomed points) ≡ []
doomed_targets [] = refl
doomed_targets (None ∷ points) = doomed_targets points
doomed_targets (Some p ∷ points) = of_reservation p.reservation (doomed_targets points)
  where
    of_reservation : (o : Option Reservation) → flat_map targets_of_point (map doomed points) ≡ []
        → option_map_or targets_of_reservation (option_map (λ (r : Reservation). record r { is_doomed = true }) o) []
        ++ flat_map targets_of_point (map doomed points) ≡ []
    of_reservation None rest = rest
    of_reservation (Some r) rest = rest

-- what an object refers to and keeps alive it refers to
strong_is_target : (o : Option Object) (id : ℕ) → contains (option_map_or strong_targets_of o []) id ≡ true
    → contains (option_map_or targets_of o []) id ≡ true
strong_is_target None id h = h
strong_is_target (Some o) id h = by_weak (is_weak_object o) h
  where
    by_weak : (b : Bool) → contains (Rattle.std.specs.Prelude.if◌then◌else◌ b [] (targets_of o)) id ≡ true
        → contains (targets_of o) id ≡ true
    by_weak true h = absurd (true≢false (sym h))
    by_weak false h = h

module _ (v : World) (later : List Move) (c : IsCompleted v later) where
  abbrev flipped : World
  flipped = world_at_flip v Everything

  abbrev moved : World
  moved = world_after_moves flipped later

  -- ---- each live object is reached

  abbrev Reached : ℕ → Type 0
  Reached id = IsReachedFrom flipped moved id

  held_reached : (id : ℕ) → contains (ids_of_client moved.graph) id ≡ true → Reached id
  held_reached id held = begins (contains-append_left (ids_of_client moved.graph) (ids_of_area_words moved) id held)

  -- a live automatic object was one at the flip
  was_live : (id : ℕ) → is_live_automatic moved id ≡ true → contains (live_automatic_ids flipped) id ≡ true
  was_live id h =
      let parts = and_parts (is_live moved id) (auto moved id) h in
      contains_filtered (auto flipped) (live_ids flipped) id (live_is_among flipped id (live_before id flipped later parts.0))
      (sym (same_kind v later c id) ∙ parts.1)

  decided : (id : ℕ) → contains (live_automatic_ids flipped) id ≡ true → IsDecided flipped moved c.exact.posts id
  decided id among = all_contained (IsDecided flipped moved c.exact.posts) (live_automatic_ids flipped) id c.exact.survivors among

  was_reached : (id : ℕ) → is_live_automatic moved id ≡ true → IsWidelyReachableWith flipped c.exact.posts id
  was_reached id h =
      subst (λ (b : Bool). MatchBool b (IsWidelyReachableWith flipped c.exact.posts id)
      (¬ IsWidelyReachableWith flipped c.exact.posts id)) (and_parts (is_live moved id) (auto moved id) h).0
      (decided id (was_live id h))

  still_live : (id : ℕ) → contains (live_automatic_ids flipped) id ≡ true → IsWidelyReachableWith flipped c.exact.posts id
      → is_live moved id ≡ true
  still_live id among reachable = by_case (is_live moved id) refl (decided id among)
    where
      by_case : (b : Bool) → is_live moved id ≡ b
          → MatchBool b (IsWidelyReachableWith flipped c.exact.posts id) (¬ IsWidelyReachableWith flipped c.exact.posts id)
          → is_live moved id ≡ true
      by_case true e is = e
      by_case false e isnt = absurd (isnt reachable)

  -- it is live and automatic still
  still_live_automatic : (id : ℕ) → contains (live_automatic_ids flipped) id ≡ true
      → IsWidelyReachableWith flipped c.exact.posts id → is_live_automatic moved id ≡ true
  still_live_automatic id among reachable =
      and_from (is_live moved id) (auto moved id) (still_live id among reachable)
      (same_kind v later c id ∙ (among_is_live_automatic flipped id among).1)

  first_reached : (id : ℕ) → contains (ids_of_client flipped.graph ++ (ids_of_area_words flipped ++ c.exact.posts)) id ≡ true → Reached id
  first_reached id h = elim (either_or (ids_of_client flipped.graph) (ids_of_area_words flipped ++ c.exact.posts) id h) [
    | inl held ↦ elim (either_or (held_ids flipped.graph) (ids_in_reservations flipped.graph) id held) [
      | inl root ↦ held_reached id (still_held flipped.graph moved.graph (moves_roots flipped later) id root)
      | inr reserved ↦
          absurd (true≢false (sym (subst (λ ids. contains ids id ≡ true) (doomed_targets v.graph.points) reserved)))
    ]
    | inr more ↦ elim (either_or (ids_of_area_words flipped) c.exact.posts id more) [
      | inl word ↦ of_word word (filtered_contains (has_area_word flipped) (live_automatic_ids flipped) id word)
      | inr post ↦ held_reached id (posted post)
    ]
  ]
    where
      posted : contains c.exact.posts id ≡ true → contains (ids_of_client moved.graph) id ≡ true
      posted post =
          contains-append_left (held_ids moved.graph) (ids_in_reservations moved.graph) id
          (contains-append_right (Rattle.mps_model.specs.Graph.ids_in_slots moved.graph
          ++ Rattle.mps_model.specs.Graph.ids_in_holds moved.graph) moved.graph.messages id
          (subst (λ ids. contains ids id ≡ true) (sym c.exact.posted) (contains-append_right v.graph.messages c.exact.posts id post)))

      of_word : contains (ids_of_area_words flipped) id ≡ true
          → (contains (live_automatic_ids flipped) id ≡ true) × (has_area_word flipped id ≡ true) → Reached id
      of_word word both =
          let reachable : IsWidelyReachableWith flipped c.exact.posts id =
          begins (contains-append_right (ids_of_client flipped.graph) (ids_of_area_words flipped ++ c.exact.posts) id
          (contains-append_left (ids_of_area_words flipped) c.exact.posts id word)) in
          let live = and_parts (is_live moved id) (auto moved id) (still_live_automatic id both.0 reachable) in
          begins (contains-append_right (ids_of_client moved.graph) (ids_of_area_words moved) id
          (contains_filtered (has_area_word moved) (live_automatic_ids moved) id
          (contains_filtered (auto moved) (live_ids moved) id (live_is_among moved id live.0) live.1)
          (word_stays v later c id both.1 live.0)))

  live_are_reached : AllLiveAreReached flipped moved
  live_are_reached id h =
      PathLeads-holds (strong_targets flipped.graph)
      (ids_of_client flipped.graph ++ (ids_of_area_words flipped ++ c.exact.posts)) Reached first_reached
      (λ from to path target. goes_on path target) (was_reached id h)

  -- ---- objects in which area words lie

  lies_is_live : (id : ℕ) (words : List ℕ) → list_any (λ word. lies_in flipped word id) words ≡ true
      → contains (live_automatic_ids flipped) id ≡ true
  lies_is_live id [] h = absurd (true≢false (sym h))
  lies_is_live id (word ∷ words) h =
      elim (or_cases (lies_in flipped word id) (list_any (λ n. lies_in flipped n id) words) h) [
        | inl here ↦ of_parts (and_parts (auto flipped id) _ here)
        | inr later ↦ lies_is_live id words later
      ]
    where
      live_there : (test : ℕ → Bool) (o : Option ℕ) → option_map_or test o false ≡ true → is_some o ≡ true
      live_there test None h = h
      live_there test (Some at) h = refl

      of_parts : (auto flipped id ≡ true)
          × (is_live_and (λ at. is_word_in (is_copying_object flipped id) at (words_of flipped id) word) flipped id ≡ true)
          → contains (live_automatic_ids flipped) id ≡ true
      of_parts parts =
          contains_filtered (auto flipped) (live_ids flipped) id
          (live_is_among flipped id (live_there _ (address_of flipped id) parts.1)) parts.0

  pinned_stay : AllPinnedStay flipped moved
  pinned_stay id at word lies =
      let among = lies_is_live id (area_words flipped) word in
      let reachable : IsWidelyReachableWith flipped c.exact.posts id =
      begins (contains-append_right (ids_of_client flipped.graph) (ids_of_area_words flipped ++ c.exact.posts) id
      (contains-append_left (ids_of_area_words flipped) c.exact.posts id
      (contains_filtered (has_area_word flipped) (live_automatic_ids flipped) id among word))) in
      address_stays v later c id word (still_live id among reachable) ∙ lies

  -- ---- each reached object is live

  root_is_live : (id : ℕ) → contains (ids_of_client moved.graph ++ ids_of_area_words moved) id ≡ true → is_live_automatic moved id ≡ true
  root_is_live id h = elim (either_or (ids_of_client moved.graph) (ids_of_area_words moved) id h) [
    | inl held ↦
        and_from (is_live moved id) (auto moved id) (c.client id held) (client_is_automatic moved c.sound_after id held)
    | inr word ↦ of_word (filtered_contains (has_area_word moved) (live_automatic_ids moved) id word)
  ]
    where
      of_word : (contains (live_automatic_ids moved) id ≡ true) × (has_area_word moved id ≡ true) → is_live_automatic moved id ≡ true
      of_word both =
          let parts = among_is_live_automatic moved id both.0 in and_from (is_live moved id) (auto moved id) parts.0 parts.1

  target_is_live : (from to : ℕ) → is_live moved from ≡ true → contains (targets moved.graph from) to ≡ true
      → is_live_automatic moved to ≡ true
  target_is_live from to live h =
      and_from (is_live moved to) (auto moved to) (c.referred from to live h) (target_is_automatic moved c.sound_after from to h)

  still_reached_are_live : AllStillReachedAreLive moved
  still_reached_are_live id path =
      PathLeads-holds (strong_targets moved.graph) (ids_of_client moved.graph ++ (ids_of_area_words moved ++ []))
      (λ n. is_live_automatic moved n ≡ true)
      (λ n h. root_is_live n
      (subst (λ ids. contains (ids_of_client moved.graph ++ ids) n ≡ true) (append-nil (ids_of_area_words moved)) h))
      (λ from to live h. target_is_live from to (and_parts (is_live moved from) (auto moved from) live).0
      (strong_is_target (object_at moved.graph from) to h)) path

  module _ (held : HeldAreLive v) (rests : is_running v ≡ false) where
    -- what a live object referred to before the flip was live then
    referred_before : (from to : ℕ) → is_live v from ≡ true → contains (targets v.graph from) to ≡ true → is_live v to ≡ true
    referred_before from to live h =
        list_all-contains (is_live v) (targets v.graph from) to (of_live v (is_live v) all from live) h
      where
        all : list_all (is_live v) (flat_map (targets v.graph) (live_ids v)) ≡ true
        all = subst (λ b. (b || list_all (is_live v) (flat_map (targets v.graph) (live_ids v))) ≡ true) rests held.referred

    next_is_live : (from to : ℕ) → is_live_automatic moved from ≡ true → contains (strong_targets flipped.graph from) to ≡ true
        → is_live_automatic moved to ≡ true
    next_is_live from to live h =
        let target = strong_is_target (object_at flipped.graph from) to h in
        let there = referred_before from to
        (live_before from flipped later (and_parts (is_live moved from) (auto moved from) live).0) target in
        let among = contains_filtered (auto flipped) (live_ids flipped) to (live_is_among flipped to there)
        (target_is_automatic flipped c.sound from to target) in
        still_live_automatic to among (goes_on (was_reached from live) h)

    reached_are_live : AllReachedAreLive flipped moved
    reached_are_live id path =
        PathLeads-holds (strong_targets flipped.graph) (ids_of_client moved.graph ++ ids_of_area_words moved)
        (λ n. is_live_automatic moved n ≡ true) root_is_live next_is_live path

-- ---- the laws

pub live_objects_are_reached : LiveObjectsAreReached
live_objects_are_reached =
    of_each_collect (λ before flipped later after. AllLiveAreReached flipped after) (λ w v later k held same c. live_are_reached v later c)

pub reached_objects_are_live : ReachedObjectsAreLive
reached_objects_are_live =
    of_each_collect (λ before flipped later after. is_running before ≡ false → AllReachedAreLive flipped after)
    (λ w v later k held same c rests.
    reached_are_live v later c (subst HeldAreLive (sym (same rests)) held) (ap is_running (same rests) ∙ rests))

pub still_reached_objects_are_live : StillReachedObjectsAreLive
still_reached_objects_are_live =
    of_each_collect (λ before flipped later after. AllStillReachedAreLive after)
    (λ w v later k held same c. still_reached_are_live v later c)

pub registered_objects_are_live : RegisteredObjectsAreLive
registered_objects_are_live =
    of_each_collect (λ before flipped later after. AllRegisteredAreLive after) (λ w v later k held same c. registered_are_live v later c)
  where
    registered_are_live : (v : World) (later : List Move) (c : IsCompleted v later) → AllRegisteredAreLive (moved v later c)
    registered_are_live v later c id there =
        all-contains (is_live_automatic (moved v later c)) (moved v later c).graph.registered id c.sound_after.registered there

pub targets_are_live : TargetsAreLive
targets_are_live =
    of_each_collect (λ before flipped later after. AllTargetsAreLive after)
    (λ w v later k held same c holder id live there. target_is_live v later c holder id live there)

pub pinned_objects_stay : PinnedObjectsStay
pinned_objects_stay =
    of_each_collect (λ before flipped later after. AllPinnedStay flipped after) (λ w v later k held same c. pinned_stay v later c)
