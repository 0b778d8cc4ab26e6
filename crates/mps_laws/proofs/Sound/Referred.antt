-- What live objects refer to, after each effect of a call: each target passes a test, as a rule whether it is live. By ids, and not
-- by worlds.
use Rattle.std.proofs.Common.{◌≡◌, ◌∙◌, inl, inr, ℕ, zero, suc, ◌+◌, Bool, true, false, true≢false, refl, sym, ap, subst, List, [], ◌∷◌, ◌++◌, length, add-zero, Option, Some, None, arith}
use Rattle.std.proofs.lemmas.Bool.{cases_eq, eq-eqb, eqb-true, or_right, or_left}
use Rattle.std.specs.Prelude.{IsTrue, ◌||◌, ◌==◌, is_some, slice_get, slice_set, ◌≢◌}
use Rattle.std.specs.List.{list_all, flat_map}
use Rattle.std.specs.Option.{option_map_or}
use Rattle.mps_model.specs.Graph.{Graph, Object, Cell, contains, entry_at, graph_with_cells, object_at, object_with_cells, targets, targets_of}
use Rattle.mps_model.specs.Collection.{Collection}
use Rattle.mps_model.specs.World.{World, is_live, is_running, live_ids, numbers_of, ids_in_pairs}
use Rattle.mps_model.specs.Allocating.{body_with_word, graph_with_word, with_object}
use Rattle.mps_model.specs.History.{is_held_rightly, has_units_left}
use Rattle.mps_model.specs.Graph.{Body, Automatic, Manual, ids_in_blocks, ids_of_client, targets_of_body}
use Rattle.mps_laws.proofs.Lookups.{slice_get-set_other}
use Rattle.mps_laws.proofs.Entries.{slice_get-written}
use Rattle.mps_laws.proofs.Sound.HeldIds.{All, AreHeld, all-append, all_parts, for_client, of_client}
use Rattle.mps_laws.proofs.QuietSteps.{IsSound}

-- each target of an object that is live passes a test
abbrev pub AreReferred : (live test : ℕ → Bool) → Graph → Type 0
AreReferred live test g = (id : ℕ) → live id ≡ true → All test (targets g id)

-- ---- lists of live ids

-- of all live objects
all_numbers : (test : ℕ → Bool) (f : ℕ → List ℕ) (xs : List (Option ℕ)) (first : ℕ)
    → ((i : ℕ) → is_some (entry_at xs i) ≡ true → All test (f (first + i))) → All test (flat_map f (numbers_of is_some first xs))
all_numbers test f [] first each = refl
all_numbers test f (None ∷ xs) first each =
    all_numbers test f xs (first + 1)
    (λ i live. subst (λ n. All test (f n)) (let e : first + suc i ≡ (first + 1) + i = omega arith in e) (each (suc i) live))
all_numbers test f (Some at ∷ xs) first each =
    all-append test (f first) (flat_map f (numbers_of is_some (first + 1) xs))
    (subst (λ n. All test (f n)) (add-zero first) (each zero refl))
    (all_numbers test f xs (first + 1)
    (λ i live. subst (λ n. All test (f n)) (let e : first + suc i ≡ (first + 1) + i = omega arith in e) (each (suc i) live)))

live_number : (xs : List (Option ℕ)) (first i : ℕ) → is_some (entry_at xs i) ≡ true
    → contains (numbers_of is_some first xs) (first + i) ≡ true
live_number [] first i live = absurd (true≢false (sym live))
live_number (None ∷ xs) first zero live = absurd (true≢false (sym live))
live_number (Some at ∷ xs) first zero live =
    or_left (first == first + 0) (contains (numbers_of is_some (first + 1) xs) (first + 0))
    (eq-eqb first (first + 0) (sym (add-zero first)))
live_number (None ∷ xs) first (suc i) live =
    subst (λ n. contains (numbers_of is_some (first + 1) xs) n ≡ true) (let e : (first + 1) + i ≡ first + suc i = omega arith in e)
    (live_number xs (first + 1) i live)
live_number (Some at ∷ xs) first (suc i) live =
    or_right (first == first + suc i) (contains (numbers_of is_some (first + 1) xs) (first + suc i))
    (subst (λ n. contains (numbers_of is_some (first + 1) xs) n ≡ true) (let e : (first + 1) + i ≡ first + suc i = omega arith in e)
    (live_number xs (first + 1) i live))

-- a live object is among the live ids
pub live_is_among : (w : World) (id : ℕ) → is_live w id ≡ true → contains (live_ids w) id ≡ true
live_is_among w id live =
    subst (λ n. contains (live_ids w) n ≡ true) (let e : 0 + id ≡ id = omega arith in e) (live_number w.addresses 0 id live)

one_or_later : (test : ℕ → Bool) (f : ℕ → List ℕ) (n id : ℕ) (rest : Bool) → (rest ≡ true → All test (f id)) → All test (f n) → (b : Bool)
    → (n == id) ≡ b → (b || rest) ≡ true → All test (f id)
one_or_later test f n id rest later first true e among = subst (λ m. All test (f m)) (eqb-true n id e) first
one_or_later test f n id rest later first false e among = later among

all_of : (test : ℕ → Bool) (f : ℕ → List ℕ) (ids : List ℕ) (id : ℕ) → All test (flat_map f ids) → contains ids id ≡ true → All test (f id)
all_of test f [] id all among = absurd (true≢false (sym among))
all_of test f (n ∷ ns) id all among =
    let parts = all_parts test (f n) (flat_map f ns) all in
    one_or_later test f n id (contains ns id) (all_of test f ns id parts.1) parts.0 (n == id) refl among

-- what a world's live objects refer to, both ways
pub for_live : (w : World) (test : ℕ → Bool) → AreReferred (is_live w) test w.graph → All test (flat_map (targets w.graph) (live_ids w))
for_live w test are =
    all_numbers test (targets w.graph) w.addresses 0
    (λ i live. subst (λ n. All test (targets w.graph n)) (let e : i ≡ 0 + i = omega arith in e) (are i live))

pub of_live : (w : World) (test : ℕ → Bool) → All test (flat_map (targets w.graph) (live_ids w)) → AreReferred (is_live w) test w.graph
of_live w test all = λ id live. all_of test (targets w.graph) (live_ids w) id all (live_is_among w id live)

-- ---- effects

at_last : (os : List Object) (new : Object) → slice_get (os ++ new ∷ []) (length os) ≡ Some new
at_last [] new = refl
at_last (o ∷ os) new = at_last os new

other_targets : (os : List Object) (new : Object) (id : ℕ) → id ≢ length os
    → option_map_or targets_of (slice_get (os ++ new ∷ []) id) [] ≡ option_map_or targets_of (slice_get os id) []
other_targets [] new zero other = absurd (other refl)
other_targets [] new (suc id) other = refl
other_targets (o ∷ os) new zero other = refl
other_targets (o ∷ os) new (suc id) other = other_targets os new id (λ e. other (ap suc e))

module _ (test : ℕ → Bool) (g : Graph) where
  -- what one object refers to, after it was written over
  targets_set : (x id : ℕ) (old new : Object) → object_at g x ≡ Some old → All test (targets_of new) → All test (targets g id)
      → All test (option_map_or targets_of (slice_get (slice_set g.objects x new) id) [])
  targets_set x id old new there passes all =
      elim (cases_eq x id) [
        | inl same ↦
            subst (λ (n : ℕ). All test (option_map_or targets_of (slice_get (slice_set g.objects x new) n) [])) same
            (subst (λ o. All test (option_map_or targets_of o [])) (sym (slice_get-written g.objects x old new there)) passes)
        | inr other ↦
            subst (λ o. All test (option_map_or targets_of o [])) (sym (slice_get-set_other g.objects x id new other)) all
      ]

  -- cells of an object are written
  pub cells_written : (live : ℕ → Bool) (x : ℕ) (change : List Cell → List Cell)
      → ((o : Object) → object_at g x ≡ Some o → All test (targets_of (object_with_cells o change))) → AreReferred live test g
      → AreReferred live test (graph_with_cells g x change)
  cells_written live x change passes are = λ id l. by_case id (are id l) (object_at g x) refl
    where
      by_case : (id : ℕ) → All test (targets g id) → (o : Option Object) → object_at g x ≡ o
          → All test (option_map_or targets_of
          (slice_get (option_map_or (λ o. slice_set g.objects x (object_with_cells o change)) o g.objects) id) [])
      by_case id all None there = all
      by_case id all (Some o) there = targets_set x id o (object_with_cells o change) there (passes o there) all

  -- a word of a manual block is written
  pub word_of_block_written : (live : ℕ → Bool) (x k value : ℕ) → AreReferred live test g
      → AreReferred live test (graph_with_word g x k value)
  word_of_block_written live x k value are = λ id l. by_case id (are id l) (object_at g x) refl
    where
      same_targets : (b : Body) → targets_of_body (body_with_word b k value) ≡ targets_of_body b
      same_targets (Automatic head cells is_weak) = refl
      same_targets (Manual words) = refl

      old_passes : (o : Object) → object_at g x ≡ Some o → All test (targets g x) → All test (targets_of o)
      old_passes o there all = subst (λ p. All test (option_map_or targets_of p [])) there all

      by_case : (id : ℕ) → All test (targets g id) → (o : Option Object) → object_at g x ≡ o
          → All test (option_map_or targets_of
          (slice_get (option_map_or (λ o. slice_set g.objects x (record o { body = body_with_word o.body k value })) o g.objects) id) [])
      by_case id all None there = all
      by_case id all (Some o) there =
          elim (cases_eq x id) [
            | inl same ↦
                targets_set x id o (record o { body = body_with_word o.body k value }) there
                (subst (All test) (sym (same_targets o.body))
                (old_passes o there (subst (λ (n : ℕ). All test (targets g n)) (sym same) all))) all
            | inr other ↦
                subst (λ p. All test (option_map_or targets_of p []))
                (sym (slice_get-set_other g.objects x id (record o { body = body_with_word o.body k value }) other)) all
          ]

  -- an object is made
  pub object_made : (live : ℕ → Bool) (new : Object) → All test (targets_of new)
      → ((id : ℕ) → live id ≡ true → id ≢ length g.objects → All test (targets g id))
      → AreReferred live test (with_object g new)
  object_made live new passes are = λ id l. by_case id l
    where
      by_case : (id : ℕ) → live id ≡ true → All test (targets (with_object g new) id)
      by_case id l = elim (cases_eq id (length g.objects)) [
        | inl same ↦ subst (λ (o : Option Object). All test (option_map_or targets_of o []))
            (sym (ap (slice_get (g.objects ++ new ∷ [])) same ∙ at_last g.objects new)) passes
        | inr other ↦ subst (λ (ids : List ℕ). All test ids) (sym (other_targets g.objects new id other)) (are id l other)
      ]

-- ---- sound worlds

-- a world is sound where what is held there passes both tests, and what is referred to at rest is live
pub sound_world : (w : World) → AreHeld (is_live w) w.graph → All (is_live w) (ids_in_blocks w.graph)
    → (is_running w ≡ false → AreReferred (is_live w) (is_live w) w.graph)
    → (is_running w ≡ false → All (is_live w) (ids_in_pairs w.state))
    → ((c : Collection) → w.collection ≡ Some c → AreHeld (is_held_rightly w c) w.graph)
    → has_units_left w ≡ true → IsSound w
sound_world w held blocks referred pairs kept units = record {
  live = record {
    client = for_client (is_live w) w.graph held;
    blocks = blocks;
    referred = at_rest (is_running w) refl;
    transforms = paired (is_running w) refl;
  };
  kept = in_collection w.collection refl;
  units = units;
}
  where
    at_rest : (b : Bool) → is_running w ≡ b → (b || list_all (is_live w) (flat_map (targets w.graph) (live_ids w))) ≡ true
    at_rest true e = refl
    at_rest false e = for_live w (is_live w) (referred e)

    paired : (b : Bool) → is_running w ≡ b → (b || list_all (is_live w) (ids_in_pairs w.state)) ≡ true
    paired true e = refl
    paired false e = pairs e

    in_collection : (o : Option Collection) → w.collection ≡ o
        → option_map_or (λ c. list_all (is_held_rightly w c) (ids_of_client w.graph)) o true ≡ true
    in_collection None e = refl
    in_collection (Some c) e = for_client (is_held_rightly w c) w.graph (kept c e)

-- and the other way round
pub record SoundParts (w : World) : Type 0 where
  pub held : AreHeld (is_live w) w.graph
  pub blocks : All (is_live w) (ids_in_blocks w.graph)
  pub referred : is_running w ≡ false → AreReferred (is_live w) (is_live w) w.graph
  pub pairs : is_running w ≡ false → All (is_live w) (ids_in_pairs w.state)
  pub kept : (c : Collection) → w.collection ≡ Some c → AreHeld (is_held_rightly w c) w.graph
  pub units : IsTrue (has_units_left w)

pub sound_parts : (w : World) → IsSound w → SoundParts w
sound_parts w s = record {
  held = of_client (is_live w) w.graph s.live.client;
  blocks = s.live.blocks;
  referred = λ rest. of_live w (is_live w)
      (subst (λ b. (b || list_all (is_live w) (flat_map (targets w.graph) (live_ids w))) ≡ true) rest s.live.referred);
  pairs = λ rest. subst (λ b. (b || list_all (is_live w) (ids_in_pairs w.state)) ≡ true) rest s.live.transforms;
  kept = λ c e. of_client (is_held_rightly w c) w.graph
      (subst (λ o. option_map_or (λ c. list_all (is_held_rightly w c) (ids_of_client w.graph)) o true ≡ true) e s.kept);
  units = s.units;
}
